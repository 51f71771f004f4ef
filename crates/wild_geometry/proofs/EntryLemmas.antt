-- The relocation entries of an executable that is loaded at its own addresses, which are found by their sections.
use Rattle.wild_geometry.proofs.Common.{◌≡◌, ℕ, zero, suc, ◌+◌, ◌-◌, ◌<◌, ◌≤◌, inl, inr, ◌==◌, Bool, true, false, not, ◌&&◌, List, [], ◌∷◌, length, drop, Option, Some, None, slice_get, refl, sym, ap, ◌∙◌, arith, subst, cases_Bool, and_parts, and_from, ltb-true, eqb-true, eqb-false, eq-eqb, not-true, same_Some, implied, Part, Role, Section, Layout, total, allocated, flags_of, has_data, is_header_only, header_only, is_header_only_at, is_allocated_section, has_role, part_with, part_lies, All-from_none_fails, None-from_fails}
use Rattle.wild_records.specs.Abi.Section.{sht_rela}
use Rattle.wild_types.specs.Lookups.{kind_of, kind_at, without_data}
use Rattle.wild_types.specs.Parts.{is_entry_role, entry_parts, bytes_in}
use Rattle.wild_types.specs.Kinds.{is_fixed_static}
use Rattle.wild_plan_rules.specs.LoadedTables.{holds_entries, entries_astray, is_in_entries_section}
use Rattle.wild_plan_rules.specs.ClauseTests.{check_entries}
use Rattle.wild_layout.specs.Loadable.{EntriesLie, HasEntriesAlone}
use Rattle.wild_geometry.proofs.ClauseLemmas.{Both-from_first_error}
use Rattle.wild_geometry.proofs.PlacedSectionLemmas.{AllClausesHold}
use Rattle.wild_geometry.proofs.RoleLemmas.{FoundAt-from_find}
use Rattle.wild_geometry.proofs.TableLemmas.{same_role}
use Rattle.wild_geometry.proofs.CarriedLemmas.{Filled, Filled-from_tests, part_level}

-- ---- what the clause says of a section

-- each section from number k on
each_holds : (parts : List (Option Part)) (k : ℕ) (ss : List Section) → entries_astray parts k ss ≡ None → (i n : ℕ) (s : Section) → n ≡ k + i → slice_get ss i ≡ Some s → holds_entries parts n s ≡ true
each_holds parts k [] h i n s e is = cc
each_holds parts k (x ∷ ss) h i n s e is =
    elim (cases_Bool (holds_entries parts k x)) [
      | inl t ↦ at i n s e is t (λ j m y f it. each_holds parts (k + 1) ss (rw t at h) j m y f it)
      | inr f ↦ cc (rw f at h)
    ]
  where
    at : (i n : ℕ) (s : Section) → n ≡ k + i → slice_get (x ∷ ss) i ≡ Some s → holds_entries parts k x ≡ true → ((j m : ℕ) (y : Section) → m ≡ k + 1 + j → slice_get ss j ≡ Some y → holds_entries parts m y ≡ true) → holds_entries parts n s ≡ true
    at zero n s e is t rest =
        let same : x ≡ s = same_Some x s is in
        let first : n ≡ k = omega arith in
        rw first (subst (λ (y : Section). holds_entries parts k y ≡ true) same t)
    at (suc i) n s e is t rest = rest i n s (omega arith) is

later_get : {X : Type 0} (xs : List X) (k i : ℕ) (x : X) → k ≡ i + 1 → slice_get xs k ≡ Some x → slice_get (drop 1 xs) i ≡ Some x
later_get [] k i x e is = cc
later_get (y ∷ ys) zero i x e is = absurd (omega arith)
later_get (y ∷ ys) (suc k) i x e is = let same : k ≡ i = omega arith in rw (← same) is

held : (l : Layout) → AllClausesHold l → is_fixed_static l.kind ≡ true → (k : ℕ) (s : Section) → 1 ≤ k → slice_get l.sections k ≡ Some s → holds_entries (entry_parts l.parts) k s ≡ true
unfolding check_entries
held l h fixed k s later is =
    let asked = rw fixed at h.segments.entries in
    let i = k - 1 in
    each_holds (entry_parts l.parts) 1 (drop 1 l.sections) (None-from_fails 6 _ (Both-from_first_error _ _ asked).first) i k s (omega arith) (later_get l.sections k i s (omega arith) is)

size_is : (l : Layout) (k : ℕ) (s : Section) → holds_entries (entry_parts l.parts) k s ≡ true → allocated s.flags ≡ true → s.kind ≡ sht_rela → total (bytes_in k) (entry_parts l.parts) ≡ s.size
size_is l k s h a r = eqb-true _ _ (implied (allocated s.flags && s.kind == sht_rela) (total (bytes_in k) (entry_parts l.parts) == s.size) h (rw (a, eq-eqb s.kind sht_rela r) refl))

-- ---- a part with entries

-- what the clauses say of it: it is listed, and its section is allocated and of type SHT_RELA
record EntriesStand (l : Layout) (p : Part) : Type 0 where
  allocated : is_allocated_section l p.section ≡ true
  kind : kind_at l p.section ≡ sht_rela
  named : p.section < length l.sections
  lies : part_lies l p ≡ true

entries_stand : (l : Layout) → AllClausesHold l → is_fixed_static l.kind ≡ true → (r : Role) (p : Part) → is_entry_role r ≡ true → part_with r l.parts ≡ Some p → EntriesStand l p
unfolding check_entries
entries_stand l h fixed r p entries there =
    let f = FoundAt-from_find (has_role r) l.parts p there in
    let asked = rw fixed at h.segments.entries in
    let stand = All-from_none_fails (is_in_entries_section l) 0 l.parts (None-from_fails 6 _ (Both-from_first_error _ _ asked).rest) f.place p f.within in
    let P : Part → Type 0 = λ x. is_in_entries_section l x ≡ true in
    let is = same_role p.role r (eqb-true _ _ f.passes) in
    let both = implied (is_entry_role p.role) (is_allocated_section l p.section && kind_at l p.section == sht_rela) (subst P (f.is p) stand) (ap is_entry_role is ∙ entries) in
    let tests = and_parts (is_allocated_section l p.section) (kind_at l p.section == sht_rela) both in
    let Q : Part → Type 0 = λ x. x.section < length l.sections in
    let named = subst Q (f.is p) (ltb-true _ _ (h.indexes.parts f.place p f.within)) in
    let R : Part → Type 0 = λ x. part_lies l x ≡ true in
    record {
      allocated = tests.0;
      kind = eqb-true (kind_at l p.section) sht_rela tests.1;
      named = named;
      lies = subst R (f.is p) (h.parts.lie f.place p f.within);
    }

-- it is written
record PartOfEntries (l : Layout) (p : Part) : Type 0 where
  filled : Filled l p.section
  lies : part_lies l p ≡ true
  kind : filled.section.kind ≡ sht_rela

part_of_entries : (l : Layout) → AllClausesHold l → is_fixed_static l.kind ≡ true → (r : Role) (p : Part) → is_entry_role r ≡ true → part_with r l.parts ≡ Some p → is_header_only_at l p.section ≡ false → PartOfEntries l p
part_of_entries l h fixed r p entries there written =
    let st = entries_stand l h fixed r p entries there in
    let takes = and_from (has_data l p.section) (not (is_header_only_at l p.section)) (with_bits (slice_get l.sections p.section) st.kind) (rw written refl) in
    let o = Filled-from_tests l p.section st.named st.allocated takes in
    record { filled = o; lies = st.lies; kind = sym (ap kind_of o.is) ∙ st.kind }
  where
    with_bits : (o : Option Section) → kind_of o ≡ sht_rela → not (without_data o) ≡ true
    with_bits None e = refl
    with_bits (Some s) e = rw e refl

pub stands_later : (l : Layout) → AllClausesHold l → is_fixed_static l.kind ≡ true → (r : Role) (p : Part) → is_entry_role r ≡ true → part_with r l.parts ≡ Some p → 1 ≤ p.section
stands_later l h fixed r p entries there =
    let st = entries_stand l h fixed r p entries there in
    let named = and_parts (not (p.section == 0)) (allocated (flags_of (slice_get l.sections p.section))) st.allocated in
    let later = eqb-false _ _ (not-true _ named.0) in
    omega arith

-- ---- the sections

-- the section of its part is written
written_at : (l : Layout) (k n : ℕ) (s : Section) → slice_get l.sections k ≡ Some s → is_header_only l s ≡ false → n ≡ k → is_header_only_at l n ≡ false
written_at l k n s is written at =
    let here : header_only l (slice_get l.sections n) ≡ false = ap (λ (i : ℕ). header_only l (slice_get l.sections i)) at ∙ ap (header_only l) is ∙ written in
    by (not (n == 0)) (header_only l (slice_get l.sections n)) here
  where
    by : (a b : Bool) → b ≡ false → (a && b) ≡ false
    by true b e = e
    by false b e = refl

-- the part lies in its section
entries_lie : (l : Layout) → AllClausesHold l → is_fixed_static l.kind ≡ true → (k : ℕ) (s : Section) → slice_get l.sections k ≡ Some s → is_header_only l s ≡ false → (r : Role) (p : Part) → is_entry_role r ≡ true → part_with r l.parts ≡ Some p → p.section ≡ k → EntriesLie p s
entries_lie l h fixed k s is written r p entries there at =
    let part = part_of_entries l h fixed r p entries there (written_at l k p.section s is written at) in
    let o = part.filled in
    let same : o.section ≡ s = same_Some o.section s (sym o.is ∙ ap (slice_get l.sections) at ∙ is) in
    let level = part_level l p part.lies o in
    let low = level.low in
    let high = level.high in
    let offset = ap (λ (x : Section). x.offset) same in
    let long = ap (λ (x : Section). x.size) same in
    record {
      kind = sym (ap (λ (x : Section). x.kind) same) ∙ part.kind;
      allocated = subst (λ (x : Section). allocated x.flags ≡ true) same o.allocated;
      from = omega arith;
      to = omega arith;
    }

pub HasEntriesAlone-from_clauses : (l : Layout) → AllClausesHold l → is_fixed_static l.kind ≡ true → (k : ℕ) (s : Section) → 1 ≤ k → slice_get l.sections k ≡ Some s → HasEntriesAlone l k s
HasEntriesAlone-from_clauses l h fixed k s later is = record {
  own = λ written r p entries there at. entries_lie l h fixed k s is written r p entries there at;
  full = λ a r. size_is l k s (held l h fixed k s later is) a r;
}
