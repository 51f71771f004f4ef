-- What a loader goes by stands where it looks.
use Rattle.wild_geometry.proofs.Common.{◌≡◌, ℕ, ◌+◌, ◌≤◌, inl, inr, ◌==◌, nat_le, Bool, true, false, not, ◌&&◌, ◌||◌, if◌then◌else◌, List, [], ◌∷◌, ◌++◌, find, All, Contains, Option, Some, None, refl, ap, ◌∙◌, arith, subst, list_any, cases_Bool, and_parts, leb-true, eqb-true, eqb-false, ne_eqb, All-nil, All-cons, Found-from_list_any, implied, or_other, pt_load, Part, Role, Segment, Layout, is_header_only_at, role_place, has_role, part_with, dynamic_count}
use Rattle.std.proofs.lemmas.List.{nil_from_length}
use Rattle.wild_records.specs.Abi.Segment.{pt_dynamic}
use Rattle.wild_types.specs.declared.part.Role.TheVariants as role
use Rattle.wild_types.specs.Kinds.{needs_dynamic, is_fixed_static}
use Rattle.wild_types.specs.Parts.{is_table_role, is_look_up_role, has_hashes}
use Rattle.wild_plan_rules.specs.Places.{within}
use Rattle.wild_plan_rules.specs.Segments.{size_in_file, is_segment_of, dynamic_astray}
use Rattle.wild_plan_rules.specs.LoadedTables.{begins_at_end_of, entries_follow, rest_of_table, is_read_from_one_segment, holds_part, carries_part, carries_rest, carries_table, table_is_loaded}
use Rattle.wild_layout.specs.Loadable.{IsStatic, HasSegment, IsCarriedWhole, BeginsAtEnd, AreCarriedTogether}
use Rattle.wild_geometry.proofs.PlacedSectionLemmas.{AllClausesHold}
use Rattle.wild_geometry.proofs.RoleLemmas.{FoundAt-from_find, no_count, nothing_shared}
use Rattle.wild_records.specs.declared.dynamic.DynamicEntry.{DynamicEntry}
use Rattle.wild_needs.specs.Dynamic.{dynamic_entries}
use Rattle.wild_loader.specs.Laws.{entries_before_null}
use Rattle.wild_table_formats.proofs.FoundLemmas.{behind_null}
use Rattle.wild_geometry.proofs.TableLemmas.{same_role}

-- ---- the segment of the dynamic section

pub all_static : (l : Layout) (i : ℕ) (gs : List Segment) → dynamic_astray l None i gs ≡ None → All IsStatic gs
all_static l i [] h = All-nil IsStatic
all_static l i (g ∷ gs) h =
    elim (cases_Bool (g.kind == pt_dynamic)) [
      | inl t ↦ cc (rw t at h)
      | inr f ↦ All-cons IsStatic g gs (eqb-false g.kind pt_dynamic f) (all_static l (i + 1) gs (rw f at h))
    ]

-- the first segment of type PT_DYNAMIC, which is that of the part
record SegmentOf (l : Layout) (p : Part) (gs : List Segment) : Type 0 where
  segment : Segment
  first : find (λ (g : Segment). g.kind == pt_dynamic) gs ≡ Some segment
  is : is_segment_of l (Some p) segment ≡ true

segment_of_part : (l : Layout) (p : Part) (i : ℕ) (gs : List Segment) → dynamic_astray l (Some p) i gs ≡ None → SegmentOf l p gs
segment_of_part l p i [] h = cc
segment_of_part l p i (g ∷ gs) h =
    elim (cases_Bool (g.kind == pt_dynamic)) [
      | inl t ↦
          elim (cases_Bool (is_segment_of l (Some p) g)) [
            | inl s ↦ record { segment = g; first = rw t refl; is = s }
            | inr f ↦ cc (rw (t, f) at h)
          ]
      | inr f ↦
          (let rest = segment_of_part l p (i + 1) gs (rw f at h) in
          record { segment = rest.segment; first = rw f rest.first; is = rest.is })
    ]

pub HasSegment-from_clauses : (l : Layout) → AllClausesHold l → (p : Part) → part_with role.Dynamic l.parts ≡ Some p → HasSegment l p
HasSegment-from_clauses l h p there =
    let P : Option Part → Type 0 = λ o. dynamic_astray l o 0 l.segments ≡ None in
    let s = segment_of_part l p 0 l.segments (subst P there h.segments.dynamic) in
    let g = s.segment in
    let a = and_parts (g.offset == p.offset && g.address == p.address && g.file_size == size_in_file l p) (g.mem_size == p.size) s.is in
    let b = and_parts (g.offset == p.offset && g.address == p.address) (g.file_size == size_in_file l p) a.0 in
    let c = and_parts (g.offset == p.offset) (g.address == p.address) b.0 in
    record { segment = g; first = s.first; offset = eqb-true _ _ c.0; address = eqb-true _ _ c.1; file_size = eqb-true _ _ b.1; mem_size = eqb-true _ _ a.1 }

pub all_static_from_clauses : (l : Layout) → AllClausesHold l → part_with role.Dynamic l.parts ≡ None → All IsStatic l.segments
all_static_from_clauses l h none =
    let P : Option Part → Type 0 = λ o. dynamic_astray l o 0 l.segments ≡ None in
    all_static l 0 l.segments (subst P none h.segments.dynamic)

-- ---- an executable that is loaded at its own addresses

none_found : {X : Type 0} (t : X → Bool) (xs : List X) → list_any t xs ≡ false → find t xs ≡ None
none_found t [] h = refl
none_found t (x ∷ xs) h =
    elim (cases_Bool (t x)) [
      | inl e ↦ cc (rw e at h)
      | inr f ↦ rw f (none_found t xs (rw f at h))
    ]

unasked : (fixed there : Bool) (n : ℕ) → (if fixed && there then Some n else None) ≡ None → fixed ≡ true → there ≡ false
unasked true true n h e = cc
unasked true false n h e = refl
unasked false there n h e = cc

pub no_dynamic_part : (l : Layout) → AllClausesHold l → is_fixed_static l.kind ≡ true → part_with role.Dynamic l.parts ≡ None
no_dynamic_part l h fixed = none_found (has_role role.Dynamic) l.parts (unasked (is_fixed_static l.kind) (list_any (has_role role.Dynamic) l.parts) (role_place role.Dynamic) h.roles.unasked fixed)

-- ---- an output with entries for dynamic linking

-- its dynamic section ends with DT_NULL, so that it is not empty: nothing behind it is read
some_count : (l : Layout) → needs_dynamic l.kind ≡ true → dynamic_count l ≡ 0 → ⊥
some_count l needs h =
    let d : DynamicEntry = record { tag = 1; value = 0 } in
    let P : List DynamicEntry → Type 0 = λ es. entries_before_null (es ++ d ∷ []) ≡ entries_before_null es in
    cc (subst P (nil_from_length (dynamic_entries l) h) (behind_null l (d ∷ []) needs))

pub dynamic_part : (l : Layout) → AllClausesHold l → needs_dynamic l.kind ≡ true → (p : Part) × (part_with role.Dynamic l.parts ≡ Some p)
dynamic_part l h needs = by (part_with role.Dynamic l.parts) refl
  where
    by : (o : Option Part) → part_with role.Dynamic l.parts ≡ o → (p : Part) × (part_with role.Dynamic l.parts ≡ Some p)
    by None e = absurd (some_count l needs (no_count l h (nothing_shared l h role.Dynamic e)))
    by (Some p) e = (p, e)

-- ---- tables of entries

-- one loaded segment has the part, and what stands behind it in its table
record CarriesTable (l : Layout) (p : Part) (rest : Option Part) : Type 0 where
  segment : Segment
  listed : Contains l.segments segment
  part : carries_part l p segment ≡ true
  behind : carries_rest l rest segment ≡ true

table_carried : (l : Layout) → AllClausesHold l → needs_dynamic l.kind ≡ true → (r : Role) (p : Part) → is_read_from_one_segment l r ≡ true → part_with r l.parts ≡ Some p → 1 ≤ p.size → CarriesTable l p (rest_of_table l.parts p)
table_carried l h needs r p asked there some =
    let f = FoundAt-from_find (has_role r) l.parts p there in
    let P : Part → Type 0 = λ x. table_is_loaded l x ≡ true in
    let loaded = subst P (f.is p) (h.segments.tables f.place p f.within) in
    let is = same_role p.role r (eqb-true _ _ f.passes) in
    let whole = ap (is_read_from_one_segment l) is ∙ asked in
    let size = ne_eqb p.size 0 (λ e. omega arith) in
    let none : (not (needs_dynamic l.kind) || not (is_read_from_one_segment l p.role) || p.size == 0) ≡ false = rw (needs, whole, size) refl in
    let test = carries_table l p (rest_of_table l.parts p) in
    let found = Found-from_list_any test l.segments (or_other (not (needs_dynamic l.kind) || not (is_read_from_one_segment l p.role) || p.size == 0) (list_any test l.segments) loaded none) in
    let both = and_parts (carries_part l p found.item) (carries_rest l (rest_of_table l.parts p) found.item) found.passes in
    record { segment = found.item; listed = found.listed; part = both.0; behind = both.1 }

-- what it says that a segment has a part
record HasPart (p : Part) (g : Segment) : Type 0 where
  loaded : g.kind ≡ pt_load
  low : g.offset ≤ p.offset
  high : p.offset + p.size ≤ g.offset + g.file_size
  level : p.offset + g.address ≡ p.address + g.offset

HasPart-from_test : (l : Layout) (p : Part) (g : Segment) → is_header_only_at l p.section ≡ false → carries_part l p g ≡ true → HasPart p g
HasPart-from_test l p g written h =
    let a = and_parts (g.kind == pt_load) (holds_part l p g) h in
    let b = and_parts (within g.offset g.file_size p.offset p.size) (p.offset + g.address == p.address + g.offset) (rw written at a.1) in
    let c = and_parts (nat_le g.offset p.offset) (nat_le (p.offset + p.size) (g.offset + g.file_size)) b.0 in
    record { loaded = eqb-true _ _ a.0; low = leb-true _ _ c.0; high = leb-true _ _ c.1; level = eqb-true _ _ b.1 }

whole_carried : (l : Layout) → AllClausesHold l → needs_dynamic l.kind ≡ true → (r : Role) (p : Part) → is_read_from_one_segment l r ≡ true → part_with r l.parts ≡ Some p → is_header_only_at l p.section ≡ false → 1 ≤ p.size → IsCarriedWhole l p
whole_carried l h needs r p asked there written some =
    let c = table_carried l h needs r p asked there some in
    let has = HasPart-from_test l p c.segment written c.part in
    let low = has.low in
    let high = has.high in
    let level = has.level in
    record { segment = c.segment; listed = c.listed; loaded = has.loaded; from = omega arith; to = omega arith; distance = omega arith }

pub table_carried_whole : (l : Layout) → AllClausesHold l → needs_dynamic l.kind ≡ true → (r : Role) (p : Part) → is_table_role r ≡ true → part_with r l.parts ≡ Some p → is_header_only_at l p.section ≡ false → 1 ≤ p.size → IsCarriedWhole l p
table_carried_whole l h needs r p table = whole_carried l h needs r p (rw table refl)

-- the tables in which names are looked up
pub look_up_carried_whole : (l : Layout) → AllClausesHold l → needs_dynamic l.kind ≡ true → has_hashes l ≡ true → (r : Role) (p : Part) → is_look_up_role r ≡ true → part_with r l.parts ≡ Some p → is_header_only_at l p.section ≡ false → 1 ≤ p.size → IsCarriedWhole l p
look_up_carried_whole l h needs hashes r p look = whole_carried l h needs r p (either (is_table_role r) (is_look_up_role r) (has_hashes l) look hashes)
  where
    either : (a b c : Bool) → b ≡ true → c ≡ true → (a || (b && c)) ≡ true
    either true b c g e = refl
    either false b c g e = rw (g, e) refl

-- ---- entries with addends are one table

pub BeginsAtEnd-from_clauses : (l : Layout) → AllClausesHold l → (p q : Part) → part_with role.RelaDynRelative l.parts ≡ Some p → part_with role.RelaDynGeneral l.parts ≡ Some q → BeginsAtEnd p q
BeginsAtEnd-from_clauses l h p q first second =
    let f = FoundAt-from_find (has_role role.RelaDynGeneral) l.parts q second in
    let P : Part → Type 0 = λ x. entries_follow l.parts x ≡ true in
    let follow = subst P (f.is q) (h.roles.follow f.place q f.within) in
    let behind = implied (has_role role.RelaDynGeneral q) (begins_at_end_of (part_with role.RelaDynRelative l.parts) q) follow f.passes in
    let Q : Option Part → Type 0 = λ o. begins_at_end_of o q ≡ true in
    let both = and_parts (q.offset == p.offset + p.size) (q.address == p.address + p.size) (subst Q first behind) in
    record { offset = eqb-true _ _ both.0; address = eqb-true _ _ both.1 }

pub AreCarriedTogether-from_clauses : (l : Layout) → AllClausesHold l → needs_dynamic l.kind ≡ true → (p q : Part) → part_with role.RelaDynRelative l.parts ≡ Some p → part_with role.RelaDynGeneral l.parts ≡ Some q → is_header_only_at l p.section ≡ false → is_header_only_at l q.section ≡ false → 1 ≤ p.size → 1 ≤ q.size → AreCarriedTogether l p q
AreCarriedTogether-from_clauses l h needs p q first second written other some more =
    let c = table_carried l h needs role.RelaDynRelative p refl first some in
    let g = c.segment in
    let f = FoundAt-from_find (has_role role.RelaDynRelative) l.parts p first in
    let rest : rest_of_table l.parts p ≡ Some q = rw f.passes second in
    let P : Option Part → Type 0 = λ o. carries_rest l o g ≡ true in
    let passes = or_other (q.size == 0) (carries_part l q g) (subst P rest c.behind) (ne_eqb q.size 0 (λ e. omega arith)) in
    let has = HasPart-from_test l p g written c.part in
    let has_rest = HasPart-from_test l q g other passes in
    let low = has.low in
    let level = has.level in
    let high = has_rest.high in
    let level_rest = has_rest.level in
    record { segment = g; listed = c.listed; loaded = has.loaded; from = omega arith; to = omega arith; distance = omega arith }
