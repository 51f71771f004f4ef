-- Of sections one alone has entries.
use Rattle.std.proofs.Common.{◌≡◌, ℕ, zero, suc, inl, inr, true, List, [], ◌∷◌, ◌++◌, refl, ap, ◌∙◌, arith, subst, sym, ◌/◌, ◌%◌, get_or}
use Rattle.std.specs.Prelude.{All, Some, not, ◌&&◌, ◌==◌, slice_get}
use Rattle.std.proofs.lemmas.Bool.{cases_Bool, eqb-true, eq-eqb, and_parts, both_ways, not-true}
use Rattle.std.proofs.lemmas.List.{append-nil}
use Rattle.std.proofs.lemmas.Option.{get_or_from_slice_get, slice_get-get_or, slice_get_within}
use Rattle.wild_records.specs.Abi.Section.{sht_rela, shf_alloc}
use Rattle.wild_records.specs.declared.relocations.Rela.{Rela}
use Rattle.wild_records.specs.declared.section_header.SectionHeader.{SectionHeader}
use Rattle.wild_loader.specs.Tables.{has_entries}
use Rattle.wild_loader.specs.Laws.{HasSectionTables, HasNoEntries, section_relas}
use Rattle.wild_loader.specs.FilledLaws.{HasSectionTable}

pub section-table : (image : List ℕ) (ss : List SectionHeader) (rs : List Rela) → HasSectionTable image ss rs → HasSectionTables image ss (λ s. rs)
section-table image ss rs has = λ k d l read. (has.each k (get_or ss k d) (slice_get-get_or ss k d l) read).1

-- ---- all entries are that section's

none-listed : (ss : List SectionHeader) (rs : List Rela) → ((k : ℕ) (s : SectionHeader) → slice_get ss k ≡ Some s → has_entries s ≡ true → ⊥) → section_relas ss (λ s. rs) ≡ []
none-listed [] rs none = refl
none-listed (s ∷ ss) rs none =
    elim (cases_Bool (has_entries s)) [
      | inl t ↦ absurd (none 0 s refl t)
      | inr f ↦ rw f (none-listed ss rs (λ k q at. none (suc k) q at))
    ]

one-listed : (ss : List SectionHeader) (rs : List Rela) (i : ℕ) (s : SectionHeader) → ((k : ℕ) (q : SectionHeader) → slice_get ss k ≡ Some q → has_entries q ≡ true → k ≡ i) → slice_get ss i ≡ Some s → has_entries s ≡ true → section_relas ss (λ s. rs) ≡ rs
one-listed [] rs i s once at has = cc
one-listed (q ∷ ss) rs zero s once at has =
    let e : q ≡ s = cc in
    let t : has_entries q ≡ true = subst (λ (x : SectionHeader). has_entries x ≡ true) (sym e) has in
    rw t (ap (λ (xs : List Rela). rs ++ xs) (none-listed ss rs (λ k p there h. let z = once (suc k) p there h in omega (arith, z))) ∙ append-nil rs)
one-listed (q ∷ ss) rs (suc i) s once at has =
    elim (cases_Bool (has_entries q)) [
      | inl t ↦ absurd (let z = once 0 q refl t in omega (arith, z))
      | inr f ↦ rw f (one-listed ss rs i s (λ k p there h. let e = once (suc k) p there h in omega (arith, e)) at has)
    ]

no-entries : (ss : List SectionHeader) → section_relas ss (λ s. []) ≡ []
no-entries [] = refl
no-entries (s ∷ ss) =
    elim (cases_Bool (has_entries s)) [
      | inl t ↦ rw t (no-entries ss)
      | inr f ↦ rw f (no-entries ss)
    ]

pub one-section : (image : List ℕ) (ss : List SectionHeader) (rs : List Rela) → HasSectionTable image ss rs → section_relas ss (λ s. rs) ≡ rs
one-section image ss [] has = no-entries ss
one-section image ss (r ∷ rs) has = let own = has.some (omega arith) in one-listed ss (r ∷ rs) has.index own.0 (λ k q at h. (has.each k q at h).0) own.1 own.2

-- ---- no section has entries

-- a section without entries is not read
not-read : (s : SectionHeader) → HasNoEntries s → has_entries s ≡ true → ⊥
not-read s none h =
    let one = and_parts (s.kind == sht_rela && s.flags / shf_alloc % 2 == 1) (not (s.size == 0)) h in
    let two = and_parts (s.kind == sht_rela) (s.flags / shf_alloc % 2 == 1) one.0 in
    let z : (s.size == 0) ≡ true = eq-eqb s.size 0 (none (eqb-true _ _ two.0) (eqb-true _ _ two.1)) in
    both_ways (s.size == 0) (not-true (s.size == 0) one.1) z

pub no-table : (image : List ℕ) (ss : List SectionHeader) → All HasNoEntries ss → HasSectionTable image ss []
no-table image ss none = record {
  index = 0;
  each = λ k s at read. absurd (not-read s (subst HasNoEntries (get_or_from_slice_get ss k s s at) (none k s (slice_get_within ss k s at))) read);
  some = λ l. absurd (omega arith);
}
