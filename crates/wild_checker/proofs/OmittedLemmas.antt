-- An input section of a part that is written is not omitted.
use Rattle.std.proofs.Common.{◌≡◌, ℕ, inl, inr, Bool, true, false, ◌&&◌, refl}
use Rattle.std.specs.Prelude.{Option, Some, None, not, ◌==◌, slice_get}
use Rattle.std.proofs.lemmas.Bool.{cases_Bool, and_parts, eqb-false, not-true}
use Rattle.wild_records.specs.Abi.Section.{sht_note}
use Rattle.wild_types.specs.declared.input.InputSection.{InputSection}
use Rattle.wild_types.specs.declared.layout.Layout.{Layout}
use Rattle.wild_types.specs.declared.part.Part.{Part}
use Rattle.wild_types.specs.declared.part.Role.TheVariants as role
use Rattle.wild_types.specs.declared.section.Section.{Section}
use Rattle.wild_types.specs.HeaderOnly.{is_omitted}
use Rattle.wild_types.specs.Lookups.{allocated, section_of_part, is_header_only, header_only, is_header_only_at, is_frame}
use Rattle.wild_types.specs.Parts.{part_with}
use Rattle.wild_meaning.specs.Section.{IsHeaderOnlySection, IsHeaderOnly}
use Rattle.wild_meaning.proofs.BitLemmas.{bit_alloc}

header_only_section : (l : Layout) (s : Section) → is_header_only l s ≡ true → IsHeaderOnlySection l s
header_only_section l s t =
    let a = and_parts l.options.only_keep_debug (allocated s.flags && not (s.kind == sht_note)) t in
    let b = and_parts (allocated s.flags) (not (s.kind == sht_note)) a.1 in
    record { bare = a.0; room = bit_alloc s.flags b.0; other = eqb-false s.kind sht_note (not-true (s.kind == sht_note) b.1) }

header_only_part : (l : Layout) (p : Part) → is_header_only_at l p.section ≡ true → IsHeaderOnly l p
header_only_part l p h =
    let both = and_parts (not (p.section == 0)) (header_only l (slice_get l.sections p.section)) h in
    by (eqb-false p.section 0 (not-true (p.section == 0) both.0)) (slice_get l.sections p.section) refl both.1
  where
    by : (p.section ≡ 0 → ⊥) → (o : Option Section) → slice_get l.sections p.section ≡ o → header_only l o ≡ true → IsHeaderOnly l p
    by later None is t = cc
    by later (Some s) is t = record { named = later; section = s; found = is; only = header_only_section l s t }

written_by : (l : Layout) (o : Option Part) → ((p : Part) → o ≡ Some p → IsHeaderOnly l p → ⊥) → is_header_only_at l (section_of_part o) ≡ false
written_by l None h = refl
written_by l (Some p) h =
    elim (cases_Bool (is_header_only_at l p.section)) [
      | inl t ↦ absurd (h p refl (header_only_part l p t))
      | inr f ↦ f
    ]

pub section_written : (l : Layout) (s : InputSection) → is_frame s.slot ≡ false → ((p : Part) → slice_get l.parts s.part ≡ Some p → IsHeaderOnly l p → ⊥) → is_omitted l s ≡ false
section_written l s other h = let e = written_by l (slice_get l.parts s.part) h in rw (other, e) refl

pub frames_written : (l : Layout) (s : InputSection) → is_frame s.slot ≡ true → ((p : Part) → part_with role.EhFrame l.parts ≡ Some p → IsHeaderOnly l p → ⊥) → is_omitted l s ≡ false
frames_written l s frame h = let e = written_by l (part_with role.EhFrame l.parts) h in rw (frame, e) refl
