-- What the header of a section tells by its parts, and that it is read in the image.
use Rattle.wild_names.proofs.Common.{◌≡◌, ℕ, zero, suc, ◌+◌, ◌*◌, ◌%◌, ◌^◌, ◌<◌, ◌≤◌, inl, inr, ◌==◌, Bool, true, false, if◌then◌else◌, List, [], ◌∷◌, length, get_or, Option, Some, None, refl, sym, ap, ◌∙◌, arith, subst, cases_Bool, eq-eqb, ne_eqb, same_Some, HasBytesAt, spell, FieldsAreRead, HasBytesAt-inner, SectionHeader, Part, Role, Layout, part_with, section_headers_of, IsLaidOut, bytes}
use Rattle.wild_words.specs.Overlay.{AreDisjoint}
use Rattle.wild_words.proofs.OverlayLemmas.{HasBytesAt-overlay}
use Rattle.wild_records.specs.SectionHeader.{section_header_fields, section_header_at}
use Rattle.wild_types.specs.declared.part.Role.TheVariants as role
use Rattle.wild_types.specs.declared.section.Section.{Section}
use Rattle.wild_types.specs.Parts.{has_role}
use Rattle.wild_table_formats.specs.Headers.{offset_of_role, section_of_role, size_of_role, null_header, local_symbols, computed_infos, info_at, section_header, headers_from, section_header_bytes}
use Rattle.wild_table_formats.specs.HeaderLaws.{SectionHeadersAreRead}
use Rattle.wild_table_formats.proofs.HeaderLemmas.{length-section_header}
use Rattle.wild_layout.specs.Image.{pieces, padding}
use Rattle.wild_layout.proofs.LayoutLemmas.{length-padding}

-- ---- the part of a role

pub section_is : (r : Role) (ps : List Part) (p : Part) → part_with r ps ≡ Some p → section_of_role r ps ≡ p.section
section_is r [] p h = cc
section_is r (q ∷ ps) p h =
    elim (cases_Bool (has_role r q)) [
      | inl t ↦ rw t (ap (λ (x : Part). x.section) (same_Some q p (rw t at h)))
      | inr f ↦ rw f (section_is r ps p (rw f at h))
    ]

pub size_is : (r : Role) (ps : List Part) (p : Part) → part_with r ps ≡ Some p → size_of_role r ps ≡ p.size
size_is r [] p h = cc
size_is r (q ∷ ps) p h =
    elim (cases_Bool (has_role r q)) [
      | inl t ↦ rw t (ap (λ (x : Part). x.size) (same_Some q p (rw t at h)))
      | inr f ↦ rw f (size_is r ps p (rw f at h))
    ]

pub offset_is : (r : Role) (ps : List Part) (p : Part) → part_with r ps ≡ Some p → offset_of_role r ps ≡ p.offset
offset_is r [] p h = cc
offset_is r (q ∷ ps) p h =
    elim (cases_Bool (has_role r q)) [
      | inl t ↦ rw t (ap (λ (x : Part). x.offset) (same_Some q p (rw t at h)))
      | inr f ↦ rw f (offset_is r ps p (rw f at h))
    ]

no_section : (r : Role) (ps : List Part) → part_with r ps ≡ None → section_of_role r ps ≡ 0
no_section r [] h = refl
no_section r (q ∷ ps) h =
    elim (cases_Bool (has_role r q)) [
      | inl t ↦ cc (rw t at h)
      | inr f ↦ rw f (no_section r ps (rw f at h))
    ]

-- the part of a role, where there is one, stands in another section
pub elsewhere : (r : Role) (ps : List Part) (k : ℕ) → 1 ≤ k → ((p : Part) → part_with r ps ≡ Some p → p.section ≡ k → ⊥) → section_of_role r ps ≡ k → ⊥
elsewhere r ps k some own e = by (part_with r ps) refl
  where
    by : (o : Option Part) → part_with r ps ≡ o → ⊥
    by None none = (let z = no_section r ps none in omega (arith, z, e, some))
    by (Some p) found = own p found (sym (section_is r ps p found) ∙ e)

-- ---- what is told of a section

third : (a b c : Bool) (x y z w : ℕ) → a ≡ false → b ≡ false → c ≡ true → (if a then x else (if b then y else (if c then z else w))) ≡ z
third a b c x y z w p q r = rw (p, q, r) refl

-- of that of the local symbols how many there are, where it is that of neither the dynamic symbols nor the entries of stubs
pub locals_told : (l : Layout) (k given : ℕ) → (section_of_role role.Dynsym l.parts ≡ k → ⊥) → (section_of_role role.RelaPlt l.parts ≡ k → ⊥) → section_of_role role.SymtabLocal l.parts ≡ k → info_at (computed_infos l) k given ≡ local_symbols l % 2 ^ 32
unfolding computed_infos
locals_told l k given a b c =
    third (k == section_of_role role.Dynsym l.parts) (k == section_of_role role.RelaPlt l.parts) (k == section_of_role role.SymtabLocal l.parts) 1 (section_of_role role.Got l.parts % 2 ^ 32) (local_symbols l % 2 ^ 32) _
    (ne_eqb k (section_of_role role.Dynsym l.parts) (λ e. a (sym e))) (ne_eqb k (section_of_role role.RelaPlt l.parts) (λ e. b (sym e))) (eq-eqb k (section_of_role role.SymtabLocal l.parts) (sym c))

-- the header of section k tells what is told of it, or what the layout gives
info_from : (l : Layout) (i name : ℕ) (ss : List Section) (k : ℕ) (h : SectionHeader) → k < length ss → (given : ℕ) × ((get_or (headers_from l (computed_infos l) i name ss) k h).info ≡ info_at (computed_infos l) (i + k) given)
unfolding section_header
info_from l i name [] k h low = absurd (omega (arith, low))
info_from l i name (s ∷ ss) zero h low =
    let z : i ≡ i + 0 = omega arith in
    (s.info, ap (λ (n : ℕ). info_at (computed_infos l) n s.info) z)
info_from l i name (s ∷ ss) (suc k) h low =
    let rest = info_from l (i + 1) (name + length s.name + 1) ss k h (omega (arith, low)) in
    let z : i + 1 + k ≡ i + suc k = omega arith in
    (rest.0, rest.1 ∙ ap (λ (n : ℕ). info_at (computed_infos l) n rest.0) z)

pub info_of : (l : Layout) (ss : List Section) (k : ℕ) (h : SectionHeader) → 1 ≤ k → k < length ss → (given : ℕ) × ((get_or (section_headers_of l ss) k h).info ≡ info_at (computed_infos l) k given)
info_of l [] k h some low = absurd (omega (arith, low))
info_of l (s ∷ ss) zero h some low = absurd (omega (arith, some))
info_of l (s ∷ ss) (suc k) h some low =
    let rest = info_from l 1 (length s.name + 1) ss k h (omega (arith, low)) in
    let z : 1 + k ≡ suc k = omega arith in
    (rest.0, rest.1 ∙ ap (λ (n : ℕ). info_at (computed_infos l) n rest.0) z)

-- ---- the image

headers_in_image : (l : Layout) → IsLaidOut l → 1 ≤ length (section_header_bytes l) → HasBytesAt (bytes l) (offset_of_role role.SectionHeaders l.parts) (section_header_bytes l)
unfolding bytes
headers_in_image l laid some =
    let apart = subst (λ (n : ℕ). AreDisjoint n (pieces l)) (sym (length-padding l)) laid.owners in
    HasBytesAt-overlay (record { at = offset_of_role role.SectionHeaders l.parts; bytes = section_header_bytes l }) (pieces l) (padding l) apart (laid.tables.section_headers.listed some)

-- section header k
abbrev pub header_at : Layout → ℕ → SectionHeader
header_at l k = get_or (section_headers_of l l.sections) k (null_header l)

pub header_in_image : SectionHeadersAreRead → (l : Layout) → IsLaidOut l → (k : ℕ) → k < length l.sections → HasBytesAt (bytes l) (offset_of_role role.SectionHeaders l.parts + 64 * k) (spell (section_header_fields (header_at l k)))
header_in_image stand l laid k low =
    let here = stand l k (null_header l) low in
    let long = length-section_header (header_at l k) in
    let ends = here.fits in
    HasBytesAt-inner (bytes l) (section_header_bytes l) (spell (section_header_fields (header_at l k))) (offset_of_role role.SectionHeaders l.parts) (64 * k) (headers_in_image l laid (omega (arith, long, ends))) here

-- sh_info of a header that stands is read
pub info_read : FieldsAreRead → (whole : List ℕ) (at : ℕ) (h : SectionHeader) → HasBytesAt whole at (spell (section_header_fields h)) → h.info < 2 ^ 32 → (section_header_at whole at).info ≡ h.info
unfolding section_header_fields section_header_at
info_read read whole at h st small = read whole at (section_header_fields h) 7 st (omega arith) small
