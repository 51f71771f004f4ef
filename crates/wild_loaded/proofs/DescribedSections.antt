-- The section headers of an image are those of the layout's sections.
use Rattle.wild_loaded.proofs.Common.{◌≡◌, ℕ, suc, ◌+◌, ◌*◌, ◌<◌, ◌≤◌, inl, inr, Bool, true, false, List, [], ◌∷◌, length, refl, sym, ap, ◌∙◌, arith, subst, ◌==◌, if◌then◌else◌, All, Some, Ok, slice_get, flat_map, cases_Bool, ne_eqb, HasBytesAt, sht_nobits, shf_alloc, ProgramHeader, SectionHeader, Section, Layout, is_header_only, file_header, section_header, section_headers_of, length-section_headers_of, bytes, NumbersFit, IsLaidOut, HasHeaders, IsLoadable, not_partial}
use Rattle.wild_words.proofs.Basics.{length-flat_map_each}
use Rattle.wild_records.specs.SectionHeader.{section_header_size, section_header_at, SectionHeaderFits, SectionHeaderIsRead}
use Rattle.wild_records.specs.declared.file_header.FileHeader.{FileHeader}
use Rattle.wild_types.specs.declared.part.Role.TheVariants as role
use Rattle.wild_loader.specs.Headers.{section_count, sections}
use Rattle.wild_loader.specs.SegmentLaws.{first_size, section_bytes}
use Rattle.wild_loader.proofs.RecordLists.{length-section, section-first, sections-read}
use Rattle.wild_loader.proofs.TableLemmas.{lies-table}
use Rattle.wild_geometry.proofs.HeaderOnlyLemmas.{IsHeaderOnlySection-from_test, test_from_IsHeaderOnlySection}
use Rattle.wild_meaning.specs.Section.{IsHeaderOnlySection}
use Rattle.wild_meaning.specs.SectionHeaders.{DescribesSection, DescribesSections}
use Rattle.wild_loaded.proofs.HeadersFit.{uncompressed_flags-alloc}
use Rattle.wild_loaded.proofs.Loads.{has_headers}
use Rattle.wild_loaded.proofs.SectionTable.{header_behind}
use Rattle.wild_loaded.proofs.StaticTables.{table_offset, header_offset}

-- ---- the headers that a reader finds

first_read : SectionHeaderIsRead → (image : List ℕ) (ss : List SectionHeader) (at : ℕ) → 0 < length ss → All SectionHeaderFits ss → HasBytesAt image at (flat_map section_bytes ss) → (section_header_at image at).size ≡ first_size ss
first_read read image [] at some fits st = absurd (omega arith)
first_read read image (s ∷ ss) at some fits st = rw (section-first read image at s ss fits st) refl

counted : SectionHeaderIsRead → (image : List ℕ) (e : FileHeader) (hs : List ProgramHeader) (ss : List SectionHeader) → HasHeaders image e hs ss → section_count image e ≡ Ok (length ss)
counted read image e hs ss h =
    let told = h.section_count in
    let some = h.some_section in
    let room = h.sections.fits in
    let long = length-flat_map_each section_bytes section_header_size length-section ss in
    elim (cases_Bool (e.section_count == 0)) [
      | inl t ↦
          (let first = first_read read image ss e.section_offset some h.sections_fit h.sections in
          let one = lies-table image e.section_offset 1 section_header_size (omega (arith, some, room, long)) in
          let count : first_size ss ≡ length ss = rw t at told in
          rw (t, one, first, count) refl)
      | inr f ↦ (let count : e.section_count ≡ length ss = rw f at told in rw (f, count) refl)
    ]

all_read : SectionHeaderIsRead → (image : List ℕ) (e : FileHeader) (hs : List ProgramHeader) (ss : List SectionHeader) → HasHeaders image e hs ss → 0 < e.section_offset → sections image e ≡ Ok ss
unfolding sections
all_read read image e hs ss h some =
    let room = h.sections.fits in
    let long = length-flat_map_each section_bytes section_header_size length-section ss in
    let count = counted read image e hs ss h in
    let table = lies-table image e.section_offset (length ss) section_header_size (omega (arith, room, long)) in
    let there : (e.section_offset == 0) ≡ false = ne_eqb e.section_offset 0 (λ z. omega (arith, some, z)) in
    let all = sections-read read image ss e.section_offset h.sections_fit h.sections in
    rw (there, count, table, all) refl

-- ---- each of them

header_describes : (l : Layout) (info name : ℕ) (s : Section) → IsLoadable l.kind → DescribesSection l s (section_header l info name s)
unfolding section_header
header_describes l info name s kind = record {
  kind = λ other. elim (cases_Bool (is_header_only l s)) [
    | inl t ↦ absurd (other (IsHeaderOnlySection-from_test l s t))
    | inr f ↦ ap (λ (b : Bool). if b then sht_nobits else s.kind) f
  ];
  bare = λ only. ap (λ (b : Bool). if b then sht_nobits else s.kind) (test_from_IsHeaderOnlySection l s only);
  address = ap (λ (b : Bool). if b then 0 else s.address) (not_partial l.kind kind);
  offset = refl;
  size = refl;
  memory = uncompressed_flags-alloc s.flags;
}

each_described : (l : Layout) → IsLoadable l.kind → (k : ℕ) (s : Section) (h : SectionHeader) → 1 ≤ k → slice_get l.sections k ≡ Some s → slice_get (section_headers_of l l.sections) k ≡ Some h → DescribesSection l s h
each_described l kind k s h later listed there =
    let o = header_behind l l.sections k h later there in
    let both : Some o.section ≡ Some s = sym o.listed ∙ listed in
    let same : o.section ≡ s = cc in
    subst (λ (x : SectionHeader). DescribesSection l s x) (sym o.is) (subst (λ (x : Section). DescribesSection l x (section_header l o.info o.name o.section)) same (header_describes l o.info o.name o.section kind))

pub sections_described : SectionHeaderIsRead → (l : Layout) → IsLoadable l.kind → NumbersFit l → IsLaidOut l → DescribesSections l (bytes l) (file_header l)
sections_described read l kind numbers laid = record {
  headers = section_headers_of l l.sections;
  read = all_read read (bytes l) (file_header l) _ (section_headers_of l l.sections) (has_headers l kind numbers laid) (subst (λ (n : ℕ). 0 < n) (sym (header_offset l)) (table_offset l laid));
  number = length-section_headers_of l l.sections;
  each = each_described l kind;
}
