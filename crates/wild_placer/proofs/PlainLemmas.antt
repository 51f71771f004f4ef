-- Images without a dynamic section: their memory is that of their segments, with their relocation sections applied.
use Rattle.wild_placer.proofs.Common.{◌≡◌, ℕ, zero, suc, ◌+◌, ◌*◌, ◌<◌, ◌≤◌, ◌==◌, ◌&&◌, inl, inr, Bool, true, false, if◌then◌else◌, List, [], ◌∷◌, length, map, take, drop, refl, sym, ap, ◌∙◌, arith, subst, All, None, Result, Ok, Err, cases_Bool, le-leb, FileHeader, ProgramHeader, SectionHeader, Rela, LoadFault, Image, Memory, Run, Tables, World, ◌>>=◌, header, machine_of, program_headers, memory_of, relocate, segments, section_entries, first_dynamic, tables, image_with, image_at, load, Layout, rela_header}
use Rattle.std.specs.List.{flat_map}
use Rattle.std.proofs.lemmas.Bool.{cases_lt, ne_eqb}
use Rattle.std.proofs.lemmas.List.{take_all}
use Rattle.wild_words.specs.Words.{HasBytesAt}
use Rattle.wild_words.proofs.Basics.{length-flat_map_each}
use Rattle.wild_records.specs.Abi.Section.{shn_undef}
use Rattle.wild_records.specs.FileHeader.{file_header_at, FileHeaderIsRead}
use Rattle.wild_records.specs.ProgramHeader.{ProgramHeaderIsRead}
use Rattle.wild_records.specs.SectionHeader.{section_header_at, SectionHeaderFits, SectionHeaderIsRead}
use Rattle.wild_records.proofs.FileHeaderLemmas.{length-file_header}
use Rattle.wild_loader.specs.declared.memory.Machine.{Machine}
use Rattle.wild_loader.specs.Headers.{is_loadable_header, section_count, sections}
use Rattle.wild_loader.specs.SegmentLaws.{HasHeaders, first_size, section_bytes}
use Rattle.wild_loader.specs.Tables.{section_tables}
use Rattle.wild_loader.proofs.RecordLists.{programs-read, sections-read, section-first, length-program, length-section}
use Rattle.wild_loader.proofs.TableLemmas.{lies-table}
use Rattle.wild_placer.specs.Plain.{rela_headers, entry_tables, load_plain}
use Rattle.wild_placer.proofs.PrefixLemmas.{IsFront, Agrees, then_agrees, front_long, header_agrees, header_bound, program_headers_taken, segments_agree, entries_agree}

-- ---- by the first bytes of the image

plain_front_agrees : (l : Layout) (w : World) (n : ℕ) (im : List ℕ) → IsFront n im → Agrees (load_plain l w (take n im)) (load_plain l w im)
unfolding load_plain
plain_front_agrees l w n im f =
    then_agrees (header (take n im)) (header im) _ _ (header_agrees n im f) (λ e is.
    (let ends = header_bound (take n im) e is in
    let long = front_long n im f in
    let same = program_headers_taken n e.program_count e.program_offset im (omega (arith, ends, long)) in
    let hs = program_headers im e.program_count e.program_offset in
    let ss = rela_headers l e in
    let loaded : List Run → List Rela → Result Memory LoadFault = λ runs entries. relocate w (memory_of (machine_of e) runs) (entry_tables entries) in
    subst (λ (gs : List ProgramHeader). Agrees (segments w.base (take n im) gs >>= λ runs. section_entries (take n im) ss [] >>= loaded runs) (segments w.base im hs >>= λ runs. section_entries im ss [] >>= loaded runs)) (sym same)
    (then_agrees (segments w.base (take n im) hs) (segments w.base im hs) _ _ (segments_agree n w.base im hs f) (λ runs e.
    then_agrees (section_entries (take n im) ss []) (section_entries im ss []) _ _ (entries_agree n im ss [] f) (λ entries read. inl refl)))))

pub plain_agrees : (l : Layout) (w : World) (n : ℕ) (im : List ℕ) → 64 ≤ n → Agrees (load_plain l w (take n im)) (load_plain l w im)
plain_agrees l w n im least =
    elim (cases_lt n (length im)) [
      | inl more ↦ plain_front_agrees l w n im (record { least = least; more = omega (arith, more) })
      | inr less ↦ inl (ap (load_plain l w) (sym (take_all n im less)))
    ]

-- ---- an image without a dynamic section

static_tables : (im : List ℕ) (e : FileHeader) (hs : List ProgramHeader) (ss : List SectionHeader) → first_dynamic hs ≡ None → sections im e ≡ Ok ss → tables im e hs ≡ (section_entries im ss [] >>= λ entries. Ok (entry_tables entries))
unfolding tables section_tables
static_tables im e hs ss static listed = rw (static, listed) refl

plain_is_load : (l : Layout) (w : World) (im : List ℕ) (e : FileHeader) → header im ≡ Ok e → tables im e (program_headers im e.program_count e.program_offset) ≡ (section_entries im (rela_headers l e) [] >>= λ entries. Ok (entry_tables entries)) → load w im ≡ load_plain l w im
unfolding load image_at image_with load_plain
plain_is_load l w im e head found = rw (head, found) (by (segments w.base im (program_headers im e.program_count e.program_offset)) (section_entries im (rela_headers l e) []))
  where
    made : List Run → Tables → Image
    made runs t = record { machine = machine_of e; runs = runs; tables = t }

    by : (r : Result (List Run) LoadFault) (s : Result (List Rela) LoadFault)
        → ((r >>= λ (runs : List Run). (s >>= λ (entries : List Rela). Ok (entry_tables entries)) >>= λ (t : Tables). Ok (made runs t)) >>= λ (i : Image). relocate w (memory_of i.machine i.runs) i.tables)
        ≡ (r >>= λ (runs : List Run). s >>= λ (entries : List Rela). relocate w (memory_of (machine_of e) runs) (entry_tables entries))
    by (Ok runs) (Ok entries) = refl
    by (Ok runs) (Err f) = refl
    by (Err f) s = refl

-- ---- an image that has its headers

header_read : FileHeaderIsRead → (im : List ℕ) (e : FileHeader) (hs : List ProgramHeader) (ss : List SectionHeader) → HasHeaders im e hs ss → is_loadable_header e ≡ true → header im ≡ Ok e
unfolding header
header_read read im e hs ss has loadable =
    let front = length-file_header e in
    let room = has.file_header.fits in
    let long = le-leb 64 (length im) (omega (arith, front, room)) in
    let is : file_header_at im 0 ≡ e = read im 0 e has.fits has.file_header in
    let programs = has.programs.fits in
    let wide = length-flat_map_each _ 56 length-program hs in
    let count = has.program_count in
    let table = lies-table im e.program_offset e.program_count 56 (omega (arith, wide, count, programs)) in
    rw (long, is, loadable, table) refl

first_is : SectionHeaderIsRead → (im : List ℕ) (ss : List SectionHeader) (at : ℕ) → 0 < length ss → All SectionHeaderFits ss → HasBytesAt im at (flat_map section_bytes ss) → (section_header_at im at).size ≡ first_size ss
first_is read im [] at some fits there = absurd (omega (arith, some))
first_is read im (s ∷ ss) at some fits there = ap (λ (h : SectionHeader). h.size) (section-first read im at s ss fits there)

counted : SectionHeaderIsRead → (im : List ℕ) (e : FileHeader) (hs : List ProgramHeader) (ss : List SectionHeader) → HasHeaders im e hs ss → section_count im e ≡ Ok (length ss)
counted read im e hs ss has =
    let told = has.section_count in
    let some = has.some_section in
    let room = has.sections.fits in
    let long = length-flat_map_each section_bytes 64 length-section ss in
    elim (cases_Bool (e.section_count == 0)) [
      | inl t ↦
          (let first = first_is read im ss e.section_offset some has.sections_fit has.sections in
          let one = lies-table im e.section_offset 1 64 (omega (arith, some, room, long)) in
          let count : first_size ss ≡ length ss = rw t at told in
          rw (t, one, first, count) refl)
      | inr f ↦ (let count : e.section_count ≡ length ss = rw f at told in rw (f, count) refl)
    ]

sections_read : SectionHeaderIsRead → (im : List ℕ) (e : FileHeader) (hs : List ProgramHeader) (ss : List SectionHeader) → HasHeaders im e hs ss → 0 < e.section_offset → sections im e ≡ Ok ss
unfolding sections
sections_read read im e hs ss has some =
    let room = has.sections.fits in
    let long = length-flat_map_each section_bytes 64 length-section ss in
    let count = counted read im e hs ss has in
    let table = lies-table im e.section_offset (length ss) 64 (omega (arith, room, long)) in
    let there : (e.section_offset == 0) ≡ false = ne_eqb e.section_offset 0 (λ z. omega (arith, some, z)) in
    let all = sections-read read im ss e.section_offset has.sections_fit has.sections in
    rw (there, count, table, all) refl

no_sections : (im : List ℕ) (e : FileHeader) → (e.section_offset == 0) ≡ true → sections im e ≡ Ok []
unfolding sections
no_sections im e none = rw none refl

-- the headers of a layout's sections, by which entries are read, are those of the image
abbrev pub HasItsSections : Layout → List SectionHeader → Type 0
HasItsSections l ss = (im : List ℕ) (entries : List Rela) → section_entries im ss entries ≡ section_entries im (map (rela_header l) (drop 1 l.sections)) entries

-- the image of an output without a dynamic section
pub static_is_loaded : FileHeaderIsRead → ProgramHeaderIsRead → SectionHeaderIsRead → (l : Layout) (w : World) (im : List ℕ) (e : FileHeader) (hs : List ProgramHeader) (ss : List SectionHeader) → HasHeaders im e hs ss → is_loadable_header e ≡ true → first_dynamic hs ≡ None → HasItsSections l ss → load w im ≡ load_plain l w im
static_is_loaded file program section l w im e hs ss has loadable static same =
    let head = header_read file im e hs ss has loadable in
    let count = has.program_count in
    let programs : program_headers im e.program_count e.program_offset ≡ hs = ap (λ (n : ℕ). program_headers im n e.program_offset) count ∙ programs-read program im hs e.program_offset has.programs_fit has.programs in
    let Q : List SectionHeader → Type 0 = λ gs. tables im e hs ≡ (section_entries im gs [] >>= λ entries. Ok (entry_tables entries)) in
    let found : Q (rela_headers l e) =
    elim (cases_Bool (e.section_offset == 0)) [
      | inl t ↦ rw t (static_tables im e hs [] static (no_sections im e t))
      | inr f ↦ rw (f, ← same im []) (static_tables im e hs ss static (sections_read section im e hs ss has (some_offset e.section_offset f)))
    ] in
    plain_is_load l w im e head (ap (tables im e) programs ∙ found)
  where
    some_offset : (n : ℕ) → (n == 0) ≡ false → 0 < n
    some_offset zero f = cc
    some_offset (suc n) f = omega arith
