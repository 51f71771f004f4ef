-- An image whose headers and tables stand in it is its segments with the tables applied.
use Rattle.std.proofs.Common.{◌≡◌, ℕ, ◌<◌, inl, inr, true, false, List, [], ◌∷◌, length, refl, arith, ◌∙◌}
use Rattle.std.specs.Prelude.{All, ◌==◌, nat_le, None, Ok}
use Rattle.std.proofs.lemmas.List.Elements.{All-head, All-tail}
use Rattle.wild_records.specs.Abi.Segment.{pt_dynamic}
use Rattle.wild_loader.specs.declared.memory.Machine.{Machine}
use Rattle.wild_loader.specs.declared.memory.Run.{Run}
use Rattle.wild_loader.specs.Memory.{memory_of}
use Rattle.wild_loader.specs.Places.{places_from}
use Rattle.wild_words.specs.Extents.{least_extent}
use Rattle.wild_loader.specs.Runs.{overlay_runs}
use Rattle.std.specs.List.{flat_map}
use Rattle.std.proofs.lemmas.Bool.{cases_Bool, le-leb, ne_eqb, eqb-false}
use Rattle.wild_words.specs.Words.{HasBytesAt}
use Rattle.wild_words.proofs.Basics.{length-flat_map_each}
use Rattle.wild_records.specs.Dynamic.{DynamicEntryIsRead}
use Rattle.wild_records.specs.FileHeader.{file_header_at, FileHeaderIsRead, file_header_size}
use Rattle.wild_records.specs.ProgramHeader.{program_header_size, ProgramHeaderIsRead}
use Rattle.wild_records.specs.Relocations.{RelaIsRead, RelrIsRead}
use Rattle.wild_records.specs.SectionHeader.{section_header_size, section_header_at, SectionHeaderFits, SectionHeaderIsRead}
use Rattle.wild_records.specs.declared.dynamic.DynamicEntry.{DynamicEntry}
use Rattle.wild_records.specs.declared.file_header.FileHeader.{FileHeader}
use Rattle.wild_records.specs.declared.program_header.ProgramHeader.{ProgramHeader}
use Rattle.wild_records.specs.declared.relocations.Rela.{Rela}
use Rattle.wild_records.specs.declared.section_header.SectionHeader.{SectionHeader}
use Rattle.wild_records.proofs.FileHeaderLemmas.{length-file_header}
use Rattle.wild_loader.specs.declared.tables.Tables.{Tables}
use Rattle.wild_loader.specs.declared.world.World.{World}
use Rattle.wild_loader.specs.Headers.{header, is_loadable_header, machine_of, program_headers, section_count, sections}
use Rattle.wild_loader.specs.Tables.{tables, first_dynamic, section_tables, section_entries}
use Rattle.wild_loader.specs.Relocate.{relocate, add_all, apart, notes}
use Rattle.wild_loader.specs.Load.{load, image_at, image_with}
use Rattle.wild_loader.specs.SegmentLaws.{HasHeaders, AreLoadable, loaded_runs, loaded_memory, first_size, program_bytes, section_bytes}
use Rattle.wild_loader.specs.Laws.{HasDynamic, HasTables, HasSectionTables, section_relas, DynamicImagesAreLoaded, StaticImagesAreLoaded, PlainImagesAreLoaded, IsStatic}
use Rattle.wild_loader.specs.FilledLaws.{HasSectionTable}
use Rattle.wild_loader.proofs.RecordLists.{programs-read, sections-read, section-first, length-program, length-section}
use Rattle.wild_loader.proofs.SegmentLemmas.{segments-loaded}
use Rattle.wild_loader.proofs.TableLemmas.{lies-table, dynamic-found, sections-found}
use Rattle.wild_loader.proofs.SectionLemmas.{section-table, one-section, no-table}

-- ---- headers

header-read : FileHeaderIsRead → (image : List ℕ) (e : FileHeader) (hs : List ProgramHeader) (ss : List SectionHeader) → HasHeaders image e hs ss → is_loadable_header e ≡ true → header image ≡ Ok e
unfolding header
header-read read image e hs ss laid loadable =
    let front = length-file_header e in
    let room = laid.file_header.fits in
    let long : nat_le file_header_size (length image) ≡ true = le-leb _ _ (omega arith) in
    let is : file_header_at image 0 ≡ e = read image 0 e laid.fits laid.file_header in
    let programs = laid.programs.fits in
    let wide = length-flat_map_each program_bytes program_header_size length-program hs in
    let count = laid.program_count in
    let table = lies-table image e.program_offset e.program_count program_header_size (omega (arith, wide, count, programs)) in
    rw (long, is, loadable, table) refl

programs-laid : ProgramHeaderIsRead → (image : List ℕ) (e : FileHeader) (hs : List ProgramHeader) (ss : List SectionHeader) → HasHeaders image e hs ss → program_headers image e.program_count e.program_offset ≡ hs
programs-laid read image e hs ss laid =
    let count = laid.program_count in
    rw count (programs-read read image hs e.program_offset laid.programs_fit laid.programs)

-- section header 0 tells how many there are
first-told : SectionHeaderIsRead → (image : List ℕ) (ss : List SectionHeader) (at : ℕ) → 0 < length ss → All SectionHeaderFits ss → HasBytesAt image at (flat_map section_bytes ss) → (section_header_at image at).size ≡ first_size ss
first-told read image [] at some fits st = absurd (omega arith)
first-told read image (s ∷ ss) at some fits st = rw (section-first read image at s ss fits st) refl

counted : SectionHeaderIsRead → (image : List ℕ) (e : FileHeader) (hs : List ProgramHeader) (ss : List SectionHeader) → HasHeaders image e hs ss → section_count image e ≡ Ok (length ss)
counted read image e hs ss laid =
    let told = laid.section_count in
    let some = laid.some_section in
    let room = laid.sections.fits in
    let long = length-flat_map_each section_bytes section_header_size length-section ss in
    elim (cases_Bool (e.section_count == 0)) [
      | inl t ↦
          (let first = first-told read image ss e.section_offset some laid.sections_fit laid.sections in
          let one = lies-table image e.section_offset 1 section_header_size (omega (arith, some, room, long)) in
          let count : first_size ss ≡ length ss = rw t at told in
          rw (t, one, first, count) refl)
      | inr f ↦ (let count : e.section_count ≡ length ss = rw f at told in rw (f, count) refl)
    ]

sections-laid : SectionHeaderIsRead → (image : List ℕ) (e : FileHeader) (hs : List ProgramHeader) (ss : List SectionHeader) → HasHeaders image e hs ss → 0 < e.section_offset → sections image e ≡ Ok ss
unfolding sections
sections-laid read image e hs ss laid some =
    let room = laid.sections.fits in
    let long = length-flat_map_each section_bytes section_header_size length-section ss in
    let count = counted read image e hs ss laid in
    let table = lies-table image e.section_offset (length ss) section_header_size (omega (arith, room, long)) in
    let there : (e.section_offset == 0) ≡ false = ne_eqb e.section_offset 0 (λ z. omega (arith, some, z)) in
    let all = sections-read read image ss e.section_offset laid.sections_fit laid.sections in
    rw (there, count, table, all) refl

-- ---- the whole

loaded_by : FileHeaderIsRead → ProgramHeaderIsRead → (w : World) (image : List ℕ) (e : FileHeader) (hs : List ProgramHeader) (ss : List SectionHeader) (t : Tables) → HasHeaders image e hs ss → is_loadable_header e ≡ true → AreLoadable w.base image hs → tables image e hs ≡ Ok t → load w image ≡ relocate w (loaded_memory (machine_of e) w.base image hs) t
unfolding load image_at image_with
loaded_by file program w image e hs ss t laid loadable can found =
    let head = header-read file image e hs ss laid loadable in
    let programs = programs-laid program image e hs ss laid in
    let runs = segments-loaded w.base image hs can in
    rw (head, programs, runs, found) refl

dynamic-tables : DynamicEntryIsRead → RelaIsRead → RelrIsRead → (base : ℕ) (image : List ℕ) (e : FileHeader) (hs : List ProgramHeader) (ds : List DynamicEntry) (t : Tables) → AreLoadable base image hs → HasDynamic image hs ds → HasTables image hs ds t → tables image e hs ≡ Ok t
unfolding tables
dynamic-tables dynamic rela relr base image e hs ds t can has named = rw (has.first) (dynamic-found dynamic rela relr base image hs ds t can has named)

static-tables : SectionHeaderIsRead → RelaIsRead → (image : List ℕ) (e : FileHeader) (hs : List ProgramHeader) (ss : List SectionHeader) (of : SectionHeader → List Rela) → HasHeaders image e hs ss → first_dynamic hs ≡ None → 0 < e.section_offset → HasSectionTables image ss of → tables image e hs ≡ Ok (record { words = []; entries = section_relas ss of; jumps = [] })
unfolding tables section_tables
static-tables section rela image e hs ss of laid none some has =
    let all = sections-laid section image e hs ss laid some in
    let found = sections-found rela image ss of [] has in
    rw (none, all, found) refl

pub dynamic-loaded : FileHeaderIsRead → ProgramHeaderIsRead → DynamicEntryIsRead → RelaIsRead → RelrIsRead → DynamicImagesAreLoaded
dynamic-loaded file program dynamic rela relr w image e hs ss ds t laid loadable can has named = loaded_by file program w image e hs ss t laid loadable can (dynamic-tables dynamic rela relr w.base image e hs ds t can has named)

pub static-loaded : FileHeaderIsRead → ProgramHeaderIsRead → SectionHeaderIsRead → RelaIsRead → StaticImagesAreLoaded
static-loaded file program section rela w image e hs ss of laid loadable can none some has = loaded_by file program w image e hs ss _ laid loadable can (static-tables section rela image e hs ss of laid none some has)

-- ---- the entries of one section

-- no header is PT_DYNAMIC
pub no-dynamic : (hs : List ProgramHeader) → All IsStatic hs → first_dynamic hs ≡ None
unfolding first_dynamic
no-dynamic [] static = refl
no-dynamic (h ∷ hs) static = rw (ne_eqb h.kind pt_dynamic (All-head IsStatic h hs static)) (no-dynamic hs (All-tail IsStatic h hs static))

static-found : SectionHeaderIsRead → RelaIsRead → (image : List ℕ) (e : FileHeader) (hs : List ProgramHeader) (ss : List SectionHeader) (rs : List Rela) → HasHeaders image e hs ss → All IsStatic hs → HasSectionTable image ss rs → 0 < e.section_offset → tables image e hs ≡ Ok (record { words = []; entries = rs; jumps = [] })
static-found section rela image e hs ss rs laid static has some =
    let found = static-tables section rela image e hs ss (λ s. rs) laid (no-dynamic hs static) some (section-table image ss rs has) in
    rw (one-section image ss rs has) at found

listed-found : SectionHeaderIsRead → RelaIsRead → (image : List ℕ) (e : FileHeader) (hs : List ProgramHeader) (ss : List SectionHeader) (rs : List Rela) → HasHeaders image e hs ss → All IsStatic hs → HasSectionTable image ss rs → (0 < length rs → 0 < e.section_offset) → tables image e hs ≡ Ok (record { words = []; entries = rs; jumps = [] })
unfolding tables section_tables sections section_entries
listed-found section rela image e hs ss (r ∷ rs) laid static has some = static-found section rela image e hs ss (r ∷ rs) laid static has (some (omega arith))
listed-found section rela image e hs ss [] laid static has some =
    elim (cases_Bool (e.section_offset == 0)) [
      | inl t ↦ rw (no-dynamic hs static, t) refl
      | inr f ↦ static-found section rela image e hs ss [] laid static has (let ne = eqb-false e.section_offset 0 f in omega (arith, ne))
    ]

pub listed-loaded : FileHeaderIsRead → ProgramHeaderIsRead → SectionHeaderIsRead → RelaIsRead → (w : World) (image : List ℕ) (e : FileHeader) (hs : List ProgramHeader) (ss : List SectionHeader) (rs : List Rela) → HasHeaders image e hs ss → is_loadable_header e ≡ true → AreLoadable w.base image hs → All IsStatic hs → HasSectionTable image ss rs → (0 < length rs → 0 < e.section_offset)
    → load w image ≡ relocate w (loaded_memory (machine_of e) w.base image hs) (record { words = []; entries = rs; jumps = [] })
listed-loaded file program section rela w image e hs ss rs laid loadable can static has some = loaded_by file program w image e hs ss _ laid loadable can (listed-found section rela image e hs ss rs laid static has some)

-- ---- no tables

nothing-relocated : (w : World) (machine : Machine) (runs : List Run) → relocate w (memory_of machine runs) (record { words = []; entries = []; jumps = [] }) ≡ Ok (memory_of machine runs)
unfolding relocate places_from add_all apart least_extent overlay_runs notes
nothing-relocated w machine runs = refl

pub plain-loaded : FileHeaderIsRead → ProgramHeaderIsRead → SectionHeaderIsRead → RelaIsRead → PlainImagesAreLoaded
plain-loaded file program section rela w image e hs ss laid loadable can static none = listed-loaded file program section rela w image e hs ss [] laid loadable can static (no-table image ss none) (λ l. absurd (omega arith)) ∙ nothing-relocated w (machine_of e) (loaded_runs w.base image hs)
