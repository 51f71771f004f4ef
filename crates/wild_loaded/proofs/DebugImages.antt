-- The image for debuggers alone is loaded: of no table that a loader applies is anything written.
use Rattle.wild_loaded.proofs.Common.{◌≡◌, ℕ, ◌+◌, ◌/◌, ◌<◌, ◌^◌, Bool, true, if◌then◌else◌, List, [], ◌∷◌, length, get_or, refl, sym, ap, ◌∙◌, arith, subst, Option, Some, None, Ok, All, All-nil, All-cons, All-contains, All-map, sht_nobits, dynamic_entry_size, RelaFits, ProgramHeader, Part, Section, Layout, Item, image_size, is_header_only, part_with, file_header, program_header, null_header, section_header, info_at, computed_infos, headers_from, section_headers_of, bytes, SegmentLoads, NumbersFit, IsLaidOut, Run, World, machine_of, value_of_tag, IsStatic, IsLoadable, IsLegal, alloc_bit, not_partial, HasItem, SegmentsAreLoadable, SectionsAreStored, ZerosAreStored, BlanksAreStored, FileBytesAreStored, TextsAreStored, headers_of, image_memory, EachDecided}
use Rattle.wild_records.specs.Abi.Section.{sht_rela}
use Rattle.wild_records.specs.Dynamic.{DynamicEntryFits}
use Rattle.wild_types.specs.declared.part.Role.TheVariants as role
use Rattle.wild_loader.specs.declared.memory.Machine.{Machine}
use Rattle.wild_loader.specs.Load.{load}
use Rattle.wild_loader.specs.Memory.{memory_of}
use Rattle.wild_loader.specs.Relocate.{relocate, add_all, apart, notes}
use Rattle.wild_loader.specs.Places.{places_from}
use Rattle.wild_words.specs.Extents.{least_extent}
use Rattle.wild_loader.specs.Runs.{overlay_runs}
use Rattle.wild_loader.specs.SegmentLaws.{loaded_runs}
use Rattle.wild_loader.specs.Laws.{HasDynamic, HasTables, HasNoEntries, DynamicImagesAreLoaded, PlainImagesAreLoaded}
use Rattle.wild_meaning.specs.Section.{IsForDebuggers}
use Rattle.wild_meaning.specs.Item.{IsKept}
use Rattle.wild_geometry.specs.Loaded.{InFile}
use Rattle.wild_geometry.proofs.KeptItems.{kept_items_placed}
use Rattle.wild_loaded.specs.Laws.{HeadersAreThere}
use Rattle.wild_loaded.specs.LoadedMemoryLaws.{DebugImagesAreLoaded}
use Rattle.wild_loaded.proofs.DynamicSections.{first_header, segment_place, first_listed}
use Rattle.wild_loaded.proofs.HeadersFit.{uncompressed_flags-alloc}
use Rattle.wild_loaded.proofs.Loads.{length-bytes, segment_static}
use Rattle.wild_loaded.proofs.SectionTable.{rela_told}

-- what the laws of this crate and of those below owe of such an image
pub record BareLaws : Type 0 where
  pub headers : HeadersAreThere
  pub segments : SegmentsAreLoadable
  pub sections : SectionsAreStored
  pub zeros : ZerosAreStored
  pub blanks : BlanksAreStored
  pub texts : TextsAreStored
  pub file : FileBytesAreStored
  pub dynamic : DynamicImagesAreLoaded
  pub plain : PlainImagesAreLoaded

-- ---- an output with a dynamic section

-- nothing is written of the section, and its segment is empty
empty_dynamic : (l : Layout) (p : Part) → IsForDebuggers l → IsLoadable l.kind → IsLaidOut l → part_with role.Dynamic l.parts ≡ Some p → HasDynamic (bytes l) (headers_of l) []
empty_dynamic l p bare kind laid there =
    let loads = laid.loadable (not_partial l.kind kind) in
    let s = loads.dynamic p there in
    let place = segment_place l s.segment in
    let c = first_listed l.segments s.segment s.first in
    let file = (All-contains (SegmentLoads (image_size l)) l.segments s.segment loads.each c).file in
    let n = length-bytes l laid in
    let o = place.0 in
    let z = place.1 in
    let header_only = laid.dropped bare p there in
    let none : (program_header l s.segment).file_size ≡ 0 = place.1 ∙ s.file_size ∙ ap (λ (b : Bool). if b then 0 else p.size) header_only in
    record {
      segment = program_header l s.segment;
      first = first_header l l.segments s.segment s.first;
      room = omega (arith, file, n, o, z);
      count = ap (λ (k : ℕ). k / dynamic_entry_size) none;
      fits = All-nil DynamicEntryFits;
      entries = record { fits = omega (arith, file, n, o); same = λ k lt. absurd (omega (arith, lt)) };
    }

-- no entry names a table
no_tables : (image : List ℕ) (hs : List ProgramHeader) → HasTables image hs [] (record { words = []; entries = []; jumps = [] })
unfolding value_of_tag
no_tables image hs = record {
  words_fit = All-nil (λ (x : ℕ). x < 2 ^ 64);
  words = refl;
  entries_fit = All-nil RelaFits;
  entries = refl;
  jumps_fit = All-nil RelaFits;
  jumps = refl;
}

-- and without one nothing changes
nothing_changed : (w : World) (machine : Machine) (runs : List Run) → relocate w (memory_of machine runs) (record { words = []; entries = []; jumps = [] }) ≡ Ok (memory_of machine runs)
unfolding relocate places_from add_all apart least_extent overlay_runs notes
nothing_changed w machine runs = refl

-- ---- one without

-- a section with entries that is allocated is told to be without bytes
header_empty : (l : Layout) (info name : ℕ) (s : Section) → IsForDebuggers l → HasNoEntries (section_header l info name s)
unfolding section_header
header_empty l info name s bare = λ kind flag.
    let is = rela_told (is_header_only l s) s.kind kind in
    let room = alloc_bit s.flags (sym (uncompressed_flags-alloc s.flags) ∙ flag) in
    let header_only : is_header_only l s ≡ true = rw (bare, room, is) refl in
    let both : sht_nobits ≡ sht_rela = subst (λ (b : Bool). (if b then sht_nobits else s.kind) ≡ sht_rela) header_only kind in
    cc

null_empty : (l : Layout) → HasNoEntries (null_header l)
unfolding null_header
null_empty l = λ kind flag. cc

headers_empty : (l : Layout) (i name : ℕ) (ss : List Section) → IsForDebuggers l → All HasNoEntries (headers_from l (computed_infos l) i name ss)
headers_empty l i name [] bare = All-nil HasNoEntries
headers_empty l i name (s ∷ ss) bare =
    All-cons HasNoEntries (section_header l (info_at (computed_infos l) i s.info) name s) (headers_from l (computed_infos l) (i + 1) (name + length s.name + 1) ss)
    (header_empty l (info_at (computed_infos l) i s.info) name s bare)
    (headers_empty l (i + 1) (name + length s.name + 1) ss bare)

no_entries : (l : Layout) (ss : List Section) → IsForDebuggers l → All HasNoEntries (section_headers_of l ss)
no_entries l [] bare = All-nil HasNoEntries
no_entries l (s ∷ ss) bare = All-cons HasNoEntries (null_header l) (headers_from l (computed_infos l) 1 (length s.name + 1) ss) (null_empty l) (headers_empty l 1 (length s.name + 1) ss bare)

-- ---- the image

bare_accepted : (l : Layout) (w : World) → BareLaws → IsForDebuggers l → IsLoadable l.kind → NumbersFit l → IsLegal l w → IsLaidOut l → load w (bytes l) ≡ Ok (image_memory l w)
bare_accepted l w laws bare kind numbers legal laid = by_part (part_with role.Dynamic l.parts) refl
  where
    by_part : (o : Option Part) → part_with role.Dynamic l.parts ≡ o → load w (bytes l) ≡ Ok (image_memory l w)
    by_part (Some p) e =
        laws.dynamic w (bytes l) (file_header l) (headers_of l) (section_headers_of l l.sections) [] (record { words = []; entries = []; jumps = [] })
        (laws.headers.stand l kind numbers laid)
        (laws.headers.taken l kind)
        (laws.segments.loadable l w kind legal laid)
        (empty_dynamic l p bare kind laid e)
        (no_tables (bytes l) (headers_of l))
        ∙ nothing_changed w (machine_of (file_header l)) (loaded_runs w.base (bytes l) (headers_of l))
    by_part None e =
        let static = (laid.loadable (not_partial l.kind kind)).static e in
        laws.plain w (bytes l) (file_header l) (headers_of l) (section_headers_of l l.sections)
        (laws.headers.stand l kind numbers laid)
        (laws.headers.taken l kind)
        (laws.segments.loadable l w kind legal laid)
        (All-map IsStatic (program_header l) l.segments (λ i d lt. segment_static l (get_or l.segments i d) (static i d lt)))
        (no_entries l l.sections bare)

-- memory has an item as the file has it
bare_item : (l : Layout) (w : World) (item : Item) → BareLaws → IsLoadable l.kind → IsLegal l w → IsLaidOut l → EachDecided l → IsKept l item → HasItem l w (image_memory l w) item InFile
bare_item l w item laws kind legal laid decided kept =
    let k = kept_items_placed l item (not_partial l.kind kind) laid kept in
    subst (λ (i : Item). HasItem l w (image_memory l w) i InFile) (sym k.is) (laws.sections l w k.section kind legal laid k.kept (decided k.section k.kept.input k.kept.reads k.kept.written))

pub bare_loaded : BareLaws → DebugImagesAreLoaded
bare_loaded laws = λ l w bare kind numbers legal laid loaded decided. record {
  memory = image_memory l w;
  accepted = bare_accepted l w laws bare kind numbers legal laid;
  machine = laws.segments.machine l w;
  items = λ item kept. bare_item l w item laws kind legal laid decided kept;
  zeros = λ a b. laws.zeros l w a kind legal laid b;
  blanks = λ s k b f lt. laws.blanks l w s k kind legal laid b f lt;
  texts = laws.texts l w kind legal laid loaded;
  still = λ a b file. laws.file l w a b kind legal laid file;
}
