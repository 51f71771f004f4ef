-- The faults of a group in an outline.
use Rattle.wild_outlines.proofs.Common.{◌≡◌, ℕ, ◌+◌, Bool, true, false, if◌then◌else◌, List, [], ◌∷◌, map, length, refl, ap, ◌∙◌, range_with_len, fun_ext, File, Group, InputRelocation, InputSection, Layout, SortedSection, is_frame, Input, sorted_input, file_frames, frames_at, address_after, placed_section, kept_size, with_word_order, group_errors, outline_file, outline}
use Rattle.std.proofs.Common.{flat_map}
use Rattle.wild_types.specs.Item.{Item, item_of}
use Rattle.wild_types.specs.declared.fault.At.{At}
use Rattle.wild_frames.specs.Faults.{frame_errors}
use Rattle.wild_placement.specs.PlacedSections.{origins_of}
use Rattle.wild_layout.specs.Faults.{copy_errors, debug_error, debug_errors, exported_error, exported_errors, file_errors, files_errors, placed_section_errors_by, relocation_errors, section_errors, sections_errors, slot_errors, symbol_errors, table_error, table_errors, thunk_error, thunk_errors, frame_refusal, bad_frames, relocations_errors, placed_section_errors, sorted_errors_of, sorted_errors}
use Rattle.wild_layout.specs.Sites.{shared_byte}
use Rattle.wild_outlines.proofs.ListLemmas.{flat_map-same}
use Rattle.wild_outlines.proofs.ChangedPieces.{flat_map_from-same}
use Rattle.wild_outlines.proofs.ValuesFiles.{same_file, raw_value-outline}
use Rattle.wild_outlines.proofs.SharesFrames.{frames_of-outline}
use Rattle.wild_outlines.proofs.Decisions.{input_extents-each, decide-outline}
use Rattle.wild_outlines.proofs.FramesPlaced.{outline_input, sorted_input-outline, origins_of-outline, file_frames-same_file, kept_size-same_file, placed_section-outline}
use Rattle.wild_outlines.proofs.ClausesGroups.{flat_map-mapped}
use Rattle.wild_outlines.proofs.ClausesSlots.{slots_of-outline}
use Rattle.wild_outlines.proofs.ClausesTests.{header_only-outline}
use Rattle.wild_outlines.proofs.ContentDynamic.{listed_of-outline}
use Rattle.wild_outlines.proofs.ContentNeeds.{file_items-same_file}
use Rattle.wild_outlines.proofs.ContentSymbols.{table_fields-outline}
use Rattle.wild_outlines.proofs.DebugDecisions.{debug_decided_at-outline}
use Rattle.wild_outlines.proofs.FramesTable.{search_table_faults-outline}

exported_error-each : (l : Layout) (at : At) → exported_error (outline l) at ≡ exported_error l at
exported_error-each l at = fun_ext (λ d. simp (listed_of-outline l))

exported_errors-outline : (l : Layout) (group file : ℕ) (f : File) → exported_errors (outline l) group file f ≡ exported_errors l group file f
unfolding exported_errors
exported_errors-outline l group file f = simp (exported_error-each l)

copy_errors-each : (l : Layout) (group file : ℕ) → copy_errors (outline l) group file ≡ copy_errors l group file
copy_errors-each l group file = fun_ext (λ i. simp (raw_value-outline l))

symbol_errors-each : (l : Layout) (group file : ℕ) → symbol_errors (outline l) group file ≡ symbol_errors l group file
symbol_errors-each l group file = fun_ext (λ i. fun_ext (λ s. simp (header_only-outline l, slots_of-outline l)))

slot_errors-outline : (l : Layout) (group file : ℕ) (f : File) → slot_errors (outline l) group file f ≡ slot_errors l group file f
unfolding slot_errors
slot_errors-outline l group file f = simp (symbol_errors-each l)

debug_error-each : (l : Layout) (group file section : ℕ) (s : InputSection) (origins : List InputRelocation) → debug_error (outline l) group file section s origins ≡ debug_error l group file section s origins
debug_error-each l group file section s origins = fun_ext (λ i. simp (debug_decided_at-outline l))

debug_errors-outline : (l : Layout) (group file section : ℕ) (s : InputSection) (origins : List InputRelocation) → debug_errors (outline l) group file section s origins ≡ debug_errors l group file section s origins
unfolding debug_errors
debug_errors-outline l group file section s origins = simp (debug_error-each l)

relocation_errors-outline : (l : Layout) (group file section : ℕ) (s : Item) (origins : List InputRelocation) (i : ℕ) → relocation_errors (outline l) group file section s origins i ≡ relocation_errors l group file section s origins i
unfolding relocation_errors
relocation_errors-outline l group file section s origins i = simp (decide-outline l)

bad_frames-outline : (l : Layout) (group file : ℕ) (f : File) (section : ℕ) (s : InputSection) → bad_frames (outline l) group file (outline_file f) section s ≡ bad_frames l group file f section s
bad_frames-outline l group file f section s = ap (λ fs. if is_frame s.slot then map (frame_refusal group file section) (frame_errors fs) else []) (frames_of-outline l f s)

shared_byte-outline : (l : Layout) (s : Item) (origins : List InputRelocation) → shared_byte (outline l) s origins ≡ shared_byte l s origins
shared_byte-outline l s origins = simp (input_extents-each l s origins)

relocations_errors-outline : (l : Layout) (group file section : ℕ) (s : Item) (origins : List InputRelocation) → relocations_errors (outline l) group file section s origins ≡ relocations_errors l group file section s origins
relocations_errors-outline l group file section s origins =
    flat_map-same (relocation_errors (outline l) group file section s origins) (relocation_errors l group file section s origins) (range_with_len 0 (length s.relocations)) (relocation_errors-outline l group file section s origins)

placed_section_errors_by-outline : (l : Layout) (b : Bool) (group file : ℕ) (f : File) (section : ℕ) (s placed : InputSection) → placed_section_errors_by b (outline l) group file (outline_file f) section s placed ≡ placed_section_errors_by b l group file f section s placed
placed_section_errors_by-outline l true group file f section s placed = simp (origins_of-outline l f s, debug_errors-outline l group file section placed (origins_of l f s))
placed_section_errors_by-outline l false group file f section s placed =
    simp (origins_of-outline l f s, bad_frames-outline l group file f section s, relocations_errors-outline l group file section (item_of l f placed) (origins_of l f s), shared_byte-outline l (item_of l f placed) (origins_of l f s))

placed_section_errors-outline : (l : Layout) (group file : ℕ) (f : File) (section : ℕ) (s placed : InputSection) → placed_section_errors (outline l) group file (outline_file f) section s placed ≡ placed_section_errors l group file f section s placed
placed_section_errors-outline l group file f section s placed = simp (header_only-outline l, placed_section_errors_by-outline l)

placed_section_errors-same_file : (l : Layout) (group file : ℕ) (f : File) (section : ℕ) (s placed : InputSection) → placed_section_errors (outline l) group file f section s placed ≡ placed_section_errors l group file f section s placed
placed_section_errors-same_file l group file f section s placed = same_file (λ m g. placed_section_errors m group file g section s placed) (λ m g. placed_section_errors-outline m group file g section s placed) l f

sorted_errors_of-outline : (l : Layout) (x : SortedSection) (i : Input) → sorted_errors_of (outline l) x (outline_input i) ≡ sorted_errors_of l x i
sorted_errors_of-outline l x i = placed_section_errors-outline l x.group x.file i.file x.section i.section (with_word_order i.section)

sorted_errors-outline : (l : Layout) (x : SortedSection) → sorted_errors (outline l) x ≡ sorted_errors l x
sorted_errors-outline l x = ap (flat_map (sorted_errors_of (outline l) x)) (sorted_input-outline l x) ∙ flat_map-mapped (sorted_errors_of (outline l) x) (sorted_errors_of l x) outline_input (sorted_errors_of-outline l x) (sorted_input l x)

all_sorted_errors : (l : Layout) → flat_map (sorted_errors (outline l)) l.sorted ≡ flat_map (sorted_errors l) l.sorted
all_sorted_errors l = flat_map-same (sorted_errors (outline l)) (sorted_errors l) l.sorted (sorted_errors-outline l)

section_errors-outline : (l : Layout) (group file : ℕ) (f : File) (at section : ℕ) (s : InputSection) → section_errors (outline l) group file f at section s ≡ section_errors l group file f at section s
unfolding section_errors
section_errors-outline l group file f at section s = ap (placed_section_errors (outline l) group file f section s) (placed_section-outline l f at s) ∙ placed_section_errors-same_file l group file f section s (placed_section l f at s)

sections_errors-outline : (l : Layout) (group file : ℕ) (f : File) (at i : ℕ) (ss : List InputSection) → sections_errors (outline l) group file f at i ss ≡ sections_errors l group file f at i ss
sections_errors-outline l group file f at i [] = refl
sections_errors-outline l group file f at i (s ∷ ss) = simp (section_errors-outline l group file f at i s, kept_size-same_file l f s, sections_errors-outline l group file f (address_after at (kept_size l f s)) (i + 1) ss)

thunk_error-each : (l : Layout) (at : At) → thunk_error (outline l) at ≡ thunk_error l at
thunk_error-each l at = fun_ext (λ t. simp (raw_value-outline l))

thunk_errors-outline : (l : Layout) (group file : ℕ) (f : File) → thunk_errors (outline l) group file f ≡ thunk_errors l group file f
unfolding thunk_errors
thunk_errors-outline l group file f = simp (header_only-outline l, thunk_error-each l)

file_errors-outline : (l : Layout) (group at file : ℕ) (f : File) → file_errors (outline l) group at file f ≡ file_errors l group at file f
unfolding file_errors
file_errors-outline l group at file f =
    simp (sections_errors-outline l group file f at 0 f.sections, all_sorted_errors l, copy_errors-each l group file, slot_errors-outline l group file f, thunk_errors-outline l group file f, search_table_faults-outline l)

files_errors-outline : (l : Layout) (group at i : ℕ) (fs : List File) → files_errors (outline l) group at i fs ≡ files_errors l group at i fs
files_errors-outline l group at i [] = refl
files_errors-outline l group at i (f ∷ fs) = simp (file_errors-outline l group at i f, file_frames-same_file l f, files_errors-outline l group (address_after at (file_frames l f)) (i + 1) fs)

table_error-each : (l : Layout) (at : At) (f : File) → table_error (outline l) at f ≡ table_error l at f
table_error-each l at f = fun_ext (λ x. simp (table_fields-outline l))

table_errors-outline : (l : Layout) (group file : ℕ) (f : File) → table_errors (outline l) group file f ≡ table_errors l group file f
unfolding table_errors
table_errors-outline l group file f = simp (table_error-each l, file_items-same_file l)

pub group_errors-outline : (l : Layout) (group : ℕ) (g : Group) → group_errors (outline l) group g ≡ group_errors l group g
unfolding group_errors
group_errors-outline l group g =
    simp (files_errors-outline l group (frames_at l g) 0 g.files, flat_map_from-same (exported_errors l group) (exported_errors (outline l) group) (exported_errors-outline l group) 0 g.files, flat_map_from-same (table_errors l group) (table_errors (outline l) group) (table_errors-outline l group) 0 g.files)
