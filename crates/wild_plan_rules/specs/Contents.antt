-- The clauses on groups, files, input sections and relocations. A fault in an item of a group is reported with the
-- group's place.
--   each_section test g      every input section of the group passes the test
--   section_misplaced l ..   the first group with an input section outside its part's range
--   sections_in_ranges l f             the input sections in a file's ranges: its own, and for the last file also the sorted ones
--   sorted_unnamed l ..      the first group with a sorted section that is not named exactly once in the order
--   front_is_free l          no other bytes of the first group are in the parts of merged strings or the linker's identity string
--   fields_lie m s           the fields of the section's relocations lie in it
--   tls_fits ..              thread-local data end where the layout says
use Rattle.std.specs.Prelude.{ℕ, ◌+◌, ◌==◌, Bool, true, false, not, ◌&&◌, ◌||◌, if◌then◌else◌, nat_le, List, [], ◌∷◌, length, map, Option, Some, None, is_some, slice_get}
use Rattle.std.specs.List.{list_all, list_any}
use Rattle.wild_types.specs.declared.kind.Machine.{Machine}
use Rattle.wild_types.specs.declared.kind.Machine.TheVariants as machines
use Rattle.wild_types.specs.declared.part.Part.{Part}
use Rattle.wild_types.specs.declared.part.Role.{Role}
use Rattle.wild_types.specs.declared.part.Role.TheVariants as role
use Rattle.wild_types.specs.declared.input.Slot.{Slot}
use Rattle.wild_types.specs.declared.input.Slot.TheVariants as slot
use Rattle.wild_types.specs.declared.input.InputRelocation.{InputRelocation}
use Rattle.wild_types.specs.declared.input.InputSection.{InputSection}
use Rattle.wild_types.specs.declared.file.File.{File}
use Rattle.wild_types.specs.declared.file.Group.{Group}
use Rattle.wild_types.specs.declared.layout.SortedSection.{SortedSection}
use Rattle.wild_types.specs.declared.layout.Merged.{Merged}
use Rattle.wild_types.specs.declared.layout.Layout.{Layout}
use Rattle.wild_types.specs.Lists.{total, through}
use Rattle.wild_types.specs.Lookups.{allocated, section_of, is_allocated_section, is_allocated_part, has_data, is_frame, is_discarded, is_rela, has_range_bytes, brings_bytes}
use Rattle.wild_types.specs.Kinds.{is_partial_link}
use Rattle.wild_types.specs.FileThunks.{thunks_of}
use Rattle.wild_types.specs.Parts.{has_role}
use Rattle.wild_placement.specs.PlacedSections.{sorted_input}
use Rattle.wild_plan_rules.specs.Places.{multiple_of}
use Rattle.wild_plan_rules.specs.Fronts.{merged_size}
use Rattle.wild_plan_rules.specs.Thunks.{has_thunks, sections_in_ranges}
use Rattle.wild_types.specs.Rows.{field_bytes}
use Rattle.wild_types.specs.FilePlaces.{given, bool_eq}

-- every input section of the file passes the test
abbrev pub each_in : (InputSection → Bool) → File → Bool
each_in test f = list_all test f.sections

-- every input section of the group passes the test
abbrev pub each_section : (InputSection → Bool) → Group → Bool
each_section test g = list_all (each_in test) g.files

-- ---- clause 7: shares, prelude and epilogue

-- the first part whose shares do not add up to its size
abbrev pub share_mismatch : List Group → ℕ → List Part → Option ℕ
share_mismatch groups i [] = None
share_mismatch groups i (p ∷ ps) = if total (given i) groups == p.size then share_mismatch groups (i + 1) ps else Some i

abbrev pub has_share_for_each_part : ℕ → Group → Bool
has_share_for_each_part count g = length g.part_sizes == count

-- ---- clause 8: input sections in their parts

-- where the parts begin
abbrev pub addresses : List Part → List ℕ
addresses parts = map (λ (p : Part). p.address) parts

-- where the next group's range of each part begins, from number part on
abbrev pub ends_of : Group → ℕ → List ℕ → List ℕ
ends_of g part [] = []
ends_of g part (start ∷ starts) = (start + given part g) ∷ ends_of g (part + 1) starts

-- the end of the last input section of a part that has bytes; none if one begins before the end of the previous one,
-- or ends after its group's range
abbrev pub placed_in : Layout → ℕ → ℕ → ℕ → InputSection → Option ℕ
placed_in l part end cursor s =
    if has_range_bytes l s && s.part == part
    then (if nat_le cursor s.address && nat_le (s.address + s.size) end then Some (s.address + s.size) else None)
    else Some cursor

-- the same for all input sections in a file's ranges
abbrev pub file_placed_in : Layout → ℕ → ℕ → ℕ → File → Option ℕ
file_placed_in l part end cursor f = through (placed_in l part end) cursor (sections_in_ranges l f)

-- the group's input sections of a part are in its range from start to end, in order and without overlap
abbrev pub part_placed : Layout → ℕ → ℕ → ℕ → Group → Bool
part_placed l part start end g = is_some (through (file_placed_in l part end) start g.files)

-- the same for all parts from number part on, whose ranges begin at starts
abbrev pub parts_placed : Layout → Group → ℕ → List ℕ → Bool
parts_placed l g part [] = true
parts_placed l g part (start ∷ starts) = part_placed l part start (start + given part g) g && parts_placed l g (part + 1) starts

-- the first group with a misplaced input section; the ranges of the first group begin at starts
abbrev pub section_misplaced : Layout → List ℕ → ℕ → List Group → Option ℕ
section_misplaced l starts i [] = None
section_misplaced l starts i (g ∷ gs) = if parts_placed l g 0 starts then section_misplaced l (ends_of g 0 starts) (i + 1) gs else Some i

-- the section is sorted: its place follows the order of the layout
abbrev pub is_sorted : Slot → Bool
is_sorted slot.Sorted = true
is_sorted other = false

-- the entry names that section
abbrev pub names_section : ℕ → ℕ → ℕ → SortedSection → Bool
names_section group file section x = x.group == group && (x.file == file && x.section == section)

-- how many entries of the order name that section
abbrev pub times_named : List SortedSection → ℕ → ℕ → ℕ → ℕ
times_named [] group file section = 0
times_named (x ∷ xs) group file section = if names_section group file section x then times_named xs group file section + 1 else times_named xs group file section

-- a sorted section is named exactly once
abbrev pub is_named_once : Layout → ℕ → ℕ → ℕ → InputSection → Bool
is_named_once l group file section s = not (is_sorted s.slot) || times_named l.sorted group file section == 1

-- the same for the sections of a file from number k on, and for those of a group's files
abbrev pub sections_named_once : Layout → ℕ → ℕ → ℕ → List InputSection → Bool
sections_named_once l group file k [] = true
sections_named_once l group file k (s ∷ ss) = is_named_once l group file k s && sections_named_once l group file (k + 1) ss

abbrev pub files_named_once : Layout → ℕ → ℕ → List File → Bool
files_named_once l group k [] = true
files_named_once l group k (f ∷ fs) = sections_named_once l group k 0 f.sections && files_named_once l group (k + 1) fs

-- the first group, from number i on, with a sorted section that is not named exactly once
abbrev pub sorted_named_once : Layout → ℕ → List Group → Option ℕ
sorted_named_once l i [] = None
sorted_named_once l i (g ∷ gs) = if files_named_once l i 0 g.files then sorted_named_once l (i + 1) gs else Some i

-- the entry of the order names a sorted section
abbrev pub names_sorted : Layout → SortedSection → Bool
names_sorted l x = not (length (sorted_input l x) == 0)

-- the section may have no bytes: merged strings are written elsewhere, and the bytes of a relocation table are generated
abbrev pub may_lack_bytes : Slot → Bool
may_lack_bytes slot.Merge = true
may_lack_bytes slot.Rela = true
may_lack_bytes other = false

-- bytes have the length size; an input section without data has none
abbrev pub length_fits : InputSection → Bool
length_fits s = is_discarded s.slot || (if s.nobits then length s.bytes == 0 else length s.bytes == s.size || (may_lack_bytes s.slot && length s.bytes == 0))

abbrev pub is_frames_part : Option Part → Bool
is_frames_part None = false
is_frames_part (Some p) = has_role role.EhFrame p

-- frames lie in the part of frames
abbrev pub frames_part_fits : Layout → InputSection → Bool
frames_part_fits l s = not (is_frame s.slot) || is_frames_part (slice_get l.parts s.part)

abbrev pub discarded_is_empty : InputSection → Bool
discarded_is_empty s = not (is_discarded s.slot) || (s.address == 0 && length s.bytes == 0)

abbrev pub is_raw : Option Part → Bool
is_raw None = false
is_raw (Some p) = raw p.role
  where
    raw : Role → Bool
    raw role.Raw = true
    raw other = false

-- other input sections lie in raw parts
abbrev pub part_is_raw : Layout → InputSection → Bool
part_is_raw l s = is_discarded s.slot || (is_frame s.slot || is_raw (slice_get l.parts s.part))

-- the part can contain bytes: it is raw, and in a section with data unless `none` says that there are no bytes
abbrev pub holds_bytes : Layout → Bool → Option Part → Bool
holds_bytes l none None = false
holds_bytes l none (Some p) = is_raw (Some p) && (none || has_data l p.section)

-- the same for merged strings, and for the linker's identity string if it has bytes
abbrev pub merged_is_raw : Layout → Merged → Bool
merged_is_raw l m = holds_bytes l (0 == merged_size m) (slice_get l.parts m.part)

abbrev pub identity_is_raw : Layout → Bool
identity_is_raw l = length l.identity.bytes == 0 || holds_bytes l false (slice_get l.parts l.identity.part)

-- the part can contain code that the linker generates: it is raw and in an allocated section with data
abbrev pub holds_thunks : Layout → Option Part → Bool
holds_thunks l None = false
holds_thunks l (Some p) = is_raw (Some p) && (has_data l p.section && is_allocated_section l p.section)

-- thunks are placed in such a part
abbrev pub primary_fits : Layout → Bool
primary_fits l = not (has_thunks l) || holds_thunks l (slice_get l.parts l.primary_part)

-- the part begins with merged strings or with the linker's identity string
abbrev pub has_front : Layout → ℕ → Bool
has_front l part = list_any (λ (m : Merged). m.part == part) l.merged || (not (length l.identity.bytes == 0) && l.identity.part == part)

-- the section has bytes, or zeros in a section with data
abbrev pub takes_bytes : Layout → InputSection → Bool
takes_bytes l s = not (length s.bytes == 0) || brings_bytes l s

-- the part of a section with bytes does not begin with those strings
abbrev pub leaves_front : Layout → InputSection → Bool
leaves_front l s = not (takes_bytes l s) || not (has_front l s.part)

-- the same for all input sections in the file's ranges, and for its thunks
abbrev pub file_leaves_front : Layout → File → Bool
file_leaves_front l f = list_all (leaves_front l) (sections_in_ranges l f) && (length (thunks_of l f) == 0 || not (has_front l l.primary_part))

abbrev pub group_leaves_front : Layout → Option Group → Bool
group_leaves_front l None = true
group_leaves_front l (Some g) = list_all (file_leaves_front l) g.files

-- no other bytes of the first group are in the parts of merged strings or the linker's identity string
abbrev pub front_is_free : Layout → Bool
front_is_free l = group_leaves_front l (slice_get l.groups 0)

-- the section is written, so that it must be allocated exactly if its part's section is
abbrev pub has_room : Slot → Bool
has_room slot.Loaded = true
has_room slot.Sorted = true
has_room slot.Frame = true
has_room other = false

-- an input section that is written is allocated exactly if its part's section is
abbrev pub allocation_agrees : Layout → InputSection → Bool
allocation_agrees l s = is_partial_link l.kind || not (has_room s.slot) || bool_eq (allocated s.flags) (is_allocated_part l s.part)

-- the section has bytes, or bytes are generated for it
abbrev pub has_or_gets_bytes : InputSection → Bool
has_or_gets_bytes s = not (length s.bytes == 0) || (is_rela s.slot && not (s.size == 0))

-- no bytes are placed in a section without data
abbrev pub bytes_take_room : Layout → InputSection → Bool
bytes_take_room l s = not (has_or_gets_bytes s) || has_data l (section_of l s.part)

-- ---- clause 10: fields

abbrev pub field_lies : Machine → InputSection → InputRelocation → Bool
field_lies m s r = field_bytes m r.number == 0 || nat_le (r.offset + field_bytes m r.number) s.size

abbrev pub fields_lie : Machine → InputSection → Bool
fields_lie m s = list_all (field_lies m s) s.relocations

-- the reader of the input failed at no relocation; in frames the frames' own check reports that
abbrev pub is_read_well : InputRelocation → Bool
is_read_well r = not r.malformed

abbrev pub relocations_are_read : InputSection → Bool
relocations_are_read s = is_frame s.slot || list_all is_read_well s.relocations

-- ---- clause 15: thread-local data (ELF TLS)

-- only x86-64 may have the local-dynamic pair
abbrev pub tlsld_fits : Machine → Option ℕ → Bool
tlsld_fits machines.AArch64 (Some a) = false
tlsld_fits machine tlsld = true

-- the initial data ends at its beginning or later, and begins at a multiple of its alignment
abbrev pub tls_fits : Layout → Bool
tls_fits l = nat_le l.tls.start l.tls.end && multiple_of l.tls.align l.tls.start && tlsld_fits l.machine l.tlsld
