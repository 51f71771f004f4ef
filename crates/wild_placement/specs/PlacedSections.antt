-- Placed input sections: input sections in the form that they have in the output.
--   kept_relocations fs     the relocations of the kept entries of frames, at the input's offsets
--   moved_relocations fs     the same at the entries' new offsets
--   placed_frames l f at s         a placed section of frames: its kept entries are consecutive, from an address on
--   origins_of l f s        the relocations of a placed section, at the input's offsets
--   unread l s              in a relocatable object, a section without its relocations, which are in a separate table
--   rela_with_target f s              a table of relocations: those of its target, at their offsets in the output
--   placed_section l f at s   a placed section of file f
--   placed_file l at f        a file with placed sections, whose frames begin at an address
--   file_frames l f         the number of bytes of frames that a file keeps
--   placed_files l g          the files of a group with placed sections: the frames are consecutive, from the start of the group's frames on
--   sorted_inputs l         the sections that are placed in the order of `sorted`, each with its file
--   processed_sections l f           the sections for which a file writes entries: its own; for the last file also the sorted ones
use Rattle.std.specs.Prelude.{ℕ, ◌+◌, ◌-◌, ◌%◌, ◌^◌, ◌&&◌, Bool, true, false, not, if◌then◌else◌, nat_le, nat_lt, List, [], ◌∷◌, ◌++◌, length, map, Option, Some, None, is_some, slice_get}
use Rattle.std.specs.List.{flat_map}
use Rattle.wild_records.specs.Abi.Section.{shf_write, shf_execinstr}
use Rattle.wild_types.specs.declared.part.Part.{Part}
use Rattle.wild_types.specs.declared.part.Role.TheVariants as role
use Rattle.wild_types.specs.declared.input.Slot.{Slot}
use Rattle.wild_types.specs.declared.input.Slot.TheVariants as slot
use Rattle.wild_types.specs.declared.input.InputRelocation.{InputRelocation}
use Rattle.wild_types.specs.declared.input.InputSection.{InputSection}
use Rattle.wild_types.specs.declared.file.File.{File}
use Rattle.wild_types.specs.declared.file.Group.{Group}
use Rattle.wild_types.specs.declared.layout.SortedSection.{SortedSection}
use Rattle.wild_types.specs.declared.layout.Layout.{Layout}
use Rattle.wild_types.specs.FileRoles.{is_epilogue}
use Rattle.wild_types.specs.Kinds.{is_partial_link}
use Rattle.wild_types.specs.Lists.{total}
use Rattle.wild_types.specs.Lookups.{writable, executable, is_frame}
use Rattle.wild_types.specs.Parts.{part_with}
use Rattle.wild_frames.specs.declared.entry.KeptEntry.{KeptEntry}
use Rattle.wild_frames.specs.Frames.{Frames, kept_in, frame_bytes, relocations_in}
use Rattle.wild_placement.specs.ReversedWords.{with_word_order}
use Rattle.wild_placement.specs.FrameInputs.{frames_of, kept_size, fde_count}

-- ---- frames

-- the relocations of a kept entry, at the input's offsets
abbrev pub entry_relocations : Frames → KeptEntry → List InputRelocation
entry_relocations fs k = relocations_in k.from (k.from + k.size) fs.relocations

-- a relocation of a kept entry, at the entry's new offset
abbrev pub moved_relocation : KeptEntry → InputRelocation → InputRelocation
moved_relocation k r = record { offset = k.to + (r.offset - k.from); number = r.number; symbol = r.symbol; addend = r.addend; malformed = r.malformed }

-- the relocations of all kept entries, at the input's offsets
unfoldable pub kept_relocations : Frames → List InputRelocation
kept_relocations fs = flat_map (entry_relocations fs) (kept_in fs)

-- the same at the entries' new offsets
unfoldable pub moved_relocations : Frames → List InputRelocation
moved_relocations fs = flat_map (λ k. map (moved_relocation k) (entry_relocations fs k)) (kept_in fs)

-- frames are read-only data: the program neither writes nor executes them
abbrev pub without_write : ℕ → ℕ
without_write flags = if writable flags then flags - shf_write else flags

abbrev pub frame_flags : ℕ → ℕ
frame_flags flags = if executable (without_write flags) then without_write flags - shf_execinstr else without_write flags

abbrev pub placed_frames_with : InputSection → ℕ → Frames → InputSection
placed_frames_with s at fs = record {
  slot = slot.Frame;
  name = [];
  part = s.part;
  address = at;
  size = length (frame_bytes fs);
  flags = frame_flags s.flags;
  nobits = false;
  reversed = false;
  singleton = None;
  target = 0;
  members = [];
  bytes = frame_bytes fs;
  strings = [];
  relocations = moved_relocations fs;
}

-- a placed section of frames
abbrev pub placed_frames : Layout → File → ℕ → InputSection → InputSection
placed_frames l f at s = placed_frames_with s at (frames_of l f s)

-- ---- relocatable objects

-- in a relocatable object a section has the input's bytes, whatever its relocations are: these are in a separate table (gABI,
-- "Relocation")
abbrev pub without_relocations : InputSection → InputSection
without_relocations s = record {
  slot = s.slot;
  name = s.name;
  part = s.part;
  address = s.address;
  size = s.size;
  flags = s.flags;
  nobits = s.nobits;
  reversed = s.reversed;
  singleton = s.singleton;
  target = s.target;
  members = s.members;
  bytes = s.bytes;
  strings = s.strings;
  relocations = [];
}

abbrev pub unread : Layout → InputSection → InputSection
unread l s = if is_partial_link l.kind then without_relocations s else s

-- the offset of an input section in its output section; 0 for one that the object keeps as a section of its own
abbrev pub base_of : InputSection → ℕ
base_of s = if is_some s.singleton then 0 else s.address

-- a relocation of a section that begins at offset base of its output section (gABI, "Relocation": in a relocatable file r_offset is
-- counted from the beginning of the section)
abbrev pub counted_from : ℕ → InputRelocation → InputRelocation
counted_from base r = record { offset = (base + r.offset) % 2 ^ 64; number = r.number; symbol = r.symbol; addend = r.addend; malformed = r.malformed }

abbrev pub relocations_at : Option InputSection → List InputRelocation
relocations_at None = []
relocations_at (Some s) = map (counted_from (base_of s)) (with_word_order s).relocations

-- the relocations of the target of a table of relocations, in its file
abbrev pub target_relocations : File → InputSection → List InputRelocation
target_relocations f s = relocations_at (slice_get f.sections s.target)

-- a table of relocations, with those of its target
abbrev pub rela_with_target : File → InputSection → InputSection
rela_with_target f s = record {
  slot = slot.Rela;
  name = [];
  part = s.part;
  address = s.address;
  size = s.size;
  flags = s.flags;
  nobits = s.nobits;
  reversed = false;
  singleton = None;
  target = s.target;
  members = [];
  bytes = [];
  strings = [];
  relocations = target_relocations f s;
}

-- the relocations of a placed section, at the input's offsets
abbrev pub origins_of : Layout → File → InputSection → List InputRelocation
origins_of l f s = if is_frame s.slot then kept_relocations (frames_of l f s) else (unread l s).relocations

-- ---- files

-- a placed section of file f; at is the address of the file's next frames
abbrev pub placed_by : Slot → Layout → File → ℕ → InputSection → InputSection
placed_by slot.Loaded l f at s = with_word_order (unread l s)
placed_by slot.Debug l f at s = with_word_order s
placed_by slot.Frame l f at s = placed_frames l f at s
placed_by slot.Rela l f at s = rela_with_target f s
placed_by other l f at s = s

unfoldable pub placed_section : Layout → File → ℕ → InputSection → InputSection
placed_section l f at s = placed_by s.slot l f at s

-- the address after n bytes, modulo 2^64
abbrev pub address_after : ℕ → ℕ → ℕ
address_after at n = (at + n) % 2 ^ 64

abbrev pub placed_sections : Layout → File → ℕ → List InputSection → List InputSection
placed_sections l f at [] = []
placed_sections l f at (s ∷ ss) = placed_section l f at s ∷ placed_sections l f (address_after at (kept_size l f s)) ss

-- a file with placed sections
abbrev pub placed_file : Layout → ℕ → File → File
placed_file l at f = record {
  role = f.role;
  first_symbol = f.first_symbol;
  symbol_count = f.symbol_count;
  sections = placed_sections l f at f.sections;
  thunk_block = f.thunk_block;
  owns_thunk_block = f.owns_thunk_block;
  lib_name = f.lib_name;
  copies = f.copies;
  verneed = f.verneed;
}

-- the number of bytes of frames that a file keeps
abbrev pub file_frames : Layout → File → ℕ
file_frames l f = total (kept_size l f) f.sections

abbrev pub placed_from : Layout → ℕ → List File → List File
placed_from l at [] = []
placed_from l at (f ∷ fs) = placed_file l at f ∷ placed_from l (address_after at (file_frames l f)) fs

abbrev pub part_address : Option Part → ℕ
part_address None = 0
part_address (Some p) = p.address

-- the address at which the frames of a group begin
abbrev pub frames_at : Layout → Group → ℕ
frames_at l g = address_after (part_address (part_with role.EhFrame l.parts)) g.eh_frame_start

-- the files of a group with placed sections
unfoldable pub placed_files : Layout → Group → List File
placed_files l g = placed_from l (frames_at l g) g.files

-- the number of FDEs that all files keep
abbrev pub all_fdes : Layout → ℕ
all_fdes l = total (λ (g : Group). total (λ (f : File). total (fde_count l f) f.sections) g.files) l.groups

-- ---- sorted sections

-- an input section of the layout with its file
pub record Input : Type 0 where
  pub file : File
  pub section : InputSection

-- a sorted section is written as a loaded one
abbrev pub as_loaded : InputSection → InputSection
as_loaded s = record {
  slot = slot.Loaded;
  name = s.name;
  part = s.part;
  address = s.address;
  size = s.size;
  flags = s.flags;
  nobits = s.nobits;
  reversed = s.reversed;
  singleton = s.singleton;
  target = s.target;
  members = s.members;
  bytes = s.bytes;
  strings = s.strings;
  relocations = s.relocations;
}

abbrev pub sorted_by : Layout → File → Slot → InputSection → List Input
sorted_by l f slot.Sorted s = record { file = f; section = as_loaded (unread l s) } ∷ []
sorted_by l f other s = []

abbrev pub sorted_in_file : Layout → File → Option InputSection → List Input
sorted_in_file l f None = []
sorted_in_file l f (Some s) = sorted_by l f s.slot s

abbrev pub sorted_in_group : Layout → Option File → ℕ → List Input
sorted_in_group l None k = []
sorted_in_group l (Some f) k = sorted_in_file l f (slice_get f.sections k)

abbrev pub files_at : Option Group → List File
files_at None = []
files_at (Some g) = g.files

-- the section to which an entry of the sort order refers, if it is a sorted one
unfoldable pub sorted_input : Layout → SortedSection → List Input
sorted_input l x = sorted_in_group l (slice_get (files_at (slice_get l.groups x.group)) x.file) x.section

-- the sorted sections in sort order, each with its file
abbrev pub sorted_inputs : Layout → List Input
sorted_inputs l = flat_map (sorted_input l) l.sorted

-- the sorted sections as placed
abbrev pub sorted_sections : Layout → List InputSection
sorted_sections l = map (λ (x : Input). with_word_order x.section) (sorted_inputs l)

-- the sorted sections belong to the last file
abbrev pub of_last_file : {X : Type 0} → File → List X → List X
of_last_file f xs = if is_epilogue f.role then xs else []

-- the sections for which a file writes entries, given a file with placed sections
abbrev pub processed_sections : Layout → File → List InputSection
processed_sections l f = f.sections ++ of_last_file f (sorted_sections l)
