-- The kept entries of an input section of frames, as items (LSB, "The .eh_frame section").
--   frames_in l s          the frames of an input section, with the targets of its relocations' symbols
--   frames_item l f s at   the kept entries, consecutively from an address on
--   IsFrameInput l s       an input section of frames, with the position of the section in its group
--   frames_address l s k   the address of its kept entries
use Rattle.std.specs.Prelude.{◌≡◌, ℕ, ◌+◌, ◌-◌, ◌==◌, ◌&&◌, false, not, if◌then◌else◌, List, [], ◌∷◌, ◌++◌, length, map, Contains, Option, Some, None, slice_get}
use Rattle.std.specs.List.{flat_map}
use Rattle.std.specs.Int.RustNames.{bit_and}
use Rattle.wild_records.specs.Abi.Section.{shf_write, shf_alloc, shf_execinstr}
use Rattle.wild_types.specs.declared.symbol.Place.{Place}
use Rattle.wild_types.specs.declared.symbol.Place.TheVariants as at
use Rattle.wild_types.specs.declared.symbol.Symbol.{Symbol}
use Rattle.wild_types.specs.declared.input.Slot.{Slot}
use Rattle.wild_types.specs.declared.input.Slot.TheVariants as slot
use Rattle.wild_types.specs.declared.input.InputRelocation.{InputRelocation}
use Rattle.wild_types.specs.declared.input.InputSection.{InputSection}
use Rattle.wild_types.specs.declared.part.Part.{Part}
use Rattle.wild_types.specs.declared.part.Role.TheVariants as role
use Rattle.wild_types.specs.declared.file.File.{File}
use Rattle.wild_types.specs.declared.file.Group.{Group}
use Rattle.wild_types.specs.declared.layout.Layout.{Layout}
use Rattle.wild_types.specs.Item.{Item, block_for}
use Rattle.wild_types.specs.Lists.{total}
use Rattle.wild_types.specs.Lookups.{has_address, files_of, file_of}
use Rattle.wild_types.specs.Parts.{part_with}
use Rattle.wild_types.specs.Rows.{field_bytes}
use Rattle.wild_frames.specs.declared.frames.Target.{Target}
use Rattle.wild_frames.specs.declared.frames.Target.TheVariants as target
use Rattle.wild_frames.specs.declared.entry.KeptEntry.{KeptEntry}
use Rattle.wild_frames.specs.Frames.{Frames, kept_in, frame_bytes, relocations_in}
use Rattle.wild_meaning.specs.Section.{IsSet, IsHeaderOnly}

-- ---- the code that an FDE describes

abbrev pub code_section : Layout → Option InputSection → Target
code_section l None = target.NoSection
code_section l (Some s) = if has_address l s && not (s.size == 0) then target.Loaded else target.Discarded

abbrev pub code_in : Layout → ℕ → Option File → Target
code_in l k None = target.NoSection
code_in l k (Some f) = code_section l (slice_get f.sections k)

-- a symbol at a place of its own file
abbrev pub code_at : Layout → ℕ → Place → Target
code_at l i (at.Section k) = code_in l k (file_of (files_of l.groups) i)
code_at l i other = target.NoSection

abbrev pub code_by : Layout → ℕ → Option Symbol → Target
code_by l i None = target.NoSection
code_by l i (Some s) = code_at l i s.place

abbrev pub code_of : Layout → Option ℕ → Target
code_of l None = target.NoSection
code_of l (Some i) = code_by l i (slice_get l.symbols i)

-- the frames of an input section; empty if it has no data
abbrev pub frames_in : Layout → InputSection → Frames
frames_in l s = record {
  bytes = if s.nobits then [] else s.bytes;
  relocations = if s.nobits then [] else s.relocations;
  width = λ r. field_bytes l.machine r.number;
  target = λ r. code_of l r.symbol;
}

-- ---- the kept entries

-- a relocation of an entry, moved with its entry
abbrev pub relocation_of_entry : KeptEntry → InputRelocation → InputRelocation
relocation_of_entry k r = record { offset = k.to + (r.offset - k.from); number = r.number; symbol = r.symbol; addend = r.addend; malformed = r.malformed }

abbrev pub entry_references : Frames → KeptEntry → List InputRelocation
entry_references fs k = map (relocation_of_entry k) (relocations_in k.from (k.from + k.size) fs.relocations)

-- the flag is not set
abbrev pub without : ℕ → ℕ → ℕ
without flags flag = if bit_and flags flag == flag then flags - flag else flags

-- the kept entries, placed consecutively, with their new CIE ids; they count as read-only and not executable
abbrev pub frames_item_of : Frames → ℕ → ℕ → ℕ → Item
frames_item_of fs flags at block = record {
  address = at;
  flags = without (without flags shf_write) shf_execinstr;
  bytes = frame_bytes fs;
  relocations = flat_map (entry_references fs) (kept_in fs);
  thunk_block = block;
}

-- the same, with the block of thunks that the file uses for it
abbrev pub frames_item : Layout → File → InputSection → ℕ → Item
frames_item l f s at = frames_item_of (frames_in l s) s.flags at (block_for l f s)

-- ---- addresses

abbrev pub kept_by : Slot → Layout → InputSection → ℕ
kept_by slot.Frame l s = length (frame_bytes (frames_in l s))
kept_by other l s = 0

-- the number of frame bytes that are kept of an input section
abbrev pub kept_bytes : Layout → InputSection → ℕ
kept_bytes l s = kept_by s.slot l s

abbrev pub kept_of_file : Layout → File → ℕ
kept_of_file l f = total (kept_bytes l) f.sections

abbrev pub address_of_part : Option Part → ℕ
address_of_part None = 0
address_of_part (Some p) = p.address

-- an allocated input section of frames that is written, with the files of its group and the sections of its file before it
pub record IsFrameInput (l : Layout) (s : InputSection) : Type 0 where
  pub frame : s.slot ≡ slot.Frame
  pub room : IsSet s.flags shf_alloc
  pub has_data : s.nobits ≡ false
  pub written : (p : Part) → part_with role.EhFrame l.parts ≡ Some p → IsHeaderOnly l p → ⊥
  pub group : Group
  pub grouped : Contains l.groups group
  pub files : List File
  pub file : File
  pub files_behind : List File
  pub filed : group.files ≡ files ++ (file ∷ files_behind)
  pub sections : List InputSection
  pub sections_behind : List InputSection
  pub listed : file.sections ≡ sections ++ (s ∷ sections_behind)

-- the address of its kept entries: after those of the sections before it, from the group's start in the frame part on
abbrev pub frames_address : (l : Layout) (s : InputSection) → IsFrameInput l s → ℕ
frames_address l s k = address_of_part (part_with role.EhFrame l.parts) + k.group.eh_frame_start + total (kept_of_file l) k.files + total (kept_bytes l) k.sections
