-- Placed sections, as the code represents them.
--   placed_content l f at s   a placed section of file f, with its relocations at the input's offsets and the fault of its frames
--   sorted_content l s         the same for a sorted section
--   inputs l r               a sorted section with its file, as a loaded one
--   copy_with k rs s         a section with another kind and other relocations
--   placed_at s r            a relocation of the target of a table, with the offset that the table has
--   StaysLow k r             the new offset of a relocation of a kept entry fits 64 bits
use Rattle.std.specs.List.{flat_map}
use Rattle.std.specs.Prelude.{◌≡◌, ℕ, false, length, ◌+◌, ◌-◌, ◌<◌, ◌^◌, if◌then◌else◌, List, [], ◌∷◌, map, All, Option, Some, None}
use Rattle.wild_types.specs.declared.input.InputRelocation.{InputRelocation}
use Rattle.wild_types.specs.declared.input.InputSection.{InputSection}
use Rattle.wild_types.specs.declared.file.File.{File}
use Rattle.wild_types.specs.declared.layout.Layout.{Layout}
use Rattle.wild_types.specs.declared.input.Slot.{Slot}
use Rattle.wild_types.specs.declared.input.Slot.TheVariants as slot
use Rattle.wild_types.specs.Lookups.{is_frame}
use Rattle.wild_frames.specs.declared.entry.BadFrame.{BadFrame}
use Rattle.wild_frames.specs.declared.entry.KeptEntry.{KeptEntry}
use Rattle.wild_frames.specs.declared.entry.Found.{Found}
use Rattle.wild_frames.specs.declared.entry.Found.TheVariants as finds
use Rattle.wild_frames.specs.Frames.{Frames, found_bytes}
use Rattle.wild_frames.specs.Faults.{frame_errors}
use Rattle.wild_placement.specs.declared.sort_order.SortedInput.{SortedInput}
use Rattle.wild_placement.specs.ReversedWords.{with_word_order, reversed_offset}
use Rattle.wild_placement.specs.FrameInputs.{frames_of}
use Rattle.wild_placement.specs.PlacedSections.{Input, as_loaded, entry_relocations, moved_relocation, frame_flags, placed_frames, kept_relocations, placed_section, origins_of, unread, base_of, counted_from}

-- a placed section, its relocations at the input's offsets, and the fault that ends its frames
pub record PlacedContent : Type 0 where
  pub section : InputSection
  pub origins : List InputRelocation
  pub faults : List BadFrame

-- the fault of a section of frames: at most one
abbrev pub frame_faults : Layout → File → InputSection → List BadFrame
frame_faults l f s = if is_frame s.slot then frame_errors (frames_of l f s) else []

abbrev pub placed_content : Layout → File → ℕ → InputSection → PlacedContent
placed_content l f at s = record { section = placed_section l f at s; origins = origins_of l f s; faults = frame_faults l f s }

-- a placed section of frames
abbrev pub frames_content : Layout → File → ℕ → InputSection → PlacedContent
frames_content l f at s = record { section = placed_frames l f at s; origins = kept_relocations (frames_of l f s); faults = frame_errors (frames_of l f s) }

-- a placed section other than frames, of the form x
abbrev pub unframed_content : Layout → InputSection → InputSection → PlacedContent
unframed_content l s x = record { section = x; origins = (unread l s).relocations; faults = [] }

abbrev pub sorted_content : Layout → InputSection → PlacedContent
sorted_content l s = unframed_content l s (with_word_order (as_loaded (unread l s)))

-- a section with another kind and other relocations
abbrev pub copy_with : Slot → List InputRelocation → InputSection → InputSection
copy_with k rs s = record {
  slot = k;
  name = s.name;
  part = s.part;
  address = s.address;
  size = s.size;
  flags = s.flags;
  nobits = s.nobits;
  reversed = s.reversed;
  singleton = s.singleton;
  target = s.target;
  members = s.members;
  bytes = s.bytes;
  strings = s.strings;
  relocations = rs;
}

-- a relocation of a section, at the new offset of its word if the section is reversed
abbrev pub at_reversed_word : InputSection → InputRelocation → InputRelocation
at_reversed_word s r = if s.reversed then reversed_offset s.size r else r

-- a relocation of the target of a table, with the offset that the table has
abbrev pub placed_at : InputSection → InputRelocation → InputRelocation
placed_at s r = counted_from (base_of s) (at_reversed_word s r)

-- a sorted section that was found, as a loaded one
abbrev pub inputs : Layout → Option SortedInput → List Input
inputs l None = []
inputs l (Some x) = record { file = x.file.now; section = as_loaded (unread l x.section.now) } ∷ []

-- the new offset of a relocation of a kept entry fits 64 bits
abbrev pub StaysLow : KeptEntry → InputRelocation → Type 0
StaysLow k r = k.to + (r.offset - k.from) < 2 ^ 64

abbrev pub StayLow : List InputRelocation → Found → Type 0
StayLow own (finds.Kept k) = All (StaysLow k) own
StayLow own _ = Unit {0}

-- the relocations of what was found, at their new offsets
abbrev pub found_moved : List InputRelocation → Found → List InputRelocation
found_moved own (finds.Kept k) = map (moved_relocation k) own
found_moved own _ = []

-- the relocations of what was found, at the input's offsets
abbrev pub found_kept : Frames → Found → List InputRelocation
found_kept s (finds.Kept k) = entry_relocations s k
found_kept s _ = []

-- the same at their new offsets
abbrev pub found_placed : Frames → Found → List InputRelocation
found_placed s f = found_moved (found_kept s f) f

-- the relocations, if what was found is kept
abbrev pub own_kept : List InputRelocation → Found → List InputRelocation
own_kept own (finds.Kept k) = own
own_kept own _ = []

-- the fault after the step that found f
abbrev pub fault_after : Option BadFrame → Found → Option BadFrame
fault_after fault (finds.Bad w at) = Some (record { why = w; offset = at })
fault_after fault _ = fault

-- the kept bytes of frames, and their relocations at the input's offsets and at the new ones
pub record AreKept (s : Frames) (fs : List Found) (bytes : List ℕ) (origins moved : List InputRelocation) : Type 0 where
  pub written : bytes ≡ flat_map (found_bytes s) fs
  pub from : origins ≡ flat_map (found_kept s) fs
  pub to : moved ≡ flat_map (found_placed s) fs

-- a placed section of frames, made of its kept bytes and its relocations at their new offsets
abbrev pub placed_frames_of : InputSection → ℕ → List ℕ → List InputRelocation → InputSection
placed_frames_of s at bytes moved = record {
  slot = slot.Frame;
  name = [];
  part = s.part;
  address = at;
  size = length bytes;
  flags = frame_flags s.flags;
  nobits = false;
  reversed = false;
  singleton = None;
  target = 0;
  members = [];
  bytes = bytes;
  strings = [];
  relocations = moved;
}
