-- The frames of input files (LSB, "The .eh_frame section").
--   section_target l s     where a symbol in that section is defined, as far as it decides which FDEs are kept
--   target_of l f r        the target of a relocation of file f
--   frames_of l f s        the frames of an input section of file f; empty for a section without data
--   kept_size l f s        the number of bytes that are kept of them, and fde_count l f s the number of FDEs
use Rattle.std.specs.Prelude.{ℕ, ◌+◌, ◌==◌, ◌&&◌, Bool, true, false, not, if◌then◌else◌, nat_le, nat_lt, List, [], length, Option, Some, None, slice_get}
use Rattle.wild_types.specs.declared.symbol.Place.{Place}
use Rattle.wild_types.specs.declared.symbol.Place.TheVariants as at
use Rattle.wild_types.specs.declared.symbol.Symbol.{Symbol}
use Rattle.wild_types.specs.declared.input.InputRelocation.{InputRelocation}
use Rattle.wild_types.specs.declared.input.InputSection.{InputSection}
use Rattle.wild_types.specs.declared.file.File.{File}
use Rattle.wild_types.specs.declared.layout.Layout.{Layout}
use Rattle.wild_types.specs.Lookups.{has_address, is_frame, files_of, file_of}
use Rattle.wild_types.specs.Rows.{field_bytes}
use Rattle.wild_frames.specs.declared.frames.Target.{Target}
use Rattle.wild_frames.specs.declared.frames.Target.TheVariants as target
use Rattle.wild_frames.specs.Frames.{Frames, frame_bytes, fdes_in}

abbrev pub section_target : Layout → Option InputSection → Target
section_target l None = target.NoSection
section_target l (Some s) = if has_address l s && not (s.size == 0) then target.Loaded else target.Discarded

-- the file's range of symbols contains symbol i
abbrev pub has_symbol : File → ℕ → Bool
has_symbol f i = nat_le f.first_symbol i && nat_lt i (f.first_symbol + f.symbol_count)

abbrev pub target_in : Layout → ℕ → Option File → Target
target_in l k None = target.NoSection
target_in l k (Some f) = section_target l (slice_get f.sections k)

-- the file of symbol i: file f if it is one of its own, else the first file that contains it
abbrev pub defining_file_of : Layout → File → ℕ → Option File
defining_file_of l f i = if has_symbol f i then Some f else file_of (files_of l.groups) i

abbrev pub target_at : Layout → File → ℕ → Place → Target
target_at l f i (at.Section k) = target_in l k (defining_file_of l f i)
target_at l f i other = target.NoSection

abbrev pub symbol_target : Layout → File → ℕ → Option Symbol → Target
symbol_target l f i None = target.NoSection
symbol_target l f i (Some s) = target_at l f i s.place

abbrev pub target_by : Layout → File → Option ℕ → Target
target_by l f None = target.NoSection
target_by l f (Some i) = symbol_target l f i (slice_get l.symbols i)

-- the target of a relocation of file f
unfoldable pub target_of : Layout → File → InputRelocation → Target
target_of l f r = target_by l f r.symbol

-- the frames of an input section of file f
abbrev pub frames_of : Layout → File → InputSection → Frames
frames_of l f s = record {
  bytes = if s.nobits then [] else s.bytes;
  relocations = if s.nobits then [] else s.relocations;
  width = λ r. field_bytes l.machine r.number;
  target = target_of l f;
}

-- the number of bytes that are kept of a section of frames, and the number of FDEs; 0 for other sections
unfoldable pub kept_size : Layout → File → InputSection → ℕ
kept_size l f s = if is_frame s.slot then length (frame_bytes (frames_of l f s)) else 0

unfoldable pub fde_count : Layout → File → InputSection → ℕ
fde_count l f s = if is_frame s.slot then length (fdes_in (frames_of l f s)) else 0
