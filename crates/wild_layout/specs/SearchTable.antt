-- The search table of the frames of all files (LSB, "The .eh_frame_hdr section").
--   code_of l fs k         the start address of the code that an FDE describes
--   layout_fdes l          the FDEs that are kept, in the order of the files, each with its address
--   search_table l         the table, if the option requires one
--   search_table_faults l  the faults of frames too far from it
use Rattle.std.specs.Prelude.{ℕ, not, ◌&&◌, if◌then◌else◌, List, [], ◌∷◌, ◌++◌, map}
use Rattle.std.specs.List.{flat_map}
use Rattle.wild_types.specs.declared.fault.Fault.{Fault}
use Rattle.wild_types.specs.declared.fault.Fault.TheVariants as faults
use Rattle.wild_types.specs.declared.part.Role.{Role}
use Rattle.wild_types.specs.declared.part.Role.TheVariants as role
use Rattle.wild_types.specs.declared.input.InputRelocation.{InputRelocation}
use Rattle.wild_types.specs.declared.input.InputSection.{InputSection}
use Rattle.wild_types.specs.declared.file.File.{File}
use Rattle.wild_types.specs.declared.file.Group.{Group}
use Rattle.wild_types.specs.declared.layout.Layout.{Layout}
use Rattle.wild_types.specs.Lookups.{is_frame}
use Rattle.wild_types.specs.HeaderOnly.{is_header_only_role}
use Rattle.wild_types.specs.Parts.{part_with}
use Rattle.wild_frames.specs.declared.entry.KeptEntry.{KeptEntry}
use Rattle.wild_frames.specs.declared.table.Fde.{Fde}
use Rattle.wild_frames.specs.declared.table.TableError.{TableError}
use Rattle.wild_frames.specs.declared.table.TableError.TheVariants as table_error
use Rattle.wild_frames.specs.Frames.{Frames, fdes_in}
use Rattle.wild_frames.specs.Table.{table_of, table_errors}
use Rattle.wild_placement.specs.FrameInputs.{frames_of, kept_size}
use Rattle.wild_placement.specs.PlacedSections.{entry_relocations, file_frames, frames_at, address_after, part_address}
use Rattle.wild_layout.specs.SymbolValues.{sum, raw_address}
use Rattle.wild_layout.specs.RelativeRelocations.{value_or_0}

-- S + A of the first relocation
abbrev pub code_at : Layout → List InputRelocation → ℕ
code_at l [] = 0
code_at l (r ∷ rs) = sum (value_or_0 (raw_address l r.symbol)) r.addend

-- the start address of the code that an FDE describes (LSB, PC Begin), by its first relocation
abbrev pub code_of : Layout → Frames → KeptEntry → ℕ
code_of l fs k = code_at l (entry_relocations fs k)

-- an FDE of frames that begin at an address
abbrev pub fde_at : Layout → Frames → ℕ → KeptEntry → Fde
fde_at l fs at k = record { code = code_of l fs k; address = address_after at k.to }

abbrev pub section_fdes : Layout → File → ℕ → InputSection → List Fde
section_fdes l f at s = if is_frame s.slot then map (fde_at l (frames_of l f s) at) (fdes_in (frames_of l f s)) else []

abbrev pub sections_fdes : Layout → File → ℕ → List InputSection → List Fde
sections_fdes l f at [] = []
sections_fdes l f at (s ∷ ss) = section_fdes l f at s ++ sections_fdes l f (address_after at (kept_size l f s)) ss

abbrev pub files_fdes : Layout → ℕ → List File → List Fde
files_fdes l at [] = []
files_fdes l at (f ∷ fs) = sections_fdes l f at f.sections ++ files_fdes l (address_after at (file_frames l f)) fs

abbrev pub group_fdes : Layout → Group → List Fde
group_fdes l g = files_fdes l (frames_at l g) g.files

unfoldable pub layout_fdes : Layout → List Fde
layout_fdes l = flat_map (group_fdes l) l.groups

abbrev pub address_of_role : Layout → Role → ℕ
address_of_role l r = part_address (part_with r l.parts)

-- the table, if the option requires one
unfoldable pub search_table : Layout → List ℕ
search_table l = if l.options.eh_frame_hdr then table_of (address_of_role l role.EhFrameHdr) (address_of_role l role.EhFrame) (layout_fdes l) else []

abbrev pub fault_of : TableError → Fault
fault_of (table_error.FrameOffsetOverflow v) = faults.FrameOffsetOverflow v
fault_of table_error.OutOfMemory = faults.OutOfMemory

-- the faults of frames too far from it, if it is written
unfoldable pub search_table_faults : Layout → List Fault
search_table_faults l = if l.options.eh_frame_hdr && not (is_header_only_role l role.EhFrameHdr) then map fault_of (table_errors (address_of_role l role.EhFrameHdr) (address_of_role l role.EhFrame) (layout_fdes l)) else []
