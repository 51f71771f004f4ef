-- The computed search table of frames.
--   FaultIsFirst f fs      the fault is the first of these, and there is none if the list is empty
--   IsSearchTable l t      t is the layout's search table, if that is written, or has its first fault
--   found_fdes l fs at f   a record found in the frames, as an FDE with its address, if it is one that is kept
use Rattle.std.specs.Prelude.{◌≡◌, ℕ, true, false, List, [], ◌∷◌, map, Option, None, Some}
use Rattle.wild_types.specs.declared.fault.Fault.{Fault}
use Rattle.wild_types.specs.declared.file.File.{File}
use Rattle.wild_types.specs.declared.layout.Layout.{Layout}
use Rattle.wild_types.specs.declared.part.Role.TheVariants as role
use Rattle.wild_types.specs.FileRoles.{is_prelude}
use Rattle.wild_types.specs.HeaderOnly.{is_header_only_role}
use Rattle.wild_frames.specs.declared.entry.Found.{Found}
use Rattle.wild_frames.specs.declared.table.Fde.{Fde}
use Rattle.wild_frames.specs.Frames.{Frames, fde_of}
use Rattle.wild_layout.specs.SearchTable.{fde_at, search_table, search_table_faults}
use Rattle.wild_contents.specs.declared.search_table.SearchTable.{SearchTable}

-- the fault is the first of these
abbrev pub FaultIsFirst : Option Fault → List Fault → Type 0
FaultIsFirst None fs = fs ≡ []
FaultIsFirst (Some f) [] = ⊥
FaultIsFirst (Some f) (g ∷ gs) = f ≡ g

-- the layout's search table, if that is written, or its first fault
pub record IsSearchTable (l : Layout) (t : SearchTable) : Type 0 where
  pub fault : FaultIsFirst t.fault (search_table_faults l)
  pub bytes : is_header_only_role l role.EhFrameHdr ≡ false → t.fault ≡ None → t.bytes ≡ search_table l

-- the same, if the file is the first one
abbrev pub IsTableFor : Layout → SearchTable → File → Type 0
IsTableFor l t f = is_prelude f.role ≡ true → IsSearchTable l t

-- a record found in the frames, if it is an FDE that is kept
abbrev pub found_fdes : Layout → Frames → ℕ → Found → List Fde
found_fdes l fs at f = map (fde_at l fs at) (fde_of f)
