-- Whether layout and image have the same segments to load (gABI, "Program Header": PT_LOAD).
--   segment_doubt l image   the position of the first that they do not both have
use Rattle.std.specs.Prelude.{ℕ, ◌+◌, ◌==◌, ◌&&◌, Bool, false, if◌then◌else◌, nat_lt, slice_get, length, List, [], ◌∷◌, Option, Some, None, Result, Ok}
use Rattle.std.specs.List.{filter_map}
use Rattle.wild_records.specs.Abi.Segment.{pt_load}
use Rattle.wild_records.specs.declared.program_header.ProgramHeader.{ProgramHeader}
use Rattle.wild_types.specs.declared.layout.Layout.{Layout}
use Rattle.wild_types.specs.declared.section.Segment.{Segment}
use Rattle.wild_loader.specs.declared.fault.LoadFault.{LoadFault}
use Rattle.wild_loader.specs.Outcome.{◌>>=◌}
use Rattle.wild_loader.specs.Headers.{header, program_headers}
use Rattle.wild_checker.specs.declared.segments.Load.{Load}

abbrev pub layout_load : Segment → Option Load
layout_load g = if g.kind == pt_load then Some (record { address = g.address; file_size = g.file_size; mem_size = g.mem_size }) else None

abbrev pub image_load : ProgramHeader → Option Load
image_load h = if h.kind == pt_load then Some (record { address = h.address; file_size = h.file_size; mem_size = h.mem_size }) else None

abbrev pub layout_loads : List Segment → List Load
layout_loads gs = filter_map layout_load gs

abbrev pub image_loads : List ProgramHeader → List Load
image_loads hs = filter_map image_load hs

abbrev pub is_same : Option Load → Load → Bool
is_same None a = false
is_same (Some b) a = b.address == a.address && b.file_size == a.file_size && b.mem_size == a.mem_size

-- the load is at a position of a list
abbrev pub is_at : List Load → ℕ → Load → Bool
is_at bs i a = is_same (slice_get bs i) a

-- the position of the first load that two lists do not both have; positions of the first list count from i
abbrev pub first_different : ℕ → List Load → List Load → Option ℕ
first_different i [] bs = if nat_lt i (length bs) then Some i else None
first_different i (a ∷ more) bs = if is_at bs i a then first_different (i + 1) more bs else Some i

-- the position of the first segment to load that layout and image do not both have
unfoldable pub segment_doubt : Layout → List ℕ → Result (Option ℕ) LoadFault
segment_doubt l image = header image >>= λ e. Ok (first_different 0 (layout_loads l.segments) (image_loads (program_headers image e.program_count e.program_offset)))
