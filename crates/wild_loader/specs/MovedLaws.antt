-- The effect of the base on an image that is read: its runs are shifted by it, and nothing else changes.
--   moved more i      the image with its runs shifted up by that number
--   EndsBelow base hs no segment to load ends past the last address at a base
--   ImagesShiftWithBase    at a higher base an image is the same, shifted; ShiftedImagesAreRead: the converse
use Rattle.std.specs.Prelude.{◌≡◌, ℕ, ◌+◌, ◌^◌, ◌≤◌, List, map, All, Ok}
use Rattle.wild_records.specs.Abi.Segment.{pt_load}
use Rattle.wild_records.specs.declared.file_header.FileHeader.{FileHeader}
use Rattle.wild_records.specs.declared.program_header.ProgramHeader.{ProgramHeader}
use Rattle.wild_loader.specs.declared.image.Image.{Image}
use Rattle.wild_loader.specs.declared.memory.Run.{Run}
use Rattle.wild_loader.specs.Headers.{header, program_headers}
use Rattle.wild_loader.specs.Load.{image_at}

-- a run shifted up
abbrev pub shifted_run : ℕ → Run → Run
shifted_run more r = record { start = more + r.start; bytes = r.bytes }

-- an image with its runs shifted up (gABI, "Base Address")
abbrev pub moved : ℕ → Image → Image
moved more i = record { machine = i.machine; runs = map (shifted_run more) i.runs; tables = i.tables }

-- no segment to load (PT_LOAD) ends past the last address
abbrev pub EndsBelow : ℕ → List ProgramHeader → Type 0
EndsBelow base hs = All (λ h. h.kind ≡ pt_load → base + h.address + h.mem_size ≤ 2 ^ 64) hs

-- an image read at a base can be read at a higher base, if no segment wraps there: machine and tables are the same, and the runs
-- are shifted
abbrev pub ImagesShiftWithBase : Type 0
ImagesShiftWithBase = (base more : ℕ) (image : List ℕ) (i : Image) → image_at base image ≡ Ok i
    → ((e : FileHeader) → header image ≡ Ok e → EndsBelow (more + base) (program_headers image e.program_count e.program_offset))
    → image_at (more + base) image ≡ Ok (moved more i)

-- an image read at a higher base is the image read at the base, shifted
abbrev pub ShiftedImagesAreRead : Type 0
ShiftedImagesAreRead = (base more : ℕ) (image : List ℕ) (j : Image) → image_at (more + base) image ≡ Ok j → (i : Image) × (image_at base image ≡ Ok i) × (j ≡ moved more i)
