-- The texts of the command `place`; each line ends with a newline.
--   place_text segments base runs   for each PT_LOAD segment a line at A N with its loaded address and file size, then these bytes in hex
--   not_placed_text fault           not placed NAME k=v
use Rattle.std.specs.Prelude.{ℕ, ◌+◌, ◌==◌, if◌then◌else◌, List, [], ◌∷◌, ◌++◌, take, codes, decimal, Option, Some, None, slice_get}
use Rattle.wild_records.specs.Abi.Segment.{pt_load}
use Rattle.wild_loader.specs.declared.fault.LoadFault.{LoadFault}
use Rattle.wild_loader.specs.declared.memory.Run.{Run}
use Rattle.wild_types.specs.declared.section.Segment.{Segment}
use Rattle.wild_text.specs.Answer.{hex_text}
use Rattle.wild_text.specs.SpaceAnswer.{load_fault_text}

-- the loaded address of a segment, which may be 2^64 if it is empty, and its size in the file
abbrev pub at_line : ℕ → Segment → List ℕ
at_line base s = codes "at " ++ decimal (base + s.address) ++ codes " " ++ decimal s.file_size ++ codes "\n"

-- a segment with the bytes that it has in the file, which are the first of its bytes in memory
abbrev pub segment_text : ℕ → Segment → List ℕ → List ℕ
segment_text base s bytes = at_line base s ++ hex_text (take s.file_size bytes)

abbrev pub bytes_of : Option Run → List ℕ
bytes_of None = []
bytes_of (Some r) = r.bytes

-- the bytes of the run at place k
abbrev pub run_bytes : List Run → ℕ → List ℕ
run_bytes rs k = bytes_of (slice_get rs k)

-- the loaded segments, the runs of those with memory being the ones from place k on
abbrev pub place_lines : ℕ → List Segment → ℕ → List Run → List ℕ
place_lines base [] k rs = []
place_lines base (s ∷ ss) k rs =
    if s.kind == pt_load
    then (if s.mem_size == 0 then segment_text base s [] ++ place_lines base ss k rs else segment_text base s (run_bytes rs k) ++ place_lines base ss (k + 1) rs)
    else place_lines base ss k rs

abbrev pub place_text : ℕ → List Segment → List Run → List ℕ
place_text base ss rs = place_lines base ss 0 rs

-- why the loader does not load the image
abbrev pub not_placed_text : LoadFault → List ℕ
not_placed_text reason = codes "not placed " ++ load_fault_text reason ++ codes "\n"
