use Rattle.wild_image.proofs.Common.{◌≡◌, [], ◌++◌, ℕ, ◌<◌, length, get_or, take, flat_map, file_bytes}
use Rattle.wild_image.specs.Pieces.{file_owned}
use Rattle.wild_image.proofs.AppendLemmas.{IsPlacedAfter}
use Rattle.wild_image.proofs.split_by_part.split_files.Given as goal

abbrev pub invariant-loop-file : goal.invariant-loop-file
invariant-loop-file l =
    ((k : ℕ) → k < length l.parts → get_or l.parts k [] ≡ get_or l.initial.parts k [] ++ flat_map (file_owned l.layout k) (take l.file-index l.group.files))
    × IsPlacedAfter (file_bytes l.layout) l.group.files l.bytes l.rest l.file-index
