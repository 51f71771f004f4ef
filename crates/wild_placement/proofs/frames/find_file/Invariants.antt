use Rattle.std.proofs.Common.{◌≡◌, drop}
use Rattle.wild_types.specs.Lookups.{file_of}
use Rattle.wild_placement.proofs.frames.find_file.Given as goal

abbrev pub invariant-loop-file : goal.invariant-loop-file
invariant-loop-file l = file_of (drop l.file-index l.files) l.fn.symbol ≡ file_of l.files l.fn.symbol
