use Rattle.std.proofs.Common.{◌≡◌, drop}
use Rattle.wild_types.specs.Lookups.{files_of, file_of}
use Rattle.wild_placement.proofs.frames.file_of.Given as goal

abbrev pub invariant-loop-group : goal.invariant-loop-group
invariant-loop-group l = file_of (files_of (drop l.group-index l.group-items)) l.symbol ≡ file_of (files_of l.group-items) l.symbol
