use Rattle.std.proofs.Common.{◌≡◌, take, map}
use Rattle.wild_loader.specs.Runs.{extent_of}
use Rattle.wild_loader.proofs.runs.extents_of_runs.Given as goal

abbrev pub invariant-loop-run : goal.invariant-loop-run
invariant-loop-run l = l.extents.items ≡ map extent_of (take l.run-index l.runs)
