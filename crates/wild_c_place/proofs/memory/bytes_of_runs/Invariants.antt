use Rattle.std.proofs.Common.{◌≡◌, take}
use Rattle.std.specs.List.{flat_map}
use Rattle.wild_c_place.specs.Answers.{run_bytes}
use Rattle.wild_c_place.proofs.memory.bytes_of_runs.Given as goal

abbrev pub invariant-loop-run : goal.invariant-loop-run
invariant-loop-run l = l.bytes.items ≡ flat_map run_bytes (take l.run-index l.runs)
