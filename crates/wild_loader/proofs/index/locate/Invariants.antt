use Rattle.std.proofs.Common.{◌≡◌, ◌++◌, drop, map}
use Rattle.wild_loader.specs.Index.{starts_and_indices}
use Rattle.wild_loader.specs.Runs.{extent_of}
use Rattle.wild_loader.proofs.index.locate.Given as goal

abbrev pub invariant-loop-i : goal.invariant-loop-i
invariant-loop-i l = l.index.items ++ starts_and_indices l.i (drop l.i (map extent_of l.runs)) ≡ starts_and_indices 0 (map extent_of l.runs)
