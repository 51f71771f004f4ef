use Rattle.std.proofs.Common.{◌≡◌, take, map, ◌++◌}
use Rattle.wild_terms.specs.Symbolic.{extent_of}
use Rattle.wild_terms.proofs.load.with_extents.Given as goal

abbrev pub invariant-loop-patch : goal.invariant-loop-patch
invariant-loop-patch l = l.extents.items ≡ l.initial.extents.items ++ map extent_of (take l.patch-index l.patches)
