use Rattle.std.proofs.Common.{◌≡◌, take, map}
use Rattle.wild_loader.specs.Runs.{extent_of}
use Rattle.wild_loader.specs.Relocate.{runs_of_patches}
use Rattle.wild_loader.proofs.runs.extents_of_patches.Given as goal

abbrev pub invariant-loop-patch : goal.invariant-loop-patch
invariant-loop-patch l = l.extents.items ≡ map extent_of (runs_of_patches (take l.patch-index l.patches))
