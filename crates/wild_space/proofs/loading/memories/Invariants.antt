use Rattle.std.proofs.Common.{◌≡◌, ◌≤◌, length, drop, Ok}
use Rattle.std.specs.Prelude.{reverse}
use Rattle.wild_space.specs.Bound.{memories}
use Rattle.wild_space.proofs.loading.memories.Given as goal

abbrev pub invariant-loop-i : goal.invariant-loop-i
invariant-loop-i l = record {
  within : l.i ≤ length l.worlds;
  same : memories l.space.images.now (drop l.i (drop 1 l.space.order)) (drop l.i l.worlds) ≡ Ok (reverse l.loaded.items);
}

abbrev pub decreases-loop-i : goal.decreases-loop-i
decreases-loop-i l = l.i
