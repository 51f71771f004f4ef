use Rattle.std.proofs.Common.{◌≡◌, ◌++◌, ◌≤◌, ◌^◌, drop}
use Rattle.wild_space.specs.Counts.{cut}
use Rattle.wild_space.proofs.overlaps.add_cut.Given as goal

abbrev pub invariant-loop-extent : goal.invariant-loop-extent
invariant-loop-extent l = (l.all.items ++ cut l.reach (drop l.extent-index l.extents) ≡ l.initial.all.items ++ cut 0 l.extents) × (l.reach ≤ 2 ^ 64)
