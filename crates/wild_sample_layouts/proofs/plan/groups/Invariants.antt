use Rattle.std.proofs.Common.{◌≡◌, map}
use Rattle.std.specs.List.{range_with_len}
use Rattle.wild_sample_layouts.specs.PlanOfGroups.{made_group}
use Rattle.wild_sample_layouts.proofs.plan.groups.Given as goal

abbrev pub invariant-loop-i : goal.invariant-loop-i
invariant-loop-i l = l.all.items ≡ map (made_group l.count) (range_with_len 0 l.i)
