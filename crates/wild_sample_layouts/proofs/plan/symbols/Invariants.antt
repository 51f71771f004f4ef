use Rattle.std.proofs.Common.{◌≡◌, map}
use Rattle.std.specs.List.{range_with_len}
use Rattle.wild_sample_layouts.specs.PlanOfGroups.{made_symbol}
use Rattle.wild_sample_layouts.proofs.plan.symbols.Given as goal

abbrev pub invariant-loop-i : goal.invariant-loop-i
invariant-loop-i l = l.all.items ≡ map made_symbol (range_with_len 0 l.i)
