use Rattle.std.proofs.Common.{◌≡◌}
use Rattle.std.specs.Prelude.{map}
use Rattle.std.specs.List.{range_with_len}
use Rattle.wild_sections.specs.Targets.{target_of}
use Rattle.wild_sections.proofs.target.targets_of.Given as goal

abbrev pub invariant-loop-i : goal.invariant-loop-i
invariant-loop-i l = l.targets.items ≡ map (target_of l.layout) (range_with_len 0 l.i)
