use Rattle.std.proofs.Common.{◌≡◌}
use Rattle.std.specs.Prelude.{map}
use Rattle.std.specs.List.{range_with_len}
use Rattle.wild_types.specs.Addresses.{raw_value}
use Rattle.wild_sections.proofs.values.decided_values.Given as goal

abbrev pub invariant-loop-i : goal.invariant-loop-i
invariant-loop-i l = l.values.items ≡ map (raw_value l.layout) (range_with_len 0 l.i)
