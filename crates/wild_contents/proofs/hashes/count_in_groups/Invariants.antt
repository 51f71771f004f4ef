use Rattle.std.proofs.Common.{◌≡◌, ◌+◌, ◌-◌, ◌^◌, ◌<◌, drop}
use Rattle.std.specs.Prelude.{min}
use Rattle.wild_types.specs.Lists.{total}
use Rattle.wild_contents.specs.Hashes.{group_undefined}
use Rattle.wild_contents.proofs.hashes.count_in_groups.Given as goal

abbrev pub invariant-loop-group : goal.invariant-loop-group
invariant-loop-group l = record {
  rest : min (2 ^ 64 - 1) (l.count + total (group_undefined l.layout) (drop l.group-index l.layout.groups)) ≡ min (2 ^ 64 - 1) (total (group_undefined l.layout) l.layout.groups);
  small : l.count < 2 ^ 64;
}
