use Rattle.std.proofs.Common.{◌≡◌, ◌+◌, ◌-◌, ◌^◌, ◌<◌, drop, min}
use Rattle.wild_types.specs.Lists.{total}
use Rattle.wild_needs.specs.Versions.{group_versions}
use Rattle.wild_clauses.proofs.versions.versions_of_groups.Given as goal

abbrev pub invariant-loop-group : goal.invariant-loop-group
invariant-loop-group l = record {
  rest : min (2 ^ 64 - 1) (l.count + total group_versions (drop l.group-index l.groups)) ≡ min (2 ^ 64 - 1) (total group_versions l.groups);
  small : l.count < 2 ^ 64;
}
