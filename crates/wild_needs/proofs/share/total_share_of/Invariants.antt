use Rattle.std.proofs.Common.{◌≡◌, ◌+◌, ◌-◌, ◌^◌, ◌<◌, drop, min}
use Rattle.wild_types.specs.Lists.{total}
use Rattle.wild_needs.specs.Needs.{group_share}
use Rattle.wild_needs.proofs.share.total_share_of.Given as goal

abbrev pub invariant-loop-group : goal.invariant-loop-group
invariant-loop-group l = record {
  rest : min (2 ^ 64 - 1) (l.sum + total (group_share l.layout l.fn.role) (drop l.group-index l.group-items)) ≡ min (2 ^ 64 - 1) (total (group_share l.layout l.fn.role) l.group-items);
  small : l.sum < 2 ^ 64;
}
