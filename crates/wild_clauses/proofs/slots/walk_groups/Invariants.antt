use Rattle.std.proofs.Common.{◌≡◌, drop}
use Rattle.wild_plan_rules.specs.SlotPlaces.{IsBounded, walk, group_step}
use Rattle.wild_clauses.proofs.slots.walk_groups.Given as goal

abbrev pub invariant-loop-group : goal.invariant-loop-group
invariant-loop-group l = record {
  rest : walk (group_step l.layout) l.next (drop l.group-index l.group-items) ≡ walk (group_step l.layout) l.initial.next l.group-items;
  small : IsBounded l.next;
}
