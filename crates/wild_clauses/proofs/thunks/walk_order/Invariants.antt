use Rattle.std.proofs.Common.{◌≡◌, ◌≤◌, ◌^◌, drop}
use Rattle.wild_plan_rules.specs.SlotPlaces.{walk}
use Rattle.wild_plan_rules.specs.Thunks.{section_step}
use Rattle.wild_clauses.specs.SortedOrder.{sections_by_order}
use Rattle.wild_clauses.proofs.thunks.walk_order.Given as goal

abbrev pub invariant-loop-entry : goal.invariant-loop-entry
invariant-loop-entry l = record {
  rest : walk (section_step l.layout l.group) l.at (sections_by_order l.layout (drop l.entry-index l.order)) ≡ walk (section_step l.layout l.group) l.initial.at (sections_by_order l.layout l.order);
  small : l.at ≤ 2 ^ 65;
}
