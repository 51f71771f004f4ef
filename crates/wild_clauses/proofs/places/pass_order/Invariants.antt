use Rattle.std.proofs.Common.{◌≡◌, drop, length}
use Rattle.wild_types.specs.Lists.{through}
use Rattle.wild_plan_rules.specs.MisplacedSections.{all_placed}
use Rattle.wild_clauses.specs.SortedOrder.{sections_by_order}
use Rattle.wild_clauses.proofs.places.pass_order.Given as goal

abbrev pub invariant-loop-entry : goal.invariant-loop-entry
invariant-loop-entry l = record {
  rest : through (all_placed l.layout l.part l.ends) l.cursors (sections_by_order l.layout (drop l.entry-index l.order)) ≡ through (all_placed l.layout l.part l.ends) l.initial.cursors (sections_by_order l.layout l.order);
  same : length l.ends ≡ length l.cursors;
}
