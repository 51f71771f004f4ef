use Rattle.std.proofs.Common.{◌≡◌, drop, length}
use Rattle.wild_plan_rules.specs.MisplacedSections.{entry_group}
use Rattle.wild_clauses.proofs.places.entry_group.Given as goal

abbrev pub invariant-loop-entry : goal.invariant-loop-entry
invariant-loop-entry l = record {
  rest : entry_group l.layout l.part l.ends l.cursors (drop l.entry-index l.order) ≡ entry_group l.layout l.part l.ends l.initial.cursors l.order;
  same : length l.ends ≡ length l.cursors;
}
