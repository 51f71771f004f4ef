use Rattle.std.proofs.Common.{◌≡◌, drop, length}
use Rattle.wild_types.specs.Lists.{through}
use Rattle.wild_plan_rules.specs.MisplacedSections.{all_placed}
use Rattle.wild_clauses.proofs.places.pass_sections.Given as goal

abbrev pub invariant-loop-section : goal.invariant-loop-section
invariant-loop-section l = record {
  rest : through (all_placed l.layout l.part l.ends) l.cursors (drop l.section-index l.sections) ≡ through (all_placed l.layout l.part l.ends) l.initial.cursors l.sections;
  same : length l.ends ≡ length l.cursors;
}
