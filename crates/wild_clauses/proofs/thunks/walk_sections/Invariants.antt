use Rattle.std.proofs.Common.{◌≡◌, ◌≤◌, ◌^◌, drop}
use Rattle.wild_plan_rules.specs.SlotPlaces.{walk}
use Rattle.wild_plan_rules.specs.Thunks.{section_step}
use Rattle.wild_clauses.proofs.thunks.walk_sections.Given as goal

abbrev pub invariant-loop-section : goal.invariant-loop-section
invariant-loop-section l = record {
  rest : walk (section_step l.layout l.group) l.at (drop l.section-index l.sections) ≡ walk (section_step l.layout l.group) l.initial.at l.sections;
  small : l.at ≤ 2 ^ 65;
}
