use Rattle.std.proofs.Common.{◌≡◌, drop}
use Rattle.wild_clauses.specs.Survey.{fold_steps, section_step, survey_before_sections}
use Rattle.wild_clauses.proofs.survey.file_step.Given as goal

abbrev pub invariant-loop-section : goal.invariant-loop-section
invariant-loop-section l = fold_steps (section_step l.layout) l.known (drop l.section-index l.section-items) ≡ fold_steps (section_step l.layout) (survey_before_sections l.layout l.fn.before l.file) l.section-items
