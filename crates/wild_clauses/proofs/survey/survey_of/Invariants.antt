use Rattle.std.proofs.Common.{◌≡◌, drop}
use Rattle.wild_clauses.specs.Survey.{fold_steps, group_step, empty_survey}
use Rattle.wild_clauses.proofs.survey.survey_of.Given as goal

abbrev pub invariant-loop-group : goal.invariant-loop-group
invariant-loop-group l = fold_steps (group_step l.layout) l.known (drop l.group-index l.group-items) ≡ fold_steps (group_step l.layout) empty_survey l.group-items
