use Rattle.std.proofs.Common.{◌≡◌, drop}
use Rattle.wild_clauses.specs.Survey.{fold_steps, file_step, survey_before_files}
use Rattle.wild_clauses.proofs.survey.group_step.Given as goal

abbrev pub invariant-loop-file : goal.invariant-loop-file
invariant-loop-file l = fold_steps (file_step l.layout) l.known (drop l.file-index l.file-items) ≡ fold_steps (file_step l.layout) (survey_before_files l.layout l.fn.before l.group) l.file-items
