use Rattle.std.proofs.Common.{◌≡◌, ◌≤◌, ◌^◌, drop}
use Rattle.wild_plan_rules.specs.SlotPlaces.{walk}
use Rattle.wild_plan_rules.specs.Thunks.{file_step}
use Rattle.wild_clauses.proofs.thunks.walk_files.Given as goal

abbrev pub invariant-loop-file : goal.invariant-loop-file
invariant-loop-file l = record {
  rest : walk (file_step l.layout l.group l.end) l.at (drop l.file-index l.files) ≡ walk (file_step l.layout l.group l.end) l.initial.at l.files;
  small : l.at ≤ 2 ^ 65;
}
