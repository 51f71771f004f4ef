use Rattle.std.proofs.Common.{◌≡◌, drop}
use Rattle.wild_plan_rules.specs.SlotPlaces.{IsBounded, walk, file_step}
use Rattle.wild_clauses.proofs.slots.group_step.Given as goal

abbrev pub invariant-loop-file : goal.invariant-loop-file
invariant-loop-file l = record {
  rest : walk (file_step l.layout) l.next (drop l.file-index l.file-items) ≡ walk (file_step l.layout) l.initial.next l.file-items;
  small : IsBounded l.next;
}
