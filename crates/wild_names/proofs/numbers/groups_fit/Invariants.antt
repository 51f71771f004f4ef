use Rattle.wild_names.proofs.Common.{take, All, Group, IndexesFit}
use Rattle.wild_names.proofs.numbers.groups_fit.Given as goal

abbrev pub invariant-loop-group : goal.invariant-loop-group
invariant-loop-group l = All (λ (x : Group). All IndexesFit x.files) (take l.group-index l.groups)
