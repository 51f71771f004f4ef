use Rattle.std.proofs.Common.{◌≡◌, drop}
use Rattle.std.specs.List.{list_any}
use Rattle.wild_types.specs.declared.file.Group.{Group}
use Rattle.wild_plan_rules.specs.Thunks.{owns}
use Rattle.wild_clauses.proofs.thunks.is_owned.Given as goal

abbrev pub invariant-loop-group : goal.invariant-loop-group
invariant-loop-group l = list_any (λ (g : Group). list_any (owns l.block) g.files) (drop l.group-index l.group-items) ≡ list_any (λ (g : Group). list_any (owns l.block) g.files) l.group-items
