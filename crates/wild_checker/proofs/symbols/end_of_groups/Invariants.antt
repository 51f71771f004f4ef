use Rattle.wild_checker.proofs.Common.{◌≡◌, drop}
use Rattle.wild_checker.specs.Symbols.{end_of_groups}
use Rattle.wild_checker.proofs.symbols.end_of_groups.Given as goal

abbrev pub invariant-loop-group : goal.invariant-loop-group
invariant-loop-group l = end_of_groups l.end (drop l.group-index l.groups) ≡ end_of_groups 0 l.groups
