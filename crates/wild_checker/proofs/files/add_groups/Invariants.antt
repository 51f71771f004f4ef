use Rattle.wild_checker.proofs.Common.{◌≡◌, drop}
use Rattle.wild_checker.specs.Files.{with_groups}
use Rattle.wild_checker.proofs.files.add_groups.Given as goal

abbrev pub invariant-loop-n : goal.invariant-loop-n
invariant-loop-n l = with_groups l.count l.n (drop l.n l.groups) l.table.items ≡ with_groups l.count 0 l.groups l.initial.table.items
