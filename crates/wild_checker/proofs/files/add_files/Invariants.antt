use Rattle.wild_checker.proofs.Common.{◌≡◌, drop}
use Rattle.wild_checker.specs.Files.{with_files}
use Rattle.wild_checker.proofs.files.add_files.Given as goal

abbrev pub invariant-loop-n : goal.invariant-loop-n
invariant-loop-n l = with_files l.count l.group l.n (drop l.n l.files) l.table.items ≡ with_files l.count l.group 0 l.files l.initial.table.items
