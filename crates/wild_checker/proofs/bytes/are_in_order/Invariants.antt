use Rattle.wild_checker.proofs.Common.{◌≡◌, drop, are_in_order}
use Rattle.wild_checker.proofs.bytes.are_in_order.Given as goal

abbrev pub invariant-loop-relocation : goal.invariant-loop-relocation
invariant-loop-relocation l = are_in_order l.machine l.end (drop l.relocation-index l.relocations) ≡ are_in_order l.machine 0 l.relocations
