use Rattle.wild_checker.proofs.Common.{◌≡◌, ◌+◌, drop, first_changed}
use Rattle.wild_checker.proofs.bytes.first_changed.Given as goal

abbrev pub invariant-loop-k : goal.invariant-loop-k
invariant-loop-k l = first_changed l.memory l.address (l.start + l.k) (drop l.k l.bytes) ≡ first_changed l.memory l.address l.start l.bytes
