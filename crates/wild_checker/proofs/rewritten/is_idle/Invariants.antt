use Rattle.wild_checker.proofs.Common.{◌≡◌, [], drop}
use Rattle.wild_loader.specs.Instruction.{are_idle}
use Rattle.wild_checker.specs.Rewritten.{nop}
use Rattle.wild_checker.proofs.rewritten.is_idle.Given as goal

abbrev pub invariant-loop-byte : goal.invariant-loop-byte
invariant-loop-byte l = are_idle nop [] (drop l.byte-index l.code) ≡ are_idle nop [] l.code
