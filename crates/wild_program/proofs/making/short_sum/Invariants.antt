use Rattle.wild_program.proofs.Common.{◌≡◌, ◌*◌, ◌≤◌, take, sum}
use Rattle.wild_program.proofs.making.short_sum.Given as goal

abbrev pub invariant-loop-byte : goal.invariant-loop-byte
invariant-loop-byte l = (l.all ≡ sum (take l.byte-index l.bytes)) × (l.all ≤ 255 * l.byte-index)
