use Rattle.std.proofs.Common.{◌++◌, take, arith, ℕ}
use Rattle.std.proofs.lemmas.List.{length-append, length-take}
use Rattle.wild_io.proofs.KnownBytes.{Consumes-then}
use Rattle.wild_io.proofs.whole_text.read_whole.Goals as goal

pub returns-then-count-room-clause-too_long : goal.returns-then-count-room-clause-too_long
returns-then-count-room-clause-too_long g c = λ e. (
  c.turns.bytes.items ++ take c.in_ok-count.count c.read.new.buf,
  Consumes-then _ _ _ _ _ c.turns.invariant.read c.in_ok-count.ensures.bytes.0,
  let b = c.in_ok-count.ensures.bound in let r = c.if-count-room.true in simp (length-append, length-take) (omega (arith, length-take {A = ℕ}, b, r, c.turns.invariant.within, c.min-most.ensures, c.len.ensures)),
)
