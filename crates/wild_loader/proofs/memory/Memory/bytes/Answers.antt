use Rattle.std.proofs.Common.{sym}
use Rattle.wild_loader.proofs.ByteLoop.{bytes_more, bytes_missed, bytes_read}
use Rattle.wild_loader.proofs.memory.Memory.bytes.Goals as goal

pub returns-in_default : goal.returns-in_default
returns-in_default c = bytes_missed _ _ _ _ _ _ c.loop-i-test.true (sym c.in_default.ensures) c.loop-i.invariant

pub loop-i-preserved : goal.loop-i-preserved
loop-i-preserved c = rw (c.in_ok-push.ensures.items) (bytes_more _ _ _ _ _ _ _ c.loop-i-test.true (sym c.in-Some.ensures) c.loop-i.invariant)

pub returns : goal.returns
returns c = rw (c.from_vec.ensures) (bytes_read _ _ _ _ _ _ c.loop-i-test.false c.loop-i.invariant)
