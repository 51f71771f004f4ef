use Rattle.std.proofs.Common.{length, arith}
use Rattle.std.proofs.lemmas.List.FromFn.{fill_by_all}
use Rattle.wild_relax.specs.Padding.{repeated_byte}
use Rattle.wild_relax.proofs.padding.fill_over_and_over.Goals as goal

pub returns : goal.returns
returns c = fill_by_all (repeated_byte c.args.bytes) c.loop-i.room (length c.args.room.now) 0 c.loop-i.invariant.length (λ k h. c.loop-i.invariant.filled k (omega arith))
