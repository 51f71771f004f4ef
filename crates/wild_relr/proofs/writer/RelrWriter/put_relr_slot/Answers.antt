use Rattle.std.proofs.Common.{arith}
use Rattle.wild_relr.proofs.WriterLemmas.{length-after_relr_slot}
use Rattle.wild_relr.proofs.writer.RelrWriter.put_relr_slot.Goals as goal

pub returns-then-out-self-lt8-clause-full : goal.returns-then-out-self-lt8-clause-full
returns-then-out-self-lt8-clause-full c = let e = length-after_relr_slot c.args.out.now c.args.self.now c.args.place in omega arith

pub returns-clause-fits : goal.returns-clause-fits
returns-clause-fits c = let e = length-after_relr_slot c.args.out.now c.args.self.now c.args.place in omega arith
