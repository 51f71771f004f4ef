use Rattle.std.proofs.Common.{arith, sym}
use Rattle.wild_relr.proofs.WriterLemmas.{joins_last, length_joins, length_adds}
use Rattle.wild_relr.proofs.writer.RelrWriter.put_place.Goals as goal

pub join_last-requires-clause-counted : goal.join_last-requires-clause-counted
join_last-requires-clause-counted c = joins_last _ _ _ _ (sym c.in-Joins.ensures.is) c.requires.last

pub returns-then-out-self-lt8-clause-full : goal.returns-then-out-self-lt8-clause-full
returns-then-out-self-lt8-clause-full c = let n = length_adds c.args.out.now c.args.self.now c.args.place _ _ c.in-Adds.ensures.is in omega arith

pub returns-in-Joins-clause-fits : goal.returns-in-Joins-clause-fits
returns-in-Joins-clause-fits c = let n = length_joins c.args.out.now c.args.self.now c.args.place _ c.in-Joins.ensures.is in omega (arith, c.requires.fits)

pub returns-else-out-self-lt8-clause-fits : goal.returns-else-out-self-lt8-clause-fits
returns-else-out-self-lt8-clause-fits c = let n = length_adds c.args.out.now c.args.self.now c.args.place _ _ c.in-Adds.ensures.is in omega arith
