use Rattle.std.proofs.Common.{◌<◌, arith}
use Rattle.wild_relr.proofs.WriterLemmas.{length-after_block}
use Rattle.wild_relr.proofs.writer.RelrWriter.put_block.Goals as goal

pub returns-then-needed-room-clause-full : goal.returns-then-needed-room-clause-full
returns-then-needed-room-clause-full c =
    let e = length-after_block c.args.out.now c.args.self.now c.args.base c.args.n in
    omega (arith, c.block_words-needed.ensures.is)

pub add_block-requires-clause-base : goal.add_block-requires-clause-base
add_block-requires-clause-base c = c.block_words-needed.ensures.base (omega arith)

pub add_block-requires-clause-slots : goal.add_block-requires-clause-slots
add_block-requires-clause-slots c = c.block_words-needed.ensures.slots (omega arith)

pub add_block-requires-clause-counted : goal.add_block-requires-clause-counted
add_block-requires-clause-counted c =
    let some : 0 < c.block_words-needed.result = omega arith in
    let e = c.block_words-needed.ensures.counted some in
    omega arith

pub returns-clause-fits : goal.returns-clause-fits
returns-clause-fits c =
    let e = length-after_block c.args.out.now c.args.self.now c.args.base c.args.n in
    omega (arith, c.block_words-needed.ensures.is)
