use Rattle.std.proofs.Common.{ap, arith}
use Rattle.std.proofs.lemmas.Result.{on_ok_weaker}
use Rattle.wild_relr.specs.WriterState.{word_bytes}
use Rattle.wild_contents.proofs.FileTableLemmas.{none_added}
use Rattle.wild_contents.proofs.SlotLemmas.{no_base, no_slots, block_added}
use Rattle.wild_contents.proofs.slot_tables.add_words_of_block.Goals as goal
use Rattle.wild_contents.proofs.slot_tables.add_words_of_block.Goals.{then-block-eq0-via-then-block-eq0, then-block-eq0-via-else-block-eq0+then-block-eq0-2}

pub returns-then-block-eq0 : goal.returns-then-block-eq0
returns-then-block-eq0 c =
    none_added c.args.bytes.now _ (ap word_bytes (elim c.then-block-eq0.branch [
      | then-block-eq0-via-then-block-eq0 w ↦ no_base c.args.block.base c.args.block.count (omega (arith, w.if-block-eq0.true))
      | then-block-eq0-via-else-block-eq0+then-block-eq0-2 w ↦ no_slots c.args.block.base c.args.block.count (omega (arith, w.if-block-eq0-2.true))
    ]))

pub returns : goal.returns
returns c =
    on_ok_weaker c.add_bitmaps.result (λ rest. block_added c.args.bytes.now c.add_word.new.bytes c.add_bitmaps.new.bytes c.args.block.base c.args.block.count (λ z. absurd (omega (arith, z, c.if-block-eq0.false))) (λ z. absurd (omega (arith, z, c.if-block-eq0-2.false))) c.in_ok-add_word.ensures rest) c.add_bitmaps.ensures
