use Rattle.std.proofs.lemmas.Result.{on_ok_weaker}
use Rattle.wild_relr.specs.WriterState.{state}
use Rattle.wild_relr.proofs.WriterLemmas.{block_recorded}
use Rattle.wild_relr.proofs.writer.RelrWriter.write_block.Goals as goal

pub returns-clause-recorded : goal.returns-clause-recorded
returns-clause-recorded c =
    on_ok_weaker c.put_block.result (block_recorded (state c.args.out.now c.args.self.now) (state c.put_block.new.out c.put_block.new.self) _ _ c.requires.even c.blocks_hold_their_slots.ensures.held) c.put_block.ensures.ok
