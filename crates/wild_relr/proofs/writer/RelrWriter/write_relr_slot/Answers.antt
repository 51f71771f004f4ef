use Rattle.std.proofs.lemmas.Result.{on_ok_weaker}
use Rattle.wild_relr.specs.WriterState.{state}
use Rattle.wild_relr.proofs.WriterLemmas.{flat_recorded}
use Rattle.wild_relr.proofs.writer.RelrWriter.write_relr_slot.Goals as goal

pub returns-clause-recorded : goal.returns-clause-recorded
returns-clause-recorded c =
    on_ok_weaker c.put_relr_slot.result (flat_recorded (state c.args.out.now c.args.self.now) (state c.put_relr_slot.new.out c.put_relr_slot.new.self) _ c.requires.even c.each_place_is_recorded.ensures.recorded) c.put_relr_slot.ensures.ok
