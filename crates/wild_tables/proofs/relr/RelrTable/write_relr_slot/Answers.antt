use Rattle.std.proofs.lemmas.Result.{on_ok_weaker}
use Rattle.wild_relr.proofs.WriterLemmas.{flat_recorded}
use Rattle.wild_tables.proofs.relr.RelrTable.write_relr_slot.Goals as goal

pub returns-clause-recorded : goal.returns-clause-recorded
returns-clause-recorded c =
    on_ok_weaker c.put_relr_slot.result (flat_recorded c.args.self.now.state c.put_relr_slot.new.self.state _ c.requires c.each_place_is_recorded.ensures.recorded) c.put_relr_slot.ensures.ok
