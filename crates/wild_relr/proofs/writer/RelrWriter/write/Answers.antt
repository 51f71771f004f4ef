use Rattle.std.proofs.lemmas.Result.{on_ok_weaker}
use Rattle.wild_relr.proofs.WriterLemmas.{recorded_as}
use Rattle.wild_relr.proofs.writer.RelrWriter.write.Goals as goal

pub returns-clause-recorded : goal.returns-clause-recorded
returns-clause-recorded c = on_ok_weaker c.put_place.result (recorded_as _ _ _ c.requires.follows c.requires.even c.each_place_is_recorded.ensures.recorded) c.put_place.ensures.ok
