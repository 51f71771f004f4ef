use Rattle.std.proofs.Common.{refl}
use Rattle.wild_table_formats.proofs.LoadedLemmas.{loaded-places}
use Rattle.wild_table_formats.proofs.laws.loaders_agree.Goals as goal

pub returns : goal.returns
returns c = λ ws h. loaded-places ws 0 0 refl h
