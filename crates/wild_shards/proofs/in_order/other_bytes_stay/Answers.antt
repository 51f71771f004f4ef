use Rattle.wild_shards.proofs.PartLemmas.{others-stay}
use Rattle.wild_shards.proofs.in_order.other_bytes_stay.Goals as goal

pub returns : goal.returns
returns c = λ rule base rs xs ys k keeps h q o. others-stay rule base rs xs ys k keeps h q o
