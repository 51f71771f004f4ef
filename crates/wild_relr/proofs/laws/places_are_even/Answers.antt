use Rattle.std.proofs.Common.{refl}
use Rattle.wild_relr.proofs.PlaceLemmas.{places-all_even}
use Rattle.wild_relr.proofs.laws.places_are_even.Goals as goal

pub returns : goal.returns
returns c = λ ws. places-all_even 0 ws refl
