use Rattle.wild_sample_layouts.proofs.FaultLemmas.{no_errors}
use Rattle.wild_sample_layouts.proofs.PlaceLemmas.{size_made}
use Rattle.wild_sample_layouts.proofs.ImageLemmas.{counts_made, numbers_fit}
use Rattle.wild_sample_layouts.proofs.laws.laws_of_made_plans.Goals as goal

pub returns : goal.returns
returns c = record { faults = no_errors; size = size_made; counts = counts_made; numbers = numbers_fit }
