use Rattle.wild_sample_layouts.proofs.CallingLemmas.{calling_faults, calling_numbers}
use Rattle.wild_sample_layouts.proofs.laws.laws_of_calling_plans.Goals as goal

pub returns : goal.returns
returns c = record { faults = calling_faults; numbers = calling_numbers }
