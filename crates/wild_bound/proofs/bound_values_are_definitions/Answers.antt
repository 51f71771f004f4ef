use Rattle.wild_bound.proofs.ValueLemmas.{values_are}
use Rattle.wild_bound.proofs.bound_values_are_definitions.Goals as goal

pub returns : goal.returns
returns c = values_are c.binds_are_first.ensures.binds c.spaces_are_made.ensures c.layouts_are_laid_out.ensures
