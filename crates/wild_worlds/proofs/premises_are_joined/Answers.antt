use Rattle.wild_worlds.proofs.JointPremises.{premises_joined}
use Rattle.wild_worlds.proofs.premises_are_joined.Goals as goal

pub returns : goal.returns
returns c = premises_joined c.layouts_are_laid_out.ensures c.images_are_sound.ensures c.laws_of_calling_plans.ensures.faults c.laws_of_calling_plans.ensures.numbers
