use Rattle.wild_checker.proofs.instructions.instruction_before.Goals as goal

pub returns : goal.returns
returns c = c.first_of.ensures
