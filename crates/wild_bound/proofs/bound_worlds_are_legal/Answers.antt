use Rattle.wild_bound.proofs.LegalLemmas.{legal}
use Rattle.wild_bound.proofs.bound_worlds_are_legal.Goals as goal

pub returns : goal.returns
returns c = legal (record { first = c.binds_are_first.ensures.binds; made = c.spaces_are_made.ensures; laid = c.layouts_are_laid_out.ensures; read = c.dynamic_symbols_are_read.ensures })
