use Rattle.wild_names.proofs.ImageLemmas.{symbols_stand}
use Rattle.wild_names.proofs.ThereLemmas.{tables_are_there}
use Rattle.wild_names.proofs.dynamic_symbols_are_in_table.Goals as goal

pub returns-clause-there : goal.returns-clause-there
returns-clause-there c = tables_are_there

pub returns-clause-stand : goal.returns-clause-stand
returns-clause-stand c = symbols_stand c.tables_are_placed.ensures
