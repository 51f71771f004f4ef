use Rattle.wild_symbols.proofs.SideLemmas.{side_stands, side_read}
use Rattle.wild_symbols.proofs.laws.sides_are_read.Goals as goal

pub returns-clause-stand : goal.returns-clause-stand
returns-clause-stand c = λ local at ns table from strings k d. side_stands local at ns table from strings k d

pub returns-clause-read : goal.returns-clause-read
returns-clause-read c = λ local at ns table from strings k d. side_read c.symtab_entry_is_read.ensures local at ns table from strings k d
