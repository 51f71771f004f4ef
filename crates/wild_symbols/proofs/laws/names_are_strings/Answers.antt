use Rattle.wild_table_formats.proofs.SymtabLemmas.{names_of-file, names_of-group, length-texts}
use Rattle.wild_symbols.proofs.SlotNameLemmas.{slot_names_are}
use Rattle.wild_symbols.proofs.laws.names_are_strings.Goals as goal

pub returns-clause-files : goal.returns-clause-files
returns-clause-files c = names_of-file

pub returns-clause-groups : goal.returns-clause-groups
returns-clause-groups c = names_of-group

pub returns-clause-lengths : goal.returns-clause-lengths
returns-clause-lengths c = length-texts

pub returns-clause-slots : goal.returns-clause-slots
returns-clause-slots c = slot_names_are
