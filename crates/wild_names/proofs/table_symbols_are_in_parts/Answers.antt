use Rattle.wild_names.proofs.SideLemmas.{table_stands}
use Rattle.wild_names.proofs.table_symbols_are_in_parts.Goals as goal

pub returns : goal.returns
returns c = table_stands c.tables_are_placed.ensures c.names_are_strings.ensures.groups
