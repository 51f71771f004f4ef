use Rattle.wild_table_formats.proofs.SymbolLemmas.{length-symbol_bytes, symbol_read}
use Rattle.wild_symbols.proofs.laws.symbols_are_read.Goals as goal

pub returns-clause-lengths : goal.returns-clause-lengths
returns-clause-lengths c = λ es. length-symbol_bytes es

pub returns-clause-read : goal.returns-clause-read
returns-clause-read c = λ whole es at k d h s l. symbol_read c.symtab_entry_is_read.ensures whole es at k d h s l
