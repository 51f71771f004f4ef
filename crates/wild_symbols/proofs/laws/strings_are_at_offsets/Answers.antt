use Rattle.wild_table_formats.proofs.StringLemmas.{length-string_bytes, with_strings-after, string_stands}
use Rattle.wild_symbols.proofs.laws.strings_are_at_offsets.Goals as goal

pub returns-clause-lengths : goal.returns-clause-lengths
returns-clause-lengths c = length-string_bytes

pub returns-clause-last_string : goal.returns-clause-last_string
returns-clause-last_string c = with_strings-after

pub returns-clause-stand : goal.returns-clause-stand
returns-clause-stand c = string_stands
