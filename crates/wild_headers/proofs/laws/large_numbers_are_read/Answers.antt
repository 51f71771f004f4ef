use Rattle.wild_headers.proofs.NumberLemmas.{count_stands, name_table_stands, at_the_limit}
use Rattle.wild_headers.proofs.laws.large_numbers_are_read.Goals as goal

pub returns : goal.returns
returns c = record { counts = count_stands; names = name_table_stands; limit = at_the_limit }
