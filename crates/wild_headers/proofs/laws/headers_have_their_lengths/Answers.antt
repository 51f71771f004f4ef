use Rattle.wild_table_formats.proofs.HeaderLengths.{lengths_of_headers}
use Rattle.wild_headers.proofs.laws.headers_have_their_lengths.Goals as goal

pub returns : goal.returns
returns c = λ l. lengths_of_headers l
