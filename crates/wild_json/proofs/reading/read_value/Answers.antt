use Rattle.std.proofs.Common.{sym}
use Rattle.wild_json.proofs.TextLemmas.{value_not_data}
use Rattle.wild_json.proofs.reading.read_value.Goals as goal

pub returns-clause-refused : goal.returns-clause-refused
returns-clause-refused c e = value_not_data c.args.depth c.args.reader.now c.read.new.reader c.in-Ok.value c.in-Ok.ensures.ok (sym c.if-has_data.ensures)
