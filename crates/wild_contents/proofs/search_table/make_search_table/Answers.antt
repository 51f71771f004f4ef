use Rattle.std.proofs.Common.{sym, ◌∙◌}
use Rattle.wild_contents.proofs.SearchTableLemmas.{table_none}
use Rattle.wild_contents.proofs.search_table.make_search_table.Goals as goal

pub returns-then-not-is_asked : goal.returns-then-not-is_asked
returns-then-not-is_asked g c = table_none c.args.resolved.now.layout.now c.none.result (sym c.is_asked.ensures ∙ c.if-not-is_asked.true) c.none.ensures.fault c.none.ensures.bytes
