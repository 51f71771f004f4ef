use Rattle.std.proofs.Common.{sym, ◌∙◌}
use Rattle.wild_clauses.proofs.AstrayLemmas.{walk_finds}
use Rattle.wild_clauses.proofs.symbol_indexes.symbol_misfit.Goals as goal

pub returns-then-ranges_in_order : goal.returns-then-ranges_in_order
returns-then-ranges_in_order c = c.walk.ensures ∙ sym (walk_finds c.args.layout.now (sym c.requires ∙ c.if-ranges_in_order.true))
