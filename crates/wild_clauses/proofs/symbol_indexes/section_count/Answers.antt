use Rattle.std.proofs.Common.{sym, ◌∙◌, arith}
use Rattle.wild_clauses.proofs.AstrayLemmas.{own_found, own_later}
use Rattle.wild_clauses.proofs.symbol_indexes.section_count.Goals as goal

pub returns-in-Some : goal.returns-in-Some
returns-in-Some c =
    sym (own_found c.args.groups.now c.loop-group.group-index c.args.symbol c.in-Some.count c.group-item.result c.as_slice.result.now (omega arith) c.group-item.is c.as_slice.ensures (sym c.count_in.ensures ∙ c.in-Some.is)) ∙ c.loop-group.invariant

pub loop-group-preserved : goal.loop-group-preserved
loop-group-preserved c =
    sym (own_later c.args.groups.now c.loop-group.group-index c.args.symbol c.group-item.result c.as_slice.result.now (omega arith) c.group-item.is c.as_slice.ensures (sym c.count_in.ensures ∙ c.in-None.is)) ∙ c.loop-group.invariant
