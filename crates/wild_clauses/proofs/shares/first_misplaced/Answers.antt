use Rattle.std.proofs.Common.{sym, ◌∙◌}
use Rattle.wild_clauses.proofs.RoleLemmas.{ends_told}
use Rattle.wild_clauses.proofs.shares.first_misplaced.Goals as goal

pub returns-in-len2-up : goal.returns-in-len2-up
returns-in-len2-up c =
    let told = ends_told c.args.layout.now c.args.no_inner_tables c.as_slice-groups.result.now c.first-item.result c.last-item.result c.requires c.if-no_inner_tables.true c.as_slice-groups.ensures c.in-len2-up.len_at_least c.first-item.is c.last-item.is in
    c.ends_misplaced.ensures ∙ sym told
