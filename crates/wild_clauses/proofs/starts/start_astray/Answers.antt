use Rattle.std.proofs.Common.{sym, ◌∙◌, arith}
use Rattle.wild_clauses.proofs.StartLemmas.{start_more}
use Rattle.wild_clauses.proofs.starts.start_astray.Goals as goal

pub loop-i-preserved : goal.loop-i-preserved
loop-i-preserved c =
    record {
      rest = start_more c.args.places c.loop-i.from c.starts_after_group-from.result c.loop-i.i c.args.groups.now c.index-groups-i.result (omega arith) c.index-groups-i.is (sym c.begins_at.ensures ∙ c.if-not-begins_at.false) c.starts_after_group-from.ensures.is ∙ c.loop-i.invariant.rest;
      small = c.starts_after_group-from.ensures.small c.loop-i.i c.loop-i.invariant.small;
    }
