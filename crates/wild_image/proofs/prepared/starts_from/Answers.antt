use Rattle.wild_image.proofs.AppendLemmas.{read_at}
use Rattle.wild_image.proofs.prepared.starts_from.Goals as goal

pub advance_starts-requires-clause-group : goal.advance_starts-requires-clause-group
advance_starts-requires-clause-group c = read_at c.args.layout.now.groups c.as_slice-group-items.result.now c.loop-j.j _ c.as_slice-group-items.ensures c.loop-j-test.true c.group-item.is
