use Rattle.wild_image.proofs.Common.{rules}
use Rattle.wild_image.proofs.TableLemmas.{starts_at_first}
use Rattle.wild_image.proofs.prepared.group_starts.Goals as goal

pub starts_from-requires-clause-first : goal.starts_from-requires-clause-first
starts_from-requires-clause-first c = starts_at_first c.args.layout.now c.in_ok-first.first.items (search rules)
