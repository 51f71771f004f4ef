use Rattle.std.proofs.Common.{arith}
use Rattle.wild_needs.proofs.NoTableLemmas.{ends_need}
use Rattle.wild_needs.proofs.share.share_of_ends.Goals as goal

pub returns-in-len2-up : goal.returns-in-len2-up
returns-in-len2-up c =
    let sum = ends_need c.args.layout.now c.args.role c.as_slice.result.now c.first-item.result c.last-item.result c.requires c.as_slice.ensures c.in-len2-up.len_at_least c.first-item.is c.last-item.is in
    let first = c.group_share-in-len2-up.ensures in
    let last = c.group_share-in-len2-up-2.ensures in
    let both = c.saturating_add.ensures in
    omega (arith, sum, first, last, both)
