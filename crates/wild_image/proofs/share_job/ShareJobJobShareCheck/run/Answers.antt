use Rattle.wild_image.proofs.Common.{◌≡◌, get_or, refl, arith, slice_get, Some, slice_get-get_or}
use Rattle.wild_image.proofs.BatchLemmas.{cut_of, batches_within, batches_end}
use Rattle.wild_image.proofs.share_job.ShareJobJobShareCheck.run.Goals as goal

pub batch_is_correct-is_correct-requires-clause-small : goal.batch_is_correct-is_correct-requires-clause-small
batch_is_correct-is_correct-requires-clause-small c =
    let l = c.args.self.now.layout.now in
    let bs = c.args.self.now.batches.now in
    let found = get_or bs c.args.group c.index-self-group.result in
    let at : slice_get bs c.args.group ≡ Some found = slice_get-get_or bs c.args.group c.index-self-group.result c.requires.group in
    let ends = batches_end l.groups 0 bs c.args.group found (cut_of l.groups bs c.args.self.now.batches_are) at in
    omega (arith, ends, c.args.self.now.few_groups)

pub batch_is_correct-is_correct-requires-clause-within : goal.batch_is_correct-is_correct-requires-clause-within
batch_is_correct-is_correct-requires-clause-within c =
    let l = c.args.self.now.layout.now in
    let bs = c.args.self.now.batches.now in
    let found = get_or bs c.args.group c.index-self-group.result in
    let at : slice_get bs c.args.group ≡ Some found = slice_get-get_or bs c.args.group c.index-self-group.result c.requires.group in
    batches_within l.groups l.groups 0 bs c.args.group found refl (cut_of l.groups bs c.args.self.now.batches_are) at
