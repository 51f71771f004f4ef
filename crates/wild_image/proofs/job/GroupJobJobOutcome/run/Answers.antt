use Rattle.wild_image.proofs.Common.{◌≡◌, get_or, refl, arith, slice_get, Some, slice_get-get_or, GivesItsShares, GroupStands}
use Rattle.wild_contents.specs.VersionCounts.{NeedsFit}
use Rattle.wild_contents.proofs.VersionLemmas.{needs_fit}
use Rattle.wild_image.proofs.JobLemmas.{gives_found, pairs_found, few_groups}
use Rattle.wild_image.proofs.StandingLemmas.{each_stands}
use Rattle.wild_image.proofs.PlacedLemmas.{is_made}
use Rattle.wild_image.proofs.TableLemmas.{all_give}
use Rattle.wild_image.proofs.BatchLemmas.{cut_of, batches_within, batches_end, holds_within}
use Rattle.wild_image.proofs.job.GroupJobJobOutcome.run.Goals as goal

pub bytes_of_batch-bytes-requires-clause-stands : goal.bytes_of_batch-bytes-requires-clause-stands
bytes_of_batch-bytes-requires-clause-stands g c =
    let l = c.args.self.now.resolved.now.layout.now in
    let bs = c.args.self.now.batches.now in
    let found = get_or bs c.args.group c.index-self-group.result in
    let at : slice_get bs c.args.group ≡ Some found = slice_get-get_or bs c.args.group c.index-self-group.result c.requires.group in
    let within = batches_within l.groups l.groups 0 bs c.args.group found refl (cut_of l.groups bs c.args.self.now.batches_are) at in
    holds_within (GroupStands l) l.groups found within (each_stands l c.args.self.now.clauses (c.layouts_are_laid_out.ensures l c.args.self.now.clauses c.args.self.now.shares))

pub bytes_of_batch-bytes-requires-clause-gives : goal.bytes_of_batch-bytes-requires-clause-gives
bytes_of_batch-bytes-requires-clause-gives g c =
    let l = c.args.self.now.resolved.now.layout.now in
    let bs = c.args.self.now.batches.now in
    let found = get_or bs c.args.group c.index-self-group.result in
    let at : slice_get bs c.args.group ≡ Some found = slice_get-get_or bs c.args.group c.index-self-group.result c.requires.group in
    let within = batches_within l.groups l.groups 0 bs c.args.group found refl (cut_of l.groups bs c.args.self.now.batches_are) at in
    holds_within (GivesItsShares l) l.groups found within (all_give l (c.layouts_are_laid_out.ensures l c.args.self.now.clauses c.args.self.now.shares).parts)

pub bytes_of_batch-bytes-requires-clause-few : goal.bytes_of_batch-bytes-requires-clause-few
bytes_of_batch-bytes-requires-clause-few g c =
    let l = c.args.self.now.resolved.now.layout.now in
    let bs = c.args.self.now.batches.now in
    let found = get_or bs c.args.group c.index-self-group.result in
    let at : slice_get bs c.args.group ≡ Some found = slice_get-get_or bs c.args.group c.index-self-group.result c.requires.group in
    let within = batches_within l.groups l.groups 0 bs c.args.group found refl (cut_of l.groups bs c.args.self.now.batches_are) at in
    holds_within NeedsFit l.groups found within (needs_fit l (c.layouts_are_laid_out.ensures l c.args.self.now.clauses c.args.self.now.shares))

pub bytes_of_batch-bytes-requires-clause-once : goal.bytes_of_batch-bytes-requires-clause-once
bytes_of_batch-bytes-requires-clause-once g c = (c.layouts_are_laid_out.ensures c.args.self.now.resolved.now.layout.now c.args.self.now.clauses c.args.self.now.shares).once

pub bytes_of_batch-bytes-requires-clause-small : goal.bytes_of_batch-bytes-requires-clause-small
bytes_of_batch-bytes-requires-clause-small g c =
    let l = c.args.self.now.resolved.now.layout.now in
    let bs = c.args.self.now.batches.now in
    let found = get_or bs c.args.group c.index-self-group.result in
    let at : slice_get bs c.args.group ≡ Some found = slice_get-get_or bs c.args.group c.index-self-group.result c.requires.group in
    let ends = batches_end l.groups 0 bs c.args.group found (cut_of l.groups bs c.args.self.now.batches_are) at in
    let few = few_groups l c.args.self.now.clauses in
    omega (arith, ends, few)

pub bytes_of_batch-bytes-requires-clause-within : goal.bytes_of_batch-bytes-requires-clause-within
bytes_of_batch-bytes-requires-clause-within g c =
    let l = c.args.self.now.resolved.now.layout.now in
    let bs = c.args.self.now.batches.now in
    let found = get_or bs c.args.group c.index-self-group.result in
    let at : slice_get bs c.args.group ≡ Some found = slice_get-get_or bs c.args.group c.index-self-group.result c.requires.group in
    batches_within l.groups l.groups 0 bs c.args.group found refl (cut_of l.groups bs c.args.self.now.batches_are) at

pub returns : goal.returns
returns g c =
    let l = c.args.self.now.resolved.now.layout.now in
    let bs = c.args.self.now.batches.now in
    let found = get_or bs c.args.group c.index-self-group.result in
    let at : slice_get bs c.args.group ≡ Some found = slice_get-get_or bs c.args.group c.index-self-group.result c.requires.group in
    (gives_found l bs c.args.group found _ at c.bytes_of_batch-bytes.ensures.faults c.bytes_of_batch-bytes.ensures.bytes, pairs_found l bs c.args.group found _ at c.in_ok-counts.ensures)

pub bytes_of_batch-bytes-requires-clause-table : goal.bytes_of_batch-bytes-requires-clause-table
bytes_of_batch-bytes-requires-clause-table g c = is_made c.args.self.now.resolved.now.layout.now c.args.self.now.table.now c.args.self.now.table_is
