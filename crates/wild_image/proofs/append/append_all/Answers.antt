use Rattle.wild_image.proofs.Common.{◌≡◌, ◌∙◌, ap, length, rules, arith, refl, sym, slice_get, Some, All, slice_get_read, Group, FileLies, batch_errors, batch_pieces}
use Rattle.wild_image.specs.declared.job.Outcome.{Outcome}
use Rattle.wild_image.proofs.PrefixLemmas.{overlay_prefix_read}
use Rattle.wild_sections.proofs.FaultLemmas.{none_more, refuses_read}
use Rattle.wild_image.proofs.JobLemmas.{bytes_given, fault_given}
use Rattle.wild_image.proofs.TableLemmas.{starts_at_first}
use Rattle.wild_image.proofs.BatchLemmas.{cut_of, batches_within, batches_end, holds_within, next_first, next_starts, next_more}
use Rattle.wild_image.proofs.append.append_all.Goals as goal

pub append_batch-requires-clause-inputs : goal.append_batch-requires-clause-inputs
append_batch-requires-clause-inputs c =
    let l = c.args.layout.now in
    let bs = c.args.batches.now in
    let b = c.index-batches-i.result in
    let at : slice_get bs c.loop-i.i ≡ Some b = slice_get_read bs (length bs) c.loop-i.i b (search rules) c.loop-i-test.true c.index-batches-i.is in
    holds_within (λ (g : Group). All (FileLies l) g.files) l.groups b (batches_within l.groups l.groups 0 bs c.loop-i.i b refl (cut_of c.args.layout.now.groups c.args.batches.now c.requires.batches) at) c.requires.inputs

pub append_batch-requires-clause-within : goal.append_batch-requires-clause-within
append_batch-requires-clause-within c =
    let l = c.args.layout.now in
    let bs = c.args.batches.now in
    let b = c.index-batches-i.result in
    let at : slice_get bs c.loop-i.i ≡ Some b = slice_get_read bs (length bs) c.loop-i.i b (search rules) c.loop-i-test.true c.index-batches-i.is in
    batches_within l.groups l.groups 0 bs c.loop-i.i b refl (cut_of c.args.layout.now.groups c.args.batches.now c.requires.batches) at

pub append_batch-requires-clause-small : goal.append_batch-requires-clause-small
append_batch-requires-clause-small c =
    let l = c.args.layout.now in
    let bs = c.args.batches.now in
    let b = c.index-batches-i.result in
    let at : slice_get bs c.loop-i.i ≡ Some b = slice_get_read bs (length bs) c.loop-i.i b (search rules) c.loop-i-test.true c.index-batches-i.is in
    let ends = batches_end l.groups 0 bs c.loop-i.i b (cut_of c.args.layout.now.groups c.args.batches.now c.requires.batches) at in
    let few = c.requires.few in
    omega (arith, ends, few)

pub append_batch-requires-clause-bytes : goal.append_batch-requires-clause-bytes
append_batch-requires-clause-bytes c =
    let l = c.args.layout.now in
    let bs = c.args.batches.now in
    let i = c.loop-i.i in
    let b = c.index-batches-i.result in
    let at : slice_get bs i ≡ Some b = slice_get_read bs (length bs) i b (search rules) c.loop-i-test.true c.index-batches-i.is in
    let given = c.requires.each i c.index-outcomes-i.result (slice_get_read c.args.outcomes.now (length c.args.outcomes.now) i c.index-outcomes-i.result (search rules) (omega arith) c.index-outcomes-i.is) in
    let p = bytes_given l bs i b c.index-outcomes-i.result.bytes c.in-Ok.bytes given at (ap (λ (o : Outcome). o.bytes) c.index-outcomes-i.is ∙ c.in-Ok.is) in
    p.1

pub append_batch-requires-clause-starts : goal.append_batch-requires-clause-starts
append_batch-requires-clause-starts c = next_starts c.args.layout.now c.args.batches.now c.loop-i.i c.index-batches-i.result c.loop-i.starts c.loop-i-test.true c.index-batches-i.is c.loop-i.invariant.2

pub returns-in-Err-clause-faults : goal.returns-in-Err-clause-faults
returns-in-Err-clause-faults c =
    let l = c.args.layout.now in
    let bs = c.args.batches.now in
    let i = c.loop-i.i in
    let b = c.index-batches-i.result in
    let at : slice_get bs i ≡ Some b = slice_get_read bs (length bs) i b (search rules) c.loop-i-test.true c.index-batches-i.is in
    let given = c.requires.each i c.index-outcomes-i.result (slice_get_read c.args.outcomes.now (length c.args.outcomes.now) i c.index-outcomes-i.result (search rules) (omega arith) c.index-outcomes-i.is) in
    refuses_read (batch_errors l) bs i b c.in-Err.error c.loop-i-test.true c.index-batches-i.is c.loop-i.invariant.0 (fault_given l bs i b c.index-outcomes-i.result.bytes c.in-Err.error given at (ap (λ (o : Outcome). o.bytes) c.index-outcomes-i.is ∙ c.in-Err.is))

pub loop-i-init : goal.loop-i-init
loop-i-init c = (refl, refl, next_first c.args.layout.now c.args.batches.now c.args.starts.now (cut_of c.args.layout.now.groups c.args.batches.now c.requires.batches) (starts_at_first c.args.layout.now c.args.starts.now c.requires.starts))

pub loop-i-preserved : goal.loop-i-preserved
loop-i-preserved c =
    let l = c.args.layout.now in
    let bs = c.args.batches.now in
    let i = c.loop-i.i in
    let b = c.index-batches-i.result in
    let at : slice_get bs i ≡ Some b = slice_get_read bs (length bs) i b (search rules) c.loop-i-test.true c.index-batches-i.is in
    let given = c.requires.each i c.index-outcomes-i.result (slice_get_read c.args.outcomes.now (length c.args.outcomes.now) i c.index-outcomes-i.result (search rules) (omega arith) c.index-outcomes-i.is) in
    let p = bytes_given l bs i b c.index-outcomes-i.result.bytes c.in-Ok.bytes given at (ap (λ (o : Outcome). o.bytes) c.index-outcomes-i.is ∙ c.in-Ok.is) in (
      none_more (batch_errors l) bs i b c.loop-i-test.true c.loop-i.invariant.0 (ap (batch_errors l) (sym c.index-batches-i.is) ∙ p.0),
      overlay_prefix_read (batch_pieces l) bs i b c.args.out.now c.loop-i.out c.append_batch.new.out c.loop-i-test.true c.index-batches-i.is c.loop-i.invariant.1 c.append_batch.ensures.image,
      next_more l bs i b c.loop-i.starts c.append_batch.new.starts c.loop-i-test.true c.index-batches-i.is c.loop-i.invariant.2 c.append_batch.ensures.starts,
    )
