use Rattle.wild_image.proofs.Common.{◌≡◌, length, sym, ◌∙◌, arith, rules, subst, min, take_at, err_from_is_err_and, image_size, group_errors, IsPadded}
use Rattle.wild_image.proofs.StandingLemmas.{each_file_lies}
use Rattle.wild_image.proofs.BatchLemmas.{cut_of, joined}
use Rattle.wild_image.proofs.OutputLemmas.{prefix_of_batches, batches_refused}
use Rattle.wild_image.proofs.output.write_bytes.Goals as goal

pub append_all-requires-clause-inputs : goal.append_all-requires-clause-inputs
append_all-requires-clause-inputs g c = each_file_lies c.args.layout.now c.requires.laid_out

pub append_all-requires-clause-fits : goal.append_all-requires-clause-fits
append_all-requires-clause-fits g c = let size = c.requires.laid_out.size in omega (arith, size)

pub returns-in_err-append_all-clause-faults : goal.returns-in_err-append_all-clause-faults
returns-in_err-append_all-clause-faults g c =
    let r = c.from_residual-in_err-append_all in
    let p = err_from_is_err_and r.result r.ensures.1 in
    rw (p.1, p.2) (batches_refused c.args.layout.now c.args.batches.now _ c.requires.batches c.in_err-append_all.ensures.faults)

pub returns-clause-faults : goal.returns-clause-faults
returns-clause-faults g c =
    let l = c.args.layout.now in
    joined (group_errors l) 0 l.groups c.args.batches.now (cut_of l.groups c.args.batches.now c.requires.batches) ∙ c.in_ok-append_all.ensures.faults

pub returns-clause-image : goal.returns-clause-image
returns-clause-image g c =
    let l = c.args.layout.now in
    let long : length c.append_all.new.out ≡ c.in_ok-out.out.len = search rules in
    take_at c.append_all.new.out _ c.in_ok-out.out.len long
    ∙ prefix_of_batches l c.args.size c.args.batches.now c.deref_mut-2.result.now c.append_all.new.out c.requires.laid_out (c.owned_bytes_are_written.ensures l c.requires.clauses c.requires.shares) c.requires.batches
    (subst (IsPadded l (min (image_size l) c.args.size)) (sym c.deref_mut-2.ensures.value) c.in_ok-out.ensures) c.in_ok-append_all.ensures.image
