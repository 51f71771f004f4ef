use Rattle.wild_image.proofs.Common.{List, subst, err_from_is_err_and, flat_map, SortedSection, Refuses, sorted_errors}
use Rattle.wild_sections.proofs.FaultLemmas.{refuses_at}
use Rattle.wild_image.proofs.buffer.add_sorted.Goals as goal

pub returns-in_err-add_sorted_section-clause-faults : goal.returns-in_err-add_sorted_section-clause-faults
returns-in_err-add_sorted_section-clause-faults g c =
    let l = c.args.resolved.now.layout.now in
    let xs = c.as_slice-entry-items.result.now in
    let e = c.in_err-add_sorted_section.field-0.0 in
    let p = err_from_is_err_and c.from_residual.result c.from_residual.ensures.1 in
    let h = refuses_at (sorted_errors l) xs c.loop-entry.entry-index _ e c.loop-entry-test.true c.loop-entry.invariant.faults c.in_err-add_sorted_section.ensures.faults in
    rw (p.1, p.2) (subst (λ (ys : List SortedSection). Refuses e (flat_map (sorted_errors l) ys)) c.as_slice-entry-items.ensures h)
