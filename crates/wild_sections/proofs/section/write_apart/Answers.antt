use Rattle.std.proofs.lemmas.Result.{err_from_is_err_and}
use Rattle.wild_types.specs.Item.{item_now}
use Rattle.wild_sections.specs.Origins.{ending_errors}
use Rattle.wild_sections.proofs.DecidedLemmas.{ending_refused, overlap_refused, item_passes, decided_apart, decisions_lie, lies_in_bytes}
use Rattle.wild_sections.proofs.section.write_apart.Goals as goal

pub returns-in_err-check_overlap-clause-faults : goal.returns-in_err-check_overlap-clause-faults
returns-in_err-check_overlap-clause-faults g c =
    let r = c.from_residual-in_err-check_overlap in
    let p = err_from_is_err_and r.result r.ensures.1 in
    rw (p.1, p.2) (overlap_refused c.args.resolved.now.layout.now c.args.origin.now.place.group c.args.origin.now.place.file c.args.origin.now.place.section (item_now c.args.item.now) c.args.origin.now.relocations.now (ending_errors c.args.origin.now.place c.args.origin.now.ending) c.in_ok-decisions.decisions.items _ c.requires.moves.count c.in_ok-decisions.ensures.decisions (lies_in_bytes c.args.resolved.now.layout.now (item_now c.args.item.now) _ c.requires.room c.requires.lies) c.in_ok-decisions.ensures.faults c.in_ok-check_ending.ensures (rw c.deref.ensures.value at c.in_err-check_overlap.ensures))

pub returns-in_err-check_ending-clause-faults : goal.returns-in_err-check_ending-clause-faults
returns-in_err-check_ending-clause-faults g c =
    let r = c.from_residual-in_err-check_ending in
    let p = err_from_is_err_and r.result r.ensures.1 in
    rw (p.1, p.2) (ending_refused c.args.resolved.now.layout.now c.args.origin.now.place.group c.args.origin.now.place.file c.args.origin.now.place.section (item_now c.args.item.now) c.args.origin.now.relocations.now (ending_errors c.args.origin.now.place c.args.origin.now.ending) _ c.in_ok-decisions.ensures.faults c.in_err-check_ending.ensures)

pub write_decisions-requires-clause-apart : goal.write_decisions-requires-clause-apart
write_decisions-requires-clause-apart g c = rw (c.copy_from_slice.ensures.len, c.deref-2.ensures.value) (decided_apart c.args.resolved.now.layout.now (item_now c.args.item.now) c.args.origin.now.relocations.now c.in_ok-decisions.decisions.items c.args.origin.now.place.group c.args.origin.now.place.file c.args.origin.now.place.section _ c.requires.moves c.in_ok-decisions.ensures.decisions c.requires.room c.requires.lies (rw c.deref.ensures.value at c.in_ok-check_overlap.ensures))

pub returns-clause-faults : goal.returns-clause-faults
returns-clause-faults g c = item_passes c.args.resolved.now.layout.now c.args.origin.now.place.group c.args.origin.now.place.file c.args.origin.now.place.section (item_now c.args.item.now) c.args.origin.now.relocations.now (ending_errors c.args.origin.now.place c.args.origin.now.ending) c.in_ok-decisions.decisions.items c.requires.moves.count c.in_ok-decisions.ensures.decisions (lies_in_bytes c.args.resolved.now.layout.now (item_now c.args.item.now) _ c.requires.room c.requires.lies) c.in_ok-decisions.ensures.faults c.in_ok-check_ending.ensures (rw c.deref.ensures.value at c.in_ok-check_overlap.ensures)

pub write_decisions-requires-clause-lie : goal.write_decisions-requires-clause-lie
write_decisions-requires-clause-lie g c = rw (c.copy_from_slice.ensures.len, c.deref-2.ensures.value) (decisions_lie c.args.resolved.now.layout.now (item_now c.args.item.now) c.in_ok-decisions.decisions.items _ c.in_ok-decisions.ensures.decisions c.requires.room c.requires.lies)
