use Rattle.std.proofs.Common.{List, sym, subst}
use Rattle.std.proofs.lemmas.Result.{err_from_is_err_and}
use Rattle.wild_types.specs.declared.fault.Error.{Error}
use Rattle.wild_types.specs.Faults.{Answers}
use Rattle.wild_relinker.proofs.ChangedFaultLemmas.{check_refused, clauses_hold, shares_hold, errors-of_group}
use Rattle.wild_relinker.proofs.changed_image.write_checked.Goals as goal

pub returns-in_err-check_changed-clause-faults : goal.returns-in_err-check_changed-clause-faults
returns-in_err-check_changed-clause-faults g c =
    let p = err_from_is_err_and c.from_residual.result c.from_residual.ensures.1 in
    let x = c.args.found in
    rw (p.1, p.2) (check_refused c.args.layout.now c.args.index x.group.now x.file.now x.section.now _ c.requires.faults c.in_err-check_changed.ensures)

pub write_group_over-requires-clause-clauses : goal.write_group_over-requires-clause-clauses
write_group_over-requires-clause-clauses g c =
    let x = c.args.found in
    clauses_hold c.args.layout.now c.args.index x.group.now x.file.now x.section.now c.requires.faults c.in_ok-check_changed.ensures

pub write_group_over-requires-clause-shares : goal.write_group_over-requires-clause-shares
write_group_over-requires-clause-shares g c =
    let x = c.args.found in
    shares_hold c.args.layout.now c.args.index x.group.now x.file.now x.section.now c.requires.faults c.in_ok-check_changed.ensures

pub returns-clause-faults : goal.returns-clause-faults
returns-clause-faults g c =
    let x = c.args.found in
    let same = errors-of_group c.args.layout.now c.args.index x.group.now x.file.now x.section.now c.requires.faults c.in_ok-check_changed.ensures in
    subst (λ (es : List Error). Answers c.write_group_over.result es) (sym same) (c.write_group_over.ensures.pieces x.group.now c.requires.group).0

pub returns-clause-image : goal.returns-clause-image
returns-clause-image g c = (c.write_group_over.ensures.pieces c.args.found.group.now c.requires.group).1
