use Rattle.std.proofs.Common.{sym, ◌∙◌}
use Rattle.wild_clauses.proofs.CopyLemmas.{group_out, group_on}
use Rattle.wild_clauses.proofs.copies.first_marked.Goals as goal

pub returns-then-not-mark_files : goal.returns-then-not-mark_files
returns-then-not-mark_files c =
    let said = rw (c.if-not-mark_files.true, c.as_slice.ensures) at c.mark_files.ensures in
    sym (group_out c.args.layout.now c.args.start c.loop-i.marks c.args.groups.now c.loop-i.i _ c.loop-i-test.true c.index-groups-i.is said) ∙ c.loop-i.invariant

pub loop-i-preserved : goal.loop-i-preserved
loop-i-preserved c =
    let said = rw (c.if-not-mark_files.false, c.as_slice.ensures) at c.mark_files.ensures in
    let next = group_on c.args.layout.now c.args.start c.loop-i.marks c.mark_files.new.marks c.args.groups.now c.loop-i.i _ c.loop-i-test.true c.index-groups-i.is said in
    sym next ∙ c.loop-i.invariant
