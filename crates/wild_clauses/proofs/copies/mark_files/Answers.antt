use Rattle.std.proofs.Common.{sym, ◌∙◌}
use Rattle.wild_clauses.specs.Copies.{copied_of}
use Rattle.wild_clauses.proofs.CopyLemmas.{walk_out, walk_on}
use Rattle.wild_clauses.proofs.copies.mark_files.Goals as goal

pub returns-then-not-mark_copies : goal.returns-then-not-mark_copies
returns-then-not-mark_copies c =
    let said = rw (c.if-not-mark_copies.true, c.as_slice.ensures) at c.mark_copies.ensures in
    sym c.loop-file.invariant ∙ walk_out (copied_of c.args.layout.now) c.args.start c.loop-file.marks c.args.files.now c.loop-file.file-index _ c.loop-file-test.true c.file-item.is said

pub loop-file-preserved : goal.loop-file-preserved
loop-file-preserved c =
    let said = rw (c.if-not-mark_copies.false, c.as_slice.ensures) at c.mark_copies.ensures in
    let next = walk_on (copied_of c.args.layout.now) c.args.start c.loop-file.marks c.mark_copies.new.marks c.args.files.now c.loop-file.file-index _ c.loop-file-test.true c.file-item.is said in
    sym next ∙ c.loop-file.invariant
