use Rattle.std.proofs.Common.{sym, ◌∙◌}
use Rattle.wild_clauses.proofs.OrderedLemmas.{file_out, file_last}
use Rattle.wild_clauses.proofs.places.pass_file.Goals as goal

pub returns-else-not-is_epilogue : goal.returns-else-not-is_epilogue
returns-else-not-is_epilogue c =
    let said = rw (c.if-pass_sections.true, c.as_slice.ensures) at c.pass_sections.ensures in
    let last = sym c.is_epilogue.ensures ∙ c.if-not-is_epilogue.false in
    let order = rw c.as_slice-order.ensures at c.pass_order.ensures in
    file_last c.args.layout.now c.args.part c.args.ends.now c.args.cursors.now c.pass_sections.new.cursors c.args.file.now last said ∙ order

pub returns-else-pass_sections : goal.returns-else-pass_sections
returns-else-pass_sections c =
    let said = rw (c.if-pass_sections.false, c.as_slice.ensures) at c.pass_sections.ensures in
    rw c.if-pass_sections.false (file_out c.args.layout.now c.args.part c.args.ends.now c.args.cursors.now c.args.file.now said)
