use Rattle.wild_image.proofs.Common.{arith, ap, List, ℕ, ◌++◌, sym, ◌∙◌, nil_from_length, on_ok_weaker, table_given}
use Rattle.wild_types.specs.declared.part.Role.TheVariants as role
use Rattle.wild_contents.proofs.FileTableLemmas.{none_added}
use Rattle.wild_image.proofs.TableLemmas.{written_is, part_written, given_whole, role_written}
use Rattle.wild_image.proofs.buffer.add_table.Goals as goal

pub returns-then-written_size-eq0 : goal.returns-then-written_size-eq0
returns-then-written_size-eq0 g c =
    let l = c.args.resolved.now.layout.now in
    let p = c.args.part.now in
    let size = written_is l c.args.i c.written_size.result p c.args.group.now c.requires.gives c.requires.part c.written_size.ensures in
    none_added c.args.bytes.now (table_given l c.args.group.now p) (nil_from_length _ (omega (arith, size, c.if-written_size-eq0.true)))

pub add_content-requires-clause-frames : goal.add_content-requires-clause-frames
add_content-requires-clause-frames g c = λ is.
    let l = c.args.resolved.now.layout.now in
    let p = c.args.part.now in
    let written = part_written l c.written_size.result _ p c.written_size.ensures c.if-written_size-eq0.false in
    c.requires.frames (role_written l c.args.i p role.EhFrame c.requires.once c.requires.part (λ z. cc) is written)

pub add_content-requires-clause-table : goal.add_content-requires-clause-table
add_content-requires-clause-table g c = λ is.
    let l = c.args.resolved.now.layout.now in
    let p = c.args.part.now in
    let written = part_written l c.written_size.result _ p c.written_size.ensures c.if-written_size-eq0.false in
    c.requires.table (role_written l c.args.i p role.EhFrameHdr c.requires.once c.requires.part (λ z. cc) is written)

pub returns : goal.returns
returns g c =
    let l = c.args.resolved.now.layout.now in
    let p = c.args.part.now in
    let written = part_written l c.written_size.result _ p c.written_size.ensures c.if-written_size-eq0.false in
    on_ok_weaker c.add_content.result (λ h. h ∙ ap (λ (bs : List ℕ). c.args.bytes.now ++ bs) (sym (given_whole l p c.args.group.now written))) c.add_content.ensures
