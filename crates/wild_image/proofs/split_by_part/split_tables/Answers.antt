use Rattle.wild_image.proofs.Common.{◌≡◌, ℕ, List, ◌++◌, [], ◌∷◌, ap, ◌∙◌, table_given}
use Rattle.wild_image.proofs.AppendLemmas.{CutOff, cut_off, next_begins_at, stands_more_at, read_at}
use Rattle.wild_image.proofs.OwnedLemmas.{map_read}
use Rattle.wild_image.proofs.TableLemmas.{written_is}
use Rattle.wild_image.proofs.split_by_part.split_tables.Goals as goal

pub split_at-requires : goal.split_at-requires
split_at-requires c =
    let l = c.args.layout.now in
    let g = c.args.group.now in
    let p = c.part-item.result in
    let at = read_at l.parts c.as_slice-part-items.result.now c.loop-i.i p c.as_slice-part-items.ensures c.loop-i-test.true c.part-item.is in
    let size = written_is l c.loop-i.i c.written_size.result p g c.requires.gives at c.written_size.ensures in
    let own = next_begins_at (table_given l g) l.parts c.as_slice-part-items.result.now c.loop-i.i p c.args.bytes.now c.loop-i.rest.now c.as_slice-part-items.ensures c.loop-i-test.true c.part-item.is c.requires.own c.loop-i.invariant.1 in
    (cut_off (table_given l g p) c.loop-i.rest.now c.written_size.result size own).within

pub loop-i-preserved : goal.loop-i-preserved
loop-i-preserved c =
    let l = c.args.layout.now in
    let g = c.args.group.now in
    let p = c.part-item.result in
    let f = table_given l g in
    let items = c.as_slice-part-items.result.now in
    let same = c.as_slice-part-items.ensures in
    let at = read_at l.parts items c.loop-i.i p same c.loop-i-test.true c.part-item.is in
    let size = written_is l c.loop-i.i c.written_size.result p g c.requires.gives at c.written_size.ensures in
    let own = next_begins_at f l.parts items c.loop-i.i p c.args.bytes.now c.loop-i.rest.now same c.loop-i-test.true c.part-item.is c.requires.own c.loop-i.invariant.1 in
    let cut = cut_off (table_given l g p) c.loop-i.rest.now c.written_size.result size own in (
      map_read f l.parts c.loop-i.i p c.loop-i.parts.items _ at c.loop-i.invariant.0 (c.in_ok-push.ensures.items ∙ ap (λ (bs : List ℕ). c.loop-i.parts.items ++ bs ∷ []) (c.in_ok-extend.ensures ∙ ap (λ (bs : List ℕ). bs ++ c.split_at.result.0.now) c.in_ok-piece.ensures ∙ c.split_at.ensures.front ∙ cut.front)),
      stands_more_at f l.parts items c.loop-i.i p c.args.bytes.now c.loop-i.rest.now _ same c.loop-i-test.true c.part-item.is c.loop-i.invariant.1 (λ rest e. c.split_at.ensures.back ∙ cut.back rest e),
    )
