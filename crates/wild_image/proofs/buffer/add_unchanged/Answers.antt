use Rattle.wild_image.proofs.Common.{List, length, All, sym, subst, FieldLies, MovesApart}
use Rattle.wild_types.specs.declared.input.InputRelocation.{InputRelocation}
use Rattle.wild_types.specs.Item.{Item, item_now}
use Rattle.wild_image.proofs.UnchangedLemmas.{unchanged_parts, unchanged_lie, unchanged_moves}
use Rattle.wild_image.proofs.buffer.add_unchanged.Goals as goal

pub add_data-requires-clause-lies : goal.add_data-requires-clause-lies
add_data-requires-clause-lies g c =
    let l = c.args.resolved.now.layout.now in
    let s = c.args.section.now in
    subst (λ (x : Item). All (FieldLies l.machine (length x.bytes)) x.relocations) (sym c.item.ensures) (unchanged_lie l s (unchanged_parts l s c.requires.so) c.requires.lies)

pub add_data-requires-clause-moves : goal.add_data-requires-clause-moves
add_data-requires-clause-moves g c =
    let l = c.args.resolved.now.layout.now in
    let s = c.args.section.now in
    let moves = subst (λ (x : Item). MovesApart l x s.relocations) (sym c.item.ensures) (unchanged_moves l c.args.file.now s (unchanged_parts l s c.requires.so)) in
    subst (λ (rs : List InputRelocation). MovesApart l (item_now c.item.result) rs) (sym c.as_slice.ensures) moves
