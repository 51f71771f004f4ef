use Rattle.wild_image.proofs.Common.{◌≡◌, true, sym, subst, is_read, PlacedContent, PlacedApart, HasOrigins, IsWhole, IsOfKind}
use Rattle.wild_image.proofs.PlacedLemmas.{placed_section_whole, placed_content_apart, placed_content_origins, placed_section_kind}
use Rattle.wild_image.proofs.buffer.add_section.Goals as goal

pub add_placed-requires-clause-whole : goal.add_placed-requires-clause-whole
add_placed-requires-clause-whole g c = subst (λ (x : PlacedContent). IsWhole x.section) (sym c.in_ok-placed_input.ensures) (placed_section_whole c.args.resolved.now.layout.now c.args.file.now c.args.at c.args.section.now)

pub add_placed-requires-clause-moves : goal.add_placed-requires-clause-moves
add_placed-requires-clause-moves g c =
    let l = c.args.resolved.now.layout.now in
    let f = c.args.file.now in
    subst (λ (x : PlacedContent). is_read x.section ≡ true → PlacedApart l f x) (sym c.in_ok-placed_input.ensures) (placed_content_apart l f c.args.at c.args.section.now c.requires.reversed_section)

pub add_placed-requires-clause-kind : goal.add_placed-requires-clause-kind
add_placed-requires-clause-kind g c =
    let l = c.args.resolved.now.layout.now in
    subst (λ (x : PlacedContent). IsOfKind l x.section) (sym c.in_ok-placed_input.ensures) (placed_section_kind l c.args.file.now c.args.at c.args.section.now c.requires.kind)

pub add_placed-requires-clause-origins : goal.add_placed-requires-clause-origins
add_placed-requires-clause-origins g c = subst HasOrigins (sym c.in_ok-placed_input.ensures) (placed_content_origins c.args.resolved.now.layout.now c.args.file.now c.args.at c.args.section.now c.requires.kind)
