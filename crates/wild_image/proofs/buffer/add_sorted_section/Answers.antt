use Rattle.wild_image.proofs.Common.{◌≡◌, ◌∙◌, true, sym, ap, subst, on_ok_weaker, is_read, is_frame, PlacedContent, inputs, SectionLies, IsWhole, HasOrigins, PlacedApart, IsOfKind}
use Rattle.wild_image.proofs.PlacedLemmas.{sorted_whole, sorted_apart, sorted_kind, sorted_origins, sorted_plain, one_stands}
use Rattle.wild_image.proofs.buffer.add_sorted_section.Goals as goal

pub add_placed-requires-clause-whole : goal.add_placed-requires-clause-whole
add_placed-requires-clause-whole g c = subst (λ (x : PlacedContent). IsWhole x.section) (sym c.in_ok-placed_input-in-Some.ensures) (sorted_whole c.args.resolved.now.layout.now c.in-Some.input.section.now)

pub add_placed-requires-clause-moves : goal.add_placed-requires-clause-moves
add_placed-requires-clause-moves g c =
    let l = c.args.resolved.now.layout.now in
    let f = c.in-Some.input.file.now in
    let s = c.in-Some.input.section.now in
    let is = sym c.sorted_input.ensures ∙ ap (inputs c.args.resolved.now.layout.now) c.in-Some.is in
    let stands = one_stands l c.args.entry.now f s is c.requires.stands in
    subst (λ (x : PlacedContent). is_read x.section ≡ true → PlacedApart l f x) (sym c.in_ok-placed_input-in-Some.ensures) (sorted_apart l f s stands.reversed_section)

pub add_placed-requires-clause-lies : goal.add_placed-requires-clause-lies
add_placed-requires-clause-lies g c =
    let l = c.args.resolved.now.layout.now in
    let f = c.in-Some.input.file.now in
    let s = c.in-Some.input.section.now in
    let is = sym c.sorted_input.ensures ∙ ap (inputs c.args.resolved.now.layout.now) c.in-Some.is in
    let stands = one_stands l c.args.entry.now f s is c.requires.stands in
    subst (λ (x : PlacedContent). SectionLies l x.section) (sym c.in_ok-placed_input-in-Some.ensures) stands.lies

pub returns-in_ok-placed_input-in-Some-clause-frames : goal.returns-in_ok-placed_input-in-Some-clause-frames
returns-in_ok-placed_input-in-Some-clause-frames g c =
    let plain = ap (λ (x : PlacedContent). is_frame x.section.slot) c.in_ok-placed_input-in-Some.ensures ∙ sorted_plain c.args.resolved.now.layout.now c.in-Some.input.section.now in
    on_ok_weaker c.add_placed.result (λ h. h plain) c.add_placed.ensures.plain

pub add_placed-requires-clause-kind : goal.add_placed-requires-clause-kind
add_placed-requires-clause-kind g c =
    let l = c.args.resolved.now.layout.now in
    subst (λ (x : PlacedContent). IsOfKind l x.section) (sym c.in_ok-placed_input-in-Some.ensures) (sorted_kind l c.in-Some.input.section.now)

pub add_placed-requires-clause-origins : goal.add_placed-requires-clause-origins
add_placed-requires-clause-origins g c = subst HasOrigins (sym c.in_ok-placed_input-in-Some.ensures) (sorted_origins c.args.resolved.now.layout.now c.in-Some.input.section.now)
