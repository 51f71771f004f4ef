use Rattle.wild_image.proofs.Common.{List, ℕ, ◌++◌, [], get_or, sym, ap, ◌∙◌, on_ok_weaker}
use Rattle.wild_image.proofs.FrontLemmas.{writes_some, writes_part}
use Rattle.wild_image.proofs.OwnedLemmas.{front_none, front_written}
use Rattle.wild_image.proofs.split_by_part.add_front.Goals as goal

pub returns-then-not-writes_front : goal.returns-then-not-writes_front
returns-then-not-writes_front c = λ k low. front_none c.args.layout.now c.args.parts.now k c.args.part c.args.own.now (sym c.writes_front.ensures ∙ c.if-not-writes_front.true)

pub add_some-requires-clause-lies : goal.add_some-requires-clause-lies
add_some-requires-clause-lies c = c.requires.lies (writes_some c.args.layout.now c.args.part c.args.own.now (sym c.writes_front.ensures ∙ c.if-not-writes_front.false))

pub returns : goal.returns
returns c =
    let l = c.args.layout.now in
    let own = c.args.own.now in
    let written = writes_part l c.args.part own (sym c.writes_front.ensures ∙ c.if-not-writes_front.false) in
    on_ok_weaker c.add_some.result (λ h k low. h k low ∙ ap (λ (bs : List ℕ). get_or c.args.parts.now k [] ++ bs) (front_written l k c.args.part own written)) c.add_some.ensures
