use Rattle.wild_image.proofs.Common.{sym, ◌∙◌}
use Rattle.wild_image.proofs.FrontLemmas.{front_not_put, writes_some, writes_part}
use Rattle.wild_image.proofs.append.put_front.Goals as goal

pub returns-then-not-writes_front : goal.returns-then-not-writes_front
returns-then-not-writes_front c = front_not_put c.args.layout.now c.args.part c.args.own.now c.args.out.now (sym c.writes_front.ensures ∙ c.if-not-writes_front.true)

pub put_some-requires-clause-some : goal.put_some-requires-clause-some
put_some-requires-clause-some c = writes_some c.args.layout.now c.args.part c.args.own.now (sym c.writes_front.ensures ∙ c.if-not-writes_front.false)

pub put_some-requires-clause-written : goal.put_some-requires-clause-written
put_some-requires-clause-written c = writes_part c.args.layout.now c.args.part c.args.own.now (sym c.writes_front.ensures ∙ c.if-not-writes_front.false)

pub put_some-requires-clause-lies : goal.put_some-requires-clause-lies
put_some-requires-clause-lies c = c.requires (writes_some c.args.layout.now c.args.part c.args.own.now (sym c.writes_front.ensures ∙ c.if-not-writes_front.false))
