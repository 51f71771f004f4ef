use Rattle.wild_image.proofs.Common.{rules, sym, ◌∙◌}
use Rattle.wild_image.proofs.PlainLemmas.{share_raw, share_plain}
use Rattle.wild_image.proofs.shares.share_is_correct.Goals as goal

pub returns-then-has_role : goal.returns-then-has_role
returns-then-has_role c = λ e. share_raw c.args.layout.now c.args.i c.args.index c.args.part.now c.args.group.now c.requires.part c.requires.group (sym c.has_role.ensures ∙ c.if-has_role.true)

pub returns-then-given-eq0 : goal.returns-then-given-eq0
returns-then-given-eq0 c = λ e. share_plain c.args.layout.now c.args.i c.args.index c.args.part.now c.args.group.now c.requires.part c.requires.group (search rules) (c.requires.plain c.if-plain.true)
