use Rattle.std.proofs.Common.{◌∙◌}
use Rattle.wild_space.proofs.Loops.{named_within}
use Rattle.wild_space.proofs.names.find_named.Goals as goal

pub returns-clause-small : goal.returns-clause-small
returns-clause-small c = named_within c.args.images.now c.args.name.now c.copied.result (c.copied.ensures ∙ c.get.ensures.value ∙ c.requires c.args.name.now)
