use Rattle.std.proofs.Common.{sym, ◌∙◌}
use Rattle.wild_debug.proofs.FieldLemmas.{none_written}
use Rattle.wild_debug.proofs.pass.write_sized.Goals as goal

pub returns-else-width-ne0 : goal.returns-else-width-ne0
returns-else-width-ne0 c = none_written c.args.size c.args.value c.args.offset c.args.out.now (sym c.width.ensures.width ∙ c.if-width-ne0.false)
