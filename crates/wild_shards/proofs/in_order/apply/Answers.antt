use Rattle.std.proofs.Common.{rules}
use Rattle.wild_shards.proofs.PartLemmas.{came-on}
use Rattle.wild_shards.proofs.in_order.apply.Goals as goal

pub returns : goal.returns
returns g c = came-on (g.S.Step.rule c.args.step.now) c.args.base _ _ c.args.relocation.now c.args.out.now _ c.write.result c.steps_stay_in_fields.ensures.keeps (search rules) (search rules) (search rules) c.write.ensures
