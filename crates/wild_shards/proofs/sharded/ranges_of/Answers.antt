use Rattle.wild_shards.proofs.ByIndexLemmas.{answer_tiles}
use Rattle.wild_shards.proofs.sharded.ranges_of.Goals as goal

pub returns-clause-tiles : goal.returns-clause-tiles
returns-clause-tiles g c = answer_tiles (λ v. v.items) (g.S.Step.rule c.args.step.now) c.args.relocations.now c.args.output c.args.shards c.debug_relocation_shard_ranges_parallel.result c.steps_stay_in_fields.ensures.small c.debug_relocation_shard_ranges_parallel.ensures
