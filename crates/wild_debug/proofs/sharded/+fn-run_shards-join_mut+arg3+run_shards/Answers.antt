use Rattle.std.proofs.Common.{rules}
use Rattle.wild_shards.proofs.TileLemmas.{tiles-run}
use Rattle.wild_layout.specs.Debug.{debug_rule, at_offset_only}
use Rattle.wild_debug.specs.Rules.{rule_keeps}
use Rattle.wild_debug.proofs.sharded.+fn-run_shards-join_mut+arg3+run_shards.Goals as goal

pub returns : goal.returns
returns g t c =
    let l = c.args.step.now.resolved.now.layout.now in
    let s = c.args.step.now.section.now in
    tiles-run (debug_rule l at_offset_only s) c.args.ranges.now c.in-Some.first.now c.in-Some.rest.now c.args.relocations.now c.split_at.result.0.now c.split_at.result.1.now
    c.args.out.now c.split_at_mut-front.result.0.now c.split_at_mut-front.result.1.now c.front-1.given.0 c.back-1.given.0 c.args.base c.join_mut-one.result.0 c.join_mut-one.result.1 c.first_of.result
    (search rules) (search rules) (search rules) (search rules) (search rules) (search rules) (rule_keeps l s) (search rules) (search rules) (search rules)
