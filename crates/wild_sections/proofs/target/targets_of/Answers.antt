use Rattle.wild_sections.proofs.TargetLemmas.{target_more}
use Rattle.wild_sections.proofs.target.targets_of.Goals as goal

pub loop-i-preserved : goal.loop-i-preserved
loop-i-preserved c = target_more c.args.layout.now c.loop-i.i c.loop-i.targets.items c.push.new.self.items _ c.loop-i.invariant c.in_ok-push.ensures.items c.target_of.ensures
