use Rattle.std.proofs.Common.{refl}
use Rattle.wild_types.specs.Item.{item_now}
use Rattle.wild_sections.specs.WrittenDecisions.{decided_sites}
use Rattle.wild_sections.proofs.DecidedLemmas.{step_lies, step_put}
use Rattle.wild_sections.proofs.section.write_decisions.Goals as goal

pub loop-i-init : goal.loop-i-init
unfolding decided_sites
loop-i-init c = refl

pub write_decision-requires : goal.write_decision-requires
write_decision-requires c = record { lies = step_lies (item_now c.args.item.now) c.args.decisions.now c.loop-i.i _ _ _ _ c.requires.count c.loop-i-test.true c.index-relocations-i.is c.loop-i.auto.room c.requires.lie }

pub loop-i-preserved : goal.loop-i-preserved
loop-i-preserved c = step_put (item_now c.args.item.now) c.args.decisions.now c.loop-i.i _ _ c.args.room.now c.loop-i.room c.write_decision.new.room c.requires.count c.loop-i-test.true c.index-relocations-i.is c.requires.bytes c.requires.lie c.requires.apart c.loop-i.invariant c.write_decision.ensures
