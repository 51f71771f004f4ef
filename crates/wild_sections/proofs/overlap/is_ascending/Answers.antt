use Rattle.std.proofs.Common.{length}
use Rattle.wild_sections.specs.WrittenDecisions.{extent_at}
use Rattle.wild_sections.proofs.DecidedLemmas.{ascends-some, ascends-none}
use Rattle.wild_sections.proofs.overlap.is_ascending.Goals as goal
use Rattle.wild_sections.proofs.overlap.is_ascending.Goals.{in-Some+else-extent-reach, in_default}

pub loop-i-preserved : goal.loop-i-preserved
loop-i-preserved c =
    let f = extent_at c.args.relocations.now c.args.origins.now c.args.decisions.now in
    elim c.match-extent_at.branch [
      | in-Some+else-extent-reach w ↦ rw w.reach-is (ascends-some f c.loop-i.i (length c.args.decisions.now) c.loop-i.reach _ _ c.extent_at.result _ c.loop-i-test.true c.extent_at.ensures w.in-Some.is w.if-extent-reach.false w.max-reach.ensures c.loop-i.invariant)
      | in_default w ↦ rw w.reach-is (ascends-none f c.loop-i.i (length c.args.decisions.now) c.loop-i.reach _ c.extent_at.result c.loop-i-test.true c.extent_at.ensures w.in_default.is c.loop-i.invariant)
    ]
