use Rattle.wild_sections.specs.WrittenDecisions.{extent_at}
use Rattle.wild_sections.proofs.DecidedLemmas.{extents-some, extents-none}
use Rattle.wild_sections.proofs.overlap.extents_of.Goals as goal
use Rattle.wild_sections.proofs.overlap.extents_of.Goals.{in-Some+in_ok-push, in_default}

pub loop-i-preserved : goal.loop-i-preserved
loop-i-preserved c =
    let f = extent_at c.args.relocations.now c.args.origins.now c.args.decisions.now in
    elim c.match-extent_at.branch [
      | in-Some+in_ok-push w ↦ rw w.extents-is (extents-some f c.loop-i.i c.extent_at.result _ c.loop-i.extents.items _ c.extent_at.ensures w.in-Some.is c.loop-i.invariant w.in_ok-push.ensures.items)
      | in_default w ↦ rw w.extents-is (extents-none f c.loop-i.i c.extent_at.result c.loop-i.extents.items c.extent_at.ensures w.in_default.is c.loop-i.invariant)
    ]
