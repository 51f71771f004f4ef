use Rattle.std.proofs.Common.{arith, sym, ◌∙◌}
use Rattle.wild_relr.proofs.RunLemmas.{counted_adds, counted_joins, counted_done}
use Rattle.wild_relr.proofs.count.count_words.Goals as goal
use Rattle.wild_relr.proofs.count.count_words.Goals.{in-Adds, in_default}

pub loop-place-preserved : goal.loop-place-preserved
loop-place-preserved c =
    elim c.match-choice.branch [
      | in-Adds w ↦ record {
        rest = rw (w.count-is, w.run-is) (counted_adds c.loop-place.run w.in-Adds.next c.args.places.now _ _ _ _ w.in-Adds.ensures.is c.loop-place-test.true c.loop-place.invariant.rest);
        few = omega arith;
      }
      | in_default w ↦ record {
        rest = rw (w.count-is, w.run-is) (counted_joins c.loop-place.run c.args.places.now _ _ _ _ w.in_default.ensures.is c.loop-place-test.true c.loop-place.invariant.rest);
        few = omega arith;
      }
    ]

pub returns : goal.returns
returns c = counted_done _ _ _ _ _ c.loop-place-test.false c.loop-place.invariant.rest ∙ sym (c.runs_are_counted.ensures c.args.places.now)
