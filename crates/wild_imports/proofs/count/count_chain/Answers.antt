use Rattle.std.proofs.Common.{arith}
use Rattle.std.proofs.lemmas.Bool.{ne_eqb}
use Rattle.wild_imports.proofs.Loops.{chain_next}
use Rattle.wild_imports.proofs.count.count_chain.Goals as goal

pub loop-i-preserved : goal.loop-i-preserved
loop-i-preserved c =
    let i = c.loop-i.invariant in
    let count = i.count in
    let place = i.place in
    record {
      same = chain_next _ _ _ _ _ _ _ c.loop-i-test.true c.in_ok-word.ensures.read (ne_eqb _ 1 c.if-word-eq1.false) i.same;
      count = omega (arith, count);
      place = omega (arith, place);
    }
