use Rattle.std.proofs.Common.{eq-eqb}
use Rattle.std.proofs.lemmas.Bool.{ne_eqb}
use Rattle.wild_imports.specs.Imports.{needed_offsets}
use Rattle.wild_imports.proofs.Loops.{needed_next, needed_stop, needed_done}
use Rattle.wild_imports.proofs.needed.needed_offsets.Goals as goal

pub returns-then-entry-eq-DT_NULL : goal.returns-then-entry-eq-DT_NULL
unfolding needed_offsets
returns-then-entry-eq-DT_NULL c = needed_stop _ _ _ _ _ _ c.loop-i-test.true (eq-eqb _ 0 (rw c.read-entry.ensures at c.if-entry-eq-DT_NULL.true)) c.loop-i.invariant

pub loop-i-preserved : goal.loop-i-preserved
loop-i-preserved c = needed_next _ _ _ _ _ _ _ c.loop-i-test.true (ne_eqb _ 0 (rw c.read-entry.ensures at c.if-entry-eq-DT_NULL.false)) (rw c.read-entry.ensures at c.in_ok-offsets.ensures) c.loop-i.invariant

pub returns : goal.returns
unfolding needed_offsets
returns c = needed_done _ _ _ _ _ _ c.loop-i-test.false c.loop-i.invariant
