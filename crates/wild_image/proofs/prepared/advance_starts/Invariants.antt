use Rattle.wild_image.proofs.TableLemmas.{AreMoved}
use Rattle.wild_image.proofs.prepared.advance_starts.Given as goal

abbrev pub invariant-loop-i : goal.invariant-loop-i
invariant-loop-i l = AreMoved l.layout l.index l.initial.starts l.i l.starts
