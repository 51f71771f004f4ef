use Rattle.std.proofs.Common.{◌≡◌, true, false, sym, ◌∙◌}
use Rattle.wild_io.proofs.memory.MemSinkSink.write.Goals as goal

pub returns-then-contains-clause-empty : goal.returns-then-contains-clause-empty
returns-then-contains-clause-empty c = λ no yes.
    let clash : true ≡ false = sym c.if-contains.true ∙ (rw c.deref.ensures.value at c.contains.ensures.value) ∙ no in
    absurd cc

pub returns-then-contains-2-clause-takes : goal.returns-then-contains-2-clause-takes
returns-then-contains-2-clause-takes c = λ no none.
    let clash : true ≡ false = sym c.if-contains-2.true ∙ (rw c.deref-2.ensures.value at c.contains-2.ensures.value) ∙ none in
    absurd cc
