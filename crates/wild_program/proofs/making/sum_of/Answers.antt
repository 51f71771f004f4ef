use Rattle.wild_program.proofs.Common.{ℕ, length, ap, ◌∙◌, arith, rules, length-append, sum}
use Rattle.std.proofs.lemmas.List.{nil_from_length}
use Rattle.std.proofs.lemmas.List.Sums.{sum_by-append}
use Rattle.std.specs.Slice.Iter.{chunks_rest}
use Rattle.wild_program.proofs.making.sum_of.Goals as goal

pub loop-piece-preserved : goal.loop-piece-preserved
loop-piece-preserved c =
    let steps = c.in-Some.ensures.steps in
    let added = ap sum steps.1.0 ∙ sum_by-append (λ (x : ℕ). x) c.in-Some.piece.now (chunks_rest c.next.new.self) in
    let parts = ap length steps.1.0 ∙ length-append c.in-Some.piece.now (chunks_rest c.next.new.self) in
    let before = c.loop-piece.invariant in
    let value = c.short_sum.ensures.value in
    let bound = c.short_sum.ensures.bound in
    (search rules, tt, steps.0 ∙ before.2, omega arith, omega arith)

pub returns : goal.returns
returns c =
    let none = nil_from_length _ c.in-None.ensures.steps.1.0 in
    let before = rw none at c.loop-piece.invariant.3 in
    omega arith
