use Rattle.wild_image.proofs.Common.{◌&&◌, nat_le, nat_lt, Marks}
use Rattle.wild_image.proofs.marks.mark_range.Given as goal

abbrev pub invariant-loop-k : goal.invariant-loop-k
invariant-loop-k l = Marks (λ k. nat_le l.at k && nat_lt k l.k) l.initial.taken l.taken
