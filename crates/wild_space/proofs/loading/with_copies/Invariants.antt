use Rattle.std.proofs.Common.{◌≡◌, drop}
use Rattle.wild_space.specs.Bound.{with_copies}
use Rattle.wild_space.proofs.loading.with_copies.Given as goal

abbrev pub invariant-loop-index : goal.invariant-loop-index
invariant-loop-index l = with_copies l.order l.sources l.memories (drop l.index-index l.copies) l.answers ≡ with_copies l.order l.sources l.memories l.copies l.initial.answers
