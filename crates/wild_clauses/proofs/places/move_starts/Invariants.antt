use Rattle.std.proofs.Common.{◌≡◌, ℕ, ◌+◌, ◌<◌, ◌≤◌, get_or, length}
use Rattle.wild_types.specs.FilePlaces.{given}
use Rattle.wild_clauses.proofs.places.move_starts.Given as goal

abbrev pub invariant-loop-k : goal.invariant-loop-k
invariant-loop-k l = record {
  moved : (j : ℕ) → j < l.k → get_or l.starts j 0 ≡ get_or l.initial.starts j 0 + given (l.part + j) l.group;
  left : (j : ℕ) → l.k ≤ j → get_or l.starts j 0 ≡ get_or l.initial.starts j 0;
  begins : (j : ℕ) → j < l.k → get_or l.cursors j 0 ≡ get_or l.initial.starts j 0;
  same : length l.cursors ≡ length l.initial.starts;
}
