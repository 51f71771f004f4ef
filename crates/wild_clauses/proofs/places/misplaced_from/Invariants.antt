use Rattle.std.proofs.Common.{◌≡◌, ℕ, ◌+◌, ◌^◌, ◌<◌, drop, get_or, length}
use Rattle.wild_types.specs.Lists.{total}
use Rattle.wild_types.specs.FilePlaces.{given}
use Rattle.wild_plan_rules.specs.MisplacedSections.{misplaced}
use Rattle.wild_clauses.proofs.places.misplaced_from.Given as goal

abbrev pub invariant-loop-i : goal.invariant-loop-i
invariant-loop-i l = record {
  rest : misplaced l.layout l.part l.starts l.i (drop l.i l.group-items) ≡ misplaced l.layout l.part l.initial.starts 0 l.group-items;
  room : (k : ℕ) → k < length l.starts → get_or l.starts k 0 + total (given (l.part + k)) (drop l.i l.group-items) < 2 ^ 64;
}
