use Rattle.std.proofs.Common.{◌≡◌, ◌+◌, length, drop}
use Rattle.std.specs.List.{flat_map}
use Rattle.wild_clauses.proofs.fronts.has_size.Given as goal

abbrev pub invariant-loop-string : goal.invariant-loop-string
invariant-loop-string l = l.left + length (flat_map (λ bs. bs) l.string-items) ≡ l.initial.left + length (flat_map (λ bs. bs) (drop l.string-index l.string-items))
