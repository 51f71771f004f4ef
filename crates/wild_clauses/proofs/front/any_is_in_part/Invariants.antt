use Rattle.std.proofs.Common.{◌≡◌, drop}
use Rattle.std.specs.Prelude.{◌==◌}
use Rattle.std.specs.List.{list_any}
use Rattle.wild_types.specs.declared.layout.Merged.{Merged}
use Rattle.wild_clauses.proofs.front.any_is_in_part.Given as goal

abbrev pub invariant-loop-strings : goal.invariant-loop-strings
invariant-loop-strings l = list_any (λ (m : Merged). m.part == l.part) (drop l.strings-index l.merged) ≡ list_any (λ (m : Merged). m.part == l.part) l.merged
