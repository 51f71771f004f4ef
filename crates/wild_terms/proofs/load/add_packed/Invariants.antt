use Rattle.std.proofs.Common.{◌≡◌, drop, []}
use Rattle.wild_terms.specs.Symbolic.{add_place_terms}
use Rattle.wild_terms.proofs.load.add_packed.Given as goal

abbrev pub invariant-loop-place : goal.invariant-loop-place
invariant-loop-place l = add_place_terms l.outline l.memory (drop l.place-index l.places) l.patches ≡ add_place_terms l.outline l.memory l.places []
