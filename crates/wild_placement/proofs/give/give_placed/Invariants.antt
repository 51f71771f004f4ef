use Rattle.std.proofs.Common.{drop, map}
use Rattle.wild_placement.specs.PlacedInputs.{placed_at}
use Rattle.wild_words.specs.Runs.{RestOfWalk}
use Rattle.wild_placement.proofs.give.give_placed.Given as goal

abbrev pub invariant-loop-relocation : goal.invariant-loop-relocation
invariant-loop-relocation g l = RestOfWalk g.S.Sink.goes g.S.Sink.refuses l.initial.sink (map (placed_at l.target) l.relocations) l.sink (map (placed_at l.target) (drop l.relocation-index l.relocations))
