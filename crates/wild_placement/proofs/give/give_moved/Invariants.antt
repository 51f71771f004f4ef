use Rattle.std.proofs.Common.{drop, map}
use Rattle.wild_placement.specs.PlacedSections.{moved_relocation}
use Rattle.wild_words.specs.Runs.{RestOfWalk}
use Rattle.wild_placement.proofs.give.give_moved.Given as goal

abbrev pub invariant-loop-relocation : goal.invariant-loop-relocation
invariant-loop-relocation g l = RestOfWalk g.S.Sink.goes g.S.Sink.refuses l.initial.sink (map (moved_relocation l.entry) l.relocations) l.sink (map (moved_relocation l.entry) (drop l.relocation-index l.relocations))
