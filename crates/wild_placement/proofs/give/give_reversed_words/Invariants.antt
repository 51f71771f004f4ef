use Rattle.std.proofs.Common.{drop, map}
use Rattle.wild_placement.specs.ReversedWords.{reversed_offset}
use Rattle.wild_words.specs.Runs.{RestOfWalk}
use Rattle.wild_placement.proofs.give.give_reversed_words.Given as goal

abbrev pub invariant-loop-relocation : goal.invariant-loop-relocation
invariant-loop-relocation g l = RestOfWalk g.S.Sink.goes g.S.Sink.refuses l.initial.sink (map (reversed_offset l.size) l.relocations) l.sink (map (reversed_offset l.size) (drop l.relocation-index l.relocations))
