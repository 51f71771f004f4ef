use Rattle.std.proofs.Common.{drop}
use Rattle.wild_words.specs.Runs.{RestOfWalk}
use Rattle.wild_placement.proofs.give.give_all.Given as goal

abbrev pub invariant-loop-relocation : goal.invariant-loop-relocation
invariant-loop-relocation g l = RestOfWalk g.S.Sink.goes g.S.Sink.refuses l.initial.sink l.relocations l.sink (drop l.relocation-index l.relocations)
