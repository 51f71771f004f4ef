use Rattle.std.proofs.Common.{drop}
use Rattle.std.specs.List.{flat_map}
use Rattle.wild_words.specs.Runs.{RestOfWalk}
use Rattle.wild_symbols.specs.SectionWalk.{singletons_in}
use Rattle.wild_symbols.proofs.section_walk.give_group_singletons.Given as goal

abbrev pub invariant-loop-file : goal.invariant-loop-file
invariant-loop-file g l = RestOfWalk g.S.Sink.goes g.S.Sink.refuses l.initial.sink (flat_map singletons_in l.group.files) l.sink (flat_map singletons_in (drop l.file-index l.file-items))
