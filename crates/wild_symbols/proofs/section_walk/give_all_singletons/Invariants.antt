use Rattle.std.proofs.Common.{drop}
use Rattle.std.specs.List.{flat_map}
use Rattle.wild_types.specs.declared.file.Group.{Group}
use Rattle.wild_words.specs.Runs.{RestOfWalk}
use Rattle.wild_symbols.specs.SectionWalk.{singletons_in, singletons_in_groups}
use Rattle.wild_symbols.proofs.section_walk.give_all_singletons.Given as goal

abbrev pub invariant-loop-group : goal.invariant-loop-group
invariant-loop-group g l = RestOfWalk g.S.Sink.goes g.S.Sink.refuses l.initial.sink (singletons_in_groups l.layout) l.sink (flat_map (λ (x : Group). flat_map singletons_in x.files) (drop l.group-index l.group-items))
