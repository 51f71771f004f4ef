use Rattle.std.proofs.Common.{drop}
use Rattle.std.specs.Prelude.{option_to_list}
use Rattle.std.specs.List.{flat_map}
use Rattle.wild_types.specs.declared.input.InputSection.{InputSection}
use Rattle.wild_words.specs.Runs.{RestOfWalk}
use Rattle.wild_symbols.specs.SectionWalk.{singletons_in}
use Rattle.wild_symbols.proofs.section_walk.give_file_singletons.Given as goal

abbrev pub invariant-loop-section : goal.invariant-loop-section
invariant-loop-section g l = RestOfWalk g.S.Sink.goes g.S.Sink.refuses l.initial.sink (singletons_in l.file) l.sink (flat_map (λ (s : InputSection). option_to_list s.singleton) (drop l.section-index l.section-items))
