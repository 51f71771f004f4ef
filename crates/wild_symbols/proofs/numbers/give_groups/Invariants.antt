use Rattle.std.proofs.Common.{drop}
use Rattle.std.specs.List.{flat_map}
use Rattle.wild_types.specs.declared.file.Group.{Group}
use Rattle.wild_words.specs.Runs.{RestOfWalk}
use Rattle.wild_needs.specs.TableSymbols.{file_items}
use Rattle.wild_symbols.proofs.numbers.give_groups.Given as goal

abbrev pub invariant-loop-group : goal.invariant-loop-group
invariant-loop-group g l =
    let f = λ (x : Group). flat_map (file_items l.layout) x.files in
    RestOfWalk g.S.TableSink.goes g.S.TableSink.refuses l.initial.sink (flat_map f l.layout.groups) l.sink (flat_map f (drop l.group-index l.group-items))
