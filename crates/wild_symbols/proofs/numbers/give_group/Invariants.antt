use Rattle.std.proofs.Common.{drop}
use Rattle.std.specs.List.{flat_map}
use Rattle.wild_words.specs.Runs.{RestOfWalk}
use Rattle.wild_needs.specs.TableSymbols.{file_items}
use Rattle.wild_symbols.proofs.numbers.give_group.Given as goal

abbrev pub invariant-loop-file : goal.invariant-loop-file
invariant-loop-file g l = RestOfWalk g.S.TableSink.goes g.S.TableSink.refuses l.initial.sink (flat_map (file_items l.layout) l.group.files) l.sink (flat_map (file_items l.layout) (drop l.file-index l.file-items))
