use Rattle.std.proofs.Common.{drop}
use Rattle.std.specs.List.{flat_map}
use Rattle.wild_needs.specs.TableSymbols.{thunk_item, thunk_items}
use Rattle.wild_words.specs.Runs.{RestOfWalk}
use Rattle.wild_needs.proofs.walk.give_thunks.Given as goal

abbrev pub invariant-loop-thunk : goal.invariant-loop-thunk
invariant-loop-thunk g l = RestOfWalk g.S.TableSink.goes g.S.TableSink.refuses l.initial.sink (thunk_items l.layout l.file) l.sink (flat_map (thunk_item l.layout) (drop l.thunk-index l.thunk-items))
