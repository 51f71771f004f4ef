use Rattle.std.proofs.Common.{drop}
use Rattle.wild_needs.specs.TableSymbols.{items_of}
use Rattle.wild_words.specs.Runs.{RestOfWalk}
use Rattle.wild_needs.proofs.walk.give_symbols.Given as goal

abbrev pub invariant-loop-pass : goal.invariant-loop-pass
invariant-loop-pass g l = RestOfWalk g.S.TableSink.goes g.S.TableSink.refuses l.initial.sink (items_of l.layout l.pass-items l.file) l.sink (items_of l.layout (drop l.pass-index l.pass-items) l.file)
