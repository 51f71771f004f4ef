use Rattle.std.proofs.Common.{◌+◌, drop}
use Rattle.wild_needs.specs.TableSymbols.{pass_items}
use Rattle.wild_words.specs.Runs.{RestOfWalk}
use Rattle.wild_needs.proofs.walk.give_pass.Given as goal

abbrev pub invariant-loop-i : goal.invariant-loop-i
invariant-loop-i g l = let f = pass_items l.layout l.pass in RestOfWalk g.S.TableSink.goes g.S.TableSink.refuses l.initial.sink (f l.first l.symbols) l.sink (f (l.first + l.i) (drop l.i l.symbols))
