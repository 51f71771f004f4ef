use Rattle.std.proofs.Common.{List, subst}
use Rattle.wild_words.specs.Runs.{SinkRun}
use Rattle.wild_needs.specs.TableSymbols.{TableSymbol}
use Rattle.wild_symbols.proofs.NumberLemmas.{items_in_turn}
use Rattle.wild_symbols.proofs.numbers.give_all.Goals as goal

pub returns : goal.returns
returns g c = subst (λ (xs : List TableSymbol). SinkRun g.S.TableSink.goes g.S.TableSink.refuses c.args.sink.now xs c.give_groups.result c.give_groups.new.sink) (items_in_turn c.args.layout.now) c.give_groups.ensures
