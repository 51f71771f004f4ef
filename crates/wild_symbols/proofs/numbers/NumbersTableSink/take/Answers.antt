use Rattle.std.proofs.Common.{None, ap, ◌∙◌, get_or, length}
use Rattle.wild_needs.specs.TableSymbols.{item}
use Rattle.wild_symbols.specs.SymbolNumbers.{number_at, local_after, other_after}
use Rattle.wild_symbols.proofs.NumberLemmas.{numbered_by}
use Rattle.wild_symbols.proofs.numbers.NumbersTableSink.take.Goals as goal

pub returns : goal.returns
returns c =
    numbered_by c.args.self.now c.note.new.self c.step.new.self (item c.args.named c.args.index c.args.symbol.now) c.is_itself.result c.number-number.result c.args.index c.step.result c.note.ensures.noted (λ k. c.is_itself.ensures c.args.index k c.args.symbol.now)
    (c.number-number.ensures ∙ ap (λ b. number_at b c.args.self.now.local c.args.self.now.other) c.is_local-local.ensures) c.is_local-local.ensures c.note.ensures.count c.note.ensures.local c.note.ensures.other c.step.ensures.numbers c.step.ensures.local c.step.ensures.other (λ e. tt)
