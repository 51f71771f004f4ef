use Rattle.wild_needs.specs.TableSymbols.{symbol_items}
use Rattle.wild_words.proofs.RunLemmas.{numbered_next}
use Rattle.wild_needs.proofs.walk.give_pass.Goals as goal

pub loop-i-preserved : goal.loop-i-preserved
loop-i-preserved g c = numbered_next (symbol_items c.args.layout.now c.args.pass) _ _ c.loop-i.i _ c.loop-i-test.true c.index-symbols-i.is c.loop-i.invariant c.in_ok-give_symbol.ensures
