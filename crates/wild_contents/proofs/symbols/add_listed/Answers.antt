use Rattle.std.proofs.Common.{ℕ, List, ap, arith, ◌∙◌}
use Rattle.wild_needs.specs.DynamicStrings.{offset_after_string}
use Rattle.wild_contents.proofs.SymbolLemmas.{listed_next, listed_end}
use Rattle.wild_contents.proofs.symbols.add_listed.Goals as goal

pub loop-symbol-preserved : goal.loop-symbol-preserved
loop-symbol-preserved g c =
    listed_next c.args.resolved.now.layout.now c.args.symbols.now c.loop-symbol.symbol-index c.symbol-item.result c.loop-symbol.bytes c.add_symbol.new.bytes _ c.loop-symbol.at c.in_ok-at.at _ c.loop-symbol-test.true c.symbol-item.is c.exported_fields-fields.ensures
    c.loop-symbol.invariant c.in_ok-at.ensures.entry (c.in_ok-at.ensures.next ∙ ap (λ (text : List ℕ). offset_after_string c.loop-symbol.at text) c.as_slice.ensures)

pub returns : goal.returns
returns g c = listed_end c.args.resolved.now.layout.now c.args.symbols.now c.loop-symbol.symbol-index c.loop-symbol.at c.loop-symbol.bytes _ (let end = c.loop-symbol.auto.symbol-index-end in let out = c.loop-symbol-test.false in omega (arith, end, out)) c.loop-symbol.invariant
