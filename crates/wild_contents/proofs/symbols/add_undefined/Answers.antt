use Rattle.std.proofs.Common.{ℕ, List, sym, ap, arith, ◌∙◌}
use Rattle.wild_needs.specs.DynamicStrings.{offset_after_string}
use Rattle.wild_contents.proofs.SymbolLemmas.{undefined_next, undefined_skipped, undefined_end}
use Rattle.wild_contents.proofs.symbols.add_undefined.Goals.{then-is_undefined_entry+in_ok-at, else-is_undefined_entry}
use Rattle.wild_contents.proofs.symbols.add_undefined.Goals as goal

pub loop-symbol-preserved : goal.loop-symbol-preserved
loop-symbol-preserved c =
    let role = c.args.role in
    let symbols = c.args.symbols.now in
    let i = c.loop-symbol.symbol-index in
    let s = c.symbol-item.result in
    elim c.if-is_undefined_entry.branch [
      | then-is_undefined_entry+in_ok-at w ↦
          undefined_next role symbols i s c.loop-symbol.bytes c.if-is_undefined_entry.bytes _ c.loop-symbol.at c.if-is_undefined_entry.at _ c.loop-symbol-test.true c.symbol-item.is (sym c.is_undefined_entry.ensures ∙ w.if-is_undefined_entry.true) w.undefined_fields-fields.ensures
          c.loop-symbol.invariant (w.bytes-is ∙ w.in_ok-at.ensures.entry) (w.at-is ∙ w.in_ok-at.ensures.next ∙ ap (λ (text : List ℕ). offset_after_string c.loop-symbol.at text) w.as_slice.ensures)
      | else-is_undefined_entry w ↦
          undefined_skipped role symbols i s c.loop-symbol.bytes c.if-is_undefined_entry.bytes _ c.loop-symbol.at c.if-is_undefined_entry.at c.loop-symbol-test.true c.symbol-item.is (sym c.is_undefined_entry.ensures ∙ w.if-is_undefined_entry.false)
          c.loop-symbol.invariant w.bytes-is w.at-is
    ]

pub returns : goal.returns
returns c = undefined_end c.args.role c.args.symbols.now c.loop-symbol.symbol-index c.loop-symbol.at c.loop-symbol.bytes _ (let end = c.loop-symbol.auto.symbol-index-end in let out = c.loop-symbol-test.false in omega (arith, end, out)) c.loop-symbol.invariant
