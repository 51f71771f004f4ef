use Rattle.std.proofs.Common.{◌<◌, arith, ◌∙◌, ap, length, Option, None, ℕ}
use Rattle.std.specs.Option.{option_or}
use Rattle.std.proofs.lemmas.List.{length-replicate}
use Rattle.wild_sections.specs.SymbolAddresses.{decided}
use Rattle.wild_symbols.proofs.NoteLemmas.{first_noted}
use Rattle.wild_sections.proofs.ValueLemmas.{value_more}
use Rattle.wild_sections.proofs.values.values_by.Goals as goal

pub loop-i-preserved : goal.loop-i-preserved
loop-i-preserved c =
    let l = c.args.layout.now in
    let n = ap length c.requires ∙ length-replicate (length l.symbols) None in
    let m = c.place_groups.auto.placed in
    let h : c.loop-i.i < length c.args.placed.now = omega (arith, m, c.loop-i-test.true) in
    let is = first_noted (length l.symbols) c.loop-i.i c.args.placed.now _ _ c.requires (omega (arith, n, h)) (c.place_groups.ensures c.loop-i.i h) in
    value_more l c.loop-i.i c.loop-i.values.items c.push.new.self.items _ c.or.result c.loop-i.invariant c.in_ok-push.ensures.items is
    (c.or.ensures ∙ ap (λ (o : Option ℕ). option_or o c.flatten.result) c.decided.ensures ∙ ap (option_or (decided l c.loop-i.i)) c.flatten.ensures)
