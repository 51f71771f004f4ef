use Rattle.std.proofs.Common.{◌<◌, ◌≤◌, subst, arith, ◌∙◌, ap, length, Some, None}
use Rattle.std.specs.Option.{option_or}
use Rattle.std.proofs.lemmas.List.{get_or_read}
use Rattle.wild_types.specs.declared.file.File.{File}
use Rattle.wild_symbols.proofs.NoteLemmas.{note_more}
use Rattle.wild_sections.proofs.per_symbol.place_file.Goals as goal

pub loop-i-preserved : goal.loop-i-preserved
loop-i-preserved g c =
    let m : c.loop-i.i < length c.loop-i.placed = omega (arith, c.loop-i.auto.placed, c.min-end.ensures) in
    let low = subst (λ (f : File). f.first_symbol ≤ c.loop-i.i) c.file.view_is c.loop-i.auto.i in
    note_more (g.T.PerSymbol.recorded c.args.layout.now) c.args.file.now c.args.file.now.first_symbol c.loop-i.i c.args.placed.now c.loop-i.placed _ low m c.loop-i.invariant
    (c.or.ensures ∙ ap (λ o. option_or c.index-placed-i.result (Some o)) c.record_symbol.ensures ∙ ap (λ o. option_or o (Some (g.T.PerSymbol.recorded c.args.layout.now c.loop-i.i c.args.file.now))) (get_or_read c.loop-i.placed c.loop-i.i c.index-placed-i.result m c.index-placed-i.is None))
