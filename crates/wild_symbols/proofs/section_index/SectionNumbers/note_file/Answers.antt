use Rattle.std.proofs.Common.{◌<◌, ◌≤◌, subst, arith, ◌∙◌, ap, length, get_or, Some, None}
use Rattle.std.specs.Option.{option_or}
use Rattle.wild_types.specs.declared.file.File.{File}
use Rattle.wild_symbols.specs.SymbolNumbers.{section_symbol_number_at}
use Rattle.wild_symbols.proofs.NoteLemmas.{note_more}
use Rattle.wild_symbols.proofs.section_index.SectionNumbers.note_file.Goals as goal

pub loop-i-preserved : goal.loop-i-preserved
loop-i-preserved c =
    let l = c.args.self.now.layout.now in
    let m : c.loop-i.i < length c.loop-i.notes = omega (arith, c.loop-i.auto.notes, c.min-end.ensures) in
    let low = subst (λ (f : File). f.first_symbol ≤ c.loop-i.i) c.file.view_is c.loop-i.auto.i in
    note_more (section_symbol_number_at l) c.args.file.now c.args.file.now.first_symbol c.loop-i.i c.args.notes.now c.loop-i.notes _ low m c.loop-i.invariant
    (c.or.ensures ∙ ap (λ o. option_or (get_or c.loop-i.notes c.loop-i.i None) (Some o)) c.in_ok-section_symbol_number_at.ensures)
