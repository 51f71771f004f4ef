use Rattle.std.proofs.Common.{◌<◌, ◌≤◌, subst, arith, length}
use Rattle.wild_types.specs.declared.file.File.{File}
use Rattle.wild_symbols.proofs.NoteLemmas.{note_more}
use Rattle.wild_sections.proofs.defining_file.find_in_file.Goals as goal

pub loop-i-preserved : goal.loop-i-preserved
loop-i-preserved c =
    let m : c.loop-i.i < length c.loop-i.owners = omega (arith, c.loop-i.auto.owners, c.min-end.ensures) in
    let low = subst (λ (f : File). f.first_symbol ≤ c.loop-i.i) c.file.view_is c.loop-i.auto.i in
    note_more (λ k f. c.args.owner) c.args.file.now c.args.file.now.first_symbol c.loop-i.i c.args.owners.now c.loop-i.owners _ low m c.loop-i.invariant
    c.or.ensures
