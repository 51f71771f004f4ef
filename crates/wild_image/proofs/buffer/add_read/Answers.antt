use Rattle.wild_image.proofs.Common.{◌≡◌, false, rules, is_frame, is_filled}
use Rattle.wild_image.proofs.PlacedLemmas.{none_given}
use Rattle.wild_image.proofs.buffer.add_read.Goals as goal

pub check_data-requires-clause-none : goal.check_data-requires-clause-none
check_data-requires-clause-none g c =
    let l = c.args.resolved.now.layout.now in
    let s = c.args.placed_input.now.section in
    let none : is_filled l s ≡ false = search rules in
    let other : is_frame s.slot ≡ false = search rules in
    none_given l s none other c.requires.written
