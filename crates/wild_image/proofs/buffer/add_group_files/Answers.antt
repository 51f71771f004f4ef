use Rattle.wild_image.proofs.Common.{◌≡◌, true, rules, sym, ◌∙◌}
use Rattle.wild_image.proofs.BareLemmas.{group_fine}
use Rattle.wild_image.proofs.buffer.add_group_files.Goals as goal

pub returns-then-facts-clause-faults : goal.returns-then-facts-clause-faults
returns-then-facts-clause-faults g c =
    let bare : c.args.facts.needs_no_dynamic_tables ≡ true = search rules in
    group_fine c.args.resolved.now.layout.now c.args.index c.args.group.now (sym c.requires.facts.needs_no_dynamic_tables ∙ bare) c.in_ok-add_files.ensures.faults
