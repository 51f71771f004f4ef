use Rattle.std.proofs.Common.{refl, sym, ◌∙◌}
use Rattle.wild_placement.specs.PlacedSections.{placed_section}
use Rattle.wild_needs.proofs.TallyLemmas.{tally_section}
use Rattle.wild_needs.proofs.tally.count_section.Goals as goal

pub returns : goal.returns
returns c =
    tally_section c.args.kind c.args.layout.now c.of-standing.result (placed_section c.args.layout.now c.args.file.now c.args.at c.args.section.now) refl (c.of-standing.ensures _ _) c.runs_are_counted.ensures
    (sym c.may_have_items.ensures ∙ c.if-not-may_have_items.false) c.new-tally.ensures.none c.new-tally.ensures.first (c.in-Ok.ensures c.args.at)
