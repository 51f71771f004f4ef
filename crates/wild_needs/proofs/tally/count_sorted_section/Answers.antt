use Rattle.std.proofs.Common.{sym, ◌∙◌}
use Rattle.wild_placement.specs.PlacedSections.{as_loaded, unread}
use Rattle.wild_placement.specs.ReversedWords.{with_word_order}
use Rattle.wild_needs.proofs.TallyLemmas.{tally_section, loaded_relocations}
use Rattle.wild_needs.proofs.tally.count_sorted_section.Goals as goal

pub returns : goal.returns
returns c =
    tally_section c.args.kind c.args.layout.now c.sorted-standing.result (with_word_order (as_loaded (unread c.args.layout.now c.args.section.now))) (loaded_relocations (unread c.args.layout.now c.args.section.now)) (c.sorted-standing.ensures c.args.layout.now) c.runs_are_counted.ensures
    (sym c.may_have_items.ensures ∙ c.if-not-may_have_items.false) c.new-tally.ensures.none c.new-tally.ensures.first c.in-Ok.ensures
