use Rattle.std.proofs.Common.{◌≡◌}
use Rattle.wild_layout.specs.Choice.{may_be_partner}
use Rattle.wild_types.specs.Item.{item_now}
use Rattle.wild_sections.proofs.AscendingLemmas.{HasAscended}
use Rattle.wild_sections.proofs.section.write_ascending.Given as goal

abbrev pub invariant-loop-index : goal.invariant-loop-index
invariant-loop-index g l = record {
  ascended : HasAscended l.resolved.layout.now l.origin.place.group l.origin.place.file l.origin.place.section (item_now l.item) l.origin.relocations.now l.index l.end_of_last_field l.room;
  partner : l.partner ≡ may_be_partner l.relocations l.index;
}
