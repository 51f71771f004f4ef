use Rattle.std.proofs.Common.{◌≡◌, []}
use Rattle.std.specs.List.{flat_map, range_with_len}
use Rattle.wild_layout.specs.Faults.{relocation_errors}
use Rattle.wild_types.specs.Item.{item_now}
use Rattle.wild_sections.proofs.DecidedLemmas.{HasDecided}
use Rattle.wild_sections.proofs.section.decide_all.Given as goal

abbrev pub invariant-loop-index : goal.invariant-loop-index
invariant-loop-index g l = record {
  none : flat_map (relocation_errors l.resolved.layout.now l.origin.place.group l.origin.place.file l.origin.place.section (item_now l.item) l.origin.relocations.now) (range_with_len 0 l.index) ≡ [];
  made : HasDecided l.resolved.layout.now (item_now l.item) l.index l.decisions.items;
}
