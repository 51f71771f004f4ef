use Rattle.std.proofs.Common.{◌≡◌, take}
use Rattle.wild_words.specs.Overlay.{overlay}
use Rattle.wild_types.specs.Item.{item_now}
use Rattle.wild_sections.specs.WrittenDecisions.{decided_sites}
use Rattle.wild_sections.proofs.section.write_decisions.Given as goal

abbrev pub invariant-loop-i : goal.invariant-loop-i
invariant-loop-i l = l.room ≡ overlay (decided_sites (item_now l.item) (take l.i l.relocations) (take l.i l.decisions)) l.initial.room
