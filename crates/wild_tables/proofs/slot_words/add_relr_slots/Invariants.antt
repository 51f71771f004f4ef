use Rattle.std.proofs.Common.{◌≡◌, ◌+◌, ◌*◌, ◌≤◌, drop, length}
use Rattle.wild_slot.specs.SlotParts.{relr_slot_places}
use Rattle.wild_tables.specs.SlotTables.{after_relr_slots}
use Rattle.wild_tables.proofs.slot_words.add_relr_slots.Given as goal

abbrev pub invariant-loop-word : goal.invariant-loop-word
invariant-loop-word l = record {
  rest : after_relr_slots l.table.state (relr_slot_places l.relr l.place (drop l.word-index l.words)) ≡ after_relr_slots l.initial.table.state (relr_slot_places l.relr l.initial.place l.words);
  fits : 8 * (length l.table.state.words + length (relr_slot_places l.relr l.place (drop l.word-index l.words))) ≤ l.table.room;
  room : l.table.room ≡ l.initial.table.room;
}
