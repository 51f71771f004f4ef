use Rattle.std.proofs.Common.{◌≡◌, ◌+◌, ◌*◌, ◌≤◌, ◌++◌, drop, length}
use Rattle.wild_slot.specs.SlotParts.{slot_words}
use Rattle.wild_tables.proofs.slot_words.add_words.Given as goal

abbrev pub invariant-loop-word : goal.invariant-loop-word
invariant-loop-word l = record {
  rest : l.table.words ++ slot_words l.part l.relr l.place (drop l.word-index l.words) ≡ l.initial.table.words ++ slot_words l.part l.relr l.initial.place l.words;
  fits : 8 * (length l.table.words + length (slot_words l.part l.relr l.place (drop l.word-index l.words))) ≤ l.table.room;
  room : l.table.room ≡ l.initial.table.room;
}
