use Rattle.std.proofs.Common.{◌≡◌, ◌+◌, ◌*◌, ◌≤◌, ◌++◌, drop, length}
use Rattle.wild_slot.specs.SlotParts.{slot_entries}
use Rattle.wild_tables.proofs.slot_words.add_entries.Given as goal

abbrev pub invariant-loop-word : goal.invariant-loop-word
invariant-loop-word l = record {
  rest : l.table.entries ++ slot_entries l.part l.machine l.relr l.place (drop l.word-index l.words) ≡ l.initial.table.entries ++ slot_entries l.part l.machine l.relr l.initial.place l.words;
  fits : 24 * (length l.table.entries + length (slot_entries l.part l.machine l.relr l.place (drop l.word-index l.words))) ≤ l.table.room;
  room : l.table.room ≡ l.initial.table.room;
}
