use Rattle.std.proofs.Common.{◌≡◌, ◌+◌, ◌≤◌, drop, length}
use Rattle.wild_slot.specs.SlotParts.{slot_entries}
use Rattle.wild_slot.proofs.slot_parts.count_entries.Given as goal

abbrev pub invariant-loop-word : goal.invariant-loop-word
invariant-loop-word l = record {
  rest : l.count + length (slot_entries l.part l.machine l.relr l.place (drop l.word-index l.words)) ≡ length (slot_entries l.part l.machine l.relr l.initial.place l.words);
  few : l.count ≤ l.word-index;
}
