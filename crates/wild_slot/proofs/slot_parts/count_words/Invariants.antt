use Rattle.std.proofs.Common.{◌≡◌, ◌+◌, ◌≤◌, drop, length}
use Rattle.wild_slot.specs.SlotParts.{slot_words}
use Rattle.wild_slot.proofs.slot_parts.count_words.Given as goal

abbrev pub invariant-loop-word : goal.invariant-loop-word
invariant-loop-word l = record {
  rest : l.count + length (slot_words l.part l.relr l.place (drop l.word-index l.words)) ≡ length (slot_words l.part l.relr l.initial.place l.words);
  few : l.count ≤ l.word-index;
}
