use Rattle.std.proofs.Common.{◌≡◌, ◌+◌, ◌≤◌, drop, length}
use Rattle.wild_slot.specs.SlotParts.{relr_slot_places}
use Rattle.wild_slot.proofs.slot_parts.count_relr_slots.Given as goal

abbrev pub invariant-loop-word : goal.invariant-loop-word
invariant-loop-word l = record {
  rest : l.count + length (relr_slot_places l.relr l.place (drop l.word-index l.words)) ≡ length (relr_slot_places l.relr l.initial.place l.words);
  few : l.count ≤ l.word-index;
}
