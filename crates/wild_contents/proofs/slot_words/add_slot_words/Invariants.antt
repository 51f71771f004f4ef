use Rattle.std.proofs.Common.{◌≡◌, ◌++◌, drop}
use Rattle.wild_relr.specs.WriterState.{word_bytes}
use Rattle.wild_slot.specs.SlotParts.{slot_words}
use Rattle.wild_contents.proofs.slot_words.add_slot_words.Given as goal

abbrev pub invariant-loop-word : goal.invariant-loop-word
invariant-loop-word l = l.bytes ++ word_bytes (slot_words l.part l.relr l.place (drop l.word-index l.words)) ≡ l.initial.bytes ++ word_bytes (slot_words l.part l.relr l.initial.place l.words)
