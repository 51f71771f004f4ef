use Rattle.std.proofs.Common.{◌≡◌, ◌++◌, drop}
use Rattle.wild_relr.specs.WriterState.{word_bytes}
use Rattle.wild_slot.specs.SlotParts.{relr_slot_places}
use Rattle.wild_contents.proofs.slot_words.add_flat_places.Given as goal

abbrev pub invariant-loop-word : goal.invariant-loop-word
invariant-loop-word l = l.bytes ++ word_bytes (relr_slot_places l.relr l.place (drop l.word-index l.words)) ≡ l.initial.bytes ++ word_bytes (relr_slot_places l.relr l.initial.place l.words)
