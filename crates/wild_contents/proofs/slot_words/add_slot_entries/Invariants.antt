use Rattle.std.proofs.Common.{◌≡◌, ◌++◌, drop}
use Rattle.wild_table_formats.specs.RelativeEntries.{rela_bytes}
use Rattle.wild_slot.specs.SlotParts.{slot_entries}
use Rattle.wild_contents.proofs.slot_words.add_slot_entries.Given as goal

abbrev pub invariant-loop-word : goal.invariant-loop-word
invariant-loop-word l = l.bytes ++ rela_bytes (slot_entries l.part l.machine l.relr l.place (drop l.word-index l.words)) ≡ l.initial.bytes ++ rela_bytes (slot_entries l.part l.machine l.relr l.initial.place l.words)
