use Rattle.std.proofs.Common.{◌≡◌, ◌++◌}
use Rattle.wild_relr.specs.RunWords.{bitmaps, bitmap_count}
use Rattle.wild_relr.specs.WriterState.{word_bytes}
use Rattle.wild_contents.proofs.slot_tables.add_bitmaps.Given as goal

abbrev pub invariant-loop-rest : goal.invariant-loop-rest
invariant-loop-rest l = l.bytes ++ word_bytes (bitmaps (bitmap_count l.rest) l.rest) ≡ l.initial.bytes ++ word_bytes (bitmaps (bitmap_count l.slots) l.slots)

abbrev pub decreases-loop-rest : goal.decreases-loop-rest
decreases-loop-rest l = l.rest
