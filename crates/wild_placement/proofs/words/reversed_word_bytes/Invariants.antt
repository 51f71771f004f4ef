use Rattle.std.proofs.Common.{◌≡◌}
use Rattle.std.specs.List.{flat_map, range_with_len}
use Rattle.wild_placement.specs.ReversedWords.{word_from_end}
use Rattle.wild_placement.proofs.words.reversed_word_bytes.Given as goal

abbrev pub invariant-loop-i : goal.invariant-loop-i
invariant-loop-i l = l.reversed_section.items ≡ flat_map (word_from_end l.bytes) (range_with_len 0 l.i)
