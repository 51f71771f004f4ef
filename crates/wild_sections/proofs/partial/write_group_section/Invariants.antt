use Rattle.std.proofs.Common.{◌≡◌, ◌+◌, ◌*◌, ◌++◌, length, take}
use Rattle.std.specs.List.{flat_map}
use Rattle.wild_words.specs.Words.{word}
use Rattle.wild_sections.proofs.partial.write_group_section.Given as goal

abbrev pub invariant-loop-i : goal.invariant-loop-i
invariant-loop-i l = take (length l.flags + 4 * l.i) l.out ≡ l.flags ++ flat_map (word 4) (take l.i l.member-items)
