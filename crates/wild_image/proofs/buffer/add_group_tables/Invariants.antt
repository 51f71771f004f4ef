use Rattle.wild_image.proofs.Common.{◌≡◌, ◌++◌, take, flat_map, table_given}
use Rattle.wild_image.proofs.buffer.add_group_tables.Given as goal

abbrev pub invariant-loop-i : goal.invariant-loop-i
invariant-loop-i g l = l.bytes ≡ l.initial.bytes ++ flat_map (table_given l.resolved.layout.now l.group) (take l.i l.resolved.layout.now.parts)
