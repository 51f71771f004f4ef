use Rattle.std.proofs.Common.{◌≡◌, ◌+◌, ◌*◌, ◌++◌, take, flat_map}
use Rattle.wild_frames.specs.Table.{entry_bytes}
use Rattle.wild_frames.proofs.table.put_entries.Given as goal

abbrev pub invariant-loop-i : goal.invariant-loop-i
invariant-loop-i l = take (12 + 8 * l.i) l.out ≡ take 12 l.initial.out ++ flat_map entry_bytes (take l.i l.entries)
