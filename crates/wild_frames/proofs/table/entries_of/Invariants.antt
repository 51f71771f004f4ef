use Rattle.std.proofs.Common.{◌≡◌, [], map, take, flat_map}
use Rattle.wild_frames.specs.Table.{entry_of, far_fde}
use Rattle.wild_frames.proofs.table.entries_of.Given as goal

abbrev pub invariant-loop-fde : goal.invariant-loop-fde
invariant-loop-fde l = record {
  none : flat_map (far_fde l.header) (take l.fde-index l.fdes) ≡ [];
  same : l.entries.items ≡ map (entry_of l.header) (take l.fde-index l.fdes);
}
