use Rattle.std.proofs.Common.{◌≡◌, take}
use Rattle.std.specs.List.{flat_map}
use Rattle.wild_layout.specs.SearchTable.{group_fdes}
use Rattle.wild_contents.proofs.search_table.fdes_of.Given as goal

abbrev pub invariant-loop-group : goal.invariant-loop-group
invariant-loop-group g l = l.fdes.items ≡ flat_map (group_fdes l.resolved.layout.now) (take l.group-index l.resolved.layout.now.groups)
