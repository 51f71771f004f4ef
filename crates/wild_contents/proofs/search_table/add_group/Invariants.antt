use Rattle.std.proofs.Common.{◌≡◌, ◌++◌, drop}
use Rattle.wild_layout.specs.SearchTable.{files_fdes, group_fdes}
use Rattle.wild_contents.proofs.search_table.add_group.Given as goal

abbrev pub invariant-loop-file : goal.invariant-loop-file
invariant-loop-file g l = l.fdes.items ++ files_fdes l.resolved.layout.now l.cursor (drop l.file-index l.group.files) ≡ l.initial.fdes.items ++ group_fdes l.resolved.layout.now l.group
