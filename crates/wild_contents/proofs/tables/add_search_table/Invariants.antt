use Rattle.std.proofs.Common.{◌≡◌, ◌++◌, take}
use Rattle.std.specs.List.{flat_map}
use Rattle.wild_contents.specs.PlacedSections.{first_given}
use Rattle.wild_contents.proofs.tables.add_search_table.Given as goal

abbrev pub invariant-loop-file : goal.invariant-loop-file
invariant-loop-file l = l.bytes ≡ l.initial.bytes ++ flat_map (first_given l.table) (take l.file-index l.files)
