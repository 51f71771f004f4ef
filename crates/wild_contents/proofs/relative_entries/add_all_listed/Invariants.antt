use Rattle.std.proofs.Common.{◌≡◌, ◌++◌, take}
use Rattle.std.specs.List.{flat_map}
use Rattle.wild_contents.specs.FileTables.{entry_bytes}
use Rattle.wild_contents.proofs.relative_entries.add_all_listed.Given as goal

abbrev pub invariant-loop-relocation : goal.invariant-loop-relocation
invariant-loop-relocation g l = l.bytes ≡ l.initial.bytes ++ flat_map (entry_bytes l.resolved.layout.now l.section) (take l.relocation-index l.section.relocations)
