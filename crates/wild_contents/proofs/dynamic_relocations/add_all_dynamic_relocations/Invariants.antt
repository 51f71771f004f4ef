use Rattle.std.proofs.Common.{◌≡◌, ◌++◌, take}
use Rattle.std.specs.List.{flat_map}
use Rattle.wild_contents.specs.General.{dynamic_relocation_bytes}
use Rattle.wild_contents.proofs.dynamic_relocations.add_all_dynamic_relocations.Given as goal

abbrev pub invariant-loop-relocation : goal.invariant-loop-relocation
invariant-loop-relocation l = l.bytes ≡ l.initial.bytes ++ flat_map (dynamic_relocation_bytes l.layout l.section) (take l.relocation-index l.section.relocations)
