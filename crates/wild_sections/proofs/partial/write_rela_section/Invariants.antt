use Rattle.std.proofs.Common.{◌≡◌, ◌*◌, take}
use Rattle.std.specs.List.{flat_map}
use Rattle.wild_sections.proofs.PartialLemmas.{entry_of}
use Rattle.wild_sections.proofs.partial.write_rela_section.Given as goal

abbrev pub invariant-loop-i : goal.invariant-loop-i
invariant-loop-i g l = take (24 * l.i) l.out ≡ flat_map (entry_of l.resolved.layout.now) (take l.i l.relocation-items)
