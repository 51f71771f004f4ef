use Rattle.std.proofs.Common.{◌≡◌, drop}
use Rattle.std.specs.Prelude.{find}
use Rattle.wild_needs.specs.DynamicPlaces.{has_bytes}
use Rattle.wild_needs.proofs.dynamic.section_named.Given as goal

abbrev pub invariant-loop-section : goal.invariant-loop-section
invariant-loop-section l = find (has_bytes l.name) (drop l.section-index l.section-items) ≡ find (has_bytes l.name) l.layout.sections
