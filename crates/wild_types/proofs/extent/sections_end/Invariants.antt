use Rattle.std.proofs.Common.{◌≡◌, drop, max}
use Rattle.wild_types.specs.Lookups.{sections_end}
use Rattle.wild_types.proofs.extent.sections_end.Given as goal

abbrev pub invariant-loop-section : goal.invariant-loop-section
invariant-loop-section l = max l.end (sections_end l.layout (drop l.section-index l.sections)) ≡ sections_end l.layout l.sections
