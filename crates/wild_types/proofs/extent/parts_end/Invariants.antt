use Rattle.std.proofs.Common.{◌≡◌, drop, max}
use Rattle.wild_types.specs.Lookups.{parts_end}
use Rattle.wild_types.proofs.extent.parts_end.Given as goal

abbrev pub invariant-loop-part : goal.invariant-loop-part
invariant-loop-part l = max l.end (parts_end l.layout (drop l.part-index l.parts)) ≡ parts_end l.layout l.parts
