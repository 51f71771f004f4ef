use Rattle.std.proofs.Common.{◌≡◌, []}
use Rattle.std.specs.List.{flat_map, range_with_len}
use Rattle.wild_layout.specs.Faults.{debug_error}
use Rattle.wild_debug.proofs.faults.first_fault.Given as goal

abbrev pub invariant-loop-index : goal.invariant-loop-index
invariant-loop-index g l = flat_map (debug_error l.step.resolved.now.layout.now l.place.group l.place.file l.place.section l.step.section.now l.origins) (range_with_len 0 l.index) ≡ []
