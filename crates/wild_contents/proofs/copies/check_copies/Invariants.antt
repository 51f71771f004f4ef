use Rattle.std.proofs.Common.{◌≡◌, [], take}
use Rattle.std.specs.List.{flat_map}
use Rattle.wild_layout.specs.Faults.{copy_errors}
use Rattle.wild_contents.proofs.copies.check_copies.Given as goal

abbrev pub invariant-loop-symbol : goal.invariant-loop-symbol
invariant-loop-symbol g l = flat_map (copy_errors l.resolved.layout.now l.place.group l.place.file) (take l.symbol-index l.copies) ≡ []
