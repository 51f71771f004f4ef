use Rattle.std.proofs.Common.{◌≡◌, [], take}
use Rattle.std.specs.List.{flat_map}
use Rattle.wild_layout.specs.Faults.{at_file, exported_error}
use Rattle.wild_contents.proofs.exported.check_symbols.Given as goal

abbrev pub invariant-loop-symbol : goal.invariant-loop-symbol
invariant-loop-symbol g l = flat_map (exported_error l.resolved.layout.now (at_file l.place.group l.place.file)) (take l.symbol-index l.listed) ≡ []
