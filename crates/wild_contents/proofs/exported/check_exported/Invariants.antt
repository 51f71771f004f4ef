use Rattle.std.proofs.Common.{◌≡◌, [], take}
use Rattle.wild_layout.specs.Faults.{flat_map_from, exported_errors}
use Rattle.wild_contents.proofs.exported.check_exported.Given as goal

abbrev pub invariant-loop-i : goal.invariant-loop-i
invariant-loop-i g l = flat_map_from (exported_errors l.resolved.layout.now l.group) 0 (take l.i l.files) ≡ []
