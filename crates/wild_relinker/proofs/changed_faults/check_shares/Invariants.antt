use Rattle.std.proofs.Common.{◌≡◌, [], take}
use Rattle.wild_layout.specs.Faults.{flat_map_from}
use Rattle.wild_outlines.specs.RefusalLaws.{changed_share}
use Rattle.wild_relinker.proofs.changed_faults.check_shares.Given as goal

abbrev pub invariant-loop-i : goal.invariant-loop-i
invariant-loop-i l = flat_map_from (changed_share l.layout l.index l.group) 0 (take l.i l.part-items) ≡ []
