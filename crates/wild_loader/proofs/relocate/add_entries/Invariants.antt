use Rattle.std.proofs.Common.{◌≡◌, drop}
use Rattle.wild_loader.specs.Relocate.{add_relas}
use Rattle.wild_loader.proofs.relocate.add_entries.Given as goal

abbrev pub invariant-loop-entry : goal.invariant-loop-entry
invariant-loop-entry l = add_relas l.world l.before (drop l.entry-index l.entries) l.patches ≡ add_relas l.world l.before l.entries l.initial.patches
