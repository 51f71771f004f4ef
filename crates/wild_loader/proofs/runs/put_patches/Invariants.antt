use Rattle.std.proofs.Common.{◌≡◌, drop}
use Rattle.wild_loader.specs.Runs.{overlay_runs}
use Rattle.wild_loader.specs.Relocate.{runs_of_patches}
use Rattle.wild_loader.proofs.runs.put_patches.Given as goal

abbrev pub invariant-loop-patch : goal.invariant-loop-patch
invariant-loop-patch l = record { machine : l.memory.machine ≡ l.initial.memory.machine; runs : overlay_runs (runs_of_patches (drop l.patch-index l.patches)) l.memory.runs ≡ overlay_runs (runs_of_patches l.patches) l.initial.memory.runs }
