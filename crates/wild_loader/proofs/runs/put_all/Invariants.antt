use Rattle.std.proofs.Common.{◌≡◌, ◌+◌, drop}
use Rattle.wild_loader.specs.Runs.{put_bytes}
use Rattle.wild_loader.proofs.runs.put_all.Given as goal

abbrev pub invariant-loop-i : goal.invariant-loop-i
invariant-loop-i l = record { machine : l.memory.machine ≡ l.initial.memory.machine; runs : put_bytes (l.start + l.i) (drop l.i l.bytes) l.memory.runs ≡ put_bytes l.start l.bytes l.initial.memory.runs }
