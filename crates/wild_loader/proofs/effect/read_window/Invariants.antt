use Rattle.std.proofs.Common.{◌≡◌, ◌+◌, ◌-◌, ◌++◌, take, length}
use Rattle.wild_loader.specs.Effect.{window}
use Rattle.wild_loader.proofs.effect.read_window.Given as goal

abbrev pub invariant-loop-i : goal.invariant-loop-i
invariant-loop-i l = (take l.i l.bytes ++ window l.memory (l.address + l.i) (22 - l.i) ≡ window l.memory l.address 22) × (length l.bytes ≡ 22)
