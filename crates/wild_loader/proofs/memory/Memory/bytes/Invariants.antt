use Rattle.std.proofs.Common.{◌≡◌, ◌+◌, ◌-◌}
use Rattle.wild_loader.specs.Runs.{read_bytes}
use Rattle.wild_loader.proofs.ByteLoop.{AfterBytes}
use Rattle.wild_loader.proofs.memory.Memory.bytes.Given as goal

abbrev pub invariant-loop-i : goal.invariant-loop-i
invariant-loop-i l = AfterBytes l.bytes.items (read_bytes l.self (l.address + l.i) (l.count - l.i)) ≡ read_bytes l.self l.address l.count
