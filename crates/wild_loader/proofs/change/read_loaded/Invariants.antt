use Rattle.std.proofs.Common.{◌≡◌, ◌+◌, ◌-◌, length}
use Rattle.wild_loader.specs.Runs.{read_bytes}
use Rattle.wild_loader.proofs.ByteLoop.{AfterBytes}
use Rattle.wild_loader.proofs.change.read_loaded.Given as goal

abbrev pub invariant-loop-i : goal.invariant-loop-i
invariant-loop-i l = record { read : AfterBytes l.bytes.items (read_bytes l.memory (l.address + l.i) (l.count - l.i)) ≡ read_bytes l.memory l.address l.count; count : length l.bytes.items ≡ l.i }
