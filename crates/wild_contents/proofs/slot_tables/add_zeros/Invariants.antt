use Rattle.std.proofs.Common.{◌≡◌, ◌-◌, ◌++◌}
use Rattle.std.specs.Prelude.{replicate}
use Rattle.wild_relr.specs.WriterState.{word_bytes}
use Rattle.wild_contents.proofs.slot_tables.add_zeros.Given as goal

abbrev pub invariant-loop : goal.invariant-loop
invariant-loop l = l.bytes ++ word_bytes (replicate (l.count - l.counter) 0) ≡ l.initial.bytes ++ word_bytes (replicate l.count 0)
