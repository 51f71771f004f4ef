use Rattle.std.proofs.Common.{◌≡◌, ◌++◌}
use Rattle.std.specs.Prelude.{replicate}
use Rattle.wild_tables.proofs.slot_words.add_zeros.Given as goal

abbrev pub invariant-loop : goal.invariant-loop
invariant-loop l = record {
  words : l.table.words ≡ l.initial.table.words ++ replicate l.counter 0;
  room : l.table.room ≡ l.initial.table.room;
}
