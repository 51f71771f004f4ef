use Rattle.std.proofs.Common.{◌≡◌, [], length, drop}
use Rattle.wild_space.specs.Order.{AreTables}
use Rattle.wild_space.specs.OrderLaws.{tables_after}
use Rattle.wild_space.proofs.ordered.read_tables.Given as goal

abbrev pub invariant-loop-n : goal.invariant-loop-n
invariant-loop-n l = record {
  same : tables_after l.images (drop l.n l.order) l.tables ≡ tables_after l.images l.order [];
  many : length l.tables ≡ l.n;
  are : AreTables l.images l.order l.tables;
}
