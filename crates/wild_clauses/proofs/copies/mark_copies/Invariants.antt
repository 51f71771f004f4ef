use Rattle.std.proofs.Common.{◌≡◌, map, drop}
use Rattle.wild_types.specs.Lists.{through}
use Rattle.wild_types.specs.Lookups.{canonical}
use Rattle.wild_clauses.specs.Copies.{with_mark}
use Rattle.wild_clauses.proofs.copies.mark_copies.Given as goal

abbrev pub invariant-loop-copy : goal.invariant-loop-copy
invariant-loop-copy l = through (with_mark l.start) l.marks (map (canonical l.layout) (drop l.copy-index l.copies)) ≡ through (with_mark l.start) l.initial.marks (map (canonical l.layout) l.copies)
