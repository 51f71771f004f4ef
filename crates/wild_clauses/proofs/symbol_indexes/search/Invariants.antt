use Rattle.std.proofs.Common.{◌≡◌, drop}
use Rattle.wild_plan_rules.specs.Indexes.{symbol_misfit}
use Rattle.wild_types.specs.Lookups.{files_of}
use Rattle.wild_clauses.proofs.symbol_indexes.search.Given as goal

abbrev pub invariant-loop-i : goal.invariant-loop-i
invariant-loop-i l = symbol_misfit l.layout (files_of l.layout.groups) l.i (drop l.i l.layout.symbols) ≡ symbol_misfit l.layout (files_of l.layout.groups) 0 l.layout.symbols
