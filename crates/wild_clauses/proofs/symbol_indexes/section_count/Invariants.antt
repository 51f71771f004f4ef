use Rattle.std.proofs.Common.{◌≡◌, drop}
use Rattle.wild_plan_rules.specs.Indexes.{section_count}
use Rattle.wild_types.specs.Lookups.{files_of, file_of}
use Rattle.wild_clauses.proofs.symbol_indexes.section_count.Given as goal

abbrev pub invariant-loop-group : goal.invariant-loop-group
invariant-loop-group l = section_count (file_of (files_of (drop l.group-index l.groups)) l.symbol) ≡ section_count (file_of (files_of l.groups) l.symbol)
