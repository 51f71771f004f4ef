use Rattle.std.proofs.Common.{◌≡◌, drop}
use Rattle.wild_terms.specs.Symbolic.{add_rela_terms}
use Rattle.wild_terms.proofs.load.add_entries.Given as goal

abbrev pub invariant-loop-entry : goal.invariant-loop-entry
invariant-loop-entry l = add_rela_terms l.outline l.memory (drop l.entry-index l.entries) l.patches ≡ add_rela_terms l.outline l.memory l.entries l.initial.patches
