use Rattle.wild_placer.proofs.Common.{◌≡◌, take, ◌++◌}
use Rattle.wild_placer.proofs.plain.add_entries.Given as goal

abbrev pub invariant-loop-entry : goal.invariant-loop-entry
invariant-loop-entry l = l.entries ≡ l.initial.entries ++ take l.entry-index l.entry-items
