use Rattle.std.proofs.Common.{◌≡◌, ◌++◌, drop}
use Rattle.wild_imports.specs.Imports.{copies_among}
use Rattle.wild_imports.proofs.copies.add_copies.Given as goal

abbrev pub invariant-loop-entry : goal.invariant-loop-entry
invariant-loop-entry l = l.symbols ++ copies_among l.machine (drop l.entry-index l.entries) ≡ l.initial.symbols ++ copies_among l.machine l.entries
