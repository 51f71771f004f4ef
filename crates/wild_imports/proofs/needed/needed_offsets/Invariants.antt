use Rattle.std.proofs.Common.{◌≡◌, ◌+◌, ◌-◌, ◌*◌, ◌++◌}
use Rattle.wild_records.specs.Dynamic.{dynamic_entry_size}
use Rattle.wild_loader.specs.Tables.{dynamic_entries}
use Rattle.wild_imports.specs.Imports.{needed_values}
use Rattle.wild_imports.proofs.needed.needed_offsets.Given as goal

abbrev pub invariant-loop-i : goal.invariant-loop-i
invariant-loop-i l =
    l.offsets ++ needed_values (dynamic_entries l.image (l.tables.entries.count - l.i) (l.tables.entries.start + dynamic_entry_size * l.i))
    ≡ needed_values (dynamic_entries l.image l.tables.entries.count l.tables.entries.start)
