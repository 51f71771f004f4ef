use Rattle.std.proofs.Common.{◌≡◌, ◌+◌, ◌-◌, ◌*◌}
use Rattle.wild_records.specs.Dynamic.{dynamic_entry_size}
use Rattle.wild_loader.specs.Tables.{dynamic_entries, value_of_tag}
use Rattle.wild_hashes.proofs.image.find_tag.Given as goal

abbrev pub invariant-loop-i : goal.invariant-loop-i
invariant-loop-i l =
    value_of_tag l.tag (dynamic_entries l.image (l.entries.count - l.i) (l.entries.start + dynamic_entry_size * l.i))
    ≡ value_of_tag l.tag (dynamic_entries l.image l.entries.count l.entries.start)
