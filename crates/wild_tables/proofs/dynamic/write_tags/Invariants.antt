use Rattle.std.proofs.Common.{◌≡◌, ◌+◌, ◌*◌, ◌++◌, drop, take, length}
use Rattle.std.specs.Prelude.{flat_map}
use Rattle.wild_records.specs.Dynamic.{dynamic_entry_size}
use Rattle.wild_needs.specs.Dynamic.{all_tags, entry_of}
use Rattle.wild_table_formats.specs.DynamicSection.{entries_bytes}
use Rattle.wild_tables.proofs.dynamic.write_tags.Given as goal

abbrev pub invariant-loop-tag : goal.invariant-loop-tag
invariant-loop-tag l = record {
  at : l.at + dynamic_entry_size * length (flat_map (entry_of l.layout) (drop l.tag-index l.tag-items)) ≡ l.initial.at + dynamic_entry_size * length (flat_map (entry_of l.layout) all_tags);
  written : take l.at l.out ++ entries_bytes (flat_map (entry_of l.layout) (drop l.tag-index l.tag-items)) ≡ take l.initial.at l.initial.out ++ entries_bytes (flat_map (entry_of l.layout) all_tags);
  room : length l.out ≡ length l.initial.out;
}
