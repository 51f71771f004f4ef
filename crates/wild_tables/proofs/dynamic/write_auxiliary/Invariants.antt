use Rattle.std.proofs.Common.{◌≡◌, ◌+◌, ◌*◌, ◌++◌, drop, take, length}
use Rattle.wild_records.specs.Dynamic.{dynamic_entry_size}
use Rattle.wild_needs.specs.DynamicStrings.{auxiliary_strings, string_entries}
use Rattle.wild_table_formats.specs.DynamicSection.{offset_after_strings, entries_bytes}
use Rattle.wild_tables.proofs.dynamic.write_auxiliary.Given as goal

abbrev pub invariant-loop-text : goal.invariant-loop-text
invariant-loop-text l = record {
  at : l.cursor.at + dynamic_entry_size * length (drop l.text-index l.texts) ≡ l.initial.cursor.at + dynamic_entry_size * length l.texts;
  offset : offset_after_strings l.cursor.offset (auxiliary_strings (drop l.text-index l.texts)) ≡ offset_after_strings l.initial.cursor.offset (auxiliary_strings l.texts);
  written : take l.cursor.at l.out ++ entries_bytes (string_entries l.cursor.offset (auxiliary_strings (drop l.text-index l.texts))) ≡ take l.initial.cursor.at l.initial.out ++ entries_bytes (string_entries l.initial.cursor.offset (auxiliary_strings l.texts));
  room : length l.out ≡ length l.initial.out;
}
