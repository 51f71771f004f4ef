-- The room of a group's symbol tables.
--   room_for_fields local name n w    a symbol, its name and its extended section index n fit, or InsufficientAllocation
--   tables_full_or_fault w                   all tables are full, or ExcessiveAllocation for the first that is not
--   room_for_prefix n m w         n global symbols and m bytes of strings fit, or InsufficientAllocation
--   prefix_of n m w               the writer with room for these only; reserved_bytes n m w has the bytes that are then reserved
--   with_reserved_room kept w                 the writer with the reserved bytes usable again
use Rattle.std.specs.Prelude.{ℕ, Bool, List, Option, Some, None, Result, Ok, Err}
use Rattle.wild_records.specs.declared.symbol_section.SymbolSection.{SymbolSection}
use Rattle.wild_types.specs.declared.fault.Error.{Error}
use Rattle.wild_table_formats.specs.Strings.{Strings, room_for_string, strings_full_or_fault, room_for_bytes, kept_strings, front_strings, strings_joined}
use Rattle.wild_symbols.specs.Indexes.{room_for_index, indexes_full_or_fault, room_for_indexes, kept_indexes, front_indexes, indexes_joined}
use Rattle.wild_table_formats.specs.Symbols.{room_for_entry, symbols_full_or_fault, room_for_entries, kept_symbols, front_symbols, symbols_joined}
use Rattle.wild_symbols.specs.declared.prefix.ReservedBytes.{ReservedBytes}
use Rattle.wild_symbols.specs.declared.writer.SymbolTableWriter.{SymbolTableWriter}
use Rattle.wild_symbols.specs.Tables.{long_of, list_of, indexes_of}

-- the first fault of two tests, in order
abbrev pub first_fault : {X : Type 0} → Result (Unit {0}) Error → Result X Error → Result (Unit {0}) Error
first_fault (Err e) r = Err e
first_fault (Ok t) (Err e) = Err e
first_fault (Ok t) (Ok x) = Ok tt

-- the symbol and its extended section index fit
abbrev pub room_in_lists : Bool → ℕ → SymbolTableWriter → Result (Unit {0}) Error
room_in_lists local n w = first_fault (room_for_entry (list_of local w)) (room_for_index n (indexes_of local w))

-- the name fits, if there is one
abbrev pub room_for_name : Option (List ℕ) → Strings → Result ℕ Error
room_for_name None t = Ok 0
room_for_name (Some name) t = room_for_string name t

-- the symbol, its extended section index and its name fit
abbrev pub room_for_fields : Bool → Option (List ℕ) → ℕ → SymbolTableWriter → Result (Unit {0}) Error
room_for_fields local name n w = first_fault (room_in_lists local n w) (room_for_name name w.strtab)

abbrev pub room_for_symbol : Bool → List ℕ → SymbolSection → SymbolTableWriter → Result (Unit {0}) Error
room_for_symbol local name s w = room_for_fields local (Some name) (long_of s) w

-- all tables are full; otherwise the fault of the first that is not, in the order of roles
abbrev pub tables_full_or_fault : SymbolTableWriter → Result (Unit {0}) Error
tables_full_or_fault w =
    first_fault (first_fault (first_fault (first_fault (symbols_full_or_fault w.locals) (symbols_full_or_fault w.globals)) (indexes_full_or_fault w.local_indexes)) (indexes_full_or_fault w.global_indexes)) (strings_full_or_fault w.strtab)

-- ---- limiting the room

-- n more global symbols and m bytes of strings fit
abbrev pub room_for_prefix : ℕ → ℕ → SymbolTableWriter → Result (Unit {0}) Error
room_for_prefix n m w = first_fault (first_fault (room_for_entries n w.globals) (room_for_indexes n w.global_indexes)) (room_for_bytes m w.strtab)

-- the number of bytes of each table after these
abbrev pub reserved_bytes : ℕ → ℕ → SymbolTableWriter → ReservedBytes
reserved_bytes n m w = record {
  locals = kept_symbols 0 w.locals;
  globals = kept_symbols n w.globals;
  local_indexes = kept_indexes 0 w.local_indexes;
  global_indexes = kept_indexes n w.global_indexes;
  strings = kept_strings m w.strtab;
}

-- the writer with room for these only, and for no local symbol
abbrev pub prefix_of : ℕ → ℕ → SymbolTableWriter → SymbolTableWriter
prefix_of n m w = record {
  locals = front_symbols 0 w.locals;
  globals = front_symbols n w.globals;
  local_indexes = front_indexes 0 w.local_indexes;
  global_indexes = front_indexes n w.global_indexes;
  strtab = front_strings m w.strtab;
}

-- the writer with the reserved bytes usable again
abbrev pub with_reserved_room : ReservedBytes → SymbolTableWriter → SymbolTableWriter
with_reserved_room k w = record {
  locals = symbols_joined k.locals w.locals;
  globals = symbols_joined k.globals w.globals;
  local_indexes = indexes_joined k.local_indexes w.local_indexes;
  global_indexes = indexes_joined k.global_indexes w.global_indexes;
  strtab = strings_joined k.strings w.strtab;
}
