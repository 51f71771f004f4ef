-- Lists of calls of a writer, each of which appends a symbol or fails.
--   defined .., undefined ..  the arguments of calls of define_symbol and undefined_symbol
--   has_room c w          the symbol and its name fit
--   after_call c w            the writer after a call
--   after_calls cs w            the writer after several calls
--   successful_calls local cs w      the successful calls for a local symbol, or for a global one
--   RunsAreRead           symbol k that was appended is that of the k-th successful call
--   RunsCount             each successful call appends one symbol
--   RunsKeepEarlierContent       earlier symbols and strings are unchanged
--   RunsKeepIndexes       their extended section indexes are appended in order
--   RunsWithRoomAreWhole  if there is room for all, each call succeeds
--   RunsAreEntries        calls with names and fields append their entries, as `entries_at` has them
--   RunsAreTables         calls with the entries of `.symtab` append these, as `side_entries` has them
--   PrefixesAreTheWriters calls through a prefix write what the same calls of the writer write
use Rattle.std.specs.Prelude.{◌≡◌, ℕ, ◌+◌, ◌*◌, ◌<◌, ◌≤◌, ◌^◌, Bool, true, false, not, List, [], ◌∷◌, ◌++◌, length, take, map, All, slice_index_or, Option, Some, None, Result, Ok, Err}
use Rattle.std.specs.List.{filter, flat_map}
use Rattle.wild_words.specs.Words.{HasBytesAt}
use Rattle.wild_records.specs.Abi.Section.{shn_undef}
use Rattle.wild_records.specs.declared.symtab_entry.SymtabEntry.{SymtabEntry}
use Rattle.wild_records.specs.declared.symbol_section.SymbolSection.{SymbolSection}
use Rattle.wild_records.specs.declared.symbol_section.SymbolSection.TheVariants.{Raw}
use Rattle.wild_records.specs.SymtabEntry.{symtab_entry_size, symtab_entry_at}
use Rattle.wild_types.specs.declared.fault.Error.{Error}
use Rattle.wild_types.specs.Lists.{total}
use Rattle.wild_table_formats.specs.Strings.{string, offset_of, with_strings}
use Rattle.wild_table_formats.specs.Symbols.{symbol_bytes, symbols_used}
use Rattle.wild_symbols.specs.Indexes.{index_of, index_room}
use Rattle.wild_symbols.specs.Tables.{fields_in_section, list_of, indexes_of, with_fields}
use Rattle.wild_symbols.specs.TableRoom.{room_for_fields, room_for_prefix, reserved_bytes, prefix_of, with_reserved_room}
use Rattle.wild_table_formats.specs.DynamicEntries.{NamedFields, entries_at}
use Rattle.wild_table_formats.specs.TableEntries.{NamedEntry, short, side_entries, long_indexes, index_bytes}
use Rattle.wild_table_formats.specs.TableLaws.{NamedEntryFits, IsEntryOf, names_of}
use Rattle.wild_table_formats.specs.declared.symbols.SymbolAttributes.{SymbolAttributes}
use Rattle.wild_symbols.specs.declared.writer.SymbolTableWriter.{SymbolTableWriter}

-- the arguments of a call: a name, whether the symbol is local, and its fields
abbrev pub defined : Bool → List ℕ → SymbolSection → ℕ → SymbolAttributes → NamedEntry
defined local name s value a = record { name = Some name; local = local; fields = fields_in_section s value a }

-- an undefined symbol (SHN_UNDEF, value 0)
abbrev pub undefined : Bool → List ℕ → SymbolAttributes → NamedEntry
undefined local name a = defined local name (Raw shn_undef) 0 a

-- ---- runs

abbrev pub is_ok : {X : Type 0} → Result X Error → Bool
is_ok (Ok x) = true
is_ok (Err e) = false

-- the symbol and its name fit
abbrev pub has_room : NamedEntry → SymbolTableWriter → Bool
has_room c w = is_ok (room_for_fields c.local c.name c.fields.long w)

abbrev pub after_call_if : Bool → NamedEntry → SymbolTableWriter → SymbolTableWriter
after_call_if true c w = with_fields c.local c.name c.fields w
after_call_if false c w = w

-- the writer after a call: with the symbol and its name appended, or unchanged if they do not fit
abbrev pub after_call : NamedEntry → SymbolTableWriter → SymbolTableWriter
after_call c w = after_call_if (has_room c w) c w

-- the writer after several calls
abbrev pub after_calls : List NamedEntry → SymbolTableWriter → SymbolTableWriter
after_calls [] w = w
after_calls (c ∷ cs) w = after_calls cs (after_call c w)

-- a call for a local symbol, or for a global one
abbrev pub is_in_list : Bool → Bool → Bool
is_in_list true local = local
is_in_list false local = not local

abbrev pub successful_calls_if : Bool → Bool → NamedEntry → List NamedEntry → List NamedEntry
successful_calls_if true true c cs = c ∷ cs
successful_calls_if true false c cs = cs
successful_calls_if false here c cs = cs

-- the successful calls for a local symbol, or for a global one
abbrev pub successful_calls : Bool → List NamedEntry → SymbolTableWriter → List NamedEntry
successful_calls local [] w = []
successful_calls local (c ∷ cs) w = successful_calls_if (has_room c w) (is_in_list local c.local) c (successful_calls local cs (after_call c w))

-- ---- reading

-- if a table has the symbols of the list, and the output's string table the group's strings, symbol k after the earlier ones is read
-- as that of the k-th successful call
abbrev pub RunsAreRead : Type 0
RunsAreRead = (cs : List NamedEntry) (w : SymbolTableWriter) (local : Bool) (k : ℕ) (table strings : List ℕ) (at : ℕ) (d : NamedEntry) → All NamedEntryFits cs → w.strtab.start + w.strtab.room < 2 ^ 32
    → HasBytesAt table at (symbol_bytes (list_of local (after_calls cs w)).symbols) → HasBytesAt strings w.strtab.start (after_calls cs w).strtab.bytes → k < length (successful_calls local cs w)
    → IsEntryOf strings (slice_index_or (successful_calls local cs w) k d) (symtab_entry_at table (at + symtab_entry_size * (length (list_of local w).symbols + k)))

-- each successful call appends one symbol, and no other call does
abbrev pub RunsCount : Type 0
RunsCount = (cs : List NamedEntry) (w : SymbolTableWriter) (local : Bool) → length (list_of local (after_calls cs w)).symbols ≡ length (list_of local w).symbols + length (successful_calls local cs w)

-- the symbols and strings of before are at the front, unchanged
abbrev pub RunsKeepEarlierContent : Type 0
RunsKeepEarlierContent = (cs : List NamedEntry) (w : SymbolTableWriter) (local : Bool) → (take (length (list_of local w).symbols) (list_of local (after_calls cs w)).symbols ≡ (list_of local w).symbols) × (take (length w.strtab.bytes) (after_calls cs w).strtab.bytes ≡ w.strtab.bytes)

-- the number of bytes of a name with its zero
abbrev pub name_room : Option (List ℕ) → ℕ
name_room None = 0
name_room (Some name) = length name + 1

-- the symbols of these calls, their extended section indexes and their names fit
pub record HasRoomFor (cs : List NamedEntry) (w : SymbolTableWriter) : Type 0 where
  pub symbols : (local : Bool) → symbols_used (list_of local w) + symtab_entry_size * length (filter (λ c. is_in_list local c.local) cs) ≤ (list_of local w).room
  pub indexes : (local : Bool) → length (indexes_of local w).bytes + total (λ c. index_room (indexes_of local w).each c.fields.long) (filter (λ c. is_in_list local c.local) cs) ≤ (indexes_of local w).room
  pub names : length w.strtab.bytes + total (λ c. name_room c.name) cs ≤ w.strtab.room

-- the extended section indexes of the successful calls are appended in order, one for every symbol if every symbol has one
abbrev pub RunsKeepIndexes : Type 0
RunsKeepIndexes = (cs : List NamedEntry) (w : SymbolTableWriter) (local : Bool)
    → (indexes_of local (after_calls cs w)).bytes ≡ (indexes_of local w).bytes ++ flat_map (λ (c : NamedEntry). index_of (indexes_of local w).each c.fields.long) (successful_calls local cs w)

-- if there is room for all, each call succeeds
abbrev pub RunsWithRoomAreWhole : Type 0
RunsWithRoomAreWhole = (cs : List NamedEntry) (w : SymbolTableWriter) (local : Bool) → HasRoomFor cs w → successful_calls local cs w ≡ filter (λ c. is_in_list local c.local) cs

-- the call for a global symbol with these fields
abbrev pub call_of : NamedFields → NamedEntry
call_of n = record { name = Some n.name; local = false; fields = short n.fields }

-- writer v is w with these entries appended to its global symbols, and with their names appended to its strings
pub record HasEntries (ns : List NamedFields) (w v : SymbolTableWriter) : Type 0 where
  pub symbols : v.globals.symbols ≡ w.globals.symbols ++ entries_at (offset_of w.strtab) ns
  pub strings : v.strtab ≡ with_strings (map (λ (n : NamedFields). n.name) ns) w.strtab

-- if there is room for all, calls with names and fields append exactly their entries and their names
abbrev pub RunsAreEntries : Type 0
RunsAreEntries = (ns : List NamedFields) (w : SymbolTableWriter) → HasRoomFor (map call_of ns) w → w.strtab.start + w.strtab.room < 2 ^ 32 → HasEntries ns w (after_calls (map call_of ns) w)

-- writer v is w with these entries of `.symtab` appended, with their extended section indexes if every symbol has one, and with all
-- names appended to its strings
pub record HasTable (ns : List NamedEntry) (w v : SymbolTableWriter) : Type 0 where
  pub symbols : (local : Bool) → (list_of local v).symbols ≡ (list_of local w).symbols ++ side_entries local (offset_of w.strtab) ns
  pub indexes : (local : Bool) → (indexes_of local w).each ≡ true → (indexes_of local v).bytes ≡ (indexes_of local w).bytes ++ index_bytes (long_indexes local ns)
  pub strings : v.strtab ≡ with_strings (names_of ns) w.strtab

-- if there is room for all, calls with the entries of `.symtab` append exactly these
abbrev pub RunsAreTables : Type 0
RunsAreTables = (ns : List NamedEntry) (w : SymbolTableWriter) → HasRoomFor ns w → w.strtab.start + w.strtab.room < 2 ^ 32 → HasTable ns w (after_calls ns w)

-- calls through a prefix that has room for them write what the same calls of the writer write; after the prefix is dropped, the writer
-- has all its room again
abbrev pub PrefixesAreTheWriters : Type 0
PrefixesAreTheWriters = (n m : ℕ) (cs : List NamedEntry) (w : SymbolTableWriter) → room_for_prefix n m w ≡ Ok tt → symbols_used w.locals ≤ w.locals.room → length w.local_indexes.bytes ≤ w.local_indexes.room → HasRoomFor cs (prefix_of n m w)
    → with_reserved_room (reserved_bytes n m w) (after_calls cs (prefix_of n m w)) ≡ after_calls cs w
