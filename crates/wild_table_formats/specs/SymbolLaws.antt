-- What a reader of the tables finds.
--   LengthsOfSymbols   a symbol table entry has 24 bytes
--   SymbolsAreRead     symbol k is read at offset 24 k
--   LengthsOfStrings   a string has its bytes and a zero
--   StringsAreAppended   strings are appended to those already written
--   StringsAreAtOffsets       each string, with a zero at its end, is at the offset that was returned for it
use Rattle.std.specs.Prelude.{◌≡◌, ℕ, ◌+◌, ◌*◌, ◌<◌, List, ◌++◌, length, take, All, slice_index_or}
use Rattle.wild_words.specs.Words.{HasBytesAt}
use Rattle.wild_records.specs.declared.symtab_entry.SymtabEntry.{SymtabEntry}
use Rattle.wild_records.specs.SymtabEntry.{symtab_entry_size, symtab_entry_at, SymtabEntryFits}
use Rattle.wild_types.specs.Lists.{total}
use Rattle.wild_table_formats.specs.Strings.{Strings, string, string_bytes, offset_of, with_strings}
use Rattle.wild_table_formats.specs.Symbols.{symbol_bytes}

-- a symbol table entry has 24 bytes
abbrev pub LengthsOfSymbols : Type 0
LengthsOfSymbols = (es : List SymtabEntry) → length (symbol_bytes es) ≡ symtab_entry_size * length es

-- symbol k is read 24 k bytes after the start of the symbols
abbrev pub SymbolsAreRead : Type 0
SymbolsAreRead = (whole : List ℕ) (es : List SymtabEntry) (at k : ℕ) (d : SymtabEntry) → All SymtabEntryFits es → HasBytesAt whole at (symbol_bytes es) → k < length es → symtab_entry_at whole (at + symtab_entry_size * k) ≡ slice_index_or es k d

-- a string has its bytes and a zero
abbrev pub LengthsOfStrings : Type 0
LengthsOfStrings = (ss : List (List ℕ)) → length (string_bytes ss) ≡ total (λ s. length s + 1) ss

-- strings that are written in order are appended to those already written
abbrev pub StringsAreAppended : Type 0
StringsAreAppended = (ss : List (List ℕ)) (t : Strings) → with_strings ss t ≡ record t { bytes = t.bytes ++ string_bytes ss }

-- if the output's string table has the group's strings in their share, each of those written in order is at the offset that was
-- returned for it, with a zero at its end
abbrev pub StringsAreAtOffsets : Type 0
StringsAreAtOffsets = (whole : List ℕ) (t : Strings) (ss : List (List ℕ)) (k : ℕ) (d : List ℕ) → HasBytesAt whole t.start (with_strings ss t).bytes → k < length ss
    → HasBytesAt whole (offset_of (with_strings (take k ss) t)) (string (slice_index_or ss k d))
