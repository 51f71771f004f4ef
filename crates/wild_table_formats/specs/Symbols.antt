-- Consecutive symbol table entries (gABI, "Symbol Table").
--   symbol_bytes es      the bytes of symbols
--   symbols_in bytes n   the first n symbols in bytes
--   Symbols              what callers see of a list of symbols, in the group's share of a part
--   with_entry e t       with a symbol appended
--   room_for_entry t     one more symbol fits, or InsufficientAllocation
--   symbols_full_or_fault t    the share is full, or ExcessiveAllocation
--   room_for_entries n t n more symbols fit, or InsufficientAllocation
--   front_symbols n t    with room for n more symbols only; kept_symbols n t bytes are then reserved
--   symbols_joined k t   with k of the reserved bytes usable again
use Rattle.std.specs.Prelude.{◌≡◌, ℕ, zero, suc, ◌+◌, ◌-◌, ◌*◌, ◌≤◌, min, nat_lt, if◌then◌else◌, List, [], ◌∷◌, ◌++◌, length, take, Result, Ok, Err}
use Rattle.std.specs.List.{flat_map}
use Rattle.wild_words.specs.Record.{spell}
use Rattle.wild_records.specs.declared.symtab_entry.SymtabEntry.{SymtabEntry}
use Rattle.wild_records.specs.SymtabEntry.{symtab_entry_size, symtab_entry_fields, symtab_entry_at}
use Rattle.wild_types.specs.declared.fault.Error.{Error}
use Rattle.wild_types.specs.declared.fault.Fault.TheVariants as faults
use Rattle.wild_types.specs.Faults.{nowhere}

-- the bytes of symbols
abbrev pub symbol_bytes : List SymtabEntry → List ℕ
symbol_bytes es = flat_map (λ e. spell (symtab_entry_fields e)) es

-- the first n symbols in bytes
unfoldable pub symbols_in : List ℕ → ℕ → List SymtabEntry
symbols_in bytes zero = []
symbols_in bytes (suc n) = symbols_in bytes n ++ symtab_entry_at bytes (symtab_entry_size * n) ∷ []

-- symbols of a group: the index of their part, the group, the symbols so far, the number of bytes of the share that may be used, and
-- the number reserved after these
pub record Symbols : Type 0 where
  pub part : ℕ
  pub group : ℕ
  pub symbols : List SymtabEntry
  pub room : ℕ
  pub reserved : ℕ

abbrev pub symbols_of : ℕ → ℕ → List ℕ → ℕ → ℕ → Symbols
symbols_of part group bytes n reserved =
    record { part = part; group = group; symbols = symbols_in bytes n; room = length bytes - reserved; reserved = reserved }

-- the bytes begin with those of the n symbols that are read there
unfoldable pub IsSpelled : List ℕ → ℕ → Type 0
IsSpelled bytes n = take (symtab_entry_size * n) bytes ≡ symbol_bytes (symbols_in bytes n)

-- the symbols and the reserved bytes fit in the share, and the symbols are written there
pub record IsSymbols (bytes : List ℕ) (n reserved : ℕ) : Type 0 where
  pub fits : symtab_entry_size * n + reserved ≤ length bytes
  pub spelled : IsSpelled bytes n

-- with a symbol appended
abbrev pub with_entry : SymtabEntry → Symbols → Symbols
with_entry e t = record t { symbols = t.symbols ++ e ∷ [] }

-- the number of bytes of all symbols
abbrev pub symbols_used : Symbols → ℕ
symbols_used t = symtab_entry_size * length t.symbols

-- one more symbol fits; otherwise the fault has the number of bytes that the share would need
abbrev pub room_for_entry : Symbols → Result (Unit {0}) Error
room_for_entry t =
    if nat_lt t.room (symbols_used t + symtab_entry_size)
    then Err (record { fault = faults.InsufficientAllocation t.part t.group t.room (symbols_used t + symtab_entry_size); at = nowhere })
    else Ok tt

-- the share is full
abbrev pub symbols_full_or_fault : Symbols → Result (Unit {0}) Error
symbols_full_or_fault t =
    if nat_lt (symbols_used t) t.room
    then Err (record { fault = faults.ExcessiveAllocation t.part t.group t.room (symbols_used t); at = nowhere })
    else Ok tt

-- ---- limiting the room

-- n more symbols fit; otherwise the fault has the number of bytes that the share would need
abbrev pub room_for_entries : ℕ → Symbols → Result (Unit {0}) Error
room_for_entries n t =
    if nat_lt t.room (symbols_used t + symtab_entry_size * n)
    then Err (record { fault = faults.InsufficientAllocation t.part t.group t.room (symbols_used t + symtab_entry_size * n); at = nowhere })
    else Ok tt

-- the number of bytes after the next n symbols
abbrev pub kept_symbols : ℕ → Symbols → ℕ
kept_symbols n t = t.room - (symbols_used t + symtab_entry_size * n)

-- the same symbols, with room for n more only
abbrev pub front_symbols : ℕ → Symbols → Symbols
front_symbols n t = record t { room = symbols_used t + symtab_entry_size * n; reserved = t.reserved + kept_symbols n t }

-- the same symbols, with k of the reserved bytes usable again
abbrev pub symbols_joined : ℕ → Symbols → Symbols
symbols_joined k t = record t { room = t.room + min k t.reserved; reserved = t.reserved - min k t.reserved }
