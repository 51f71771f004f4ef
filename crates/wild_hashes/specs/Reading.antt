-- What a look-up reads: numbers of a hash table, and names of symbols.
--   read table at n                the number in n bytes at an offset of a table
--   string_at strings at           the bytes from an offset to the first zero
--   symbol_name symbols strings i  the name of symbol i
--   has_name named name i          whether symbol i has that name; named reads names
--   HasNoZero name                 a name has no zero byte
--   IsNamed symbols strings i name symbol i is in the symbol table, and its st_name is the offset of this name
use Rattle.std.specs.Prelude.{◌≡◌, ℕ, ◌+◌, ◌*◌, ◌<◌, ◌≤◌, Bool, ◌==◌, nat_le, if◌then◌else◌, List, [], ◌∷◌, ◌++◌, length, take, drop, slice_index, position, bytes_eq, Option, Some, None, Result, Ok, Err}
use Rattle.wild_words.specs.Words.{number_at, HasBytesAt}
use Rattle.wild_records.specs.SymtabEntry.{symtab_entry_size, symtab_entry_at}
use Rattle.wild_hashes.specs.declared.fault.LookupFault.{LookupFault}
use Rattle.wild_hashes.specs.declared.fault.LookupFault.TheVariants as faults

-- a step and the next one, which uses its value; the first fault is that of both
infixl 10 ◌>>=◌
abbrev pub ◌>>=◌ : {A B : Type 0} → Result A LookupFault → (A → Result B LookupFault) → Result B LookupFault
(Ok x) >>= f = f x
(Err e) >>= f = Err e

-- the number in n bytes at an offset of a table
unfoldable pub read : List ℕ → ℕ → ℕ → Result ℕ LookupFault
read table at n = if nat_le (at + n) (length table) then Ok (number_at table at n) else Err (faults.Cut at)

-- ---- names (gABI, "Symbol Table", "String Table")

abbrev pub is_zero : ℕ → Bool
is_zero b = b == 0

-- the first n bytes, or the fault of a string without a zero
abbrev pub first_bytes : ℕ → List ℕ → Option ℕ → Result (List ℕ) LookupFault
first_bytes at bytes None = Err (faults.NoString at)
first_bytes at bytes (Some n) = Ok (take n bytes)

-- the bytes from an offset to the first zero
unfoldable pub string_at : List ℕ → ℕ → Result (List ℕ) LookupFault
string_at strings at = first_bytes at (drop at strings) (position is_zero (drop at strings))

-- st_name of symbol i
unfoldable pub name_offset : List ℕ → ℕ → Result ℕ LookupFault
name_offset symbols i =
    if nat_le (symtab_entry_size * i + symtab_entry_size) (length symbols) then Ok (symtab_entry_at symbols (symtab_entry_size * i)).name else Err (faults.NoSymbol i)

-- the name of symbol i
unfoldable pub symbol_name : List ℕ → List ℕ → ℕ → Result (List ℕ) LookupFault
symbol_name symbols strings i = name_offset symbols i >>= λ at. string_at strings at

-- symbol i has that name
abbrev pub has_name : (ℕ → Result (List ℕ) LookupFault) → List ℕ → ℕ → Result Bool LookupFault
has_name named name i = named i >>= λ found. Ok (bytes_eq found name)

-- a name has no zero byte
abbrev pub HasNoZero : List ℕ → Type 0
HasNoZero name = (k : ℕ) → k < length name → slice_index name k ≡ 0 → ⊥

-- symbol i is in the symbol table, and at its st_name the string table has the name and a zero
pub record IsNamed (symbols strings : List ℕ) (i : ℕ) (name : List ℕ) : Type 0 where
  pub inside : symtab_entry_size * i + symtab_entry_size ≤ length symbols
  pub named : HasBytesAt strings (symtab_entry_at symbols (symtab_entry_size * i)).name (name ++ 0 ∷ [])
  pub no_zero : HasNoZero name
