-- Extended section indexes (gABI, SHT_SYMTAB_SHNDX).
--   Indexes              what callers see of a group's extended indexes: their bytes, in the group's share of a part
--   index_of each n      the bytes of an index: for every symbol, or only if its section does not fit in st_shndx
--   with_index n t       with one symbol's index appended
--   room_for_index n t   it fits, or InsufficientAllocation
--   indexes_full_or_fault t    the share is full, or ExcessiveAllocation
--   room_for_indexes n t the indexes of n more symbols fit, or InsufficientAllocation
--   front_indexes n t    with room for those of n more symbols only; kept_indexes n t bytes are then reserved
--   indexes_joined k t   with k of the reserved bytes usable again
use Rattle.std.specs.Prelude.{ℕ, ◌+◌, ◌-◌, ◌*◌, ◌≤◌, ◌==◌, Bool, not, ◌||◌, min, nat_lt, if◌then◌else◌, List, [], ◌++◌, length, take, Result, Ok, Err}
use Rattle.wild_words.specs.Words.{word}
use Rattle.wild_types.specs.declared.fault.Error.{Error}
use Rattle.wild_types.specs.declared.fault.Fault.TheVariants as faults
use Rattle.wild_types.specs.Faults.{nowhere}

-- the extended indexes of a group: the index of their part, the group, the bytes so far, the number of bytes of the share that may be
-- used, the number reserved after these, and whether every symbol has an index, 0 if st_shndx has its section
pub record Indexes : Type 0 where
  pub part : ℕ
  pub group : ℕ
  pub bytes : List ℕ
  pub room : ℕ
  pub reserved : ℕ
  pub each : Bool

abbrev pub indexes_in : ℕ → ℕ → List ℕ → ℕ → ℕ → Bool → Indexes
indexes_in part group bytes used reserved each =
    record { part = part; group = group; bytes = take used bytes; room = length bytes - reserved; reserved = reserved; each = each }

-- the indexes and the reserved bytes fit in the share
pub record IsIndexes (bytes : List ℕ) (used reserved : ℕ) : Type 0 where
  pub fits : used + reserved ≤ length bytes

-- the symbol has an extended index
abbrev pub has_index : Bool → ℕ → Bool
has_index each n = each || not (n == 0)

abbrev pub index_of : Bool → ℕ → List ℕ
index_of each n = if has_index each n then word 4 n else []

-- the number of these bytes
abbrev pub index_room : Bool → ℕ → ℕ
index_room each n = if has_index each n then 4 else 0

-- with one symbol's index appended
abbrev pub with_index : ℕ → Indexes → Indexes
with_index n t = record t { bytes = t.bytes ++ index_of t.each n }

-- it fits; otherwise the fault has the number of bytes that the share would need
abbrev pub room_for_index : ℕ → Indexes → Result (Unit {0}) Error
room_for_index n t =
    if nat_lt t.room (length t.bytes + index_room t.each n)
    then Err (record { fault = faults.InsufficientAllocation t.part t.group t.room (length t.bytes + index_room t.each n); at = nowhere })
    else Ok tt

-- the share is full
abbrev pub indexes_full_or_fault : Indexes → Result (Unit {0}) Error
indexes_full_or_fault t =
    if nat_lt (length t.bytes) t.room
    then Err (record { fault = faults.ExcessiveAllocation t.part t.group t.room (length t.bytes); at = nowhere })
    else Ok tt

-- ---- limiting the room

-- the number of bytes for n symbols whose sections fit in st_shndx
abbrev pub indexes_room : ℕ → Indexes → ℕ
indexes_room n t = if t.each then 4 * n else 0

-- the indexes of n more symbols fit; otherwise the fault has the number of bytes that the share would need
abbrev pub room_for_indexes : ℕ → Indexes → Result (Unit {0}) Error
room_for_indexes n t =
    if nat_lt t.room (length t.bytes + indexes_room n t)
    then Err (record { fault = faults.InsufficientAllocation t.part t.group t.room (length t.bytes + indexes_room n t); at = nowhere })
    else Ok tt

-- the number of bytes after those of the next n symbols
abbrev pub kept_indexes : ℕ → Indexes → ℕ
kept_indexes n t = t.room - (length t.bytes + indexes_room n t)

-- the same indexes, with room for those of n more symbols only
abbrev pub front_indexes : ℕ → Indexes → Indexes
front_indexes n t = record t { room = length t.bytes + indexes_room n t; reserved = t.reserved + kept_indexes n t }

-- the same indexes, with k of the reserved bytes usable again
abbrev pub indexes_joined : ℕ → Indexes → Indexes
indexes_joined k t = record t { room = t.room + min k t.reserved; reserved = t.reserved - min k t.reserved }
