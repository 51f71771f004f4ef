-- Strings, each with a zero at its end (gABI, "String Table").
--   Strings             what callers see of a group's strings: their bytes, in the group's share of a part
--   string s            the bytes of a string; string_bytes ss those of consecutive strings
--   offset_of t         the offset of the next string in the output's string table
--   with_string s t     with a string appended; with_strings ss t with several in order
--   room_for_string s t the offset of the string, or InsufficientAllocation
--   strings_full_or_fault t   the share is full, or ExcessiveAllocation
--   room_for_bytes m t  m more bytes fit, or InsufficientAllocation
--   front_strings m t   with room for m more bytes only; kept_strings m t bytes are then reserved
--   strings_joined k t  with k of the reserved bytes usable again
use Rattle.std.specs.Prelude.{ℕ, ◌+◌, ◌-◌, ◌^◌, ◌<◌, ◌≤◌, min, nat_lt, if◌then◌else◌, List, [], ◌∷◌, ◌++◌, length, take, Result, Ok, Err}
use Rattle.std.specs.List.{flat_map}
use Rattle.wild_types.specs.declared.fault.Error.{Error}
use Rattle.wild_types.specs.declared.fault.Fault.TheVariants as faults
use Rattle.wild_types.specs.Faults.{nowhere}

-- a string and its zero
abbrev pub string : List ℕ → List ℕ
string s = s ++ 0 ∷ []

-- consecutive strings
abbrev pub string_bytes : List (List ℕ) → List ℕ
string_bytes ss = flat_map string ss

-- the strings of a group: the index of their part, the group, the offset of the group's share in the output's string table, the bytes so
-- far, the number of bytes of the share that may be used, and the number reserved after these
pub record Strings : Type 0 where
  pub part : ℕ
  pub group : ℕ
  pub start : ℕ
  pub bytes : List ℕ
  pub room : ℕ
  pub reserved : ℕ

abbrev pub strings_in : ℕ → ℕ → ℕ → List ℕ → ℕ → ℕ → Strings
strings_in part group start bytes used reserved =
    record { part = part; group = group; start = start; bytes = take used bytes; room = length bytes - reserved; reserved = reserved }

-- the strings and the reserved bytes fit in the share, which ends below 2^32
pub record IsStrings (start : ℕ) (bytes : List ℕ) (used reserved : ℕ) : Type 0 where
  pub fits : used + reserved ≤ length bytes
  pub short : start + length bytes < 2 ^ 32

-- the offset of the next string in the output's string table
abbrev pub offset_of : Strings → ℕ
offset_of t = t.start + length t.bytes

-- with a string appended
abbrev pub with_string : List ℕ → Strings → Strings
with_string s t = record t { bytes = t.bytes ++ string s }

-- with several strings appended in order
abbrev pub with_strings : List (List ℕ) → Strings → Strings
with_strings [] t = t
with_strings (s ∷ ss) t = with_strings ss (with_string s t)

-- the offset of the string in the output's string table; otherwise the fault has the number of bytes that the share would need
abbrev pub room_for_string : List ℕ → Strings → Result ℕ Error
room_for_string s t =
    if nat_lt t.room (length t.bytes + (length s + 1))
    then Err (record { fault = faults.InsufficientAllocation t.part t.group t.room (length t.bytes + (length s + 1)); at = nowhere })
    else Ok (offset_of t)

-- the share is full
abbrev pub strings_full_or_fault : Strings → Result (Unit {0}) Error
strings_full_or_fault t =
    if nat_lt (length t.bytes) t.room
    then Err (record { fault = faults.ExcessiveAllocation t.part t.group t.room (length t.bytes); at = nowhere })
    else Ok tt

-- ---- limiting the room

-- m more bytes fit; otherwise the fault has the number of bytes that the share would need
abbrev pub room_for_bytes : ℕ → Strings → Result (Unit {0}) Error
room_for_bytes m t =
    if nat_lt t.room (length t.bytes + m)
    then Err (record { fault = faults.InsufficientAllocation t.part t.group t.room (length t.bytes + m); at = nowhere })
    else Ok tt

-- the number of bytes after the next m
abbrev pub kept_strings : ℕ → Strings → ℕ
kept_strings m t = t.room - (length t.bytes + m)

-- the same strings, with room for m more bytes only
abbrev pub front_strings : ℕ → Strings → Strings
front_strings m t = record t { room = length t.bytes + m; reserved = t.reserved + kept_strings m t }

-- the same strings, with k of the reserved bytes usable again
abbrev pub strings_joined : ℕ → Strings → Strings
strings_joined k t = record t { room = t.room + min k t.reserved; reserved = t.reserved - min k t.reserved }
