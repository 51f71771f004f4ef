-- A group's share of a part, filled from its front.
--   empty_table l group r   an empty table with the size of the group's share of the part with a role
--   table_with_bytes bs t        the table with bytes appended
--   room_for n t            n more bytes fit, or InsufficientAllocation
--   table_full_or_fault t               the table is full, or ExcessiveAllocation
use Rattle.std.specs.Prelude.{ℕ, ◌+◌, nat_lt, if◌then◌else◌, List, [], length, Result, Ok, Err}
use Rattle.wild_types.specs.declared.fault.Error.{Error}
use Rattle.wild_types.specs.declared.fault.Fault.TheVariants as faults
use Rattle.wild_types.specs.declared.layout.Layout.{Layout}
use Rattle.wild_types.specs.declared.part.Role.{Role}
use Rattle.wild_types.specs.Faults.{nowhere}
use Rattle.wild_types.specs.Shares.{part_of, share_of}
use Rattle.wild_versions.specs.declared.table.VersionTable.{VersionTable}
use Rattle.wild_table_formats.specs.VersionRoom.{with_bytes}

-- an empty table with the size of the group's share of the part with a role
abbrev pub empty_table : Layout → ℕ → Role → VersionTable
empty_table l group r = record { part = part_of l r; group = group; filled = record { bytes = []; room = share_of l group r } }

-- the table with bytes appended
abbrev pub table_with_bytes : List ℕ → VersionTable → VersionTable
table_with_bytes bs t = record t { filled = with_bytes bs t.filled }

-- n more bytes fit; otherwise the fault has the number of bytes that the share would need
abbrev pub room_for : ℕ → VersionTable → Result (Unit {0}) Error
room_for n t =
    if nat_lt t.filled.room (length t.filled.bytes + n)
    then Err (record { fault = faults.InsufficientAllocation t.part t.group t.filled.room (length t.filled.bytes + n); at = nowhere })
    else Ok tt

-- the table is full
abbrev pub table_full_or_fault : VersionTable → Result (Unit {0}) Error
table_full_or_fault t =
    if nat_lt (length t.filled.bytes) t.filled.room
    then Err (record { fault = faults.ExcessiveAllocation t.part t.group t.filled.room (length t.filled.bytes); at = nowhere })
    else Ok tt
