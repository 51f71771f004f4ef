-- Sizes and uses of the tables of a group.
--   rooms t            size and use of each table, in the order of roles
--   room_for_all l t   each table fits in its share, or InsufficientAllocation for the first that does not
--   tables_full_or_fault l t      each share is full, or ExcessiveAllocation for the first that is not
--   Fit t              each table fits in its share
--   slot_answer, copy_answer   the result for a slot, and for a COPY entry
use Rattle.std.specs.Prelude.{ℕ, ◌-◌, ◌*◌, ◌^◌, ◌≤◌, nat_lt, min, if◌then◌else◌, List, [], ◌∷◌, length, Option, Some, None, Result, Ok, Err}
use Rattle.wild_records.specs.declared.relocations.Rela.{Rela}
use Rattle.wild_records.specs.Relocations.{rela_size, relr_size}
use Rattle.wild_types.specs.declared.part.Role.{Role}
use Rattle.wild_types.specs.declared.part.Role.TheVariants as role
use Rattle.wild_types.specs.declared.fault.Error.{Error}
use Rattle.wild_types.specs.declared.fault.Fault.{Fault}
use Rattle.wild_types.specs.declared.fault.Fault.TheVariants as faults
use Rattle.wild_types.specs.Faults.{nowhere}
use Rattle.wild_types.specs.declared.layout.Layout.{Layout}
use Rattle.wild_types.specs.Shares.{part_of, insufficient, excessive}
use Rattle.wild_table_formats.specs.RelativeEntries.{Entries}
use Rattle.wild_table_formats.specs.RelrWords.{Words}
use Rattle.wild_table_formats.specs.GotWords.{GotWords, Stubs}
use Rattle.wild_slot.specs.declared.slot.SlotFault.{SlotFault}
use Rattle.wild_tables.specs.declared.slot_write_error.SlotWriteError.{SlotWriteError}
use Rattle.wild_tables.specs.declared.slot_write_error.SlotWriteError.TheVariants as refused
use Rattle.wild_tables.specs.declared.room.Room.{Room}
use Rattle.wild_table_formats.specs.GroupTables.{Tables, packed_used}

-- size and use of a table
abbrev pub words_room : Role → GotWords → Room
words_room r t = record { role = r; used = 8 * length t.words; given = t.room }

abbrev pub stubs_room : Stubs → Room
stubs_room t = record { role = role.PltGot; used = length t.bytes; given = t.room }

abbrev pub packed_room : Words → Room
packed_room t = record { role = role.RelrDyn; used = relr_size * length t.state.words; given = t.room }

abbrev pub entries_room : Role → Entries → Room
entries_room r t = record { role = r; used = rela_size * length t.entries; given = t.room }

-- the tables in the order of their roles
abbrev pub rooms : Tables → List Room
rooms t =
    words_room role.Got t.got
    ∷ words_room role.GotRelr t.block
    ∷ stubs_room t.stubs
    ∷ entries_room role.RelaPlt t.plt
    ∷ entries_room role.RelaDynRelative t.relative
    ∷ entries_room role.RelaDynGeneral t.general
    ∷ packed_room t.packed
    ∷ []

-- the first share that is too small
abbrev pub first_too_small : Layout → ℕ → List Room → Result (Unit {0}) Error
first_too_small l group [] = Ok tt
first_too_small l group (r ∷ rs) = if nat_lt r.given r.used then Err (insufficient (part_of l r.role) group r.given r.used) else first_too_small l group rs

-- the first share that is too large
abbrev pub first_too_large : Layout → ℕ → List Room → Result (Unit {0}) Error
first_too_large l group [] = Ok tt
first_too_large l group (r ∷ rs) = if nat_lt r.used r.given then Err (excessive (part_of l r.role) group r.given r.used) else first_too_large l group rs

-- each table fits in its share; otherwise the fault has both sizes of the first that does not
abbrev pub room_for_all : Layout → Tables → Result (Unit {0}) Error
room_for_all l t = first_too_small l t.group (rooms t)

-- each share is full; otherwise the fault has both sizes of the first that is not, in the order of roles
abbrev pub tables_full_or_fault : Layout → Tables → Result (Unit {0}) Error
tables_full_or_fault l t = first_too_large l t.group (rooms t)

-- the number of used bytes, at most 2^64 - 1
abbrev pub capped_room : Room → Room
capped_room r = record r { used = min (2 ^ 64 - 1) r.used }

-- the two tables with the reserved words and the module pair fit in their shares
abbrev pub room_for_header : Layout → Tables → Result (Unit {0}) Error
room_for_header l t = first_too_small l t.group (capped_room (words_room role.Got t.got) ∷ entries_room role.RelaDynGeneral t.general ∷ [])

-- got and rela_dyn_general fit in their shares
pub record HeaderFits (t : Tables) : Type 0 where
  pub got : 8 * length t.got.words ≤ t.got.room
  pub general : rela_size * length t.general.entries ≤ t.general.room

-- the entries of rela_dyn_general fit in their share
abbrev pub room_for_general : Layout → Tables → Result (Unit {0}) Error
room_for_general l t = first_too_small l t.group (entries_room role.RelaDynGeneral t.general ∷ [])

-- the RELR words fit in their share; the fault has the part that the tables were created with
abbrev pub room_for_block : Tables → Result (Unit {0}) Error
room_for_block t =
    if nat_lt t.packed.room (packed_used t)
    then Err (record { fault = faults.InsufficientAllocation t.packed_part t.group t.packed.room (packed_used t); at = nowhere })
    else Ok tt

-- each table fits in its share
pub record Fit (t : Tables) : Type 0 where
  pub got : 8 * length t.got.words ≤ t.got.room
  pub block : 8 * length t.block.words ≤ t.block.room
  pub stubs : length t.stubs.bytes ≤ t.stubs.room
  pub plt : rela_size * length t.plt.entries ≤ t.plt.room
  pub relative : rela_size * length t.relative.entries ≤ t.relative.room
  pub general : rela_size * length t.general.entries ≤ t.general.room
  pub packed : packed_used t ≤ t.packed.room

-- the result for a slot: the fault of a share that is too small, otherwise the slot's own fault
abbrev pub slot_answer : Result (Unit {0}) Error → Option SlotFault → Result (Unit {0}) SlotWriteError
slot_answer (Err e) fault = Err (refused.Room e)
slot_answer (Ok u) (Some f) = Err (refused.Fault f)
slot_answer (Ok u) None = Ok tt

-- the result for a COPY entry: the fault of the symbol, otherwise that of a share that is too small
abbrev pub copy_answer : Result Rela Fault → Result (Unit {0}) Error → Result (Unit {0}) Error
copy_answer (Err f) room = Err (record { fault = f; at = nowhere })
copy_answer (Ok e) room = room
