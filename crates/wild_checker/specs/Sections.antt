-- The first changed byte of an input section, and its first reference that does not hold.
--   changed_byte k f s        the first byte in no field and in no rewritten instruction that memory does not have in every world; fields
--                             have to be in order
--   doubtful_reference k f s  the first reference that does not hold in every world, or is not decided; of frames and of sections in
--                             reverse order none is
use Rattle.std.specs.Prelude.{ℕ, ◌+◌, ◌/◌, ◌%◌, ◌==◌, ◌&&◌, ◌||◌, Bool, true, false, not, if◌then◌else◌, List, [], ◌∷◌, length, Option, Some, None, is_some, unwrap_or}
use Rattle.wild_records.specs.Abi.Relocation.{r_x86_64_none}
use Rattle.wild_records.specs.Abi.Section.{shf_alloc}
use Rattle.wild_types.specs.declared.file.File.{File}
use Rattle.wild_types.specs.declared.input.InputRelocation.{InputRelocation}
use Rattle.wild_types.specs.declared.input.InputSection.{InputSection}
use Rattle.wild_types.specs.declared.input.Slot.{Slot}
use Rattle.wild_types.specs.declared.input.Slot.TheVariants as slot
use Rattle.wild_types.specs.declared.kind.Machine.{Machine}
use Rattle.wild_types.specs.declared.layout.Layout.{Layout}
use Rattle.wild_types.specs.HeaderOnly.{is_omitted}
use Rattle.wild_types.specs.Lookups.{is_frame}
use Rattle.wild_checker.specs.declared.rewritten.Cursor.{Cursor}
use Rattle.wild_checker.specs.Loaded.{Loaded}
use Rattle.wild_checker.specs.Bytes.{are_in_order, changed_between}
use Rattle.wild_checker.specs.References.{reference_holds}
use Rattle.wild_checker.specs.Rewritten.{next_cursor, first_cursor, rewritten_start}
use Rattle.wild_checker.specs.Search.{or_else}

abbrev pub is_loaded_slot : Slot → Bool
is_loaded_slot slot.Loaded = true
is_loaded_slot slot.Sorted = true
is_loaded_slot other = false

-- The section is loaded as placed, has memory and data, and is written: an image for debuggers alone has only headers of most sections.
abbrev pub is_in_memory : Layout → InputSection → Bool
is_in_memory l s = is_loaded_slot s.slot && s.flags / shf_alloc % 2 == 1 && not s.nobits && not (is_omitted l s)

abbrev pub has_frames : Layout → InputSection → Bool
has_frames l s = is_frame s.slot && not s.nobits && not (is_omitted l s)

-- the section is not in reverse order, and its fields are in order
abbrev pub is_in_order : Machine → InputSection → Bool
is_in_order m s = not s.reversed && are_in_order m 0 s.relocations

-- where the bytes that have to be the input's end: at a relocation's field, or at its instruction if that was rewritten
abbrev pub gap_end : Loaded → File → InputSection → Cursor → InputRelocation → ℕ
gap_end k f s c r = unwrap_or (rewritten_start k f s c r) r.offset

-- the first changed byte from a place in the section on that is in no field and in no rewritten instruction
abbrev pub changed_gap : Loaded → File → InputSection → Cursor → List InputRelocation → Option ℕ
changed_gap k f s c [] = changed_between k.memory s c.end (length s.bytes)
changed_gap k f s c (r ∷ rs) = or_else (changed_between k.memory s c.end (gap_end k f s c r)) (changed_gap k f s (next_cursor k.layout.machine c r) rs)

abbrev pub changed_byte : Loaded → File → InputSection → Option ℕ
changed_byte k f s = if is_in_memory k.layout s && is_in_order k.layout.machine s then changed_gap k f s first_cursor s.relocations else None

-- the relocation refers to nothing, holds, or has a rewritten instruction with the required effect
abbrev pub is_settled : Loaded → File → InputSection → Cursor → InputRelocation → Bool
is_settled k f s c r = r.number == r_x86_64_none || (is_some (rewritten_start k f s c r) || reference_holds k f s r)

-- the position of the first relocation that is not settled; positions count from i
abbrev pub first_doubt : Loaded → File → InputSection → Cursor → ℕ → List InputRelocation → Option ℕ
first_doubt k f s c i [] = None
first_doubt k f s c i (r ∷ rs) = if is_settled k f s c r then first_doubt k f s (next_cursor k.layout.machine c r) (i + 1) rs else Some i

abbrev pub doubtful_reference : Loaded → File → InputSection → Option ℕ
doubtful_reference k f s =
    if has_frames k.layout s then Some 0
    else (if is_in_memory k.layout s then (if is_in_order k.layout.machine s then first_doubt k f s first_cursor 0 s.relocations else Some 0) else None)
