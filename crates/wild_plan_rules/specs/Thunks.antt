-- Clause 12: addresses of thunks ("ELF for the Arm 64-bit Architecture", "Call and Jump relocations": veneers). A thunk is in the
-- primary part, after the sections of the file that owns its block.
--   has_thunks l         there are thunks
--   ascends b            the thunks of a block ascend by their symbols
--   sections_in_ranges l f         the input sections in a file's ranges: its own, and for the last file also the sorted ones
--   thunks_misplaced l   the first block whose thunks are not at the next free places, or group with an input section over them
--   block_lost l i bs    the first block with thunks that no file owns
--   machine_takes m b    the machine has thunks, or the block has none
use Rattle.std.specs.Prelude.{ℕ, ◌+◌, ◌*◌, ◌/◌, ◌==◌, Bool, true, not, ◌&&◌, if◌then◌else◌, nat_le, List, [], ◌∷◌, ◌++◌, length, map, Option, Some, None, Result, Ok, Err, slice_get}
use Rattle.std.specs.List.{list_any}
use Rattle.wild_types.specs.declared.kind.Machine.{Machine}
use Rattle.wild_types.specs.declared.kind.Machine.TheVariants as machine
use Rattle.wild_types.specs.declared.part.Part.{Part}
use Rattle.wild_types.specs.declared.input.InputSection.{InputSection}
use Rattle.wild_types.specs.declared.file.File.{File}
use Rattle.wild_types.specs.declared.file.Group.{Group}
use Rattle.wild_types.specs.declared.layout.Thunk.{Thunk}
use Rattle.wild_types.specs.declared.layout.Layout.{Layout}
use Rattle.wild_types.specs.FilePlaces.{given}
use Rattle.wild_types.specs.FileThunks.{thunk_size, thunks_of}
use Rattle.wild_types.specs.Lookups.{has_range_bytes}
use Rattle.wild_placement.specs.PlacedSections.{Input, sorted_inputs, of_last_file}
use Rattle.wild_plan_rules.specs.SlotPlaces.{and_then, walk}

-- the block has thunks
abbrev pub is_used : List Thunk → Bool
is_used b = not (length b == 0)

-- there are thunks
abbrev pub has_thunks : Layout → Bool
has_thunks l = list_any is_used l.thunk_blocks

-- ---- their order

-- the symbols ascend, from number low on
abbrev pub ascends_from : ℕ → List Thunk → Bool
ascends_from low [] = true
ascends_from low (t ∷ ts) = nat_le low t.symbol && ascends_from (t.symbol + 1) ts

abbrev pub ascends : List Thunk → Bool
ascends b = ascends_from 0 b

-- ---- their places

-- the next place for an instruction ("Arm Architecture Reference Manual", A64: instructions are aligned to 4 bytes)
abbrev pub next_code : ℕ → ℕ
next_code n = (n + 3) / 4 * 4

-- the thunks are there, consecutively
abbrev pub are_consecutive_from : ℕ → List Thunk → Bool
are_consecutive_from at [] = true
are_consecutive_from at (t ∷ ts) = t.address == at && are_consecutive_from (at + thunk_size) ts

-- the place after consecutive thunks from a place on, which end at an end or before
abbrev pub end_of_thunks : ℕ → ℕ → ℕ → List Thunk → Result ℕ ℕ
end_of_thunks block end at ts = if are_consecutive_from at ts && nat_le (at + thunk_size * length ts) end then Ok (at + thunk_size * length ts) else Err block

-- the place after the thunks of a block; a block without thunks occupies no bytes
abbrev pub block_step : ℕ → ℕ → ℕ → List Thunk → Result ℕ ℕ
block_step block end at ts = if is_used ts then end_of_thunks block end (next_code at) ts else Ok at

-- the place after an input section of the primary part; the group if the section begins before the free place
abbrev pub section_step : Layout → ℕ → ℕ → InputSection → Result ℕ ℕ
section_step l group at s =
    if has_range_bytes l s && s.part == l.primary_part
    then (if nat_le at s.address then Ok (s.address + s.size) else Err group)
    else Ok at

-- the same for a section that has bytes
abbrev pub bytes_step : ℕ → ℕ → ℕ → InputSection → Result ℕ ℕ
bytes_step primary group at s = if s.part == primary then (if nat_le at s.address then Ok (s.address + s.size) else Err group) else Ok at

-- the input sections in a file's ranges: its own, and for the last file also the sorted ones, which are written like loaded ones
abbrev pub sections_in_ranges : Layout → File → List InputSection
sections_in_ranges l f = f.sections ++ of_last_file f (map (λ (x : Input). x.section) (sorted_inputs l))

-- the place after a file: after its sections, and then after the thunks of its block, if the file owns one
abbrev pub file_step : Layout → ℕ → ℕ → ℕ → File → Result ℕ ℕ
file_step l group end at f = and_then (walk (section_step l group) at (sections_in_ranges l f)) (λ n. block_step f.thunk_block end n (thunks_of l f))

abbrev pub or_next : Result ℕ ℕ → Option ℕ → Option ℕ
or_next (Err i) next = Some i
or_next (Ok n) next = next

-- the first misplaced block or group, from group i on; the groups' ranges of the primary part begin at start and end at last or
-- before
abbrev pub misplaced_from : Layout → ℕ → ℕ → ℕ → List Group → Option ℕ
misplaced_from l last start i [] = None
misplaced_from l last start i (g ∷ gs) =
    if nat_le (start + given l.primary_part g) last
    then or_next (walk (file_step l i (start + given l.primary_part g)) start g.files) (misplaced_from l last (start + given l.primary_part g) (i + 1) gs)
    else Some i

abbrev pub misplaced_in : Layout → Option Part → Option ℕ
misplaced_in l None = None
misplaced_in l (Some p) = misplaced_from l (p.address + p.size) p.address 0 l.groups

-- the first misplaced block or group
abbrev pub thunks_misplaced : Layout → Option ℕ
thunks_misplaced l = if has_thunks l then misplaced_in l (slice_get l.parts l.primary_part) else None

-- ---- their files

abbrev pub owns : ℕ → File → Bool
owns block f = f.owns_thunk_block && f.thunk_block == block

-- some file owns the block
abbrev pub is_owned : Layout → ℕ → Bool
is_owned l block = list_any (λ (g : Group). list_any (owns block) g.files) l.groups

-- the first block with thunks, from number i on, that no file owns
abbrev pub block_lost : Layout → ℕ → List (List Thunk) → Option ℕ
block_lost l i [] = None
block_lost l i (b ∷ bs) = if is_used b && not (is_owned l i) then Some i else block_lost l (i + 1) bs

-- ---- their machine

-- the machine has thunks, or the block has none
abbrev pub machine_takes : Machine → List Thunk → Bool
machine_takes machine.AArch64 b = true
machine_takes machine.X86_64 b = length b == 0
