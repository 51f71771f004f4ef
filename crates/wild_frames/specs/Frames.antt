-- The frames of an input section (LSB, "The .eh_frame section"; DWARF 5, 6.4).
--   found s st       what a walk finds at its offset
--   rest_of s st     all that the walk finds from its offset on: the list ends with the first zero length, the last bytes, or the
--                    first entry with a fault
--   found_in s       all that is found in a section
--   kept_in s        the kept entries, each with its new offset and id
--   frame_bytes s    the bytes that are kept, before their fields are relocated
--   terminator       the zero length that ends the frames of an output
-- An entry is a length word, an id word and its contents; the length does not include the length word. A CIE has id 0. The id of an
-- FDE is the distance from the id word back to its CIE; after the id word is the address at which its code begins (PC Begin).
use Rattle.std.specs.Prelude.{ℕ, zero, suc, ◌+◌, ◌-◌, ◌==◌, ◌&&◌, Bool, true, false, if◌then◌else◌, nat_lt, nat_le, List, [], ◌∷◌, ◌++◌, length, drop, slice_range, Option, Some, None}
use Rattle.std.specs.List.{filter, flat_map, list_all}
use Rattle.wild_words.specs.Words.{word, number_at, place}
use Rattle.wild_types.specs.declared.input.InputRelocation.{InputRelocation}
use Rattle.wild_frames.specs.declared.frames.Target.{Target}
use Rattle.wild_frames.specs.declared.frames.Target.TheVariants as target
use Rattle.wild_frames.specs.declared.entry.Cie.{Cie}
use Rattle.wild_frames.specs.declared.entry.KeptEntry.{KeptEntry}
use Rattle.wild_types.specs.declared.fault.FrameFault.TheVariants as why
use Rattle.wild_frames.specs.declared.entry.Found.{Found}
use Rattle.wild_frames.specs.declared.entry.Found.TheVariants as finds
use Rattle.wild_frames.specs.declared.entry.BadFrame.{BadFrame}

-- the zero length that ends the frames of an output (LSB, "The .eh_frame section")
abbrev pub terminator : List ℕ
terminator = 0 ∷ 0 ∷ 0 ∷ 0 ∷ []

-- a section of frames, with the width of each relocation's field and the target of its symbol
pub record Frames : Type 0 where
  pub bytes : List ℕ
  pub relocations : List InputRelocation
  pub width : InputRelocation → ℕ
  pub target : InputRelocation → Target

-- the state of a walk: its offset in the section, the offset of the next kept entry, and the CIEs that it has passed
pub record State : Type 0 where
  pub at : ℕ
  pub to : ℕ
  pub cies : List Cie

abbrev pub start : State
start = record { at = 0; to = 0; cies = [] }

-- ---- one entry

-- the relocations of the bytes from one offset to before another
abbrev pub relocations_in : ℕ → ℕ → List InputRelocation → List InputRelocation
relocations_in from end rs = filter (λ r. nat_le from r.offset && nat_lt r.offset end) rs

-- where the code of an FDE is, by its first relocation if that is at its PC Begin; else it is discarded
abbrev pub target_first : (InputRelocation → Target) → ℕ → List InputRelocation → Target
target_first t at [] = target.Discarded
target_first t at (r ∷ rs) = if r.offset == at then t r else target.Discarded

-- the new offset of the CIE at an offset
abbrev pub cie_at : ℕ → List Cie → Option ℕ
cie_at x [] = None
cie_at x (c ∷ cs) = if c.from == x then Some c.to else cie_at x cs

-- the new offset of the CIE that is id bytes before an id word
abbrev pub cie_back : ℕ → ℕ → List Cie → Option ℕ
cie_back at id cs = if nat_le id at then cie_at (at - id) cs else None

-- a kept entry, if its fields are within it; else the fault
abbrev pub kept_if : (InputRelocation → ℕ) → List InputRelocation → ℕ → ℕ → ℕ → ℕ → Found
kept_if width own at to size id =
    if list_all (λ r. nat_le (r.offset + width r) (at + size)) own then finds.Kept (record { from = at; size = size; to = to; id = id }) else finds.Bad why.Field at

-- an FDE, by the target of its PC Begin and by the new offset of its CIE
abbrev pub fde_entry : (InputRelocation → ℕ) → Target → Option ℕ → List InputRelocation → ℕ → ℕ → ℕ → Found
fde_entry width target.NoSection cie own at to size = finds.Bad why.PcBegin at
fde_entry width target.Discarded None own at to size = finds.Bad why.Cie at
fde_entry width target.Discarded (Some c) own at to size = finds.Dropped size
fde_entry width target.Loaded None own at to size = if nat_lt size 12 then finds.Bad why.Short at else finds.Bad why.Cie at
fde_entry width target.Loaded (Some c) own at to size = if nat_lt size 12 then finds.Bad why.Short at else kept_if width own at to size (to + 4 - c)

-- an entry of that id and size, with its relocations
unfoldable pub entry_with_id : Frames → List InputRelocation → State → ℕ → ℕ → Found
entry_with_id s own st size id =
    if id == 0 then kept_if s.width own st.at st.to size 0
    else fde_entry s.width (target_first s.target (st.at + 8) own) (cie_back (st.at + 4) id st.cies) own st.at st.to size

-- an entry of that size
unfoldable pub entry_of_size : Frames → State → ℕ → Found
entry_of_size s st size =
    if nat_lt (length s.bytes) (st.at + size) then finds.Bad why.Cut st.at
    else (if nat_lt size 8 then finds.Bad why.Short st.at
    else entry_with_id s (relocations_in st.at (st.at + size) s.relocations) st size (number_at s.bytes (st.at + 4) 4))

unfoldable pub found : Frames → State → Found
found s st =
    if nat_lt (length s.bytes) (st.at + 8) then finds.Tail st.at
    else (if number_at s.bytes st.at 4 == 0 then finds.End else entry_of_size s st (4 + number_at s.bytes st.at 4))

-- ---- all entries

-- the state after a kept entry
abbrev pub state_after : State → KeptEntry → State
state_after st k = record { at = st.at + k.size; to = st.to + k.size; cies = if k.id == 0 then st.cies ++ (record { from = k.from; to = k.to }) ∷ [] else st.cies }

-- the walk continues after what was found
abbrev pub walk_continues : Found → Bool
walk_continues (finds.Kept k) = true
walk_continues (finds.Dropped size) = true
walk_continues _ = false

abbrev pub after : State → Found → State
after st (finds.Kept k) = state_after st k
after st (finds.Dropped size) = record { at = st.at + size; to = st.to; cies = st.cies }
after st _ = st

-- what the first n steps find
unfoldable pub walk : Frames → ℕ → State → List Found
walk s zero st = []
walk s (suc n) st = found s st ∷ (if walk_continues (found s st) then walk s n (after st (found s st)) else [])

-- what all steps find: each takes at least one byte
unfoldable pub rest_of : Frames → State → List Found
rest_of s st = walk s (suc (length s.bytes - st.at)) st

-- ---- bytes

-- a kept entry with its new id
unfoldable pub entry_bytes : Frames → KeptEntry → List ℕ
entry_bytes s k =
    if k.id == 0 then slice_range s.bytes k.from (k.from + k.size) else place 4 (word 4 k.id) (slice_range s.bytes k.from (k.from + k.size))

-- the last bytes; four zeros, which end the frames of a whole output, are not copied
unfoldable pub tail_of : List ℕ → List ℕ
tail_of bs = if (length bs == 4) && (number_at bs 0 4 == 0) then [] else bs

abbrev pub found_bytes : Frames → Found → List ℕ
found_bytes s (finds.Kept k) = entry_bytes s k
found_bytes s (finds.Tail at) = tail_of (drop at s.bytes)
found_bytes s _ = []

abbrev pub kept_of : Found → List KeptEntry
kept_of (finds.Kept k) = k ∷ []
kept_of _ = []

-- a kept FDE has an entry in the search table
abbrev pub fde_of : Found → List KeptEntry
fde_of (finds.Kept k) = if k.id == 0 then [] else k ∷ []
fde_of _ = []

-- ---- the section

-- the first relocation that could not be read
unfoldable pub malformed_in : List InputRelocation → Option BadFrame
malformed_in [] = None
malformed_in (r ∷ rs) = if r.malformed then Some (record { why = why.Malformed; offset = r.offset }) else malformed_in rs

-- the first relocation whose offset is below that of the relocation before it
unfoldable pub unsorted_in : ℕ → List InputRelocation → Option BadFrame
unsorted_in reach [] = None
unsorted_in reach (r ∷ rs) = if nat_lt r.offset reach then Some (record { why = why.Unsorted; offset = r.offset }) else unsorted_in r.offset rs

abbrev pub or_else : Option BadFrame → Option BadFrame → Option BadFrame
or_else (Some e) b = Some e
or_else None b = b

unfoldable pub list_error : List InputRelocation → Option BadFrame
list_error rs = or_else (malformed_in rs) (unsorted_in 0 rs)

-- if the relocations have a fault, the section has no frames
abbrev pub unless : {X : Type 0} → Option BadFrame → List X → List X
unless (Some e) xs = []
unless None xs = xs

abbrev pub found_in : Frames → List Found
found_in s = unless (list_error s.relocations) (rest_of s start)

abbrev pub kept_in : Frames → List KeptEntry
kept_in s = flat_map kept_of (found_in s)

abbrev pub fdes_in : Frames → List KeptEntry
fdes_in s = flat_map fde_of (found_in s)

abbrev pub frame_bytes : Frames → List ℕ
frame_bytes s = flat_map (found_bytes s) (found_in s)
