-- The invariants of a walk in the code, and the properties of what it finds.
use Rattle.std.specs.Prelude.{◌≡◌, [], ◌∷◌, if◌then◌else◌, Result, Ok, Err, ℕ, ◌+◌, ◌<◌, ◌≤◌, ◌++◌, nat_le, List, take, drop, length, All, AllPairs, None, Some}
use Rattle.std.specs.List.{filter, flat_map}
use Rattle.wild_types.specs.declared.input.InputRelocation.{InputRelocation}
use Rattle.wild_frames.specs.declared.entry.Cie.{Cie}
use Rattle.wild_frames.specs.declared.entry.KeptEntry.{KeptEntry}
use Rattle.wild_frames.specs.declared.entry.Found.{Found}
use Rattle.wild_frames.specs.declared.entry.Found.TheVariants as finds
use Rattle.wild_frames.specs.declared.entry.BadFrame.{BadFrame}
use Rattle.wild_frames.specs.declared.walk.Walk.{Walk}
use Rattle.wild_frames.specs.declared.walk.Spot.{Spot}
use Rattle.wild_frames.specs.Frames.{Frames, State, unsorted_in, list_error, walk_continues, relocations_in, start, rest_of, found_bytes}
use Rattle.wild_frames.specs.Faults.{found_errors}

abbrev pub state_of : Walk → State
state_of w = record { at = w.at; to = w.to; cies = w.cies.items }

abbrev pub spot_state : Spot → State
spot_state p = record { at = p.at; to = p.to; cies = p.cies.now }

-- relocations sorted by their offsets
pub record IsSorted (rs : List InputRelocation) : Type 0 where
  pub reach : ℕ
  pub none : unsorted_in reach rs ≡ None

-- CIEs in ascending order, each before an offset of the input
pub record CiesArePassed (at : ℕ) (cies : List Cie) : Type 0 where
  pub ascend : AllPairs (λ c d. c.from < d.from) cies
  pub before : All (λ c. c.from < at) cies

-- the state of a walk fits a section: j is the index of the first relocation from its offset on
pub record Fits (s : Frames) (st : State) (j : ℕ) : Type 0 where
  pub within : st.at ≤ length s.bytes
  pub shrinks : st.to ≤ st.at
  pub counted : j ≤ length s.relocations
  pub behind : drop j s.relocations ≡ filter (λ r. nat_le st.at r.offset) s.relocations
  pub sorted : IsSorted (drop j s.relocations)
  pub met : CiesArePassed st.at st.cies

-- the n relocations from the j-th on are those of an entry, and the relocations after its end follow
pub record IsOwn (s : Frames) (at end j n : ℕ) : Type 0 where
  pub counted : j + n ≤ length s.relocations
  pub own : take n (drop j s.relocations) ≡ relocations_in at end s.relocations
  pub behind : drop (j + n) s.relocations ≡ filter (λ r. nat_le end r.offset) s.relocations

-- a field is within an entry of that offset and size
pub record FieldLies (s : Frames) (from size : ℕ) (r : InputRelocation) : Type 0 where
  pub behind : from ≤ r.offset
  pub within : r.offset + s.width r ≤ from + size

pub record KeptLies (s : Frames) (k : KeptEntry) : Type 0 where
  pub least : 8 ≤ k.size
  pub within : k.from + k.size ≤ length s.bytes
  pub fields : All (FieldLies s k.from k.size) (relocations_in k.from (k.from + k.size) s.relocations)

-- what is found is within the section, and so are a kept entry's fields within the entry
abbrev pub IsWithinSection : Frames → Found → Type 0
IsWithinSection s (finds.Kept k) = KeptLies s k
IsWithinSection s (finds.Tail from) = from ≤ length s.bytes
IsWithinSection s _ = Unit {0}

-- no kept entry moves to a higher offset
abbrev pub MovesBack : Found → Type 0
MovesBack (finds.Kept k) = k.to ≤ k.from
MovesBack _ = Unit {0}

-- the relocations are those of the kept entry
abbrev pub AreOwn : Frames → List InputRelocation → Found → Type 0
AreOwn s own (finds.Kept k) = own ≡ relocations_in k.from (k.from + k.size) s.relocations
AreOwn s own _ = Unit {0}

-- a walk is at the start of a section, or the section's relocations have a fault
pub record IsAtStart (s : Frames) (w : Walk) : Type 0 where
  pub none : list_error s.relocations ≡ None
  pub state : state_of w ≡ start
  pub fits : Fits s (state_of w) w.relocation

abbrev pub Starts : Frames → Result Walk BadFrame → Type 0
Starts s (Ok w) = IsAtStart s w
Starts s (Err e) = list_error s.relocations ≡ Some e

-- what a step found is the first item from there on, and the rest is what is found from its end on
abbrev pub IsNext : Frames → State → State → Found → Type 0
IsNext s from to f = rest_of s from ≡ f ∷ (if walk_continues f then rest_of s to else [])

-- the output for all that the walk has passed is written, and no fault was found there
pub record IsWritten (s : Frames) (w : Walk) (out : List ℕ) : Type 0 where
  pub fits : Fits s (state_of w) w.relocation
  pub room : w.to ≤ length out
  pub bytes : take w.to out ++ flat_map (found_bytes s) (rest_of s (state_of w)) ≡ flat_map (found_bytes s) (rest_of s start)
  pub errors : flat_map found_errors (rest_of s (state_of w)) ≡ flat_map found_errors (rest_of s start)
  pub whole : length out ≡ length (flat_map (found_bytes s) (rest_of s start))
