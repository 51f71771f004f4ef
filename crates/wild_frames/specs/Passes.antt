-- A walk that allocates no memory: it records the offset of the last CIE, and finds others by following the lengths.
--   reaches_offset bs n at x   a reader that follows the lengths from at reaches x; n steps are enough
--   has_cie bs x         a CIE is at offset x
--   without_id f              what was found, without the id of a kept FDE
--   FollowsWalk s p st          the walk is at the same position as a walk that records all CIEs
use Rattle.std.specs.Prelude.{◌≡◌, ℕ, zero, suc, ◌+◌, ◌-◌, ◌<◌, ◌≤◌, ◌==◌, ◌&&◌, Bool, true, if◌then◌else◌, nat_lt, nat_le, List, [], ◌∷◌, length, slice_range, Option, Some, None, is_some, All, Result, Ok, Err}
use Rattle.wild_words.specs.Words.{number_at}
use Rattle.wild_frames.specs.declared.entry.Cie.{Cie}
use Rattle.wild_frames.specs.declared.entry.KeptEntry.{KeptEntry}
use Rattle.wild_frames.specs.declared.entry.Found.{Found}
use Rattle.wild_frames.specs.declared.entry.Found.TheVariants as finds
use Rattle.wild_frames.specs.declared.entry.BadFrame.{BadFrame}
use Rattle.wild_frames.specs.declared.pass.Pass.{Pass}
use Rattle.wild_frames.specs.Frames.{Frames, State, start, found, after, walk_continues, cie_at, list_error, rest_of}
use Rattle.wild_frames.specs.Walks.{Fits, IsNext, IsWithinSection, MovesBack, AreOwn}

-- a reader that follows the lengths from one offset reaches another
unfoldable pub reaches_offset : List ℕ → ℕ → ℕ → ℕ → Bool
reaches_offset bs zero at x = at == x
reaches_offset bs (suc n) at x = if nat_lt at x then reaches_offset bs n (at + (4 + number_at bs at 4)) x else at == x

-- a CIE is at offset x
abbrev pub has_cie : List ℕ → ℕ → Bool
has_cie bs x = reaches_offset bs x 0 x && number_at bs (x + 4) 4 == 0

-- the CIE that is id bytes before an id word, as if its new offset were that of the FDE
abbrev pub cie_before : List ℕ → ℕ → ℕ → ℕ → List Cie
cie_before bs at to id = if nat_lt 4 id && (nat_le id (at + 4) && has_cie bs (at + 4 - id)) then (record { from = at + 4 - id; to = to }) ∷ [] else []

-- the state of the walk, with the CIE of the entry at its offset
abbrev pub state_with_cie : List ℕ → Pass → State
state_with_cie bs p = record { at = p.at; to = p.to; cies = cie_before bs p.at p.to (number_at bs (p.at + 4) 4) }

-- the state of the walk, without CIEs
abbrev pub state_without_cies : Pass → State
state_without_cies p = record { at = p.at; to = p.to; cies = [] }

abbrev pub entry_without_id : KeptEntry → KeptEntry
entry_without_id k = record { from = k.from; size = k.size; to = k.to; id = if k.id == 0 then 0 else 4 }

-- what was found, without the id of a kept FDE
abbrev pub without_id : Found → Found
without_id (finds.Kept k) = finds.Kept (entry_without_id k)
without_id (finds.Dropped size) = finds.Dropped size
without_id (finds.Tail from) = finds.Tail from
without_id (finds.Bad w at) = finds.Bad w at
without_id finds.End = finds.End

-- a reader that follows the lengths from there reaches the same later offsets as one from the start
abbrev pub IsBoundary : List ℕ → ℕ → Type 0
IsBoundary bs at = (x : ℕ) → at ≤ x → reaches_offset bs x 0 x ≡ reaches_offset bs x at x

-- the last CIE, after the step that found f
abbrev pub last_cie_after : ℕ → Found → ℕ
last_cie_after known (finds.Kept k) = if k.id == 0 then k.from else known
last_cie_after known other = known

-- the walk is at the same position as a walk that records all CIEs
pub record FollowsWalk (s : Frames) (p : Pass) (st : State) : Type 0 where
  pub at : st.at ≡ p.at
  pub to : st.to ≡ p.to
  pub fits : Fits s st p.relocation
  pub below : p.known ≤ p.at
  pub known : IsBoundary s.bytes p.known
  pub here : IsBoundary s.bytes p.at
  pub ahead : All (λ c. c.to ≤ st.to) st.cies
  pub met : (x : ℕ) → x < st.at → is_some (cie_at x st.cies) ≡ has_cie s.bytes x

-- the walk is at some position of a section
pub record IsWithin (s : Frames) (p : Pass) : Type 0 where
  pub state : State
  pub on : FollowsWalk s p state

-- a walk is at the start of a section, or the section's relocations have a fault
pub record IsReady (s : Frames) (p : Pass) : Type 0 where
  pub none : list_error s.relocations ≡ None
  pub on : FollowsWalk s p start

abbrev pub Begins : Frames → Result Pass BadFrame → Type 0
Begins s (Ok p) = IsReady s p
Begins s (Err e) = list_error s.relocations ≡ Some e

-- if the walk continues, it is after what was found
pub record PassContinues (s : Frames) (from : State) (p q : Pass) : Type 0 where
  pub on : FollowsWalk s q (after from (found s from))
  pub further : p.at < q.at
  pub within : q.at ≤ length s.bytes

-- one step of the walk
pub record IsPassStep (s : Frames) (from : State) (p q : Pass) (f : Found) : Type 0 where
  pub is : f ≡ without_id (found s from)
  pub next : IsNext s from (after from (found s from)) (found s from)
  pub lies : IsWithinSection s (found s from)
  pub back : MovesBack (found s from)
  pub own : AreOwn s (slice_range s.relocations p.relocation q.relocation) (found s from)
  pub counted : p.relocation ≤ q.relocation
  pub few : q.relocation ≤ length s.relocations
  pub more : walk_continues f ≡ true → PassContinues s from p q
