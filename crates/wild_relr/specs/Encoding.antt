-- How places are encoded.
--   slot start place   the number of the bit for the place in the window from start on
--   choice run place   the word that the place goes into: three cases
--   after state place  the words and the run after one more place
--   Follows state      the run agrees with the last words
--   Records            one more place is decoded
use Rattle.std.specs.Prelude.{◌≡◌, ℕ, ◌+◌, ◌-◌, ◌*◌, ◌/◌, ◌%◌, ◌^◌, ◌<◌, ◌==◌, ◌&&◌, nat_le, nat_lt, if◌then◌else◌, Option, Some, None, List, [], ◌∷◌, ◌++◌, All, Contains, IsPermutation}
use Rattle.wild_relr.specs.declared.run.Run.{Run}
use Rattle.wild_relr.specs.declared.run.Run.TheVariants.{Closed, Address, Bitmap}
use Rattle.wild_relr.specs.declared.run.Choice.{Choice}
use Rattle.wild_relr.specs.declared.run.Choice.TheVariants.{Joins, Adds}
use Rattle.wild_relr.specs.Places.{places, next_of}

-- the number of the bit for the place in the window from start on, if it has one
unfoldable pub slot : ℕ → ℕ → Option ℕ
slot start place = if nat_le start place && ((place - start) % 8 == 0 && nat_lt (place - start) 504) then Some ((place - start) / 8) else None

-- a bitmap word with one bit set
unfoldable pub bitmap : ℕ → ℕ
bitmap i = 1 + 2 * 2 ^ i

-- the word with that bit set
unfoldable pub with_bit : ℕ → ℕ → ℕ
with_bit i w = if w / (2 * 2 ^ i) % 2 == 0 then w + 2 * 2 ^ i else w

-- a new address word
abbrev pub starts : ℕ → Choice
starts place = Adds place (Address place)

-- a bitmap whose window begins at start, if the place has a bit there; else the other choice
abbrev pub new_bitmap_or : ℕ → Option ℕ → Choice → Choice
new_bitmap_or start (Some i) otherwise = Adds (bitmap i) (Bitmap start)
new_bitmap_or start None otherwise = otherwise

abbrev pub last_bit_or : Option ℕ → Choice → Choice
last_bit_or (Some i) otherwise = Joins i
last_bit_or None otherwise = otherwise

-- the first that holds: a bit in the last bitmap, a bit in a new bitmap after the last word, an address word
unfoldable pub choice : Run → ℕ → Choice
choice Closed place = starts place
choice (Address a) place = new_bitmap_or (a + 8) (slot (a + 8) place) (starts place)
choice (Bitmap s) place = last_bit_or (slot s place) (new_bitmap_or (s + 504) (slot (s + 504) place) (starts place))

-- words, and the state of their run
pub record State : Type 0 where
  pub run : Run
  pub words : List ℕ

-- the words with that bit of the last one set
unfoldable pub with_last_bit : ℕ → List ℕ → List ℕ
with_last_bit i [] = []
with_last_bit i (w ∷ []) = with_bit i w ∷ []
with_last_bit i (w ∷ v ∷ ws) = w ∷ with_last_bit i (v ∷ ws)

abbrev pub apply_choice : Choice → State → State
apply_choice (Joins i) s = record { run = s.run; words = with_last_bit i s.words }
apply_choice (Adds w r) s = record { run = r; words = s.words ++ w ∷ [] }

-- the state after one more place
abbrev pub after : State → ℕ → State
after s place = apply_choice (choice s.run place) s

-- the last word is a bitmap whose window begins at start
pub record EndsInBitmap (start : ℕ) (ws : List ℕ) : Type 0 where
  pub front : List ℕ
  pub word : ℕ
  pub is : ws ≡ front ++ word ∷ []
  pub starts : next_of front ≡ start
  pub odd : word % 2 ≡ 1

-- the run agrees with the last words
abbrev pub FollowsRun : Run → List ℕ → Type 0
FollowsRun Closed ws = Unit {0}
FollowsRun (Address a) ws = next_of ws ≡ a + 8
FollowsRun (Bitmap s) ws = EndsInBitmap s ws

abbrev pub Follows : State → Type 0
Follows s = FollowsRun s.run s.words

-- one more place is decoded; if it is the greatest, it is the last
pub record Records (before after : List ℕ) (place : ℕ) : Type 0 where
  pub each : IsPermutation (place ∷ places before) (places after)
  pub last : All (λ q. q < place) (places before) → places after ≡ places before ++ place ∷ []

abbrev pub EachPlaceIsRecorded : Type 0
EachPlaceIsRecorded = (s : State) (place : ℕ) → Follows s → place % 2 ≡ 0 → (Contains (places s.words) place → ⊥) → Records s.words (after s place).words place

abbrev pub RunsAreFollowed : Type 0
RunsAreFollowed = (s : State) (place : ℕ) → Follows s → place % 2 ≡ 0 → Follows (after s place)
