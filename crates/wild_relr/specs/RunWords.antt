-- The words of whole runs and blocks.
--   packed places      the words of a run of places
--   block base n       the words of n slots from base on
--   words_of pieces    the words of runs and blocks, one after another
--   after_piece state piece   the state after a piece is recorded, place by place
use Rattle.std.specs.Prelude.{◌≡◌, ℕ, zero, suc, ◌+◌, ◌-◌, ◌*◌, ◌/◌, ◌%◌, ◌^◌, ◌<◌, ◌≢◌, ◌==◌, ◌||◌, min, if◌then◌else◌, List, [], ◌∷◌, ◌++◌, length, flat_map, All, AllPairs, Contains, IsPermutation}
use Rattle.wild_relr.specs.declared.run.Run.{Run}
use Rattle.wild_relr.specs.declared.run.Run.TheVariants.{Closed}
use Rattle.wild_relr.specs.declared.run.Choice.{Choice}
use Rattle.wild_relr.specs.declared.run.Choice.TheVariants.{Joins, Adds}
use Rattle.wild_relr.specs.Places.{places}
use Rattle.wild_relr.specs.Encoding.{choice, with_last_bit, State, after, Follows}

abbrev pub by_choice : Choice → (ℕ → List ℕ) → (ℕ → Run → List ℕ) → List ℕ
by_choice (Joins i) more other = more i
by_choice (Adds w r) more other = other w r

-- the words of places, after part: the last word, which is not finished yet
unfoldable pub packed_on : Run → List ℕ → List ℕ → List ℕ
packed_on run part [] = part
packed_on run part (p ∷ ps) = by_choice (choice run p) (λ i. packed_on run (with_last_bit i part) ps) (λ w r. part ++ packed_on r (w ∷ []) ps)

-- the words of a run of places
unfoldable pub packed : List ℕ → List ℕ
packed ps = packed_on Closed [] ps

-- bitmap words for k slots, with the bit of each slot set
unfoldable pub bitmaps : ℕ → ℕ → List ℕ
bitmaps zero k = []
bitmaps (suc c) k = (2 * 2 ^ min k 63 - 1) ∷ bitmaps c (k - 63)

-- the number of bitmap words for k slots
abbrev pub bitmap_count : ℕ → ℕ
bitmap_count k = (k + 62) / 63

-- the words of n slots from base on: an address word and bitmaps
unfoldable pub block : ℕ → ℕ → List ℕ
block base n = if base == 0 || n == 0 then [] else base ∷ bitmaps (bitmap_count (n - 1)) (n - 1)

-- n consecutive slots of eight bytes
unfoldable pub slots : ℕ → ℕ → List ℕ
slots base zero = []
slots base (suc n) = base ∷ slots (base + 8) n

-- what is recorded at once: a run of places, or a block of slots
pub data Piece : Type 0 where
  Places : List ℕ → Piece
  Block : ℕ → ℕ → Piece

abbrev pub words_of_piece : Piece → List ℕ
words_of_piece (Places ps) = packed ps
words_of_piece (Block base n) = block base n

-- the words of pieces, one after another
abbrev pub words_of : List Piece → List ℕ
words_of pieces = flat_map words_of_piece pieces

-- the same words, with the run ended
abbrev pub reset : State → State
reset s = record { run = Closed; words = s.words }

unfoldable pub after_places : State → List ℕ → State
after_places s [] = s
after_places s (p ∷ ps) = after_places (after s p) ps

abbrev pub after_block : State → ℕ → ℕ → State
after_block s base n = record { run = Closed; words = s.words ++ block base n }

abbrev pub after_piece : State → Piece → State
after_piece s (Places ps) = reset (after_places s ps)
after_piece s (Block base n) = after_block s base n

unfoldable pub after_pieces : State → List Piece → State
after_pieces s [] = s
after_pieces s (x ∷ xs) = after_pieces (after_piece s x) xs

-- no words and no run
abbrev pub nothing : State
nothing = record { run = Closed; words = [] }

-- the state after a run that starts with an address word
abbrev pub after_run : State → List ℕ → State
after_run s ps = record { run = Closed; words = s.words ++ packed ps }

-- the state after an address word of its own
abbrev pub after_relr_slot : State → ℕ → State
after_relr_slot s place = record { run = Closed; words = s.words ++ place ∷ [] }

-- the number of words that a choice adds
abbrev pub new_words : Choice → ℕ
new_words (Joins i) = 0
new_words (Adds w r) = 1

abbrev pub run_after : Choice → Run → Run
run_after (Joins i) r = r
run_after (Adds w r) before = r

-- the number of words that places add; only the state of the run is needed
unfoldable pub counted : Run → List ℕ → ℕ
counted r [] = 0
counted r (p ∷ ps) = new_words (choice r p) + counted (run_after (choice r p) r) ps

-- the number of words of a run can be counted without building them
abbrev pub RunsAreCounted : Type 0
RunsAreCounted = (ps : List ℕ) → length (packed ps) ≡ counted Closed ps

-- recording place by place gives the words of the pieces, so they can be counted beforehand
abbrev pub PiecesArePacked : Type 0
PiecesArePacked = (pieces : List Piece) → (after_pieces nothing pieces).words ≡ words_of pieces

-- a block adds its slots after all places before
abbrev pub BlocksHoldTheirSlots : Type 0
BlocksHoldTheirSlots = (s : State) (base n : ℕ) → base % 2 ≡ 0 → base ≢ 0 → places (after_block s base n).words ≡ places s.words ++ slots base n

-- a block without slots, or with base 0, has no words
abbrev pub NoBlockHasNoWords : Type 0
NoBlockHasNoWords = (base : ℕ) → (block base 0 ≡ []) × (block 0 base ≡ [])

-- places that are even, and that differ from each other and from all decoded places
pub record AreNew (ws ps : List ℕ) : Type 0 where
  pub even : All (λ p. p % 2 ≡ 0) ps
  pub new : All (λ p. Contains (places ws) p → ⊥) ps
  pub apart : AllPairs (λ p q. p ≢ q) ps

-- after a run of new places exactly they and the earlier places are decoded
abbrev pub RunsAreRecorded : Type 0
RunsAreRecorded = (s : State) (ps : List ℕ) → Follows s → AreNew s.words ps → IsPermutation (ps ++ places s.words) (places (after_places s ps).words)

-- the places of a piece
abbrev pub places_of_piece : Piece → List ℕ
places_of_piece (Places ps) = ps
places_of_piece (Block base n) = if base == 0 then [] else slots base n

abbrev pub places_of_pieces : List Piece → List ℕ
places_of_pieces pieces = flat_map places_of_piece pieces

-- a block begins at an even place
abbrev pub IsEven : Piece → Type 0
IsEven (Places ps) = All (λ p. p % 2 ≡ 0) ps
IsEven (Block base n) = base % 2 ≡ 0

-- after any list of runs and blocks without a place that appears twice, exactly their places are decoded
abbrev pub PiecesAreRecorded : Type 0
PiecesAreRecorded = (pieces : List Piece) → All IsEven pieces → AllPairs (λ p q. p ≢ q) (places_of_pieces pieces) → IsPermutation (places_of_pieces pieces) (places (words_of pieces))

-- a place in an address word of its own is a run of one place
abbrev pub RelrSlotIsARun : Type 0
RelrSlotIsARun = (s : State) (place : ℕ) → after_relr_slot s place ≡ after_run s (place ∷ [])

-- places that ascend and are all above the decoded places; they are decoded in their order
pub record AreRising (ws ps : List ℕ) : Type 0 where
  pub even : All (λ p. p % 2 ≡ 0) ps
  pub above : All (λ p. All (λ q. q < p) (places ws)) ps
  pub rising : AllPairs (λ p q. p < q) ps

abbrev pub RisingRunsKeepOrder : Type 0
RisingRunsKeepOrder = (s : State) (ps : List ℕ) → Follows s → AreRising s.words ps → places (after_places s ps).words ≡ places s.words ++ ps
