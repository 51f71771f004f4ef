-- Linked records: each has the distance to the next one.
--   chain f i xs   the bytes of the items; f is given the index of each, counted from i, and whether it is the last
--   name_at ns k   the offset of string k of a list; 0 if the list has no string k
use Rattle.std.specs.Prelude.{ℕ, ◌+◌, Bool, true, false, if◌then◌else◌, List, [], ◌∷◌, ◌++◌, slice_index_or}

-- the list is empty: no record follows
abbrev pub is_end : {X : Type 0} → List X → Bool
is_end [] = true
is_end (x ∷ xs) = false

-- the bytes of the items, consecutively
unfoldable pub chain : {X : Type 0} → (ℕ → Bool → X → List ℕ) → ℕ → List X → List ℕ
chain f i [] = []
chain f i (x ∷ xs) = f i (is_end xs) x ++ chain f (i + 1) xs

-- the distance to the next record; 0 for the last
abbrev pub next_of : Bool → ℕ → ℕ
next_of last size = if last then 0 else size

-- the offset of string k
abbrev pub name_at : List ℕ → ℕ → ℕ
name_at names k = slice_index_or names k 0
