-- An index of runs by start address, so that the run of an address is found by binary search.
--   place_of runs a     the index in the list of the first run that contains an address
--   starts_and_indices n es        the start and the index of each extent that is not empty; indices count from n
--   IsIndexOf index es  sorted starts and indices, through which the extent of a number is found
use Rattle.std.specs.Prelude.{◌≡◌, ℕ, suc, ◌+◌, ◌-◌, ◌<◌, ◌≤◌, if◌then◌else◌, nat_lt, nat_le, true, false, List, [], ◌∷◌, length, Option, Some, None, option_map, slice_index_or, All}
use Rattle.std.specs.List.Sorted.{IsNonDecreasingBy, IsPartitionPoint}
use Rattle.wild_words.specs.declared.extents.Extent.{Extent}
use Rattle.wild_loader.specs.declared.memory.Run.{Run}
use Rattle.wild_loader.specs.Runs.{has_address}

-- the index in the list of the first run that contains an address
abbrev pub place_of : List Run → ℕ → Option ℕ
place_of [] a = None
place_of (r ∷ rs) a = if has_address r a then Some 0 else option_map (λ n. suc n) (place_of rs a)

-- the start and the index of each extent that is not empty; indices count from n
unfoldable pub starts_and_indices : ℕ → List Extent → List (ℕ × ℕ)
starts_and_indices n [] = []
starts_and_indices n (e ∷ es) = if nat_lt e.start e.end then (e.start, n) ∷ starts_and_indices (n + 1) es else starts_and_indices (n + 1) es

-- the first k entries start at or below a number, and the others above it
abbrev pub SplitsAt : List (ℕ × ℕ) → ℕ → ℕ → Type 0
SplitsAt index a k = IsPartitionPoint (λ s. nat_le s.0 a ≡ true) (λ s. nat_le s.0 a ≡ false) index k

-- sorted starts and indices: the extent that contains a number is that of the last entry that starts at or below it
pub record IsIndexOf (index : List (ℕ × ℕ)) (es : List Extent) : Type 0 where
  pub sorted : IsNonDecreasingBy (λ (s : ℕ × ℕ). s.0) index
  pub sound : All (λ (s : ℕ × ℕ). s.1 < length es) index
  pub last : (k i a : ℕ) (s : ℕ × ℕ) (e : Extent) → k ≤ length index → SplitsAt index a k → i < length es → (slice_index_or es i e).start ≤ a → a < (slice_index_or es i e).end → (0 < k) × ((slice_index_or index (k - 1) s).1 ≡ i)
