-- The least address that runs of a memory share with live placements.
--   IsInRuns rs n a           one of the first n runs of a list contains the address
--   IsLeastOfRun runs r found     the least address of a run that is taken, or none is
--   IsLeastOfRuns runs rs n found the same for the first n runs of a list
use Rattle.std.specs.Prelude.{◌≡◌, ℕ, ◌<◌, true, List, Option, Some, None, slice_get}
use Rattle.wild_loader.specs.declared.memory.Run.{Run}
use Rattle.wild_loader.specs.Runs.{has_address}
use Rattle.wild_placer.specs.Index.{Runs, IsTaken}

-- one of the first n runs of a list contains the address
pub record IsInRuns (rs : List Run) (n a : ℕ) : Type 0 where
  pub index : ℕ
  pub run : Run
  pub before : index < n
  pub listed : slice_get rs index ≡ Some run
  pub has : has_address run a ≡ true

-- a is the least address with a property that is taken
pub record IsLeast (runs : Runs) (Has : ℕ → Type 0) (a : ℕ) : Type 0 where
  pub has : Has a
  pub taken : IsTaken runs a
  pub first : (b : ℕ) → b < a → Has b → IsTaken runs b → ⊥

-- the least address with a property that is taken, if there is one
abbrev pub IsLeastOf : Runs → (ℕ → Type 0) → Option ℕ → Type 0
IsLeastOf runs Has None = (a : ℕ) → Has a → IsTaken runs a → ⊥
IsLeastOf runs Has (Some a) = IsLeast runs Has a

-- that of a run
abbrev pub IsLeastOfRun : Runs → Run → Option ℕ → Type 0
IsLeastOfRun runs r found = IsLeastOf runs (λ a. has_address r a ≡ true) found

-- that of the first n runs of a list
abbrev pub IsLeastOfRuns : Runs → List Run → ℕ → Option ℕ → Type 0
IsLeastOfRuns runs rs n found = IsLeastOf runs (IsInRuns rs n) found
