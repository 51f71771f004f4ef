-- The runs of loaded bytes of live placements, as a look-up of the run that begins at an address.
--   IsTaken runs a            a run contains the address
--   IsRunAt runs a start r    the run that begins at `start` contains the address
--   NoneIsTaken runs s e      no run contains an address from s on and before e
--   IsFirstTaken runs s e a   a is the least address from s on and before e that a run contains
--   AreSeparate runs          each run has a byte, and no two share one
use Rattle.std.specs.Prelude.{◌≡◌, ℕ, ◌<◌, ◌≤◌, Option, Some, IsSome}
use Rattle.wild_placer.specs.declared.index.LoadedRun.{LoadedRun}

-- the run that begins at an address
abbrev pub Runs : Type 0
Runs = ℕ → Option LoadedRun

-- the run that begins at `start` contains the address
pub record IsRunAt (runs : Runs) (a start : ℕ) (r : LoadedRun) : Type 0 where
  pub listed : runs start ≡ Some r
  pub low : start ≤ a
  pub high : a < r.end

-- a run contains the address
pub record IsTaken (runs : Runs) (a : ℕ) : Type 0 where
  pub start : ℕ
  pub run : LoadedRun
  pub is : IsRunAt runs a start run

-- no run contains an address from `start` on and before `end`
abbrev pub NoneIsTaken : Runs → ℕ → ℕ → Type 0
NoneIsTaken runs start end = (a : ℕ) → start ≤ a → a < end → IsTaken runs a → ⊥

-- the least such address
pub record IsFirstTaken (runs : Runs) (start end a : ℕ) : Type 0 where
  pub low : start ≤ a
  pub high : a < end
  pub taken : IsTaken runs a
  pub first : NoneIsTaken runs start a

-- each run has a byte, and ends at or before the start of a later one
pub record AreSeparate (runs : Runs) : Type 0 where
  pub filled : (a : ℕ) (r : LoadedRun) → runs a ≡ Some r → a < r.end
  pub apart : (a b : ℕ) (r s : LoadedRun) → runs a ≡ Some r → runs b ≡ Some s → a < b → r.end ≤ b

-- the greatest start of a run up to an address, with the run
pub record IsLastStart (runs : Runs) (a start : ℕ) (r : LoadedRun) : Type 0 where
  pub listed : runs start ≡ Some r
  pub low : start ≤ a
  pub last : (q : ℕ) → q ≤ a → IsSome (runs q) → q ≤ start

-- the least start of a run from an address on
pub record IsFirstStart (runs : Runs) (a start : ℕ) : Type 0 where
  pub listed : IsSome (runs start)
  pub low : a ≤ start
  pub first : (q : ℕ) → a ≤ q → IsSome (runs q) → start ≤ q
