-- When an error may be returned, and what a write of a whole text did.
--   CountRose before now              the count is greater, or is at its maximum
--   HasCause before now result   the count does not fall; an error only if it rose, and on success it is unchanged
use Rattle.std.specs.Prelude.{◌≡◌, ℕ, ◌+◌, ◌-◌, ◌^◌, ◌<◌, ◌≤◌, min, List, length, take, Option, Result, Ok, IfOk, OnOk, OnErr}
use Rattle.std.specs.Io.KnownBytes.{Appends}

-- the count is greater than before, or is 2^64 - 1
abbrev pub CountRose : ℕ → ℕ → Type 0
CountRose before now = min (before + 1) (2 ^ 64 - 1) ≤ now

-- an error is returned only if the count rose; on success it is unchanged
pub record HasCause {T E : Type 0} (before now : ℕ) (result : Result T E) : Type 0 where
  pub later : before ≤ now
  pub failed : OnErr result (CountRose before now)
  pub calm : OnOk result (now ≡ before)

-- if a write fails, or accepts no byte of a piece that is not empty, the count rose; if it accepts bytes, the count is unchanged
pub record HasWriteCause {E : Type 0} (before now : ℕ) (piece : List ℕ) (result : Result ℕ E) : Type 0 where
  pub later : before ≤ now
  pub failed : OnErr result (CountRose before now)
  pub nothing : result ≡ Ok 0 → 0 < length piece → CountRose before now
  pub calm : IfOk result (λ n. 0 < n → now ≡ before)

-- a prefix of the text was written
abbrev pub AppendsPrefix : Option (List ℕ) → Option (List ℕ) → List ℕ → Type 0
AppendsPrefix old new text = (n : ℕ) × (n ≤ length text) × Appends old new (take n text)
