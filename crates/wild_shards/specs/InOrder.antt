-- Relocations applied in sequence.
--   Rule                        the widths of fields, and the bytes that are written to them
--   in_order rule base rs xs    the bytes xs, which begin at offset base, with the relocations applied one by one; or the first
--                               fault
--   ResultIs result ys outcome      a call returned this outcome, and left its bytes in ys if there is no fault
--   FieldWithin rule a e r      the field of a relocation begins at or after a and ends at or before e
--   Tiles rule ranges rs base end   the ranges are consecutive from base to end, each takes the next relocations, and each field of a
--                               range is within its part of the output
use Rattle.std.specs.Prelude.{◌≡◌, ℕ, ◌+◌, ◌-◌, ◌≤◌, ◌<◌, ◌⊎◌, List, [], ◌∷◌, length, take, drop, All, Option, Some, None, Result, Ok, Err, IfOk, slice_index, slice_range}
use Rattle.wild_words.specs.Words.{place}
use Rattle.wild_types.specs.declared.input.InputRelocation.{InputRelocation}
use Rattle.wild_types.specs.declared.fault.Error.{Error}
use Rattle.wild_shards.specs.declared.ranges.DebugRelocationShardRange.{DebugRelocationShardRange}

-- the width of a relocation's field, if it is known, and the bytes that are written to it
pub record Rule : Type 0 where
  pub sized : InputRelocation → Option ℕ
  pub written : InputRelocation → List ℕ → Result (List ℕ) Error

-- an unknown width counts as 0
abbrev pub width_of : Option ℕ → ℕ
width_of None = 0
width_of (Some n) = n

abbrev pub width : Rule → InputRelocation → ℕ
width rule r = width_of (rule.sized r)

-- fields are at most 10 bytes wide
abbrev pub AreSmall : Rule → Type 0
AreSmall rule = (r : InputRelocation) → width rule r ≤ 10

-- a step does not change the width of a field
abbrev pub KeepsLength : Rule → Type 0
KeepsLength rule = (r : InputRelocation) (xs : List ℕ) → length xs ≡ width rule r → IfOk (rule.written r xs) (λ ys. length ys ≡ length xs)

-- the next step on the value; a fault is passed on
abbrev pub then_apply : {A B : Type 0} → Result A Error → (A → Result B Error) → Result B Error
then_apply (Ok x) f = f x
then_apply (Err e) f = Err e

-- the bytes of the field that begins at that index
abbrev pub field_at : Rule → ℕ → InputRelocation → List ℕ → List ℕ
field_at rule at r xs = slice_range xs at (at + width rule r)

-- one relocation applied to bytes that begin at offset base
abbrev pub apply_step : Rule → ℕ → InputRelocation → List ℕ → Result (List ℕ) Error
apply_step rule base r xs = then_apply (rule.written r (field_at rule (r.offset - base) r xs)) (λ ys. Ok (place (r.offset - base) ys xs))

-- the relocations applied one by one, or the first fault
abbrev pub in_order : Rule → ℕ → List InputRelocation → List ℕ → Result (List ℕ) Error
in_order rule base [] xs = Ok xs
in_order rule base (r ∷ rs) xs = then_apply (apply_step rule base r xs) (in_order rule base rs)

-- a call returned this outcome, and left its bytes in ys if there is no fault
abbrev pub ResultIs : Result (Unit {0}) Error → List ℕ → Result (List ℕ) Error → Type 0
ResultIs (Ok _) ys outcome = outcome ≡ Ok ys
ResultIs (Err e) ys outcome = outcome ≡ Err e

-- the combined result of two parts: the fault of the first, else the result of the second
abbrev pub first_of : Result (Unit {0}) Error → Result (Unit {0}) Error → Result (Unit {0}) Error
first_of (Err e) b = Err e
first_of (Ok _) b = b

-- the field of a relocation begins at or after a and ends at or before e
abbrev pub FieldWithin : Rule → ℕ → ℕ → InputRelocation → Type 0
FieldWithin rule a e r = (a ≤ r.offset) × (r.offset + width rule r ≤ e)

-- the number of relocations of a range
abbrev pub count_of : DebugRelocationShardRange → ℕ
count_of s = s.relocations.end - s.relocations.start

-- a range begins at base and takes the first of the relocations, whose fields are within its part of the output
pub record Takes (rule : Rule) (s : DebugRelocationShardRange) (rs : List InputRelocation) (base end : ℕ) : Type 0 where
  pub begins : s.output.start ≡ base
  pub low : base ≤ s.output.end
  pub high : s.output.end ≤ end
  pub rising : s.relocations.start ≤ s.relocations.end
  pub many : count_of s ≤ length rs
  pub fields : All (FieldWithin rule base s.output.end) (take (count_of s) rs)

-- the ranges are consecutive from base to end and take all relocations, each with its fields in its part of the output
abbrev pub Tiles : Rule → List DebugRelocationShardRange → List InputRelocation → ℕ → ℕ → Type 0
Tiles rule [] rs base end = (rs ≡ []) × (base ≡ end)
Tiles rule (s ∷ ss) rs base end = Takes rule s rs base end × Tiles rule ss (drop (count_of s) rs) s.output.end end

-- a byte outside all fields does not change
abbrev pub OthersStay : Type 0
OthersStay = (rule : Rule) (base : ℕ) (rs : List InputRelocation) (xs ys : List ℕ) (k : ℕ) → KeepsLength rule → All (FieldWithin rule base (base + length xs)) rs → in_order rule base rs xs ≡ Ok ys
    → All (λ r. (base + k < r.offset) ⊎ (r.offset + width rule r ≤ base + k)) rs → slice_index ys k ≡ slice_index xs k
