-- Strings, and bits of hashes.
use Rattle.std.proofs.Common.{◌≡◌, ℕ, ◌<◌, ◌≤◌, List, length, refl, ◌^◌, ◌/◌, arith, Ok, drop, None, Some, Err, take}
use Rattle.std.specs.Prelude.{position}
use Rattle.std.proofs.Math.ListN.{drop_of_length-le}
use Rattle.wild_hashes.specs.Reading.{is_zero, string_at}
use Rattle.wild_hashes.specs.declared.fault.LookupFault.TheVariants as faults
use Rattle.std.proofs.Math.Nat.{pow-le-pow_right, div-eq_of_lt}

-- nothing is left of a number of 32 bits
pub shifted_out : (h shift : ℕ) → h < 2 ^ 32 → 32 ≤ shift → h / 2 ^ shift ≡ 0
shifted_out h shift l s = let g : 2 ^ 32 ≤ 2 ^ shift = pow-le-pow_right (omega arith) s in div-eq_of_lt (omega (arith, g, l))

-- behind the end there is no zero
pub no_string : (strings : List ℕ) (at : ℕ) → length strings ≤ at → position is_zero (drop at strings) ≡ None
no_string strings at l = rw (drop_of_length-le strings l) refl

pub string_cut : (strings : List ℕ) (at : ℕ) → position is_zero (drop at strings) ≡ None → string_at strings at ≡ Err (faults.NoString at)
unfolding string_at
string_cut strings at e = rw e refl

pub string_ends : (strings : List ℕ) (at n : ℕ) → position is_zero (drop at strings) ≡ Some n → string_at strings at ≡ Ok (take n (drop at strings))
unfolding string_at
string_ends strings at n e = rw e refl

pub ruleset string_steps = (no_string, string_cut, string_ends)
