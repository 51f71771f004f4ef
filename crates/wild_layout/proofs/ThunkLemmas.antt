-- Thunks: how long they are, and what it says that one has no fault.
use Rattle.std.proofs.Common.{◌≡◌, ℕ, Bool, true, false, if◌then◌else◌, length, refl}
use Rattle.std.specs.Prelude.{Some, None, Result, Ok, Err}
use Rattle.wild_words.specs.Words.{word}
use Rattle.wild_types.specs.declared.fault.Fault.{Fault}
use Rattle.wild_types.specs.declared.fault.Fault.TheVariants as faults
use Rattle.wild_types.specs.declared.layout.Thunk.{Thunk}
use Rattle.wild_types.specs.declared.layout.Layout.{Layout}
use Rattle.wild_types.specs.FileThunks.{thunk_size}
use Rattle.wild_relax.specs.ThunkAArch64.{thunk_aarch64}
use Rattle.wild_layout.specs.Thunks.{thunk_target, target_or_zero, thunk_bytes, carry_fault}

pub length-thunk : (at target : ℕ) → length (thunk_aarch64 at target).bytes ≡ thunk_size
unfolding word
length-thunk at target = refl

pub length-thunk_bytes : (l : Layout) (t : Thunk) → length (thunk_bytes l t) ≡ thunk_size
length-thunk_bytes l t = length-thunk t.address (target_or_zero (thunk_target l t))

-- code goes on to a target that it reaches
pub record GoesOnTo (at : ℕ) (r : Result ℕ Fault) : Type 0 where
  pub target : ℕ
  pub known : r ≡ Ok target
  pub reaches : (thunk_aarch64 at target).reaches ≡ true

pub goes_on : (at : ℕ) (r : Result ℕ Fault) → carry_fault at r ≡ None → GoesOnTo at r
goes_on at (Err f) h = cc
goes_on at (Ok target) h = record { target = target; known = refl; reaches = by_test (thunk_aarch64 at target).reaches (faults.ThunkOutOfRange (thunk_aarch64 at target).distance) h }
  where
    by_test : (b : Bool) (f : Fault) → (if b then None else Some f) ≡ None → b ≡ true
    by_test true f h = refl
    by_test false f h = cc
