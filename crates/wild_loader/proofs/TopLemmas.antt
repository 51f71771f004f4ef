-- What is loaded lies below 2^64.
use Rattle.std.proofs.Common.{◌≡◌, ℕ, ◌+◌, ◌*◌, ◌^◌, ◌≤◌, inl, inr, false, refl, sym, ◌∙◌, arith}
use Rattle.std.specs.Prelude.{nat_lt, Option, Some, None, option_map, option_and_then}
use Rattle.std.proofs.lemmas.Bool.{cases_Bool, ltb-true}
use Rattle.wild_loader.specs.declared.memory.Memory.{Memory}
use Rattle.wild_loader.specs.Memory.{byte_in, number_in}

-- a number whose rest is not loaded is none
nothing : (o rest : Option ℕ) → rest ≡ None → option_and_then (λ b. option_map (λ r. b + 256 * r) rest) o ≡ None
nothing None rest e = refl
nothing (Some b) rest e = rw e refl

top_byte : (m : Memory) (a : ℕ) → nat_lt a (2 ^ 64) ≡ false → number_in m a 1 ≡ None
top_byte m a f = rw f refl

pub loaded_below : (m : Memory) (a n : ℕ) → number_in m a 4 ≡ Some n → a + 4 ≤ 2 ^ 64
loaded_below m a n h =
    elim (cases_Bool (nat_lt (a + 1 + 1 + 1) (2 ^ 64))) [
      | inl t ↦ (let l = ltb-true _ _ t in omega (arith, l))
      | inr f ↦
          (let third = nothing (byte_in m (a + 1 + 1)) (number_in m (a + 1 + 1 + 1) 1) (top_byte m (a + 1 + 1 + 1) f) in
          let second = nothing (byte_in m (a + 1)) (number_in m (a + 1 + 1) 2) third in
          let first = nothing (byte_in m a) (number_in m (a + 1) 3) second in
          absurd (none_is (sym first ∙ h)))
    ]
  where
    none_is : None ≡ Some n → ⊥
    none_is e = cc
