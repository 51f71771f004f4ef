-- A number of which one bit is set is a power of two.
use Rattle.wild_geometry.proofs.Common.{◌≡◌, ℕ, zero, suc, ◌+◌, ◌-◌, ◌*◌, ◌/◌, ◌%◌, ◌^◌, ◌≤◌, inl, inr, true, false, ap, ◌∙◌, arith, count_ones, nat_lt, ◌==◌, is_power_of_two, cases_Bool, eqb-true, ltb-true}
use Rattle.std.specs.Int.{IsPowerOfTwo}
use Rattle.std.specs.Int.Count.{ones_step}
use Rattle.std.proofs.lemmas.Bool.Decides.{nat_tests}
use Rattle.std.proofs.lemmas.Nat.{zero_from_ones, ones_le_self, pow-add}
use Rattle.std.proofs.Math.Nat.{mul-mod_left}
use Rattle.std.proofs.Math.Pow.{pow_mono}

-- 2 ^ (k + 1) is twice 2 ^ k
twice : (n k : ℕ) → n % 2 ≡ 0 → n / 2 ≡ 2 ^ k → n ≡ 2 ^ (k + 1)
twice n k even half = (let p = pow-add 2 k 1 in omega (arith, p, even, half))

odd : (n : ℕ) → (n % 2 == 0) ≡ false → n % 2 ≡ 1
odd n h = grind (arith, nat_tests)

power_below : (d n : ℕ) → n ≤ d → count_ones n ≡ 1 → IsPowerOfTwo n
power_below zero n h e = (let s = ones_le_self n in absurd (omega (arith, s, h, e)))
power_below (suc d) n h e =
    elim (cases_Bool (n % 2 == 0)) [
      | inl t ↦ (let half = power_below d (n / 2) (omega arith) (even_rest (eqb-true _ _ t)) in (half.0 + 1, twice n half.0 (eqb-true _ _ t) half.1))
      | inr f ↦ (0, last (odd n f))
    ]
  where
    even_rest : n % 2 ≡ 0 → count_ones (n / 2) ≡ 1
    even_rest even = (let s = ones_step n in omega (arith, s, even, e))

    last : n % 2 ≡ 1 → n ≡ 1
    last one =
        let s = ones_step n in
        let none = zero_from_ones (n / 2) (omega (arith, s, one, e)) in
        omega (arith, one, none)

pub power_of_two : (n : ℕ) → is_power_of_two n ≡ true → IsPowerOfTwo n
power_of_two n h = power_below n n (omega arith) (eqb-true _ _ h)

-- a page of 4096 bytes or more is a multiple of these
pub whole_pages : (n : ℕ) → IsPowerOfTwo n → 4096 ≤ n → n % 4096 ≡ 0
whole_pages n p low =
    elim (cases_Bool (nat_lt p.0 12)) [
      | inl t ↦
          (let few : p.0 ≤ 11 = (let lt = ltb-true p.0 12 t in omega (arith, lt)) in
          let m = pow_mono few in
          let is = p.1 in
          absurd (omega (arith, m, is, low)))
      | inr f ↦
          (let many : 12 ≤ p.0 = grind (arith, nat_tests) in
          let e : p.0 ≡ (p.0 - 12) + 12 = omega (arith, many) in
          let is : n ≡ 2 ^ (p.0 - 12) * 4096 = p.1 ∙ ap (λ (k : ℕ). 2 ^ k) e ∙ pow-add 2 (p.0 - 12) 12 in
          ap (λ (k : ℕ). k % 4096) is ∙ mul-mod_left (2 ^ (p.0 - 12)) 4096)
    ]
