-- Where the shards are cut.
use Rattle.std.proofs.Common.{◌≡◌, ℕ, ◌+◌, ◌-◌, ◌*◌, ◌/◌, ◌%◌, ◌<◌, ◌≤◌, ◌^◌, ◌∙◌, ap, sym, arith, add-zero, subst, inl, inr}
use Rattle.std.proofs.lemmas.Bool.{cases_lt}
use Rattle.std.proofs.lemmas.Nat.{mul-le, div-add-mod', div_below, le-div, div-mul-add}
use Rattle.wild_shards.specs.Ranges.{cut}

pub cut-le : (count n i : ℕ) → 0 < n → i ≤ n → cut count n i ≤ count
cut-le count n i p h =
    let m : count * i ≤ count * n = mul-le count i count n (omega arith) h in
    let e : (count + 1) * n ≡ count * n + n = omega arith in
    let b : count * i / n < count + 1 = div_below (count * i) n (count + 1) p (omega (arith, m, e, p)) in
    omega (arith, b)

pub cut-none : (count n : ℕ) → 0 < n → cut count n 0 ≡ 0
cut-none count n p =
    let b : count * 0 / n < 1 = div_below (count * 0) n 1 p (omega (arith, p)) in
    omega (arith, b)

pub cut-all : (count n : ℕ) → 0 < n → cut count n n ≡ count
cut-all count n p = ap (λ k. k / n) (sym (add-zero (count * n))) ∙ div-mul-add count n 0 p

pub cut-rises : (count n i : ℕ) → 0 < n → n ≤ count → cut count n i < cut count n (i + 1)
cut-rises count n i p h =
    let q : ℕ = count * i / n in
    let d : q * n + count * i % n ≡ count * i = div-add-mod' (count * i) n in
    let e : (q + 1) * n ≡ q * n + n = omega arith in
    let f : count * (i + 1) ≡ count * i + count = omega arith in
    let b : q + 1 ≤ count * (i + 1) / n = le-div (q + 1) (count * (i + 1)) n p (omega (arith, d, e, f, h)) in
    omega (arith, b)

-- the product that is divided fits
pub product-fits : (count i : ℕ) → count < 2 ^ 64 → i < 2 ^ 64 → count * i < 2 ^ 128
product-fits count i h k = let m = mul-le count i (2 ^ 64 - 1) (2 ^ 64 - 1) (omega arith) (omega arith) in omega (arith, m)

pub ruleset cuts = (cut-le, cut-none, cut-all, cut-rises, product-fits)

pub below-more : (P : ℕ → Type 0) (n : ℕ) → ((i : ℕ) → i < n → P i) → P n → (i : ℕ) → i < n + 1 → P i
below-more P n h p i l =
    elim (cases_lt i n) [
      | inl b ↦ h i b
      | inr b ↦ (let e : n ≡ i = omega arith in subst P e p)
    ]
