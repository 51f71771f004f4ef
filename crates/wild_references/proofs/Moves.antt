-- What of a value moves with the base: numbers.
use Rattle.wild_references.proofs.Common.{◌≡◌, ℕ, ◌+◌, ◌-◌, ◌%◌, ◌^◌, ◌<◌, ◌≤◌, ◌⊎◌, inl, inr, Bool, true, false, refl, arith, with_base}

-- what is written for S + A is right where the base is 0 or S does not move
pub sum_is : (b : Bool) (base a c : ℕ) → (base ≡ 0) ⊎ (b ≡ true) → (a + c) % 2 ^ 64 ≡ (with_base b base a + c) % 2 ^ 64
sum_is true base a c h = refl
sum_is false base a c (inl z) = omega (arith, z)
sum_is false base a c (inr t) = cc

-- and for S + A - P where it is 0 or both move
pub distance_is : (b : Bool) (base a c p : ℕ) → (base ≡ 0) ⊎ (b ≡ false) → base + p ≤ 2 ^ 64 → ((a + c) % 2 ^ 64 + (2 ^ 64 - p)) % 2 ^ 64 ≡ ((with_base b base a + c) % 2 ^ 64 + (2 ^ 64 - (base + p))) % 2 ^ 64
distance_is true base a c p (inl z) ends = omega (arith, z, ends)
distance_is false base a c p (inl z) ends = omega (arith, z, ends)
distance_is true base a c p (inr f) ends = cc
distance_is false base a c p (inr f) ends = omega (arith, ends)

-- the same for S + A - GOT
pub table_is : (b : Bool) (base a c g : ℕ) → (base ≡ 0) ⊎ (b ≡ false) → g < 2 ^ 64 → ((a + c) % 2 ^ 64 + (2 ^ 64 - g)) % 2 ^ 64 ≡ ((with_base b base a + c) % 2 ^ 64 + (2 ^ 64 - (base + g) % 2 ^ 64)) % 2 ^ 64
table_is true base a c g (inl z) low = omega (arith, z, low)
table_is false base a c g (inl z) low = omega (arith, z, low)
table_is true base a c g (inr f) low = cc
table_is false base a c g (inr f) low = omega (arith, low)

-- an address that moves less a place: GOT + A - P, L + A - P and G + A - P are the same at every base
pub moved_distance : (base a c p : ℕ) → base + p ≤ 2 ^ 64 → ((a + c) % 2 ^ 64 + (2 ^ 64 - p)) % 2 ^ 64 ≡ ((base + a) % 2 ^ 64 + c + (2 ^ 64 - (base + p))) % 2 ^ 64
moved_distance base a c p ends = omega (arith, ends)

-- and less the table
pub moved_offset : (base a c g : ℕ) → g < 2 ^ 64 → ((a + c) % 2 ^ 64 + (2 ^ 64 - g)) % 2 ^ 64 ≡ ((base + a) % 2 ^ 64 + c + (2 ^ 64 - (base + g) % 2 ^ 64)) % 2 ^ 64
moved_offset base a c g low = omega (arith, low)

-- an address less a number, and more by another
pub less_sum : (a c p : ℕ) → ((a + (2 ^ 64 - p)) % 2 ^ 64 + c) % 2 ^ 64 ≡ (a + c + (2 ^ 64 - p)) % 2 ^ 64
less_sum a c p = omega arith
