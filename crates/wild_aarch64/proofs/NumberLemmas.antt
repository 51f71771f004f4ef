-- Distances that are cut into bits, and land where they should.
use Rattle.std.proofs.Common.{◌≡◌, ℕ, ◌+◌, ◌-◌, ◌*◌, ◌/◌, ◌%◌, ◌^◌, ◌<◌, ◌≤◌, ◌⊎◌, ◌==◌, inl, inr, true, false, ap, ◌∙◌, arith}
use Rattle.std.proofs.lemmas.Bool.{cases_lt}
use Rattle.std.proofs.lemmas.Bool.Decides.{nat_tests}
use Rattle.wild_aarch64.specs.Slice.{signed}
use Rattle.wild_aarch64.specs.Machine.{sum_64, page}
use Rattle.wild_aarch64.specs.Row.{distance, Within, IsNear}

pub same : (r : ℕ) → (r == r) ≡ true
same r = grind (arith, nat_tests)

pub not_zero : (r : ℕ) → 1 ≤ r → (r == 0) ≡ false
not_zero r h = grind (arith, nat_tests)

pub zero_not : (r : ℕ) → 1 ≤ r → (0 == r) ≡ false
zero_not r h = grind (arith, nat_tests)

pub not_31 : (r : ℕ) → r < 31 → (r == 31) ≡ false
not_31 r h = grind (arith, nat_tests)

-- a signed number, added
added_33 : (b x s : ℕ) → x < 2 ^ 33 → (x < 2 ^ 32 → sum_64 b x ≡ s) → (2 ^ 32 ≤ x → sum_64 b (x + (2 ^ 64 - 2 ^ 33)) ≡ s) → sum_64 b (signed 33 x) ≡ s
added_33 b x s h up down = grind (arith, nat_tests)

added_16 : (b x s : ℕ) → x < 2 ^ 16 → (x < 2 ^ 15 → sum_64 b x ≡ s) → (2 ^ 15 ≤ x → sum_64 b (x + (2 ^ 64 - 2 ^ 16)) ≡ s) → sum_64 b (signed 16 x) ≡ s
added_16 b x s h up down = grind (arith, nat_tests)

added_21 : (b x s : ℕ) → x < 2 ^ 21 → (x < 2 ^ 20 → sum_64 b x ≡ s) → (2 ^ 20 ≤ x → sum_64 b (x + (2 ^ 64 - 2 ^ 21)) ≡ s) → sum_64 b (signed 21 x) ≡ s
added_21 b x s h up down = grind (arith, nat_tests)

added_28 : (b x s : ℕ) → x < 2 ^ 28 → (x < 2 ^ 27 → sum_64 b x ≡ s) → (2 ^ 27 ≤ x → sum_64 b (x + (2 ^ 64 - 2 ^ 28)) ≡ s) → sum_64 b (signed 28 x) ≡ s
added_28 b x s h up down = grind (arith, nat_tests)

-- ---- sums modulo 2^64

landed : (b p s : ℕ) → p ≤ 2 ^ 64 → (b + p + distance p s) % 2 ^ 64 ≡ (b + s) % 2 ^ 64
landed b p s h = omega (arith, h)

-- the lowest bits of a distance that is near, added with their sign
back_33 : (b d : ℕ) → d < 2 ^ 64 → (d < 2 ^ 32) ⊎ (2 ^ 64 ≤ d + 2 ^ 32) → sum_64 b (signed 33 (d % 2 ^ 33)) ≡ (b + d) % 2 ^ 64
back_33 b d low (inl h) = added_33 b (d % 2 ^ 33) ((b + d) % 2 ^ 64) (omega arith) (λ s. omega (arith, h)) (λ s. omega (arith, h, s))
back_33 b d low (inr h) = added_33 b (d % 2 ^ 33) ((b + d) % 2 ^ 64) (omega arith) (λ s. omega (arith, low, h, s)) (λ s. omega (arith, low, h))

back_28 : (b d : ℕ) → d < 2 ^ 64 → (d < 2 ^ 27) ⊎ (2 ^ 64 ≤ d + 2 ^ 27) → sum_64 b (signed 28 (d % 2 ^ 28)) ≡ (b + d) % 2 ^ 64
back_28 b d low (inl h) = added_28 b (d % 2 ^ 28) ((b + d) % 2 ^ 64) (omega arith) (λ s. omega (arith, h)) (λ s. omega (arith, h, s))
back_28 b d low (inr h) = added_28 b (d % 2 ^ 28) ((b + d) % 2 ^ 64) (omega arith) (λ s. omega (arith, low, h, s)) (λ s. omega (arith, low, h))

back_21 : (b d : ℕ) → d < 2 ^ 64 → (d < 2 ^ 20) ⊎ (2 ^ 64 ≤ d + 2 ^ 20) → sum_64 b (signed 21 (d % 2 ^ 21)) ≡ (b + d) % 2 ^ 64
back_21 b d low (inl h) = added_21 b (d % 2 ^ 21) ((b + d) % 2 ^ 64) (omega arith) (λ s. omega (arith, h)) (λ s. omega (arith, h, s))
back_21 b d low (inr h) = added_21 b (d % 2 ^ 21) ((b + d) % 2 ^ 64) (omega arith) (λ s. omega (arith, low, h, s)) (λ s. omega (arith, low, h))

back_16 : (b d : ℕ) → d < 2 ^ 64 → (d < 2 ^ 15) ⊎ (2 ^ 64 ≤ d + 2 ^ 15) → sum_64 b (signed 16 (d % 2 ^ 16)) ≡ (b + d) % 2 ^ 64
back_16 b d low (inl h) = added_16 b (d % 2 ^ 16) ((b + d) % 2 ^ 64) (omega arith) (λ s. omega (arith, h)) (λ s. omega (arith, h, s))
back_16 b d low (inr h) = added_16 b (d % 2 ^ 16) ((b + d) % 2 ^ 64) (omega arith) (λ s. omega (arith, low, h, s)) (λ s. omega (arith, low, h))

-- from the page of a to that of x
pages_apart : (a x : ℕ) → distance (page a) (page x) % 4096 ≡ 0
pages_apart a x = omega arith

page_bits : (d : ℕ) → d % 4096 ≡ 0 → d % 2 ^ 33 / 2 ^ 12 % 2 ^ 21 * 4096 ≡ d % 2 ^ 33
page_bits d h = omega (arith, h)

pub page_goes : (base a x : ℕ) → base % 4096 ≡ 0 → IsNear (2 ^ 32) (page a) (page x)
    → sum_64 (page (base + a)) (signed 33 (distance (page a) (page x) % 2 ^ 33 / 2 ^ 12 % 2 ^ 21 * 4096)) ≡ (base + page x) % 2 ^ 64
page_goes base a x e w =
    let start : page (base + a) ≡ base + page a = omega (arith, e) in
    let d = distance (page a) (page x) in
    let low : d < 2 ^ 64 = omega arith in
    ap (λ (i : ℕ). sum_64 (page (base + a)) (signed 33 i)) (page_bits d (pages_apart a x))
    ∙ (ap (λ (i : ℕ). sum_64 i (signed 33 (d % 2 ^ 33))) start
    ∙ (back_33 (base + page a) d low w.near ∙ landed base (page a) (page x) w.origin))

-- pages that are near as numbers are so as addresses
pub near_pages : (a x : ℕ) → a ≤ 2 ^ 64 → Within (2 ^ 32) (page a) (page x) → IsNear (2 ^ 32) (page a) (page x)
near_pages a x h w = record { origin = omega (arith, h); near = by (cases_lt (page x) (page a)) }
  where
    by : (page x < page a) ⊎ (page a ≤ page x) → (distance (page a) (page x) < 2 ^ 32) ⊎ (2 ^ 64 ≤ distance (page a) (page x) + 2 ^ 32)
    by (inl l) = inr (omega (arith, h, l, w.above))
    by (inr l) = inl (omega (arith, h, l, w.below))

pub low_goes : (base x : ℕ) → sum_64 ((base + page x) % 2 ^ 64) (x % 4096 % 2 ^ 12) ≡ (base + x) % 2 ^ 64
low_goes base x = omega arith

pub slot_goes : (base x : ℕ) → x % 8 ≡ 0 → sum_64 ((base + page x) % 2 ^ 64) (x % 2 ^ 12 / 2 ^ 3 % 2 ^ 12 * 8) ≡ (base + x) % 2 ^ 64
slot_goes base x e = omega (arith, e)

pub near_goes : (base a x : ℕ) → IsNear (2 ^ 20) a x → sum_64 (base + a) (signed 21 (distance a x % 2 ^ 21 % 2 ^ 21)) ≡ (base + x) % 2 ^ 64
near_goes base a x w =
    let d = distance a x in
    let low : d < 2 ^ 64 = omega arith in
    let twice : d % 2 ^ 21 % 2 ^ 21 ≡ d % 2 ^ 21 = omega arith in
    ap (λ (i : ℕ). sum_64 (base + a) (signed 21 i)) twice ∙ (back_21 (base + a) d low w.near ∙ landed base a x w.origin)

-- between multiples of 4
words_apart : (a x : ℕ) → a ≤ 2 ^ 64 → a % 4 ≡ 0 → x % 4 ≡ 0 → distance a x % 4 ≡ 0
words_apart a x h p q = omega (arith, h, p, q)

pub branch_goes : (base a x : ℕ) → IsNear (2 ^ 27) a x → a % 4 ≡ 0 → x % 4 ≡ 0 → sum_64 (base + a) (signed 28 (distance a x % 2 ^ 28 / 2 ^ 2 % 2 ^ 26 * 4)) ≡ (base + x) % 2 ^ 64
branch_goes base a x w p q =
    let d = distance a x in
    let low : d < 2 ^ 64 = omega arith in
    let words = words_apart a x w.origin p q in
    let bits : d % 2 ^ 28 / 2 ^ 2 % 2 ^ 26 * 4 ≡ d % 2 ^ 28 = omega (arith, words) in
    ap (λ (i : ℕ). sum_64 (base + a) (signed 28 i)) bits ∙ (back_28 (base + a) d low w.near ∙ landed base a x w.origin)

pub condition_goes : (base a x : ℕ) → IsNear (2 ^ 20) a x → a % 4 ≡ 0 → x % 4 ≡ 0 → sum_64 (base + a) (signed 21 (distance a x % 2 ^ 21 / 2 ^ 2 % 2 ^ 19 * 4)) ≡ (base + x) % 2 ^ 64
condition_goes base a x w p q =
    let d = distance a x in
    let low : d < 2 ^ 64 = omega arith in
    let words = words_apart a x w.origin p q in
    let bits : d % 2 ^ 21 / 2 ^ 2 % 2 ^ 19 * 4 ≡ d % 2 ^ 21 = omega (arith, words) in
    ap (λ (i : ℕ). sum_64 (base + a) (signed 21 i)) bits ∙ (back_21 (base + a) d low w.near ∙ landed base a x w.origin)

pub test_goes : (base a x : ℕ) → IsNear (2 ^ 15) a x → a % 4 ≡ 0 → x % 4 ≡ 0 → sum_64 (base + a) (signed 16 (distance a x % 2 ^ 16 / 2 ^ 2 % 2 ^ 14 * 4)) ≡ (base + x) % 2 ^ 64
test_goes base a x w p q =
    let d = distance a x in
    let low : d < 2 ^ 64 = omega arith in
    let words = words_apart a x w.origin p q in
    let bits : d % 2 ^ 16 / 2 ^ 2 % 2 ^ 14 * 4 ≡ d % 2 ^ 16 = omega (arith, words) in
    ap (λ (i : ℕ). sum_64 (base + a) (signed 16 i)) bits ∙ (back_16 (base + a) d low w.near ∙ landed base a x w.origin)

-- an offset in two halves
pub halves : (x : ℕ) → x < 2 ^ 32 → x % 2 ^ 32 / 2 ^ 16 % 2 ^ 16 * 2 ^ 16 / 2 ^ 16 * 2 ^ 16 + x % 2 ^ 16 % 2 ^ 16 ≡ x
halves x h = omega arith

-- a slot behind the page of a
pub slot_ahead : (base a g : ℕ) → base % 4096 ≡ 0 → page a ≤ g → g < page a + 2 ^ 32 → g % 8 ≡ 0 → base + a < 2 ^ 64 → base + g < 2 ^ 64
    → sum_64 (sum_64 ((base + a) / 4096 * 4096) (signed 33 ((g - page a) / 4096 % 2 ^ 21 * 4096))) ((g - page a) % 4096 / 8 % 2 ^ 12 * 8) ≡ base + g
slot_ahead base a g e f n m h l =
    let start : (base + a) / 4096 * 4096 ≡ base + page a = omega arith in
    let x = (g - page a) / 4096 % 2 ^ 21 * 4096 in
    let first : sum_64 (base + page a) (signed 33 x) ≡ base + page a + x = added_33 (base + page a) x (base + page a + x) (omega arith) (λ s. omega arith) (λ s. absurd (omega arith)) in
    rw (start, first) (omega arith)
