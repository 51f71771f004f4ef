-- Laws of blocks of slots.
use Rattle.std.proofs.Common.{◌≡◌, ◌≢◌, ℕ, zero, suc, ◌+◌, ◌-◌, ◌*◌, ◌/◌, ◌%◌, ◌^◌, ◌<◌, ◌≤◌, inl, inr, false, List, [], ◌∷◌, ◌++◌, refl, sym, ap, ◌∙◌, arith, length}
use Rattle.std.specs.Prelude.{◌==◌, min}
use Rattle.std.proofs.lemmas.List.{append-nil}
use Rattle.std.proofs.lemmas.Bool.{cases_Bool, cases_lt, ne_eqb}
use Rattle.std.proofs.lemmas.Nat.{pow_pos}
use Rattle.std.proofs.Math.Nat.{pow-suc}
use Rattle.wild_relr.specs.Places.{window, places_of, places_from, places, next_of}
use Rattle.wild_relr.specs.RunWords.{bitmaps, bitmap_count, block, slots}
use Rattle.wild_relr.proofs.PlaceLemmas.{window-odd, places-append, places_of-even, places_of-odd, next_after-even, next_after-odd, window-none}

-- ---- a block

pub slots-append : (next a b : ℕ) → slots next (a + b) ≡ slots next a ++ slots (next + 8 * a) b
unfolding slots
slots-append next zero b = let e : next + 8 * 0 ≡ next = omega arith in let z : 0 + b ≡ b = omega arith in rw (e, z) refl
slots-append next (suc a) b =
    let e : suc a + b ≡ suc (a + b) = omega arith in
    let f : next + 8 * suc a ≡ next + 8 + 8 * a = omega arith in
    rw (e, f) (ap (λ (r : List ℕ). next ∷ r) (slots-append (next + 8) a b))

pub window-slots : (k m next : ℕ) → m ≤ k → window k next (2 ^ m - 1) ≡ slots next m
unfolding slots
window-slots k zero next l = window-none k next
window-slots zero (suc m) next l = absurd (omega arith)
window-slots (suc k) (suc m) next l =
    let p = pow-suc 2 m in
    let one = pow_pos m in
    let odd : (2 ^ suc m - 1) % 2 ≡ 1 = omega (arith, p, one) in
    let half : (2 ^ suc m - 1) / 2 ≡ 2 ^ m - 1 = omega (arith, p, one) in
    rw (window-odd k next (2 ^ suc m - 1) odd, half) (ap (λ (r : List ℕ). next ∷ r) (window-slots k m (next + 8) (omega arith)))

full-odd : (m : ℕ) → (2 * 2 ^ m - 1) % 2 ≡ 1
full-odd m = let one = pow_pos m in omega (arith, one)

places_of-full : (next m : ℕ) → m ≤ 63 → places_of next (2 * 2 ^ m - 1) ≡ slots next m
places_of-full next m l =
    let one = pow_pos m in
    let half : (2 * 2 ^ m - 1) / 2 ≡ 2 ^ m - 1 = omega (arith, one) in
    places_of-odd next (2 * 2 ^ m - 1) (full-odd m) ∙ rw half (window-slots 63 m next l)

slots-none : (next k : ℕ) → slots next k ++ slots (next + 504) 0 ≡ slots next k
unfolding slots
slots-none next k = append-nil (slots next k)

slots_split : (next k : ℕ) → slots next (min k 63) ++ slots (next + 504) (k - 63) ≡ slots next k
slots_split next k =
    elim (cases_lt k 63) [
      | inl low ↦
          (let a : min k 63 ≡ k = omega arith in
          let b : k - 63 ≡ 0 = omega arith in
          rw (a, b) (slots-none next k))
      | inr high ↦
          (let a : min k 63 ≡ 63 = omega arith in
          let b : 63 + (k - 63) ≡ k = omega arith in
          let e = slots-append next 63 (k - 63) in
          rw a (sym (rw b at e)))
    ]

pub places-bitmaps : (c k next : ℕ) → k ≤ 63 * c → places_from next (bitmaps c k) ≡ slots next k
unfolding bitmaps places_from slots
places-bitmaps zero k next l = let z : k ≡ 0 = omega arith in rw z refl
places-bitmaps (suc c) k next l =
    let m : min k 63 ≤ 63 = omega arith in
    let here = places_of-full next (min k 63) m in
    let on = next_after-odd next (2 * 2 ^ min k 63 - 1) (full-odd (min k 63)) in
    let rest = places-bitmaps c (k - 63) (next + 504) (omega arith) in
    rw (here, on, rest) (slots_split next k)

block_some : (base n : ℕ) → base ≢ 0 → block base (suc n) ≡ base ∷ bitmaps (bitmap_count n) n
unfolding block
block_some base n z =
    let f : (base == 0) ≡ false = ne_eqb base 0 z in
    let g : (suc n == 0) ≡ false = ne_eqb (suc n) 0 (λ e. absurd (omega arith)) in
    let e : suc n - 1 ≡ n = omega arith in
    rw (f, g, e) refl

pub block-no_slots : (base : ℕ) → block base 0 ≡ []
unfolding block
block-no_slots base = elim (cases_Bool (base == 0)) [ inl t ↦ rw t refl | inr f ↦ rw f refl ]

pub block-no_base : (n : ℕ) → block 0 n ≡ []
unfolding block
block-no_base n = refl

places-some : (ws : List ℕ) (base n : ℕ) → base % 2 ≡ 0 → places (ws ++ base ∷ bitmaps (bitmap_count n) n) ≡ places ws ++ slots base (suc n)
unfolding slots places_from
places-some ws base n h =
    let rest = places-bitmaps (bitmap_count n) n (base + 8) (omega arith) in
    let all : places_from (next_of ws) (base ∷ bitmaps (bitmap_count n) n) ≡ base ∷ slots (base + 8) n = rw (places_of-even (next_of ws) base h, next_after-even (next_of ws) base h, rest) refl in
    places-append 0 ws (base ∷ bitmaps (bitmap_count n) n) ∙ ap (λ (r : List ℕ). places ws ++ r) all

pub places-block : (ws : List ℕ) (base n : ℕ) → base % 2 ≡ 0 → base ≢ 0 → places (ws ++ block base n) ≡ places ws ++ slots base n
unfolding slots
places-block ws base zero h z = rw (block-no_slots base) (let e = append-nil ws in let f = append-nil (places ws) in rw (e, f) refl)
places-block ws base (suc n) h z = rw (block_some base n z) (places-some ws base n h)

pub block_is : (base n : ℕ) → 0 < base → 0 < n → block base n ≡ base ∷ bitmaps (bitmap_count (n - 1)) (n - 1)
block_is base zero z h = absurd (omega arith)
block_is base (suc n) z h = let e : suc n - 1 ≡ n = omega arith in rw e (block_some base n (λ q. absurd (omega arith)))

length-bitmaps : (c k : ℕ) → length (bitmaps c k) ≡ c
unfolding bitmaps
length-bitmaps zero k = refl
length-bitmaps (suc c) k = ap suc (length-bitmaps c (k - 63))

pub length-block : (base n : ℕ) → 0 < base → 0 < n → length (block base n) ≡ 1 + bitmap_count (n - 1)
length-block base n z h =
    rw (block_is base n z h) (let e = length-bitmaps (bitmap_count (n - 1)) (n - 1) in omega arith)
