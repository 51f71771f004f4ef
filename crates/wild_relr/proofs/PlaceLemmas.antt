-- Laws of decoded places.
use Rattle.std.proofs.Common.{◌≡◌, ℕ, zero, suc, ◌+◌, ◌*◌, ◌/◌, ◌%◌, ◌^◌, ◌<◌, ◌≤◌, ◌⊎◌, inl, inr, List, [], ◌∷◌, ◌++◌, refl, sym, ap, ◌∙◌, arith, add-zero}
use Rattle.std.specs.Prelude.{IsPermutation, All, Contains}
use Rattle.std.proofs.lemmas.List.Sorted.{IsPermutation-refl, IsPermutation-sym, IsPermutation-trans, IsPermutation-append_right, IsPermutation-middle}
use Rattle.std.proofs.lemmas.List.Elements.{All-nil, All-cons, All-head, All-tail, All-append}
use Rattle.std.proofs.lemmas.List.{append_assoc, append-nil}
use Rattle.std.proofs.lemmas.Bool.{cases_lt}
use Rattle.std.proofs.Math.Nat.{div-one, pow-suc}
use Rattle.wild_words.proofs.Basics.{half-bit}
use Rattle.wild_words.proofs.ListLemmas.{Contains-there}
use Rattle.wild_relr.specs.Places.{window, places_of, next_after, places_from, next_from}

pub window-even : (k next w : ℕ) → w % 2 ≡ 0 → window (suc k) next w ≡ window k (next + 8) (w / 2)
unfolding window
window-even k next w h = rw h refl

pub window-odd : (k next w : ℕ) → w % 2 ≡ 1 → window (suc k) next w ≡ next ∷ window k (next + 8) (w / 2)
unfolding window
window-odd k next w h = rw h refl

pub parity : (w : ℕ) → (w % 2 ≡ 0) ⊎ (w % 2 ≡ 1)
parity w = elim (cases_lt (w % 2) 1) [ inl l ↦ inl (omega arith) | inr g ↦ inr (omega arith) ]

pub window-none : (k next : ℕ) → window k next 0 ≡ []
unfolding window
window-none zero next = refl
window-none (suc k) next = window-even k next 0 refl ∙ window-none k (next + 8)

half_sum : (w i : ℕ) → (w + 2 ^ suc i) / 2 ≡ w / 2 + 2 ^ i
half_sum w i = let p = pow-suc 2 i in omega (arith, p)

same_parity : (w i : ℕ) → (w + 2 ^ suc i) % 2 ≡ w % 2
same_parity w i = let p = pow-suc 2 i in omega (arith, p)

further : (next i : ℕ) → next + 8 + 8 * i ≡ next + 8 * suc i
further next i = omega arith

-- one bit more is one place more
pub window-adds : (k i next w : ℕ) → i < k → w / 2 ^ i % 2 ≡ 0 → IsPermutation ((next + 8 * i) ∷ window k next w) (window k next (w + 2 ^ i))
window-adds zero i next w l h = absurd (omega arith)
window-adds (suc k) zero next w l h =
    let even : w % 2 ≡ 0 = omega (arith, div-one w, h) in
    let half : (w + 1) / 2 ≡ w / 2 = omega arith in
    let odd : (w + 1) % 2 ≡ 1 = omega arith in
    rw (window-even k next w even, window-odd k next (w + 1) odd, half, add-zero) (IsPermutation-refl _)
window-adds (suc k) (suc i) next w l h =
    let inner : w / 2 / 2 ^ i % 2 ≡ 0 = sym (half-bit w i) ∙ h in
    let again = rw (further next i) at (window-adds k i (next + 8) (w / 2) (omega arith) inner) in
    elim (parity w) [
      | inl even ↦
          (let same : (w + 2 ^ suc i) % 2 ≡ 0 = same_parity w i ∙ even in
          rw (window-even k next w even, window-even k next (w + 2 ^ suc i) same, half_sum w i) again)
      | inr odd ↦
          (let same : (w + 2 ^ suc i) % 2 ≡ 1 = same_parity w i ∙ odd in
          rw (window-odd k next w odd, window-odd k next (w + 2 ^ suc i) same, half_sum w i)
          (IsPermutation-trans _ _ _ (IsPermutation-sym _ _ (IsPermutation-middle (next ∷ []) (next + 8 * suc i) (window k (next + 8) (w / 2)))) (IsPermutation-append_right (next ∷ []) ((next + 8 * suc i) ∷ window k (next + 8) (w / 2)) (window k (next + 8) (w / 2 + 2 ^ i)) again)))
    ]

-- a bit that is set is a place
pub window-holds : (k i next w : ℕ) → i < k → w / 2 ^ i % 2 ≡ 1 → Contains (window k next w) (next + 8 * i)
window-holds zero i next w l h = absurd (omega arith)
window-holds (suc k) zero next w l h =
    let odd : w % 2 ≡ 1 = omega (arith, div-one w, h) in
    rw (window-odd k next w odd, add-zero) (0, (omega arith), refl)
window-holds (suc k) (suc i) next w l h =
    let inner : w / 2 / 2 ^ i % 2 ≡ 1 = sym (half-bit w i) ∙ h in
    let again = rw (further next i) at (window-holds k i (next + 8) (w / 2) (omega arith) inner) in
    elim (parity w) [
      | inl even ↦ rw (window-even k next w even) again
      | inr odd ↦ rw (window-odd k next w odd) (Contains-there _ next _ again)
    ]

-- no place lies below the window
pub window-from : (k next w b : ℕ) → b ≤ next → All (λ q. q < b) (window k next w) → window k next w ≡ []
unfolding window
window-from zero next w b h a = refl
window-from (suc k) next w b h a =
    elim (parity w) [
      | inl even ↦
          (let e = window-even k next w even in
          e ∙ window-from k (next + 8) (w / 2) b (omega arith) (rw e at a))
      | inr odd ↦
          (let e = window-odd k next w odd in
          let low : next < b = All-head (λ q. q < b) next (window k (next + 8) (w / 2)) (rw e at a) in
          absurd (omega arith))
    ]

-- a place behind all others is decoded last
pub window-last : (k i next w : ℕ) → i < k → All (λ q. q < next + 8 * i) (window k next w) → window k next (w + 2 ^ i) ≡ window k next w ++ (next + 8 * i) ∷ []
window-last zero i next w l a = absurd (omega arith)
window-last (suc k) zero next w l a =
    let none = window-from (suc k) next w (next + 8 * 0) (omega arith) a in
    elim (parity w) [
      | inl even ↦
          (let half : (w + 1) / 2 ≡ w / 2 = omega arith in
          let odd : (w + 1) % 2 ≡ 1 = omega arith in
          let rest : window k (next + 8) (w / 2) ≡ [] = sym (window-even k next w even) ∙ none in
          rw (none, window-odd k next (w + 1) odd, half, rest, add-zero) refl)
      | inr odd ↦ (let e : next ∷ window k (next + 8) (w / 2) ≡ [] = sym (window-odd k next w odd) ∙ none in cc)
    ]
window-last (suc k) (suc i) next w l a =
    elim (parity w) [
      | inl even ↦
          (let same : (w + 2 ^ suc i) % 2 ≡ 0 = same_parity w i ∙ even in
          let e = window-even k next w even in
          let below : All (λ q. q < next + 8 + 8 * i) (window k (next + 8) (w / 2)) = rw (further next i) (rw e at a) in
          rw (e, window-even k next (w + 2 ^ suc i) same, half_sum w i) (rw (further next i) at (window-last k i (next + 8) (w / 2) (omega arith) below)))
      | inr odd ↦
          (let same : (w + 2 ^ suc i) % 2 ≡ 1 = same_parity w i ∙ odd in
          let e = window-odd k next w odd in
          let tail = All-tail (λ q. q < next + 8 * suc i) next (window k (next + 8) (w / 2)) (rw e at a) in
          let below : All (λ q. q < next + 8 + 8 * i) (window k (next + 8) (w / 2)) = rw (further next i) tail in
          let again = rw (further next i) at (window-last k i (next + 8) (w / 2) (omega arith) below) in
          rw (e, window-odd k next (w + 2 ^ suc i) same, half_sum w i) (ap (λ (r : List ℕ). next ∷ r) again))
    ]

-- one bit alone
pub window-one : (k i next : ℕ) → i < k → window k next (2 ^ i) ≡ (next + 8 * i) ∷ []
window-one k i next l =
    let none = window-none k next in
    let a : All (λ q. q < next + 8 * i) (window k next 0) = rw none (All-nil (λ q. q < next + 8 * i)) in
    let z : 0 + 2 ^ i ≡ 2 ^ i = omega arith in
    let e = window-last k i next 0 l a in
    rw (z, none) at e

pub window-all_even : (k next w : ℕ) → next % 2 ≡ 0 → All (λ p. p % 2 ≡ 0) (window k next w)
unfolding window
window-all_even zero next w h = All-nil _
window-all_even (suc k) next w h =
    let rest = window-all_even k (next + 8) (w / 2) (omega arith) in
    elim (parity w) [
      | inl even ↦ rw (window-even k next w even) rest
      | inr odd ↦ rw (window-odd k next w odd) (All-cons (λ p. p % 2 ≡ 0) next _ h rest)
    ]

pub places_of-even : (next w : ℕ) → w % 2 ≡ 0 → places_of next w ≡ w ∷ []
unfolding places_of
places_of-even next w h = rw h refl

pub places_of-odd : (next w : ℕ) → w % 2 ≡ 1 → places_of next w ≡ window 63 next (w / 2)
unfolding places_of
places_of-odd next w h = rw h refl

pub next_after-even : (next w : ℕ) → w % 2 ≡ 0 → next_after next w ≡ w + 8
unfolding next_after
next_after-even next w h = rw h refl

pub next_after-odd : (next w : ℕ) → w % 2 ≡ 1 → next_after next w ≡ next + 504
unfolding next_after
next_after-odd next w h = rw h refl

pub places-append : (next : ℕ) (xs ys : List ℕ) → places_from next (xs ++ ys) ≡ places_from next xs ++ places_from (next_from next xs) ys
unfolding places_from next_from
places-append next [] ys = refl
places-append next (x ∷ xs) ys = ap (λ (r : List ℕ). places_of next x ++ r) (places-append (next_after next x) xs ys) ∙ sym (append_assoc (places_of next x) (places_from (next_after next x) xs) _)

pub places-push : (next : ℕ) (xs : List ℕ) (w : ℕ) → places_from next (xs ++ w ∷ []) ≡ places_from next xs ++ places_of (next_from next xs) w
unfolding places_from
places-push next xs w = places-append next xs (w ∷ []) ∙ ap (λ (r : List ℕ). places_from next xs ++ r) (append-nil _)

pub next-append : (next : ℕ) (xs ys : List ℕ) → next_from next (xs ++ ys) ≡ next_from (next_from next xs) ys
unfolding next_from
next-append next [] ys = refl
next-append next (x ∷ xs) ys = next-append (next_after next x) xs ys

pub next-push : (next : ℕ) (xs : List ℕ) (w : ℕ) → next_from next (xs ++ w ∷ []) ≡ next_after (next_from next xs) w
unfolding next_from
next-push next xs w = next-append next xs (w ∷ [])

pub places-all_even : (next : ℕ) (ws : List ℕ) → next % 2 ≡ 0 → All (λ p. p % 2 ≡ 0) (places_from next ws)
unfolding places_from
places-all_even next [] h = All-nil _
places-all_even next (w ∷ ws) h =
    elim (parity w) [
      | inl even ↦
          (let here : All (λ p. p % 2 ≡ 0) (places_of next w) = rw (places_of-even next w even) (All-cons (λ p. p % 2 ≡ 0) w [] even (All-nil _)) in
          let again : next_after next w % 2 ≡ 0 = rw (next_after-even next w even) (omega arith) in
          All-append (λ p. p % 2 ≡ 0) _ _ here (places-all_even (next_after next w) ws again))
      | inr odd ↦
          (let here : All (λ p. p % 2 ≡ 0) (places_of next w) = rw (places_of-odd next w odd) (window-all_even 63 next (w / 2) h) in
          let again : next_after next w % 2 ≡ 0 = rw (next_after-odd next w odd) (omega arith) in
          All-append (λ p. p % 2 ≡ 0) _ _ here (places-all_even (next_after next w) ws again))
    ]
