-- Laws of the tests and the sums over lists.
use Rattle.std.proofs.Common.{◌≡◌, ℕ, zero, suc, ◌+◌, ◌<◌, ◌≤◌, inl, inr, Bool, true, not, List, [], ◌∷◌, ◌++◌, length, take, get_or, All, None, ap, refl, arith}
use Rattle.std.specs.List.{list_all, list_any}
use Rattle.std.proofs.lemmas.Bool.{cases_Bool}
use Rattle.std.proofs.lemmas.List.{take_more}
use Rattle.std.proofs.lemmas.List.Elements.{All-nil, All-cons}
use Rattle.wild_types.specs.Lists.{first_failing, total}

pub All-from_none_fails : {X : Type 0} (t : X → Bool) (i : ℕ) (xs : List X) → first_failing t i xs ≡ None → All (λ x. t x ≡ true) xs
All-from_none_fails t i [] h = All-nil (λ x. t x ≡ true)
All-from_none_fails t i (x ∷ xs) h =
    elim (cases_Bool (t x)) [
      | inl e ↦ All-cons (λ y. t y ≡ true) x xs e (All-from_none_fails t (i + 1) xs (rw e at h))
      | inr f ↦ cc (rw f at h)
    ]

pub total-append : {X : Type 0} (f : X → ℕ) (xs ys : List X) → total f (xs ++ ys) ≡ total f xs + total f ys
total-append f [] ys = omega arith
total-append f (x ∷ xs) ys = let e = total-append f xs ys in omega (arith, e)

pub total-more : {X : Type 0} (f : X → ℕ) (xs : List X) (i : ℕ) (x : X) → i < length xs → total f (take (i + 1) xs) ≡ total f (take i xs) + f (get_or xs i x)
total-more f xs i x l =
    let e = ap (total f) (take_more xs i x l) in
    let g = total-append f (take i xs) (get_or xs i x ∷ []) in
    omega (arith, e, g)

-- a prefix and one more item are no more than all
pub total-prefix : {X : Type 0} (f : X → ℕ) (xs : List X) (i : ℕ) (x : X) → i < length xs → total f (take i xs) + f (get_or xs i x) ≤ total f xs
total-prefix f [] i x l = absurd (omega arith)
total-prefix f (y ∷ xs) zero x l = omega arith
total-prefix f (y ∷ xs) (suc i) x l = let e = total-prefix f xs i x (omega arith) in omega (arith, e)

-- no item passes a test exactly where each one fails it
pub not_any : {X : Type 0} (t : X → Bool) (xs : List X) → not (list_any t xs) ≡ list_all (λ x. not (t x)) xs
not_any t [] = refl
not_any t (x ∷ xs) =
    elim (cases_Bool (t x)) [
      | inl e ↦ rw e refl
      | inr f ↦ rw f (not_any t xs)
    ]

-- where each counts 0
pub total-none : {X : Type 0} (f : X → ℕ) (xs : List X) → ((x : X) → f x ≡ 0) → total f xs ≡ 0
total-none f [] h = refl
total-none f (x ∷ xs) h = let a = h x in let b = total-none f xs h in omega (arith, a, b)
