-- The modules of a world, and the distance of each.
use Rattle.wild_bound.proofs.Common.{◌≡◌, ℕ, ℤ, zero, suc, ◌+◌, ◌<◌, ◌≤◌, List, [], ◌∷◌, length, get_or, refl, ap, arith, subst, inl, inr, Bool, true, false, All, eq-eqb, pos, ◌==◌, cases_Bool, ne_eqb, NamedImage}
use Rattle.std.specs.List.{filter}
use Rattle.std.proofs.lemmas.List.Elements.{All-head, All-tail}
use Rattle.wild_space.specs.Binds.{distance_of, modules_from, modules_of}

no_pair : (xs : List NamedImage) (n : ℕ) (js : List ℕ) (key : ℕ) → key ≤ n → filter (λ (p : ℕ × ℤ). p.0 == key) (modules_from xs n js) ≡ []
unfolding modules_from
no_pair xs n [] key h = refl
no_pair xs n (j ∷ js) key h =
    let other : (n + 1 == key) ≡ false = ne_eqb (n + 1) key (λ e. omega (arith, e, h)) in
    rw other (no_pair xs (n + 1) js key (omega (arith, h)))

one_pair : (xs : List NamedImage) (n : ℕ) (js : List ℕ) (q key : ℕ) → q < length js → key ≡ n + q + 1 → filter (λ (p : ℕ × ℤ). p.0 == key) (modules_from xs n js) ≡ (key, distance_of xs (get_or js q 0)) ∷ []
unfolding modules_from
one_pair xs n [] q key lt is = absurd (omega (arith, lt))
one_pair xs n (j ∷ js) zero key lt is =
    let e : n + 1 ≡ key = omega (arith, is) in
    let same : (n + 1 == key) ≡ true = eq-eqb (n + 1) key e in
    rw (same, no_pair xs (n + 1) js key (omega (arith, is))) (ap (λ (k : ℕ). (k, distance_of xs j) ∷ []) e)
one_pair xs n (j ∷ js) (suc q) key lt is =
    let other : (n + 1 == key) ≡ false = ne_eqb (n + 1) key (λ e. omega (arith, e, is)) in
    rw other (one_pair xs (n + 1) js q key (omega (arith, lt)) (omega (arith, is)))

-- there is one pair for the module of the image at each place
pub pair_of : (xs : List NamedImage) (order : List ℕ) (q : ℕ) → q < length order → filter (λ (p : ℕ × ℤ). p.0 == q + 1) (modules_of xs order) ≡ (q + 1, distance_of xs (get_or order q 0)) ∷ []
pair_of xs order q lt =
    let other : (0 == q + 1) ≡ false = ne_eqb 0 (q + 1) (λ e. omega (arith, e)) in
    rw other (one_pair xs 0 order q (q + 1) lt (omega arith))

-- and one for module 0
pub pair_none : (xs : List NamedImage) (order : List ℕ) → filter (λ (p : ℕ × ℤ). p.0 == 0) (modules_of xs order) ≡ (0, pos 0) ∷ []
pair_none xs order = ap (λ (t : List (ℕ × ℤ)). (0, pos 0) ∷ t) (no_pair xs 0 order 0 (omega arith))

-- what holds of each pair holds of the only pair that a test keeps
pub kept_pair : {X : Type 0} (P : X → Type 0) (test : X → Bool) (xs : List X) (x : X) → filter test xs ≡ x ∷ [] → All P xs → P x
kept_pair P test [] x h all = cc
kept_pair P test (y ∷ ys) x h all =
    elim (cases_Bool (test y)) [
      | inl t ↦ (let e : y ∷ filter test ys ≡ x ∷ [] = rw t at h in let same : y ≡ x = cc in subst P same (All-head P y ys all))
      | inr f ↦ (let e : filter test ys ≡ x ∷ [] = rw f at h in kept_pair P test ys x e (All-tail P y ys all))
    ]
