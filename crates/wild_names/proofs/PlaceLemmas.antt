-- Places in lists, and the first of a number in one.
use Rattle.wild_names.proofs.Common.{◌≡◌, ℕ, zero, suc, ◌+◌, ◌-◌, ◌<◌, ◌≤◌, ◌⊎◌, inl, inr, ◌==◌, Bool, true, List, [], ◌∷◌, ◌++◌, length, take, drop, refl, ap, ◌∙◌, arith, subst, Some, Contains, if◌then◌else◌, slice_get, cases_Bool, eqb-true, is_own_entry, TableSymbol}
use Rattle.std.specs.List.{filter}
use Rattle.wild_words.proofs.ListLemmas.{Contains-there}
use Rattle.wild_table_formats.specs.SectionSymbols.{place_from, number_from}

-- ---- joined lists

pub in_front : {X : Type 0} (xs ys : List X) (n : ℕ) (x : X) → slice_get xs n ≡ Some x → slice_get (xs ++ ys) n ≡ Some x
in_front [] ys n x h = cc
in_front (y ∷ xs) ys zero x h = h
in_front (y ∷ xs) ys (suc n) x h = in_front xs ys n x h

pub found_in_second_list : {X : Type 0} (xs ys : List X) (n m : ℕ) (x : X) → m ≡ length xs + n → slice_get ys n ≡ Some x → slice_get (xs ++ ys) m ≡ Some x
found_in_second_list [] ys n m x e h = (let same : n ≡ m = omega (arith, e) in subst (λ (k : ℕ). slice_get ys k ≡ Some x) same h)
found_in_second_list (y ∷ xs) ys n zero x e h = absurd (omega (arith, e))
found_in_second_list (y ∷ xs) ys n (suc m) x e h = found_in_second_list xs ys n m x (omega (arith, e)) h

pub either : {X : Type 0} (xs ys : List X) (n : ℕ) (x : X) → slice_get (xs ++ ys) n ≡ Some x → (slice_get xs n ≡ Some x) ⊎ ((length xs ≤ n) × (slice_get ys (n - length xs) ≡ Some x))
either [] ys n x h = (let same : n ≡ n - 0 = omega arith in inr (omega arith, subst (λ (k : ℕ). slice_get ys k ≡ Some x) same h))
either (y ∷ xs) ys zero x h = inl h
either {X} (y ∷ xs) ys (suc n) x h = later (either xs ys n x h)
  where
    later : (slice_get xs n ≡ Some x) ⊎ ((length xs ≤ n) × (slice_get ys (n - length xs) ≡ Some x)) → (slice_get xs n ≡ Some x) ⊎ ((length (y ∷ xs) ≤ suc n) × (slice_get ys (suc n - length (y ∷ xs)) ≡ Some x))
    later (inl a) = inl a
    later (inr b) =
        let from = b.0 in
        let same : n - length xs ≡ suc n - length (y ∷ xs) = omega (arith, from) in
        inr (omega (arith, from), subst (λ (k : ℕ). slice_get ys k ≡ Some x) same b.1)

-- ---- parts of lists

pub dropped : {X : Type 0} (a : ℕ) (xs : List X) (j : ℕ) (x : X) → slice_get (drop a xs) j ≡ Some x → slice_get xs (a + j) ≡ Some x
dropped zero xs j x h = (let same : j ≡ 0 + j = omega arith in subst (λ (k : ℕ). slice_get xs k ≡ Some x) same h)
dropped (suc a) [] j x h = cc
dropped (suc a) (y ∷ xs) j x h =
    let same : suc (a + j) ≡ suc a + j = omega arith in
    subst (λ (k : ℕ). slice_get (y ∷ xs) k ≡ Some x) same (dropped a xs j x h)

pub taken : {X : Type 0} (n : ℕ) (xs : List X) (j : ℕ) (x : X) → slice_get (take n xs) j ≡ Some x → (j < n) × (slice_get xs j ≡ Some x)
taken zero xs j x h = cc
taken (suc n) [] j x h = cc
taken (suc n) (y ∷ xs) zero x h = (omega arith, h)
taken (suc n) (y ∷ xs) (suc j) x h = (let r = taken n xs j x h in let lt = r.0 in (omega (arith, lt), r.1))

pub filtered : {X : Type 0} (p : X → Bool) (xs : List X) (n : ℕ) (x : X) → slice_get (filter p xs) n ≡ Some x → Contains xs x
filtered p [] n x h = cc
filtered {X} p (y ∷ xs) n x h =
    elim (cases_Bool (p y)) [
      | inl t ↦ here (λ m h. filtered p xs m x h) n (rw t at h)
      | inr f ↦ Contains-there x y xs (filtered p xs n x (rw f at h))
    ]
  where
    here : ((m : ℕ) → slice_get (filter p xs) m ≡ Some x → Contains xs x) → (n : ℕ) → slice_get (y ∷ filter p xs) n ≡ Some x → Contains (y ∷ xs) x
    here again zero h = (let same : y ≡ x = cc in (0, omega arith, same))
    here again (suc n) h = Contains-there x y xs (again n h)

-- ---- the first of a number

pub record IsNumberIn (m k n : ℕ) (ms : List ℕ) : Type 0 where
  pub from : k ≤ n
  pub there : slice_get ms (n - k) ≡ Some m

pub number_in : (m k n : ℕ) (ms : List ℕ) → number_from m k ms ≡ Some n → IsNumberIn m k n ms
number_in m k n [] h = cc
number_in m k n (x ∷ xs) h =
    elim (cases_Bool (x == m)) [
      | inl t ↦
          (let e : Some k ≡ Some n = rw t at h in
          let same : k ≡ n = cc in
          let is = eqb-true x m t in
          let none : 0 ≡ n - k = omega (arith, same) in
          record { from = omega (arith, same); there = subst (λ (j : ℕ). slice_get (x ∷ xs) j ≡ Some m) none (ap (λ (y : ℕ). Some y) is) })
      | inr f ↦
          (let r = number_in m (k + 1) n xs (rw f at h) in
          let from = r.from in
          let later : suc (n - (k + 1)) ≡ n - k = omega (arith, from) in
          record { from = omega (arith, from); there = subst (λ (j : ℕ). slice_get (x ∷ xs) j ≡ Some m) later r.there })
    ]

-- ---- the first entry of a symbol

pub record IsOwnAt (i k n : ℕ) (xs : List TableSymbol) : Type 0 where
  pub from : k ≤ n
  pub item : TableSymbol
  pub there : slice_get xs (n - k) ≡ Some item
  pub own : is_own_entry i item ≡ true

pub own_at : (i k n : ℕ) (xs : List TableSymbol) → place_from i k xs ≡ Some n → IsOwnAt i k n xs
own_at i k n [] h = cc
own_at i k n (x ∷ xs) h =
    elim (cases_Bool (is_own_entry i x)) [
      | inl t ↦
          (let e : Some k ≡ Some n = rw t at h in
          let same : k ≡ n = cc in
          let none : 0 ≡ n - k = omega (arith, same) in
          record { from = omega (arith, same); item = x; there = subst (λ (j : ℕ). slice_get (x ∷ xs) j ≡ Some x) none refl; own = t })
      | inr f ↦
          (let r = own_at i (k + 1) n xs (rw f at h) in
          let from = r.from in
          let later : suc (n - (k + 1)) ≡ n - k = omega (arith, from) in
          record { from = omega (arith, from); item = r.item; there = subst (λ (j : ℕ). slice_get (x ∷ xs) j ≡ Some r.item) later r.there; own = r.own })
    ]
