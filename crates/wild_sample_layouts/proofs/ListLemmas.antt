-- Laws of tests over lists made from their places.
use Rattle.std.proofs.Common.{◌≡◌, ℕ, zero, suc, ◌+◌, ◌*◌, ◌<◌, ◌≤◌, Bool, true, List, [], map, length, refl, arith}
use Rattle.std.specs.Prelude.{Some, None, slice_get}
use Rattle.std.specs.List.{list_all, range_with_len}
use Rattle.wild_types.specs.Lists.{first_failing, total}
use Rattle.wild_layout.specs.Faults.{flat_map_from}

-- f of the numbers from a on
abbrev pub made_from : {X : Type 0} → (ℕ → X) → ℕ → ℕ → List X
made_from f a m = map f (range_with_len a m)

pub none_fails : {X : Type 0} (t : X → Bool) (f : ℕ → X) (i a m : ℕ) → ((k : ℕ) → a ≤ k → k < a + m → t (f k) ≡ true) → first_failing t i (made_from f a m) ≡ None
none_fails t f i a zero h = refl
none_fails t f i a (suc m) h =
    let here : t (f a) ≡ true = h a (omega arith) (omega arith) in
    rw here (none_fails t f (i + 1) (a + 1) m (λ k low high. h k (omega arith) (omega arith)))

-- a sum of equal numbers
pub total_same : {X : Type 0} (t : X → ℕ) (f : ℕ → X) (c a m : ℕ) → ((k : ℕ) → a ≤ k → k < a + m → t (f k) ≡ c) → total t (made_from f a m) ≡ c * m
total_same t f c a zero h = omega arith
total_same t f c a (suc m) h =
    let here : t (f a) ≡ c = h a (omega arith) (omega arith) in
    let rest = total_same t f c (a + 1) m (λ k low high. h k (omega arith) (omega arith)) in
    let e : c * suc m ≡ c + c * m = omega arith in
    omega arith

-- nothing for each
pub nothing_from : {X Y : Type 0} (g : ℕ → X → List Y) (f : ℕ → X) (a m : ℕ) → ((k : ℕ) → a ≤ k → k < a + m → g k (f k) ≡ []) → flat_map_from g a (made_from f a m) ≡ []
nothing_from g f a zero h = refl
nothing_from g f a (suc m) h =
    let here : g a (f a) ≡ [] = h a (omega arith) (omega arith) in
    rw here (nothing_from g f (a + 1) m (λ k low high. h k (omega arith) (omega arith)))

-- the item at a place
pub item_at : {X : Type 0} (f : ℕ → X) (a m k j : ℕ) → k < m → j ≡ a + k → slice_get (made_from f a m) k ≡ Some (f j)
item_at f a zero k j h e = absurd (omega arith)
item_at f a (suc m) zero j h e = let z : j ≡ a = omega arith in rw z refl
item_at f a (suc m) (suc k) j h e = item_at f (a + 1) m k j (omega arith) (omega arith)

pub length_made : {X : Type 0} (f : ℕ → X) (a m : ℕ) → length (made_from f a m) ≡ m
length_made f a zero = refl
length_made f a (suc m) = let e = length_made f (a + 1) m in omega arith

pub list_all_made : {X : Type 0} (t : X → Bool) (f : ℕ → X) (a m : ℕ) → ((k : ℕ) → a ≤ k → k < a + m → t (f k) ≡ true) → list_all t (made_from f a m) ≡ true
list_all_made t f a zero h = refl
list_all_made t f a (suc m) h =
    let here : t (f a) ≡ true = h a (omega arith) (omega arith) in
    rw here (list_all_made t f (a + 1) m (λ k low high. h k (omega arith) (omega arith)))
