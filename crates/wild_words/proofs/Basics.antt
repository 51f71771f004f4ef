-- Tests, lists under a condition, the item at a place of a list, and members of lists: what proofs of all crates use.
use Rattle.std.proofs.Common.{◌≡◌, Bool, true, false, ◌||◌, refl, ℕ, List, [], length, ◌&&◌, suc, ◌/◌, ◌%◌, ◌^◌, sym, ap, ◌∙◌, zero, ◌<◌, ◌∷◌, arith, ◌≤◌, ◌+◌, ◌-◌, slice_range, get_or, subst, inl, inr, map, ◌*◌, ◌++◌, append_assoc}
use Rattle.std.specs.Prelude.{not, if◌then◌else◌, Some, slice_get, Contains, slice_index, All, IsPermutation}
use Rattle.std.proofs.Math.Nat.{pow-succ', div-div-eq-div-mul}
use Rattle.std.proofs.lemmas.Option.{slice_get_within, get_or_from_slice_get}
use Rattle.std.proofs.lemmas.List.{length-take, length-drop, get_or-take, get_or-drop, get_or_default, length-append, map-append}
use Rattle.std.specs.List.{range_with_len, list_all, flat_map}
use Rattle.std.proofs.lemmas.List.FromFn.{get_or-range_with_len, length-range_with_len}
use Rattle.std.proofs.lemmas.List.Elements.{Contains-append_cases, All-nil, All-cons}
use Rattle.std.proofs.lemmas.List.Sorted.{IsPermutation-append_left, IsPermutation-append_right, IsPermutation-append_comm}
use Rattle.wild_words.proofs.ListLemmas.{All-from_list_all, nil_parts}

-- ---- tests

-- a test and its negation
pub not_both : (b : Bool) → not b ≡ true → b ≡ true → ⊥
not_both true h k = cc
not_both false h k = cc

-- where the first implies the second
pub implied : (b c : Bool) → (not b || c) ≡ true → b ≡ true → c ≡ true
implied true c h e = h
implied false c h e = cc

-- of two of which one holds, where one fails the other holds
pub or_other : (b c : Bool) → (b || c) ≡ true → b ≡ false → c ≡ true
or_other true c h e = cc
or_other false c h e = h

pub or_first : (b c : Bool) → (b || c) ≡ true → c ≡ false → b ≡ true
or_first true c h e = refl
or_first false true h e = cc
or_first false false h e = cc

-- another test in place of the second
pub or_by : (a b c : Bool) → (a || b) ≡ true → (b ≡ true → c ≡ true) → (a || c) ≡ true
or_by true b c h f = refl
or_by false b c h f = f h

-- what holds of both holds of what a test gives
pub of_if : {X : Type 0} (P : X → Type 0) (b : Bool) (x y : X) → (b ≡ true → P x) → (b ≡ false → P y) → P (if b then x else y)
of_if P true x y h k = h refl
of_if P false x y h k = k refl

-- ---- lists under a condition

-- a list, or none
pub length-if : {X : Type 0} (b : Bool) (xs : List X) (n : ℕ) → length xs ≡ n → length (if b then xs else []) ≡ (if b then n else 0)
length-if true xs n h = h
length-if false xs n h = refl

-- where two tests hold
pub length-if_both : (needs last : Bool) (bytes : List ℕ) (n : ℕ) → length bytes ≡ n → length (if needs && last then bytes else []) ≡ (if needs then (if last then n else 0) else 0)
length-if_both true true bytes n h = h
length-if_both true false bytes n h = refl
length-if_both false last bytes n h = refl

-- no bytes either way
abbrev pub no_bytes : List ℕ
no_bytes = []

pub nil_if : (b : Bool) → (if b then no_bytes else no_bytes) ≡ []
nil_if true = refl
nil_if false = refl

-- ---- numbers

-- bit i + 1 is bit i of the half
pub half-bit : (bits i : ℕ) → bits / 2 ^ suc i % 2 ≡ bits / 2 / 2 ^ i % 2
half-bit bits i = ap (λ (x : ℕ). x % 2) (ap (λ (p : ℕ). bits / p) (pow-succ' 2 i) ∙ sym (div-div-eq-div-mul bits 2 (2 ^ i)))

-- ---- the item at a place

-- each place of a list has an item
pub slice_get_inside : {X : Type 0} (xs : List X) (i : ℕ) → i < length xs → (x : X) × (slice_get xs i ≡ Some x)
slice_get_inside [] i h = absurd (omega arith)
slice_get_inside (x ∷ xs) zero h = (x, refl)
slice_get_inside (x ∷ xs) (suc i) h = slice_get_inside xs i (omega arith)

-- which is a member
pub listed_at : {X : Type 0} (xs : List X) (i : ℕ) (x : X) → slice_get xs i ≡ Some x → Contains xs x
listed_at xs i x e = (i, slice_get_within xs i x e, get_or_from_slice_get xs i x x e)

-- a list with a place is not empty
pub not_empty : {X : Type 0} (xs : List X) (i : ℕ) → i < length xs → 1 ≤ length xs
not_empty xs i h = omega (arith, h)

-- n bytes from a place on
pub length-range : (bs : List ℕ) (a n : ℕ) → a + n ≤ length bs → length (slice_range bs a (a + n)) ≡ n
length-range bs a n h =
    let e : a + n - a ≡ n = omega arith in
    rw e (simp (length-take, length-drop) (omega arith))

-- and one of them
pub range_byte : (bs : List ℕ) (a n k : ℕ) → k < n → get_or (slice_range bs a (a + n)) k 0 ≡ slice_index bs (a + k)
range_byte bs a n k h =
    let e : a + n - a ≡ n = omega arith in
    rw e (get_or-take n _ k 0 h ∙ get_or-drop a bs k 0)

-- ---- members

-- each smaller number
pub range-Contains : (n i : ℕ) → i < n → Contains (range_with_len 0 n) i
range-Contains n i h = let e = length-range_with_len 0 n in let g = get_or-range_with_len 0 n i i h in (i, omega (arith, e, h), omega (arith, g))

-- what holds of each member holds of all
pub All-each : {X : Type 0} (P : X → Type 0) (xs : List X) → ((x : X) → Contains xs x → P x) → All P xs
All-each P xs h = λ k d m. h (get_or xs k d) (k, m, get_or_default xs k (get_or xs k d) d m)

-- where all pass a test, each member does
pub listed_passes : {X : Type 0} (t : X → Bool) (xs : List X) (x : X) → list_all t xs ≡ true → Contains xs x → t x ≡ true
listed_passes {X} t xs x h c =
    let P : X → Type 0 = λ y. t y ≡ true in
    subst P c.2 (All-from_list_all t xs h c.0 x c.1)

-- a member of joined lists is one of a list
pub Contains-from_flat_map : {X Y : Type 0} (f : X → List Y) (xs : List X) (y : Y) → Contains (flat_map f xs) y → (x : X) × Contains xs x × Contains (f x) y
Contains-from_flat_map f [] y c = absurd (omega (arith, c.1))
Contains-from_flat_map {X} f (x ∷ xs) y c =
    elim (Contains-append_cases (f x) (flat_map f xs) y c) [
      | inl here ↦ (x, (0, omega arith, refl), here)
      | inr there ↦ later x xs (Contains-from_flat_map f xs y there)
    ]
  where
    later : (x : X) (xs : List X) → (z : X) × Contains xs z × Contains (f z) y → (z : X) × Contains (x ∷ xs) z × Contains (f z) y
    later x xs h = (h.0, (suc h.1.0, omega (arith, h.1.1), h.1.2), h.2)

-- what is made of a member is one of what is made of all
pub Contains-map : {X Y : Type 0} (f : X → Y) (xs : List X) (x : X) → Contains xs x → Contains (map f xs) (f x)
Contains-map f [] x c = absurd (omega (arith, c.1))
Contains-map f (z ∷ zs) x c = cases f z zs x c.0 c.1 c.2 (λ c'. Contains-map f zs x c')
  where
    cases : {X Y : Type 0} (f : X → Y) (z : X) (zs : List X) (x : X) (k : ℕ) → k < length (z ∷ zs) → get_or (z ∷ zs) k x ≡ x → (Contains zs x → Contains (map f zs) (f x)) → Contains (f z ∷ map f zs) (f x)
    cases f z zs x zero l e again = (0, omega arith, ap f e)
    cases f z zs x (suc k) l e again = let c = again (k, omega arith, e) in (suc c.0, omega (arith, c.1), c.2)

-- ---- lists joined end to end

-- where each gives none
pub flat_map-none : {X Y : Type 0} (f : X → List Y) (xs : List X) → ((x : X) → f x ≡ []) → flat_map f xs ≡ []
flat_map-none f [] h = refl
flat_map-none f (x ∷ xs) h = let a = h x in let b = flat_map-none f xs h in rw (a, b) refl

-- where each gives n bytes
pub length-flat_map_each : {X : Type 0} (f : X → List ℕ) (n : ℕ) → ((x : X) → length (f x) ≡ n) → (xs : List X) → length (flat_map f xs) ≡ n * length xs
length-flat_map_each f n h [] = omega arith
length-flat_map_each f n h (x ∷ xs) =
    let e = length-append (f x) (flat_map f xs) in
    let here = h x in
    let rest = length-flat_map_each f n h xs in
    omega (arith, e, here, rest)

pub map-flat_map : {X Y Z : Type 0} (f : Y → Z) (g : X → List Y) (xs : List X) → map f (flat_map g xs) ≡ flat_map (λ x. map f (g x)) xs
map-flat_map f g [] = refl
map-flat_map f g (x ∷ xs) = map-append f (g x) (flat_map g xs) ∙ ap (λ ys. map f (g x) ++ ys) (map-flat_map f g xs)

-- where nothing is given, each gives none
pub All-from_nothing : {X Y : Type 0} (P : X → Type 0) (f : X → List Y) (xs : List X) → ((x : X) → f x ≡ [] → P x) → flat_map f xs ≡ [] → All P xs
All-from_nothing P f [] each h = All-nil P
All-from_nothing P f (x ∷ xs) each h =
    let none = nil_parts (f x) (flat_map f xs) h in
    All-cons P x xs (each x none.0) (All-from_nothing P f xs each none.1)

-- the middle two of four lists change places
pub middle_exchanged : {X : Type 0} (a b c d : List X) → IsPermutation ((a ++ b) ++ (c ++ d)) ((a ++ c) ++ (b ++ d))
middle_exchanged a b c d =
    let middle = IsPermutation-append_right a (b ++ (c ++ d)) (c ++ (b ++ d)) (inner a b c d) in
    let from : (a ++ b) ++ (c ++ d) ≡ a ++ (b ++ (c ++ d)) = append_assoc a b (c ++ d) in
    let to : a ++ (c ++ (b ++ d)) ≡ (a ++ c) ++ (b ++ d) = sym (append_assoc a c (b ++ d)) in
    subst (λ xs. IsPermutation xs ((a ++ c) ++ (b ++ d))) (sym from) (subst (λ xs. IsPermutation (a ++ (b ++ (c ++ d))) xs) to middle)
  where
    inner : {X : Type 0} (a b c d : List X) → IsPermutation (b ++ (c ++ d)) (c ++ (b ++ d))
    inner a b c d = subst (λ xs. IsPermutation xs (c ++ (b ++ d))) (append_assoc b c d) (subst (λ xs. IsPermutation ((b ++ c) ++ d) xs) (append_assoc c b d) (IsPermutation-append_left d (b ++ c) (c ++ b) (IsPermutation-append_comm b c)))
