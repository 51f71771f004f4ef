-- Lists joined end to end, item by item with their numbers, and two such lists interleaved.
use Rattle.wild_geometry.proofs.Common.{◌≡◌, ℕ, zero, suc, ◌+◌, ◌<◌, List, [], ◌∷◌, ◌++◌, length, get_or, All, AllPairs, Contains, flat_map, refl, sym, ap, arith, subst, All-nil, All-append, Contains-append_left, Contains-append_right, AllPairs-nil, AllPairs-append, All-append-left, All-append-right, flat_map_from}
use Rattle.wild_words.proofs.ListLemmas.{AllPairs-left, AllPairs-right, AllPairs-cross}

pub All-flat_map_from : {X Y : Type 0} (P : Y → Type 0) (f : ℕ → X → List Y) (i : ℕ) (xs : List X) → ((n k : ℕ) (d : X) → n ≡ i + k → k < length xs → All P (f n (get_or xs k d))) → All P (flat_map_from f i xs)
All-flat_map_from P f i [] h = All-nil P
All-flat_map_from P f i (x ∷ xs) h =
    All-append P (f i x) (flat_map_from f (i + 1) xs) (h i 0 x (omega arith) (omega arith))
    (All-flat_map_from P f (i + 1) xs (λ n k d e l. h n (suc k) d (omega arith) (omega arith)))

pub AllPairs-flat_map_from : {X Y : Type 0} (R : Y → Y → Type 0) (f : ℕ → X → List Y) (i : ℕ) (xs : List X) → ((n k : ℕ) (d : X) → n ≡ i + k → k < length xs → AllPairs R (f n (get_or xs k d)))
    → ((m n j k : ℕ) (d e : X) → m ≡ i + j → n ≡ i + k → j < k → k < length xs → All (λ a. All (R a) (f n (get_or xs k e))) (f m (get_or xs j d))) → AllPairs R (flat_map_from f i xs)
AllPairs-flat_map_from R f i [] h p = AllPairs-nil R
AllPairs-flat_map_from R f i (x ∷ xs) h p =
    AllPairs-append R (f i x) (flat_map_from f (i + 1) xs)
    (h i 0 x (omega arith) (omega arith))
    (AllPairs-flat_map_from R f (i + 1) xs (λ n k d e l. h n (suc k) d (omega arith) (omega arith)) (λ m n j k d e a b lt l. p m n (suc j) (suc k) d e (omega arith) (omega arith) (omega arith) (omega arith)))
    (λ q d l. All-flat_map_from (R (get_or (f i x) q d)) f (i + 1) xs (λ n k e a b. p i n 0 (suc k) x e (omega arith) (omega arith) (omega arith) (omega arith) q d l))

pub Contains-flat_map_from : {X Y : Type 0} (f : ℕ → X → List Y) (i : ℕ) (xs : List X) (n k : ℕ) (d : X) (y : Y) → n ≡ i + k → k < length xs → Contains (f n (get_or xs k d)) y → Contains (flat_map_from f i xs) y
Contains-flat_map_from f i [] n k d y e l c = absurd (omega arith)
Contains-flat_map_from f i (x ∷ xs) n zero d y e l c =
    let same : n ≡ i = omega arith in
    Contains-append_left (f i x) (flat_map_from f (i + 1) xs) y (rw same at c)
Contains-flat_map_from f i (x ∷ xs) n (suc k) d y e l c = Contains-append_right (f i x) (flat_map_from f (i + 1) xs) y (Contains-flat_map_from f (i + 1) xs n k d y (omega arith) (omega arith) c)

-- ---- what f and g give, item by item

abbrev pub both : {X Y : Type 0} → (ℕ → X → List Y) → (X → List Y) → ℕ → X → List Y
both f g n x = f n x ++ g x

pub All-both : {X Y : Type 0} (P : Y → Type 0) (f : ℕ → X → List Y) (g : X → List Y) (i : ℕ) (xs : List X) → All P (flat_map_from f i xs) → All P (flat_map g xs) → All P (flat_map_from (both f g) i xs)
All-both P f g i [] a b = All-nil P
All-both P f g i (x ∷ xs) a b =
    All-append P (f i x ++ g x) (flat_map_from (both f g) (i + 1) xs)
    (All-append P (f i x) (g x) (All-append-left P (f i x) (flat_map_from f (i + 1) xs) a) (All-append-left P (g x) (flat_map g xs) b))
    (All-both P f g (i + 1) xs (All-append-right P (f i x) (flat_map_from f (i + 1) xs) a) (All-append-right P (g x) (flat_map g xs) b))

pub AllPairs-both : {X Y : Type 0} (R : Y → Y → Type 0) (f : ℕ → X → List Y) (g : X → List Y) (i : ℕ) (xs : List X) → ((x y : Y) → R x y → R y x) → AllPairs R (flat_map_from f i xs) → AllPairs R (flat_map g xs) → All (λ a. All (R a) (flat_map g xs)) (flat_map_from f i xs) → AllPairs R (flat_map_from (both f g) i xs)
AllPairs-both R f g i [] sym p q c = AllPairs-nil R
AllPairs-both R f g i (x ∷ xs) sym p q c =
    let fs = flat_map_from f (i + 1) xs in
    let gs = flat_map g xs in
    let front = All-append-left (λ a. All (R a) (g x ++ gs)) (f i x) fs c in
    let behind = All-append-right (λ a. All (R a) (g x ++ gs)) (f i x) fs c in
    let later = AllPairs-both R f g (i + 1) xs sym (AllPairs-right R (f i x) fs p) (AllPairs-right R (g x) gs q) (λ k d l. All-append-right (R (get_or fs k d)) (g x) gs (behind k d l)) in
    let across = AllPairs-cross R (f i x) fs p in
    let across2 = AllPairs-cross R (g x) gs q in
    AllPairs-append R (f i x ++ g x) (flat_map_from (both f g) (i + 1) xs)
    (AllPairs-append R (f i x) (g x) (AllPairs-left R (f i x) fs p) (AllPairs-left R (g x) gs q) (λ k d l. All-append-left (R (get_or (f i x) k d)) (g x) gs (front k d l)))
    later
    (All-append (λ a. All (R a) (flat_map_from (both f g) (i + 1) xs)) (f i x) (g x)
    (λ k d l. All-both (R (get_or (f i x) k d)) f g (i + 1) xs (across k d l) (All-append-right (R (get_or (f i x) k d)) (g x) gs (front k d l)))
    (λ k d l. All-both (R (get_or (g x) k d)) f g (i + 1) xs (λ m e n. sym (get_or fs m e) (get_or (g x) k d) (All-append-left (R (get_or fs m e)) (g x) gs (behind m e n) k d l)) (across2 k d l)))

-- ---- the same without numbers

flat_map-unnumbered : {X Y : Type 0} (f : X → List Y) (i : ℕ) (xs : List X) → flat_map_from (λ n. f) i xs ≡ flat_map f xs
flat_map-unnumbered f i [] = refl
flat_map-unnumbered f i (x ∷ xs) = ap (λ ys. f x ++ ys) (flat_map-unnumbered f (i + 1) xs)

pub All-two : {X Y : Type 0} (P : Y → Type 0) (f g : X → List Y) (xs : List X) → All P (flat_map f xs) → All P (flat_map g xs) → All P (flat_map (λ x. f x ++ g x) xs)
All-two P f g xs a b = subst (All P) (flat_map-unnumbered (λ x. f x ++ g x) 0 xs) (All-both P (λ n. f) g 0 xs (subst (All P) (sym (flat_map-unnumbered f 0 xs)) a) b)

pub AllPairs-two : {X Y : Type 0} (R : Y → Y → Type 0) (f g : X → List Y) (xs : List X) → ((x y : Y) → R x y → R y x) → AllPairs R (flat_map f xs) → AllPairs R (flat_map g xs) → All (λ a. All (R a) (flat_map g xs)) (flat_map f xs) → AllPairs R (flat_map (λ x. f x ++ g x) xs)
AllPairs-two R f g xs flip p q c =
    let numbered = sym (flat_map-unnumbered f 0 xs) in
    subst (AllPairs R) (flat_map-unnumbered (λ x. f x ++ g x) 0 xs) (AllPairs-both R (λ n. f) g 0 xs flip (subst (AllPairs R) numbered p) q (subst (All (λ a. All (R a) (flat_map g xs))) numbered c))
