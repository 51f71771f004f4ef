-- Lists of which each two items are related, joined end to end.
use Rattle.wild_loaded.proofs.Common.{◌≡◌, ℕ, ◌+◌, ◌⊎◌, inl, inr, List, [], ◌∷◌, ◌++◌, get_or, map, sym, subst, All, AllPairs, flat_map, All-nil, All-cons, All-head, All-tail, All-append, AllPairs-nil, All-append-left, All-append-right, AllPairs-append, flat_map_from}
use Rattle.wild_words.proofs.ListLemmas.{AllPairs-left, AllPairs-right, AllPairs-cross}

-- ---- lists of lists

-- behind what else stands between them
pub All-after : {X Y : Type 0} (P : Y → Type 0) (t : ℕ → X → List Y) (g : X → List Y) (i : ℕ) (xs : List X) → All P (flat_map_from (λ n x. t n x ++ g x) i xs) → All P (flat_map g xs)
All-after P t g i [] a = All-nil P
All-after P t g i (x ∷ xs) a =
    All-append P (g x) (flat_map g xs)
    (All-append-right P (t i x) (g x) (All-append-left P (t i x ++ g x) (flat_map_from (λ n x. t n x ++ g x) (i + 1) xs) a))
    (All-after P t g (i + 1) xs (All-append-right P (t i x ++ g x) (flat_map_from (λ n x. t n x ++ g x) (i + 1) xs) a))

pub AllPairs-after : {X Y : Type 0} (R : Y → Y → Type 0) (t : ℕ → X → List Y) (g : X → List Y) (i : ℕ) (xs : List X) → AllPairs R (flat_map_from (λ n x. t n x ++ g x) i xs) → AllPairs R (flat_map g xs)
AllPairs-after R t g i [] p = AllPairs-nil R
AllPairs-after {X} {Y} R t g i (x ∷ xs) p =
    let rest : List Y = flat_map_from (λ n x. t n x ++ g x) (i + 1) xs in
    AllPairs-append R (g x) (flat_map g xs)
    (AllPairs-right R (t i x) (g x) (AllPairs-left R (t i x ++ g x) rest p))
    (AllPairs-after R t g (i + 1) xs (AllPairs-right R (t i x ++ g x) rest p))
    (λ k d l. All-after (R (get_or (g x) k d)) t g (i + 1) xs (All-append-right (λ a. All (R a) rest) (t i x) (g x) (AllPairs-cross R (t i x ++ g x) rest p) k d l))

-- ---- what f and g give, item by item

pub All-first : {X Y : Type 0} (P : Y → Type 0) (f g : X → List Y) (xs : List X) → All P (flat_map (λ x. f x ++ g x) xs) → All P (flat_map f xs)
All-first P f g [] a = All-nil P
All-first P f g (x ∷ xs) a =
    All-append P (f x) (flat_map f xs)
    (All-append-left P (f x) (g x) (All-append-left P (f x ++ g x) (flat_map (λ x. f x ++ g x) xs) a))
    (All-first P f g xs (All-append-right P (f x ++ g x) (flat_map (λ x. f x ++ g x) xs) a))

pub All-second : {X Y : Type 0} (P : Y → Type 0) (f g : X → List Y) (xs : List X) → All P (flat_map (λ x. f x ++ g x) xs) → All P (flat_map g xs)
All-second P f g [] a = All-nil P
All-second P f g (x ∷ xs) a =
    All-append P (g x) (flat_map g xs)
    (All-append-right P (f x) (g x) (All-append-left P (f x ++ g x) (flat_map (λ x. f x ++ g x) xs) a))
    (All-second P f g xs (All-append-right P (f x ++ g x) (flat_map (λ x. f x ++ g x) xs) a))

pub AllPairs-first : {X Y : Type 0} (R : Y → Y → Type 0) (f g : X → List Y) (xs : List X) → AllPairs R (flat_map (λ x. f x ++ g x) xs) → AllPairs R (flat_map f xs)
AllPairs-first R f g [] p = AllPairs-nil R
AllPairs-first {X} {Y} R f g (x ∷ xs) p =
    let rest : List Y = flat_map (λ x. f x ++ g x) xs in
    AllPairs-append R (f x) (flat_map f xs)
    (AllPairs-left R (f x) (g x) (AllPairs-left R (f x ++ g x) rest p))
    (AllPairs-first R f g xs (AllPairs-right R (f x ++ g x) rest p))
    (λ k d l. All-first (R (get_or (f x) k d)) f g xs (All-append-left (λ a. All (R a) rest) (f x) (g x) (AllPairs-cross R (f x ++ g x) rest p) k d l))

-- each that f gives, with each that g gives
pub AllPairs-across : {X Y : Type 0} (R : Y → Y → Type 0) (f g : X → List Y) (xs : List X) → ((x y : Y) → R x y → R y x) → AllPairs R (flat_map (λ x. f x ++ g x) xs) → All (λ a. All (R a) (flat_map g xs)) (flat_map f xs)
AllPairs-across R f g [] flip p = All-nil (λ a. All (R a) [])
AllPairs-across {X} {Y} R f g (x ∷ xs) flip p =
    let rest : List Y = flat_map (λ x. f x ++ g x) xs in
    let gs : List Y = flat_map g xs in
    let here = AllPairs-cross R (f x) (g x) (AllPairs-left R (f x ++ g x) rest p) in
    let across = AllPairs-cross R (f x ++ g x) rest p in
    let front = All-append-left (λ a. All (R a) rest) (f x) (g x) across in
    let behind = All-append-right (λ a. All (R a) rest) (f x) (g x) across in
    let later = AllPairs-across R f g xs flip (AllPairs-right R (f x ++ g x) rest p) in
    All-append (λ a. All (R a) (g x ++ gs)) (f x) (flat_map f xs)
    (λ k d l. All-append (R (get_or (f x) k d)) (g x) gs (here k d l) (All-second (R (get_or (f x) k d)) f g xs (front k d l)))
    (λ k d l. All-append (R (get_or (flat_map f xs) k d)) (g x) gs (λ i e m. flip (get_or (g x) i e) (get_or (flat_map f xs) k d) (All-first (R (get_or (g x) i e)) f g xs (behind i e m) k d l)) (later k d l))

-- ---- fewer items

-- where each item gives what it gave or nothing
abbrev pub GivesFewer : {X Y : Type 0} → (X → List Y) → (X → List Y) → Type 0
GivesFewer {X} f g = (x : X) → (g x ≡ []) ⊎ (g x ≡ f x)

pub All-fewer : {X Y : Type 0} (P : Y → Type 0) (f g : X → List Y) (xs : List X) → GivesFewer f g → All P (flat_map f xs) → All P (flat_map g xs)
All-fewer P f g [] h a = All-nil P
All-fewer P f g (x ∷ xs) h a =
    All-append P (g x) (flat_map g xs)
    (elim (h x) [ inl e ↦ subst (All P) (sym e) (All-nil P) | inr e ↦ subst (All P) (sym e) (All-append-left P (f x) (flat_map f xs) a) ])
    (All-fewer P f g xs h (All-append-right P (f x) (flat_map f xs) a))

pub AllPairs-fewer : {X Y : Type 0} (R : Y → Y → Type 0) (f g : X → List Y) (xs : List X) → GivesFewer f g → AllPairs R (flat_map f xs) → AllPairs R (flat_map g xs)
AllPairs-fewer R f g [] h p = AllPairs-nil R
AllPairs-fewer {X} {Y} R f g (x ∷ xs) h p =
    let P : Y → Type 0 = λ a. All (R a) (flat_map g xs) in
    let across : All P (f x) = λ k d m. All-fewer (R (get_or (f x) k d)) f g xs h (AllPairs-cross R (f x) (flat_map f xs) p k d m) in
    AllPairs-append R (g x) (flat_map g xs)
    (elim (h x) [ inl e ↦ subst (AllPairs R) (sym e) (AllPairs-nil R) | inr e ↦ subst (AllPairs R) (sym e) (AllPairs-left R (f x) (flat_map f xs) p) ])
    (AllPairs-fewer R f g xs h (AllPairs-right R (f x) (flat_map f xs) p))
    (elim (h x) [ inl e ↦ subst (All P) (sym e) (All-nil P) | inr e ↦ subst (All P) (sym e) across ])

-- ---- filtered lists

pub All-unmap : {X Y : Type 0} (P : Y → Type 0) (f : X → Y) (xs : List X) → All P (map f xs) → All (λ x. P (f x)) xs
All-unmap P f [] a = All-nil (λ x. P (f x))
All-unmap P f (x ∷ xs) a = All-cons (λ x. P (f x)) x xs (All-head P (f x) (map f xs) a) (All-unmap P f xs (All-tail P (f x) (map f xs) a))
