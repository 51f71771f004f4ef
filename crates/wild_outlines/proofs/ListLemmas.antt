-- Functions that agree on each item, and mapped lists.
use Rattle.wild_outlines.proofs.Common.{◌≡◌, ℕ, Bool, List, [], ◌∷◌, ◌++◌, map, refl, ap, ◌∙◌, Some, true, false, ◌&&◌, flat_map, list_any, map-append, total}

pub some_same : {X : Type 0} {x y : X} → Some x ≡ Some y → x ≡ y
some_same h = cc

pub and_true : (a : Bool) → (a && true) ≡ a
and_true true = refl
and_true false = refl

-- ---- functions that agree on each item

pub map-same : {X Y : Type 0} (f g : X → Y) (xs : List X) → ((x : X) → f x ≡ g x) → map f xs ≡ map g xs
map-same f g [] h = refl
map-same f g (x ∷ xs) h = rw (h x, map-same f g xs h) refl

pub flat_map-same : {X Y : Type 0} (f g : X → List Y) (xs : List X) → ((x : X) → f x ≡ g x) → flat_map f xs ≡ flat_map g xs
flat_map-same f g [] h = refl
flat_map-same f g (x ∷ xs) h = rw (h x, flat_map-same f g xs h) refl

pub total-same : {X : Type 0} (f g : X → ℕ) (xs : List X) → ((x : X) → f x ≡ g x) → total f xs ≡ total g xs
total-same f g [] h = refl
total-same f g (x ∷ xs) h = rw (h x, total-same f g xs h) refl

pub list_any-same : {X : Type 0} (p q : X → Bool) (xs : List X) → ((x : X) → p x ≡ q x) → list_any p xs ≡ list_any q xs
list_any-same p q [] h = refl
list_any-same p q (x ∷ xs) h = rw (h x, list_any-same p q xs h) refl

-- ---- lists of results

pub map-map : {X Y Z : Type 0} (f : Y → Z) (v : X → Y) (xs : List X) → map f (map v xs) ≡ map (λ x. f (v x)) xs
map-map f v [] = refl
map-map f v (x ∷ xs) = ap (λ ys. f (v x) ∷ ys) (map-map f v xs)

pub map-flat_map : {X Y Z : Type 0} (v : Y → Z) (f : X → List Y) (xs : List X) → map v (flat_map f xs) ≡ flat_map (λ x. map v (f x)) xs
map-flat_map v f [] = refl
map-flat_map v f (x ∷ xs) = map-append v (f x) (flat_map f xs) ∙ ap (λ ys. map v (f x) ++ ys) (map-flat_map v f xs)
