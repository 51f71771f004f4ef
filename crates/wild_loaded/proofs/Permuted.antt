-- Lists that differ in their order: what is made of each item in parts, part by part.
use Rattle.wild_loaded.proofs.Common.{List, [], ◌∷◌, ◌++◌, IsPermutation, flat_map, IsPermutation-refl, IsPermutation-trans, IsPermutation-append, IsPermutation-append_right}
use Rattle.wild_words.proofs.Basics.{middle_exchanged}

pub flat_map-each : {X Y : Type 0} (f g : X → List Y) (xs : List X) → ((x : X) → IsPermutation (f x) (g x)) → IsPermutation (flat_map f xs) (flat_map g xs)
flat_map-each f g [] h = IsPermutation-refl []
flat_map-each f g (x ∷ xs) h = IsPermutation-append (f x) (g x) (flat_map f xs) (flat_map g xs) (h x) (flat_map-each f g xs h)

-- two parts of each item
pub flat_map-parts : {X Y : Type 0} (f g : X → List Y) (xs : List X) → IsPermutation (flat_map (λ x. f x ++ g x) xs) (flat_map f xs ++ flat_map g xs)
flat_map-parts f g [] = IsPermutation-refl []
flat_map-parts f g (x ∷ xs) =
    IsPermutation-trans ((f x ++ g x) ++ flat_map (λ x. f x ++ g x) xs) ((f x ++ g x) ++ (flat_map f xs ++ flat_map g xs)) ((f x ++ flat_map f xs) ++ (g x ++ flat_map g xs))
    (IsPermutation-append_right (f x ++ g x) (flat_map (λ x. f x ++ g x) xs) (flat_map f xs ++ flat_map g xs) (flat_map-parts f g xs))
    (middle_exchanged (f x) (g x) (flat_map f xs) (flat_map g xs))

-- two parts of each item of lists
pub nested-parts : {X Y Z : Type 0} (of : X → List Y) (f g : Y → List Z) (xs : List X) → IsPermutation (flat_map (λ x. flat_map (λ y. f y ++ g y) (of x)) xs) (flat_map (λ x. flat_map f (of x)) xs ++ flat_map (λ x. flat_map g (of x)) xs)
nested-parts of f g xs =
    IsPermutation-trans (flat_map (λ x. flat_map (λ y. f y ++ g y) (of x)) xs) (flat_map (λ x. flat_map f (of x) ++ flat_map g (of x)) xs) (flat_map (λ x. flat_map f (of x)) xs ++ flat_map (λ x. flat_map g (of x)) xs)
    (flat_map-each (λ x. flat_map (λ y. f y ++ g y) (of x)) (λ x. flat_map f (of x) ++ flat_map g (of x)) xs (λ x. flat_map-parts f g (of x)))
    (flat_map-parts (λ x. flat_map f (of x)) (λ x. flat_map g (of x)) xs)
