-- The first template that stands at the front of bytes.
use Rattle.std.proofs.Common.{◌≡◌, ℕ, inl, inr, Bool, true, List, [], ◌∷◌, ◌++◌, refl, ap, ◌∙◌, subst}
use Rattle.std.specs.Prelude.{Option, Some, None, option_map}
use Rattle.std.specs.Option.{option_or}
use Rattle.std.specs.List.{list_all}
use Rattle.std.proofs.lemmas.Bool.{cases_Bool, and_parts}
use Rattle.wild_loader.specs.Instruction.{Template, matches_cells}
use Rattle.wild_loader.specs.Effect.{first_match}

-- ---- of several lists

pub standing-append : (xs ys : List Template) (bs : List ℕ) → first_match (xs ++ ys) bs ≡ option_or (first_match xs bs) (first_match ys bs)
unfolding first_match
standing-append [] ys bs = refl
standing-append (t ∷ ts) ys bs =
    elim (cases_Bool (matches_cells t.cells bs)) [
      | inl y ↦ rw y refl
      | inr n ↦ rw n (standing-append ts ys bs)
    ]

reordered : {X : Type 0} (a b c d e : Option X) → option_or a (option_or b (option_or c (option_or d e))) ≡ option_or (option_or (option_or (option_or a b) c) d) e
reordered (Some x) b c d e = refl
reordered None (Some x) c d e = refl
reordered None None (Some x) d e = refl
reordered None None None d e = refl

pub standing_in_turn : (a b c d e : List Template) (bs : List ℕ)
    → first_match (a ++ (b ++ (c ++ (d ++ e)))) bs ≡ option_or (option_or (option_or (option_or (first_match a bs) (first_match b bs)) (first_match c bs)) (first_match d bs)) (first_match e bs)
standing_in_turn a b c d e bs =
    standing-append a (b ++ (c ++ (d ++ e))) bs
    ∙ ap (λ (o : Option Template). option_or (first_match a bs) o) (standing-append b (c ++ (d ++ e)) bs ∙ ap (λ (o : Option Template). option_or (first_match b bs) o) (standing-append c (d ++ e) bs ∙ ap (λ (o : Option Template). option_or (first_match c bs) o) (standing-append d e bs)))
    ∙ reordered (first_match a bs) (first_match b bs) (first_match c bs) (first_match d bs) (first_match e bs)

or-map : {X Y : Type 0} (f : X → Y) (a b : Option X) → option_map f (option_or a b) ≡ option_or (option_map f a) (option_map f b)
or-map f None b = refl
or-map f (Some x) b = refl

pub or_mapped : {X Y : Type 0} (f : X → Y) (a b r : Option X) (x y : Option Y) → r ≡ option_or a b → option_map f a ≡ x → option_map f b ≡ y → option_map f r ≡ option_or x y
or_mapped {X} {Y} f a b r x y e p q = ap (λ (o : Option X). option_map f o) e ∙ or-map f a b ∙ ap (λ (o : Option Y). option_or o (option_map f b)) p ∙ ap (λ (o : Option Y). option_or x o) q

-- ---- tests of templates

-- a test that each passes, the one that stands passes
pub standing_passes : (test : Template → Bool) (ts : List Template) (bs : List ℕ) (t : Template) → list_all test ts ≡ true → first_match ts bs ≡ Some t → test t ≡ true
unfolding first_match
standing_passes test [] bs t all h = cc
standing_passes test (u ∷ us) bs t all h =
    let two = and_parts (test u) (list_all test us) all in
    elim (cases_Bool (matches_cells u.cells bs)) [
      | inl y ↦ (let e : Some u ≡ Some t = rw y at h in let same : u ≡ t = cc in subst (λ (x : Template). test x ≡ true) same two.0)
      | inr n ↦ standing_passes test us bs t two.1 (rw n at h)
    ]
