-- What holds of those elements of a list that pass a test.
--   Among test P xs   P holds of each of them, as a tuple
--   pick ..           and so of the one at hand
use Rattle.wild_meaning.proofs.Common.{◌≡◌, ℕ, zero, suc, ◌<◌, Bool, true, false, List, [], ◌∷◌, length, ap, ◌∙◌, subst, arith, Contains, slice_index_or}

abbrev pub both : Bool → Type 0 → Type 0 → Type 0
both true A B = A × B
both false A B = B

-- P holds of each element that passes
abbrev pub Among : {X : Type 0} → (X → Bool) → (X → Type 0) → List X → Type 0
Among test P [] = Unit {0}
Among test P (x ∷ xs) = both (test x) (P x) (Among test P xs)

pub pick : {X : Type 0} (test : X → Bool) (P : X → Type 0) (xs : List X) → Among test P xs → (o : X) → Contains xs o → test o ≡ true → P o
pick {X} test P xs h o c t = by test P xs h o c.0 c.1 c.2 t
  where
    first : (b : Bool) (A B : Type 0) → b ≡ true → both b A B → A
    first true A B e h = h.0
    first false A B e h = absurd (let f : false ≡ true = e in cc)

    rest : (b : Bool) (A B : Type 0) → both b A B → B
    rest true A B h = h.1
    rest false A B h = h

    by : {X : Type 0} (test : X → Bool) (P : X → Type 0) (xs : List X) → Among test P xs → (o : X) (k : ℕ) → k < length xs → slice_index_or xs k o ≡ o → test o ≡ true → P o
    by test P [] h o k lt e t = absurd (omega (arith, lt))
    by test P (x ∷ xs) h o zero lt e t = subst P e (first (test x) (P x) (Among test P xs) (ap test e ∙ t) h)
    by test P (x ∷ xs) h o (suc k) lt e t = by test P xs (rest (test x) (P x) (Among test P xs) h) o k (omega (arith, lt)) e t
