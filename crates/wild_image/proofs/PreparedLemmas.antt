-- Laws of what is computed once for all groups.
use Rattle.wild_image.proofs.Common.{◌≡◌, ℕ, ◌+◌, ◌<◌, ◌≤◌, ◌-◌, List, [], ◌∷◌, ◌++◌, length, inl, inr, refl, ap, sym, subst, ◌∙◌, arith, nat_lt, get_or, cases_Bool, Layout, HasStarts}
use Rattle.std.proofs.lemmas.Bool.{ltb-true, ltb-false}
use Rattle.std.proofs.lemmas.List.{get_or_append_left, get_or-append_right}

-- the starts of one group more
pub starts_added : (l : Layout) (j : ℕ) (all : List (List ℕ)) (now : List ℕ) → length all ≡ j → ((k : ℕ) → k < j → HasStarts l k (get_or all k [])) → HasStarts l j now → (k : ℕ) → k < j + 1 → HasStarts l k (get_or (all ++ now ∷ []) k [])
starts_added l j all now long each here k low =
    elim (cases_Bool (nat_lt k j)) [
      | inl t ↦ (let below : k < j = ltb-true _ _ t in
          subst (HasStarts l k) (sym (get_or_append_left all (now ∷ []) [] k (let e = long in omega (arith, below, e)))) (each k below))
      | inr f ↦ (let over : j ≤ k = ltb-false _ _ f in
          let same : j ≡ k = omega (arith, over, low) in
          let none : k - j ≡ 0 = omega (arith, same) in
          let read : get_or (all ++ now ∷ []) k [] ≡ now = get_or-append_right all (now ∷ []) j k [] long over ∙ ap (λ (n : ℕ). get_or (now ∷ []) n []) none in
          subst (HasStarts l k) (sym read) (subst (λ (n : ℕ). HasStarts l n now) same here))
    ]
