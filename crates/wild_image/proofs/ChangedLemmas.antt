-- Lists that a loop changes item by item.
use Rattle.wild_image.proofs.Common.{◌≡◌, ℕ, ◌+◌, ◌<◌, ◌≤◌, inl, inr, List, length, set, get_or, refl, ◌∙◌, arith, cases_order, get_or-set_same, get_or-set_other}
use Rattle.std.proofs.lemmas.Bool.{cases_eq}
use Rattle.std.proofs.lemmas.List.{length-set}

-- the first i items are what f gives, and the others are as before
pub record Changed {A : Type 0} (d : A) (f : ℕ → A) (base : List A) (i : ℕ) (now : List A) : Type 0 where
  pub count : length now ≡ length base
  pub done : (k : ℕ) → k < i → get_or now k d ≡ f k
  pub rest : (k : ℕ) → i ≤ k → get_or now k d ≡ get_or base k d

pub not_changed : {A : Type 0} (d : A) (f : ℕ → A) (base : List A) → Changed d f base 0 base
not_changed d f base = record { count = refl; done = λ k low. absurd (omega (arith, low)); rest = λ k low. refl }

pub changed_more : {A : Type 0} (d : A) (f : ℕ → A) (base : List A) (i : ℕ) (now : List A) (x : A) → Changed d f base i now → i < length now → x ≡ f i → Changed d f base (i + 1) (set now i x)
changed_more d f base i now x h inside is = record {
  count = length-set now i x ∙ h.count;
  done = λ k low. elim (cases_eq k i) [
    | inl e ↦ rw e (get_or-set_same now i x d inside ∙ is)
    | inr n ↦ get_or-set_other now i k x d n ∙ h.done k (below k i low n)
  ];
  rest = λ k low. get_or-set_other now i k x d (λ e. absurd (omega (arith, e, low))) ∙ h.rest k (omega (arith, low));
}
  where
    below : (k i : ℕ) → k < i + 1 → (k ≡ i → ⊥) → k < i
    below k i low n = elim (cases_order k i) [ inl e ↦ absurd (n e) | inr (inl b) ↦ b | inr (inr c) ↦ absurd (omega (arith, c, low)) ]

-- all items are what f gives
pub changed_all : {A : Type 0} (d : A) (f : ℕ → A) (base : List A) (i : ℕ) (now : List A) → Changed d f base i now → (k : ℕ) → k < length base → length base ≤ i → get_or now k d ≡ f k
changed_all d f base i now h k low all = h.done k (omega (arith, low, all))
