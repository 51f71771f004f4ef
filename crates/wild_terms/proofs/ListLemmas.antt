-- Whether a number is in a list.
use Rattle.std.proofs.Common.{◌≡◌, ℕ, zero, suc, ◌<◌, ◌≤◌, inl, inr, true, false, List, [], ◌∷◌, length, get_or, refl, arith}
use Rattle.std.specs.Prelude.{◌==◌}
use Rattle.std.specs.List.{list_any}
use Rattle.std.proofs.lemmas.Bool.Decides.{leb_tells}
use Rattle.std.proofs.lemmas.Bool.{ne_eqb, eq-eqb, or_right}

pub any_at : (xs : List ℕ) (x i : ℕ) → i < length xs → get_or xs i 0 ≡ x → list_any (λ r. r == x) xs ≡ true
any_at [] x i l h = absurd (omega (arith, l))
any_at (y ∷ ys) x zero l h = let e = eq-eqb y x h in rw e refl
any_at (y ∷ ys) x (suc i) l h = let e = any_at ys x i (omega (arith, l)) h in or_right (y == x) (list_any (λ r. r == x) ys) e

-- the numbers before a place are less, and the others are greater
pub any_none : (xs : List ℕ) (x i : ℕ) → ((k : ℕ) → k < i → get_or xs k 0 < x) → ((k : ℕ) → i ≤ k → k < length xs → x < get_or xs k 0) → list_any (λ r. r == x) xs ≡ false
any_none xs x i low high = missing xs x (λ k l e. elim (leb_tells i k) [
  | inl t ↦ (let s = t.1 in let h = high k (omega (arith, s)) l in omega (arith, h, e))
  | inr t ↦ (let s = t.1 in let h = low k (omega (arith, s)) in omega (arith, h, e))
])
  where
    missing : (xs : List ℕ) (x : ℕ) → ((k : ℕ) → k < length xs → get_or xs k 0 ≡ x → ⊥) → list_any (λ r. r == x) xs ≡ false
    missing [] x h = refl
    missing (y ∷ ys) x h =
        let e = ne_eqb y x (h 0 (omega arith)) in
        let more = missing ys x (λ k l. h (suc k) (omega (arith, l))) in
        rw (e, more) refl
