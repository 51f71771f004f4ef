-- The bytes that are loaded from an address on, and those that memory has there.
use Rattle.std.proofs.Common.{◌≡◌, ℕ, zero, suc, ◌+◌, ◌<◌, ◌≤◌, List, [], ◌∷◌, ◌++◌, length, slice_index, refl, sym, ap, arith, subst}
use Rattle.std.specs.Prelude.{Option, Some, None}
use Rattle.wild_loader.specs.declared.memory.Memory.{Memory}
use Rattle.wild_loader.specs.Memory.{byte_in, Holds}
use Rattle.wild_loader.specs.Effect.{with_first_loaded, window}
use Rattle.wild_loader.proofs.HeldBytes.{held-first, held-rest}

-- bytes that memory has are the first
pub window-held : (m : Memory) (a : ℕ) (bs : List ℕ) (n : ℕ) → length bs ≤ n → Holds m a bs → (more : List ℕ) × (window m a n ≡ bs ++ more)
unfolding window
window-held m a [] n short h = (window m a n, refl)
window-held m a (b ∷ bs) zero short h = absurd (omega (arith, short))
window-held m a (b ∷ bs) (suc n) short h =
    let first = held-first m a b bs h in
    let rest = window-held m (a + 1) bs n (omega (arith, short)) (held-rest m a b bs h) in
    (rest.0, rw first (ap (λ (xs : List ℕ). b ∷ xs) rest.1))

pub held_more : (m : Memory) (a b : ℕ) (bs : List ℕ) → byte_in m a ≡ Some b → Holds m (a + 1) bs → Holds m a (b ∷ bs)
held_more m a b bs first rest = λ k lt. at k lt
  where
    at : (k : ℕ) → k < length (b ∷ bs) → byte_in m (a + k) ≡ Some (slice_index (b ∷ bs) k)
    at zero lt = let z : a + 0 ≡ a = omega arith in subst (λ (x : ℕ). byte_in m x ≡ Some b) (sym z) first
    at (suc k) lt = let e : a + 1 + k ≡ a + suc k = omega arith in subst (λ (x : ℕ). byte_in m x ≡ Some (slice_index bs k)) e (rest k (omega (arith, lt)))

with_held : (m : Memory) (a : ℕ) (o : Option ℕ) (bs : List ℕ) → byte_in m a ≡ o → Holds m (a + 1) bs → Holds m a (with_first_loaded o bs)
with_held m a None bs e h = λ k lt. absurd (omega (arith, lt))
with_held m a (Some b) bs e h = held_more m a b bs e h

-- and memory has them
pub held-window : (m : Memory) (a n : ℕ) → Holds m a (window m a n)
unfolding window
held-window m a zero = λ k lt. absurd (omega (arith, lt))
held-window m a (suc n) = with_held m a (byte_in m a) (window m (a + 1) n) refl (held-window m (a + 1) n)
