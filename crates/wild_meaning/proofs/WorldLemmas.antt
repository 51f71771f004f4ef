-- What a world has of its modules, and its memory at places.
use Rattle.wild_meaning.proofs.Common.{◌≡◌, ℕ, inl, inr, List, [], ◌∷◌, ap, refl, ◌+◌, ◌*◌, ◌^◌, ◌<◌, Option, None, arith, subst, Some, ◌==◌, Ok, option_and_then, option_map, cases_Bool, w64, cast_unsigned, first_value, distance_of, World, Memory, byte_in, number_in, IsKnownModule}
use Rattle.std.specs.List.{filter}
use Rattle.wild_loader.proofs.MappedSegments.{byte_below}
use Rattle.wild_meaning.specs.Slot.{HasWord}

-- the one pair of a key is the first
pub first_filtered : {V : Type 0} (ps : List (ℕ × V)) (a : ℕ) (v : V) → filter (λ (p : ℕ × V). p.0 == a) ps ≡ (a, v) ∷ [] → first_value ps a ≡ Some v
first_filtered [] a v h = cc
first_filtered {V} (p ∷ ps) a v h =
    elim (cases_Bool (p.0 == a)) [
      | inl t ↦ (let e = rw t at h in let is : p ≡ (a, v) = head_is p (a, v) (filter (λ (q : ℕ × V). q.0 == a) ps) [] e in rw t (ap (λ (q : ℕ × V). Some q.1) is))
      | inr f ↦ rw f (first_filtered ps a v (rw f at h))
    ]
  where
    head_is : (x y : ℕ × V) (xs ys : List (ℕ × V)) → x ∷ xs ≡ y ∷ ys → x ≡ y
    head_is x y xs ys e = cc

-- the distance of a module
pub distance_known : (w : World) (m : ℕ) → (h : IsKnownModule w m) → distance_of w m ≡ Ok (cast_unsigned w64 h.distance)
distance_known w m h = rw (first_filtered w.modules m h.distance h.pair) refl

-- a word of memory stands below 2 ^ 64
pub word_below : (m : Memory) (a x : ℕ) → HasWord m a x → a < 2 ^ 64
word_below m a x h = by_byte (byte_in m a) refl h
  where
    by_byte : (o : Option ℕ) → byte_in m a ≡ o → option_and_then (λ b. option_map (λ rest. b + 256 * rest) (number_in m (a + 1) 7)) o ≡ Some x → a < 2 ^ 64
    by_byte None e h = cc
    by_byte (Some b) e h = byte_below m a b e

-- the second word of a pair
pub next_word : (w : World) (m : Memory) (at x : ℕ) → HasWord m (w.base + (at + 8)) x → HasWord m (w.base + at + 8) x
next_word w m at x h =
    let e : w.base + (at + 8) ≡ w.base + at + 8 = omega arith in
    subst (λ (a : ℕ). HasWord m a x) e h
