-- The words of places below 2^64 are below 2^64.
use Rattle.std.proofs.Common.{◌≡◌, ℕ, ◌+◌, ◌-◌, ◌*◌, ◌/◌, ◌%◌, ◌^◌, ◌<◌, inl, inr, List, [], ◌∷◌, refl, sym, ap, ◌∙◌, arith, subst}
use Rattle.std.specs.Prelude.{Option, Some, None, All, ◌==◌}
use Rattle.std.proofs.Math.Nat.{add-div_right, div-lt_iff_lt-mul}
use Rattle.std.proofs.lemmas.Nat.{pow-add, pow_pos}
use Rattle.std.proofs.lemmas.Bool.{cases_Bool, eqb-true}
use Rattle.std.proofs.lemmas.List.Elements.{All-nil, All-cons, All-head, All-tail, All-append}
use Rattle.wild_relr.specs.declared.run.Run.{Run}
use Rattle.wild_relr.specs.declared.run.Run.TheVariants.{Closed, Address, Bitmap}
use Rattle.wild_relr.specs.declared.run.Choice.{Choice}
use Rattle.wild_relr.specs.declared.run.Choice.TheVariants.{Joins, Adds}
use Rattle.wild_relr.specs.Encoding.{slot, bitmap, with_bit, starts, new_bitmap_or, last_bit_or, choice, with_last_bit}
use Rattle.wild_relr.specs.RunWords.{by_choice, packed_on, packed}
use Rattle.wild_relr.specs.Laws.{IsWord}
use Rattle.wild_relr.proofs.PackingLemmas.{is_slot}
use Rattle.wild_relr.proofs.WriterLemmas.{bit_small}

-- what a choice adds is a word, and the bit that it sets is one of the word's
abbrev FitsChoice : Choice → Type 0
FitsChoice (Joins i) = i < 63
FitsChoice (Adds w r) = IsWord w

bitmap_fits : (i : ℕ) → i < 63 → IsWord (bitmap i)
unfolding bitmap
bitmap_fits i h = let b = bit_small i h in omega (arith, b)

opens_fits : (start p : ℕ) (o : Option ℕ) (other : Choice) → slot start p ≡ o → FitsChoice other → FitsChoice (new_bitmap_or start o other)
opens_fits start p None other e h = h
opens_fits start p (Some i) other e h = bitmap_fits i (is_slot start p i e).below

joins_fits : (start p : ℕ) (o : Option ℕ) (other : Choice) → slot start p ≡ o → FitsChoice other → FitsChoice (last_bit_or o other)
joins_fits start p None other e h = h
joins_fits start p (Some i) other e h = (is_slot start p i e).below

choice_fits : (r : Run) (p : ℕ) → IsWord p → FitsChoice (choice r p)
unfolding choice
choice_fits Closed p h = h
choice_fits (Address a) p h = opens_fits (a + 8) p (slot (a + 8) p) (starts p) refl h
choice_fits (Bitmap s) p h = joins_fits s p (slot s p) (new_bitmap_or (s + 504) (slot (s + 504) p) (starts p)) refl (opens_fits (s + 504) p (slot (s + 504) p) (starts p) refl h)

-- ---- a bit more

-- half a power, and the bit
halves : (i : ℕ) → i < 63 → 2 ^ 64 ≡ 2 * 2 ^ (62 - i) * (2 * 2 ^ i)
halves i h =
    let e : 62 - i + i ≡ 62 = omega (arith, h) in
    let p : 2 ^ 62 ≡ 2 ^ (62 - i) * 2 ^ i = sym (ap (λ (k : ℕ). 2 ^ k) e) ∙ pow-add 2 (62 - i) i in
    whole (2 ^ (62 - i)) (2 ^ i) p
  where
    whole : (a b : ℕ) → 2 ^ 62 ≡ a * b → 2 ^ 64 ≡ 2 * a * (2 * b)
    whole a b e = omega (arith, e)

even_more : (q n : ℕ) → q % 2 ≡ 0 → q < 2 * n → q + 1 < 2 * n
even_more q n e l = omega (arith, e, l)

bit_more : (i w : ℕ) → i < 63 → IsWord w → w / (2 * 2 ^ i) % 2 ≡ 0 → w + 2 * 2 ^ i < 2 ^ 64
bit_more i w h low free = by_parts (2 * 2 ^ i) (2 ^ (62 - i)) w (twice (2 ^ i) (pow_pos i)) (halves i h) low free
  where
    twice : (n : ℕ) → 0 < n → 0 < 2 * n
    twice n h = omega (arith, h)

    by_parts : (m n w : ℕ) → 0 < m → 2 ^ 64 ≡ 2 * n * m → w < 2 ^ 64 → w / m % 2 ≡ 0 → w + m < 2 ^ 64
    by_parts m n w some e low free =
        let below : w / m < 2 * n = (div-lt_iff_lt-mul some).1 (subst (λ (x : ℕ). w < x) e low) in
        let next : w / m + 1 < 2 * n = even_more (w / m) n free below in
        let sum : (w + m) / m < 2 * n = subst (λ (x : ℕ). x < 2 * n) (sym (add-div_right w some)) next in
        subst (λ (x : ℕ). w + m < x) (sym e) ((div-lt_iff_lt-mul some).0 sum)

with_bit_fits : (i w : ℕ) → i < 63 → IsWord w → IsWord (with_bit i w)
unfolding with_bit
with_bit_fits i w h low =
    elim (cases_Bool (w / (2 * 2 ^ i) % 2 == 0)) [
      | inl t ↦ rw t (bit_more i w h low (eqb-true (w / (2 * 2 ^ i) % 2) 0 t))
      | inr f ↦ rw f low
    ]

joined_fits : (i : ℕ) (ws : List ℕ) → i < 63 → All IsWord ws → All IsWord (with_last_bit i ws)
unfolding with_last_bit
joined_fits i [] h a = a
joined_fits i (w ∷ []) h a = All-cons IsWord (with_bit i w) [] (with_bit_fits i w h (All-head IsWord w [] a)) (All-nil IsWord)
joined_fits i (w ∷ v ∷ ws) h a = All-cons IsWord w (with_last_bit i (v ∷ ws)) (All-head IsWord w (v ∷ ws) a) (joined_fits i (v ∷ ws) h (All-tail IsWord w (v ∷ ws) a))

-- ---- runs

by_choice_fits : (c : Choice) (more : ℕ → List ℕ) (other : ℕ → Run → List ℕ) → FitsChoice c → ((i : ℕ) → i < 63 → All IsWord (more i)) → ((w : ℕ) (r : Run) → IsWord w → All IsWord (other w r)) → All IsWord (by_choice c more other)
by_choice_fits (Joins i) more other h m o = m i h
by_choice_fits (Adds w r) more other h m o = o w r h

packed_on_fits : (ps : List ℕ) (r : Run) (part : List ℕ) → All IsWord part → All IsWord ps → All IsWord (packed_on r part ps)
unfolding packed_on
packed_on_fits [] r part a b = a
packed_on_fits (p ∷ ps) r part a b =
    by_choice_fits (choice r p) _ _ (choice_fits r p (All-head IsWord p ps b))
    (λ i h. packed_on_fits ps r (with_last_bit i part) (joined_fits i part h a) (All-tail IsWord p ps b))
    (λ w q h. All-append IsWord part (packed_on q (w ∷ []) ps) a (packed_on_fits ps q (w ∷ []) (All-cons IsWord w [] h (All-nil IsWord)) (All-tail IsWord p ps b)))

pub packed_fits : (ps : List ℕ) → All IsWord ps → All IsWord (packed ps)
unfolding packed
packed_fits ps a = packed_on_fits ps Closed [] (All-nil IsWord) a
