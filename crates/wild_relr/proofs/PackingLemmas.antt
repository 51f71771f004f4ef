-- Laws of places that become words.
use Rattle.std.proofs.Common.{◌≡◌, ℕ, ◌+◌, ◌-◌, ◌*◌, ◌/◌, ◌%◌, ◌^◌, ◌<◌, inl, inr, Bool, true, false, Option, Some, None, List, [], ◌∷◌, ◌++◌, refl, sym, ap, ◌∙◌, arith, subst}
use Rattle.std.specs.Prelude.{All, Contains, ◌==◌, ◌&&◌, nat_le, nat_lt, if◌then◌else◌}
use Rattle.std.proofs.lemmas.List.Sorted.{IsPermutation-sym, IsPermutation-trans, IsPermutation-append_right, IsPermutation-middle, IsPermutation-to_front}
use Rattle.std.proofs.lemmas.List.Elements.{Contains-append_right, All-tail}
use Rattle.std.proofs.Math.Nat.{div-div-eq-div-mul}
use Rattle.std.proofs.lemmas.List.{append_assoc}
use Rattle.std.proofs.lemmas.Bool.{cases_Bool, leb-true, eqb-true}
use borrow.Author.Tests.{ltb-true}
use Rattle.wild_words.proofs.ListLemmas.{All-append-right}
use Rattle.wild_relr.specs.Places.{window, places_of, places, next_of}
use Rattle.wild_relr.specs.declared.run.Run.{Run}
use Rattle.wild_relr.specs.declared.run.Run.TheVariants.{Closed, Address, Bitmap}
use Rattle.wild_relr.specs.declared.run.Choice.{Choice}
use Rattle.wild_relr.specs.Encoding.{slot, bitmap, with_bit, starts, new_bitmap_or, last_bit_or, choice, State, with_last_bit, apply_choice, after, EndsInBitmap, FollowsRun, Follows, Records}
use Rattle.wild_relr.proofs.PlaceLemmas.{parity, window-adds, window-holds, window-last, window-one, places_of-even, places_of-odd, next_after-even, next_after-odd, places-push, next-push}

-- ---- which bit

pub record IsSlot (start place i : ℕ) : Type 0 where
  pub below : i < 63
  pub is : place ≡ start + 8 * i

is_slot_if : (start place i : ℕ) (a b c : Bool) → nat_le start place ≡ a → ((place - start) % 8 == 0) ≡ b → nat_lt (place - start) 504 ≡ c → (if a && (b && c) then Some ((place - start) / 8) else None) ≡ Some i → IsSlot start place i
is_slot_if start place i true true true x y z h =
    let at_start = leb-true start place x in
    let by_eight = eqb-true ((place - start) % 8) 0 y in
    let within = ltb-true (place - start) 504 z in
    let e : (place - start) / 8 ≡ i = cc in
    record { below = omega arith; is = omega arith }
is_slot_if start place i true true false x y z h = cc
is_slot_if start place i true false c x y z h = cc
is_slot_if start place i false b c x y z h = cc

pub is_slot : (start place i : ℕ) → slot start place ≡ Some i → IsSlot start place i
unfolding slot
is_slot start place i h = is_slot_if start place i (nat_le start place) ((place - start) % 8 == 0) (nat_lt (place - start) 504) refl refl refl h

-- ---- words

pub bitmap-odd : (i : ℕ) → bitmap i % 2 ≡ 1
unfolding bitmap
bitmap-odd i = omega arith

pub places_of-bitmap : (start i : ℕ) → i < 63 → places_of start (bitmap i) ≡ (start + 8 * i) ∷ []
unfolding bitmap
places_of-bitmap start i l =
    let half : (1 + 2 * 2 ^ i) / 2 ≡ 2 ^ i = omega arith in
    places_of-odd start (1 + 2 * 2 ^ i) (bitmap-odd i) ∙ rw half (window-one 63 i start l)

pub with_last_bit-push : (i : ℕ) (xs : List ℕ) (w : ℕ) → with_last_bit i (xs ++ w ∷ []) ≡ xs ++ with_bit i w ∷ []
unfolding with_last_bit
with_last_bit-push i [] w = refl
with_last_bit-push i (x ∷ []) w = refl
with_last_bit-push i (x ∷ y ∷ xs) w = ap (λ (r : List ℕ). x ∷ r) (with_last_bit-push i (y ∷ xs) w)

pub with_bit-odd : (i w : ℕ) → w % 2 ≡ 1 → with_bit i w % 2 ≡ 1
unfolding with_bit
with_bit-odd i w h =
    elim (cases_Bool (w / (2 * 2 ^ i) % 2 == 0)) [
      | inl t ↦ rw t (let p : (w + 2 * 2 ^ i) % 2 ≡ 1 = omega arith in p)
      | inr f ↦ rw f h
    ]

-- ---- one place more

records_one_place : (ws vs : List ℕ) (p : ℕ) → places vs ≡ places ws ++ p ∷ [] → Records ws vs p
records_one_place ws vs p e = record {
  each = rw e (IsPermutation-sym _ _ (IsPermutation-to_front (places ws) p));
  last = λ a. e;
}

pub Records-address : (ws : List ℕ) (p : ℕ) → p % 2 ≡ 0 → Records ws (ws ++ p ∷ []) p
Records-address ws p h = records_one_place ws (ws ++ p ∷ []) p (places-push 0 ws p ∙ ap (λ (r : List ℕ). places ws ++ r) (places_of-even (next_of ws) p h))

pub Records-bitmap : (ws : List ℕ) (s p i : ℕ) → next_of ws ≡ s → IsSlot s p i → Records ws (ws ++ bitmap i ∷ []) p
Records-bitmap ws s p i n h =
    let e : places_of (next_of ws) (bitmap i) ≡ p ∷ [] = rw (n, h.is) (places_of-bitmap s i h.below) in
    records_one_place ws (ws ++ bitmap i ∷ []) p (places-push 0 ws (bitmap i) ∙ ap (λ (r : List ℕ). places ws ++ r) e)

-- ---- one bit more

with_bit-new : (i w : ℕ) → w / 2 / 2 ^ i % 2 ≡ 0 → with_bit i w / 2 ≡ w / 2 + 2 ^ i
unfolding with_bit
with_bit-new i w h =
    let d = div-div-eq-div-mul w 2 (2 ^ i) in
    let z : w / (2 * 2 ^ i) % 2 ≡ 0 = rw (← d) h in
    rw z (let e : (w + 2 * 2 ^ i) / 2 ≡ w / 2 + 2 ^ i = omega arith in e)

Records-grown : (front : List ℕ) (s p i w : ℕ) → next_of front ≡ s → w % 2 ≡ 1 → IsSlot s p i → (Contains (places (front ++ w ∷ [])) p → ⊥) → Records (front ++ w ∷ []) (front ++ with_bit i w ∷ []) p
Records-grown front s p i w n o h c =
    let before : places (front ++ w ∷ []) ≡ places front ++ window 63 s (w / 2) = places-push 0 front w ∙ ap (λ (r : List ℕ). places front ++ r) (rw n (places_of-odd s w o)) in
    let free : w / 2 / 2 ^ i % 2 ≡ 0 = elim (parity (w / 2 / 2 ^ i)) [
      | inl off ↦ off
      | inr on ↦ absurd (c (rw before (Contains-append_right (places front) _ p (rw h.is (window-holds 63 i s (w / 2) h.below on)))))
    ] in
    let half = with_bit-new i w free in
    let more : places_of s (with_bit i w) ≡ window 63 s (w / 2 + 2 ^ i) = places_of-odd s (with_bit i w) (with_bit-odd i w o) ∙ ap (λ (r : ℕ). window 63 s r) half in
    let now : places (front ++ with_bit i w ∷ []) ≡ places front ++ window 63 s (w / 2 + 2 ^ i) = places-push 0 front (with_bit i w) ∙ ap (λ (r : List ℕ). places front ++ r) (rw n more) in
    record {
      each = rw (before, now) (IsPermutation-trans _ _ _ (IsPermutation-sym _ _ (IsPermutation-middle (places front) p (window 63 s (w / 2)))) (IsPermutation-append_right (places front) (p ∷ window 63 s (w / 2)) (window 63 s (w / 2 + 2 ^ i)) (rw h.is (window-adds 63 i s (w / 2) h.below free))));
      last = λ a.
          let right : All (λ q. q < p) (window 63 s (w / 2)) = All-append-right (λ q. q < p) (places front) (window 63 s (w / 2)) (rw before at a) in
          let e : window 63 s (w / 2 + 2 ^ i) ≡ window 63 s (w / 2) ++ p ∷ [] = last_in s p i w h right in
          rw (before, now, e) (sym (append_assoc (places front) (window 63 s (w / 2)) (p ∷ [])));
    }
  where
    last_in : (s p i w : ℕ) → IsSlot s p i → All (λ q. q < p) (window 63 s (w / 2)) → window 63 s (w / 2 + 2 ^ i) ≡ window 63 s (w / 2) ++ p ∷ []
    last_in s p i w h a =
        let P : ℕ → Type 0 = λ r. All (λ q. q < r) (window 63 s (w / 2)) in
        let b = subst P h.is a in
        rw h.is (window-last 63 i s (w / 2) h.below b)

pub Records-bit : (ws : List ℕ) (s p i : ℕ) → EndsInBitmap s ws → IsSlot s p i → (Contains (places ws) p → ⊥) → Records ws (with_last_bit i ws) p
Records-bit ws s p i e h c =
    let F : List ℕ → Type 0 = λ vs. Records vs (with_last_bit i vs) p in
    let G : List ℕ → Type 0 = λ vs. Contains (places vs) p → ⊥ in
    subst F (sym e.is) (rw with_last_bit-push (Records-grown e.front s p i e.word e.starts e.odd h (subst G e.is c)))

next_of-bitmap : (s : ℕ) (ws : List ℕ) → EndsInBitmap s ws → next_of ws ≡ s + 504
next_of-bitmap s ws e =
    ap (λ (vs : List ℕ). next_of vs) e.is ∙ next-push 0 e.front e.word ∙ next_after-odd (next_of e.front) e.word e.odd ∙ ap (λ (n : ℕ). n + 504) e.starts

-- ---- the three cases

opened : (o : Option ℕ) (r : Run) (ws : List ℕ) (s p : ℕ) (other : Choice) → slot s p ≡ o → next_of ws ≡ s → Records ws (apply_choice other (record { run = r; words = ws })).words p → Records ws (apply_choice (new_bitmap_or s o other) (record { run = r; words = ws })).words p
opened (Some i) r ws s p other e n h = Records-bitmap ws s p i n (is_slot s p i e)
opened None r ws s p other e n h = h

joined_first : (o : Option ℕ) (r : Run) (ws : List ℕ) (s p : ℕ) (other : Choice) → slot s p ≡ o → EndsInBitmap s ws → (Contains (places ws) p → ⊥) → Records ws (apply_choice other (record { run = r; words = ws })).words p → Records ws (apply_choice (last_bit_or o other) (record { run = r; words = ws })).words p
joined_first (Some i) r ws s p other e n c h = Records-bit ws s p i n (is_slot s p i e) c
joined_first None r ws s p other e n c h = h

records_run : (r : Run) (ws : List ℕ) (p : ℕ) → FollowsRun r ws → p % 2 ≡ 0 → (Contains (places ws) p → ⊥) → Records ws (apply_choice (choice r p) (record { run = r; words = ws })).words p
unfolding choice
records_run Closed ws p f h c = Records-address ws p h
records_run (Address a) ws p f h c = opened (slot (a + 8) p) (Address a) ws (a + 8) p (starts p) refl f (Records-address ws p h)
records_run (Bitmap s) ws p f h c =
    joined_first (slot s p) (Bitmap s) ws s p (new_bitmap_or (s + 504) (slot (s + 504) p) (starts p)) refl f c
    (opened (slot (s + 504) p) (Bitmap s) ws (s + 504) p (starts p) refl (next_of-bitmap s ws f) (Records-address ws p h))

pub Records-after : (s : State) (p : ℕ) → Follows s → p % 2 ≡ 0 → (Contains (places s.words) p → ⊥) → Records s.words (after s p).words p
Records-after s p f h c = records_run s.run s.words p f h c

-- ---- the run stands as the words say

Follows-address : (ws : List ℕ) (p : ℕ) → p % 2 ≡ 0 → next_of (ws ++ p ∷ []) ≡ p + 8
Follows-address ws p h = next-push 0 ws p ∙ next_after-even (next_of ws) p h

follows_opens : (o : Option ℕ) (r : Run) (ws : List ℕ) (s p : ℕ) (other : Choice) → next_of ws ≡ s → Follows (apply_choice other (record { run = r; words = ws })) → Follows (apply_choice (new_bitmap_or s o other) (record { run = r; words = ws }))
follows_opens (Some i) r ws s p other n h = record { front = ws; word = bitmap i; is = refl; starts = n; odd = bitmap-odd i }
follows_opens None r ws s p other n h = h

follows_joins : (o : Option ℕ) (ws : List ℕ) (s p : ℕ) (other : Choice) → EndsInBitmap s ws → Follows (apply_choice other (record { run = Bitmap s; words = ws })) → Follows (apply_choice (last_bit_or o other) (record { run = Bitmap s; words = ws }))
follows_joins (Some i) ws s p other e h = record { front = e.front; word = with_bit i e.word; is = ap (λ (vs : List ℕ). with_last_bit i vs) e.is ∙ with_last_bit-push i e.front e.word; starts = e.starts; odd = with_bit-odd i e.word e.odd }
follows_joins None ws s p other e h = h

follows_run : (r : Run) (ws : List ℕ) (p : ℕ) → FollowsRun r ws → p % 2 ≡ 0 → Follows (apply_choice (choice r p) (record { run = r; words = ws }))
unfolding choice
follows_run Closed ws p f h = Follows-address ws p h
follows_run (Address a) ws p f h = follows_opens (slot (a + 8) p) (Address a) ws (a + 8) p (starts p) f (Follows-address ws p h)
follows_run (Bitmap s) ws p f h =
    follows_joins (slot s p) ws s p (new_bitmap_or (s + 504) (slot (s + 504) p) (starts p)) f
    (follows_opens (slot (s + 504) p) (Bitmap s) ws (s + 504) p (starts p) (next_of-bitmap s ws f) (Follows-address ws p h))

pub Follows-after : (s : State) (p : ℕ) → Follows s → p % 2 ≡ 0 → Follows (after s p)
Follows-after s p f h = follows_run s.run s.words p f h
