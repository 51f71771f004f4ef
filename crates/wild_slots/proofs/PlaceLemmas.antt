-- The words of slots by their places and parts.
use Rattle.wild_slots.proofs.Common.{◌≡◌, ℕ, zero, suc, ◌+◌, ◌*◌, ◌%◌, ◌^◌, ◌<◌, ◌≤◌, Bool, List, [], ◌∷◌, length, get_or, Some, None, All, refl, sym, ap, ◌∙◌, arith, slice_get, Option, option_to_list, length-append, All-head, All-tail, slots, SlotWord, Number, Address, InRelrGot, General, Plt, next, at_places, word_of, slot_words, place_in}
use Rattle.wild_slot.specs.declared.slot_parts.WordPart.{WordPart}
use Rattle.wild_slot.specs.declared.slot_parts.WordPart.TheVariants as words
use Rattle.wild_slots.proofs.BlockWordLemmas.{NotInBlock}

-- words that give nothing
pub nothing_given : {X : Type 0} (f : ℕ → SlotWord → Option X) (P : SlotWord → Type 0) → ((at : ℕ) (w : SlotWord) → P w → f at w ≡ None) → (at : ℕ) (ws : List SlotWord) → All P ws → at_places f at ws ≡ []
nothing_given f P none at [] a = refl
nothing_given f P none at (w ∷ ws) a =
    let e = none at w (All-head P w ws a) in
    rw e (nothing_given f P none (next at) ws (All-tail P w ws a))

block_of_none : (relr : Bool) (at : ℕ) (w : SlotWord) → NotInBlock w → word_of words.RelrGot relr at w ≡ None
block_of_none relr at (Number n) h = refl
block_of_none relr at (Address a) h = refl
block_of_none relr at (InRelrGot a) h = absurd h
block_of_none relr at (General e) h = refl
block_of_none relr at (Plt e) h = refl

-- no word of the block among others
pub no_block_words : (relr : Bool) (at : ℕ) (ws : List SlotWord) → All NotInBlock ws → slot_words words.RelrGot relr at ws ≡ []
no_block_words relr at ws a = nothing_given (word_of words.RelrGot relr) NotInBlock (λ p w h. block_of_none relr p w h) at ws a

-- ---- as many places as words

same_count : (part : WordPart) (relr : Bool) (at : ℕ) (w : SlotWord) → length (option_to_list (place_in part at w)) ≡ length (option_to_list (word_of part relr at w))
same_count words.Got relr at (Number n) = refl
same_count words.Got relr at (Address a) = refl
same_count words.Got relr at (InRelrGot a) = refl
same_count words.Got relr at (General e) = refl
same_count words.Got relr at (Plt e) = refl
same_count words.RelrGot relr at (Number n) = refl
same_count words.RelrGot relr at (Address a) = refl
same_count words.RelrGot relr at (InRelrGot a) = refl
same_count words.RelrGot relr at (General e) = refl
same_count words.RelrGot relr at (Plt e) = refl

pub length-places : (part : WordPart) (relr : Bool) (at : ℕ) (ws : List SlotWord) → length (at_places (place_in part) at ws) ≡ length (slot_words part relr at ws)
length-places part relr at [] = refl
length-places part relr at (w ∷ ws) =
    let a = length-append (option_to_list (place_in part at w)) (at_places (place_in part) (next at) ws) in
    let b = length-append (option_to_list (word_of part relr at w)) (slot_words part relr (next at) ws) in
    let c = same_count part relr at w in
    let d = length-places part relr (next at) ws in
    omega (arith, a, b, c, d)

-- ---- places of words that are of no block

place_is : (at : ℕ) (w : SlotWord) → NotInBlock w → place_in words.Got at w ≡ Some at
place_is at (Number n) h = refl
place_is at (Address a) h = refl
place_is at (InRelrGot a) h = absurd h
place_is at (General e) h = refl
place_is at (Plt e) h = refl

next_is : (at n : ℕ) → at + 8 * suc (suc n) ≤ 2 ^ 64 → next at ≡ at + 8
next_is at n h = omega (arith, h)

-- they follow each other
pub places_follow : (at : ℕ) (ws : List SlotWord) → All NotInBlock ws → at + 8 * length ws ≤ 2 ^ 64 → at_places (place_in words.Got) at ws ≡ slots at (length ws)
unfolding slots
places_follow at [] a h = refl
places_follow at (w ∷ []) a h = let e = place_is at w (All-head NotInBlock w [] a) in rw e refl
places_follow at (w ∷ v ∷ ws) a h =
    let e = place_is at w (All-head NotInBlock w (v ∷ ws) a) in
    let n = next_is at (length ws) h in
    rw (e, n) (ap (λ (ps : List ℕ). at ∷ ps) (places_follow (at + 8) (v ∷ ws) (All-tail NotInBlock w (v ∷ ws) a) (omega (arith, h))))

-- as many words as there are
pub all_words : (relr : Bool) (at : ℕ) (ws : List SlotWord) → All NotInBlock ws → length (slot_words words.Got relr at ws) ≡ length ws
all_words relr at [] a = refl
all_words relr at (w ∷ ws) a =
    let n = length-append (option_to_list (word_of words.Got relr at w)) (slot_words words.Got relr (next at) ws) in
    let one = same_count words.Got relr at w in
    let e = ap (λ (o : Option ℕ). length (option_to_list o)) (place_is at w (All-head NotInBlock w ws a)) in
    let rest = all_words relr (next at) ws (All-tail NotInBlock w ws a) in
    omega (arith, n, one, e, rest)

-- ---- a word by its number

-- what the file has for a word goes by whether its place is even alone
value_at : (relr : Bool) (p q : ℕ) (w : SlotWord) → p % 2 ≡ q % 2 → word_of words.Got relr p w ≡ word_of words.Got relr q w
value_at relr p q (Number n) e = refl
value_at relr p q (Address a) e = rw e refl
value_at relr p q (InRelrGot a) e = refl
value_at relr p q (General g) e = refl
value_at relr p q (Plt g) e = refl

-- word k of words that are of no block
pub record WordAt (relr : Bool) (at k : ℕ) (ws : List SlotWord) (w : SlotWord) : Type 0 where
  pub value : ℕ
  pub is : word_of words.Got relr (at + 8 * k) w ≡ Some value
  pub within : k < length (slot_words words.Got relr at ws)
  pub there : (d : ℕ) → get_or (slot_words words.Got relr at ws) k d ≡ value

pub record Valued (relr : Bool) (at : ℕ) (w : SlotWord) : Type 0 where
  pub value : ℕ
  pub is : word_of words.Got relr at w ≡ Some value

valued : (relr : Bool) (at : ℕ) (w : SlotWord) → NotInBlock w → Valued relr at w
valued relr at (Number n) h = record { value = n; is = refl }
valued relr at (Address a) h = record { value = _; is = refl }
valued relr at (InRelrGot a) h = absurd h
valued relr at (General e) h = record { value = 0; is = refl }
valued relr at (Plt e) h = record { value = 0; is = refl }

pub word_at : (relr : Bool) (at k : ℕ) (ws : List SlotWord) (w : SlotWord) → All NotInBlock ws → slice_get ws k ≡ Some w → WordAt relr at k ws w
word_at relr at k [] w a h = cc
word_at relr at zero (v ∷ ws) w a h =
    let e : v ≡ w = cc in
    let x = valued relr at v (All-head NotInBlock v ws a) in
    let z : at + 8 * 0 ≡ at = omega arith in
    let i = x.is in
    record {
      value = x.value;
      is = rw (z, ← e) i;
      within = rw i (omega arith);
      there = λ d. rw i refl;
    }
word_at relr at (suc k) (v ∷ ws) w a h =
    let r = word_at relr (next at) k ws w (All-tail NotInBlock v ws a) h in
    let x = valued relr at v (All-head NotInBlock v ws a) in
    let i = x.is in
    let p : (next at + 8 * k) % 2 ≡ (at + 8 * suc k) % 2 = omega arith in
    record {
      value = r.value;
      is = sym (value_at relr (next at + 8 * k) (at + 8 * suc k) w p) ∙ r.is;
      within = let b = r.within in rw i (omega (arith, b));
      there = λ d. rw i (r.there d);
    }
