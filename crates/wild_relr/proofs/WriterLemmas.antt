-- Laws of words in bytes.
use Rattle.std.proofs.Common.{◌≡◌, ◌≢◌, ℕ, zero, suc, ◌+◌, ◌-◌, ◌*◌, ◌/◌, ◌%◌, ◌^◌, ◌<◌, ◌≤◌, Option, Some, None, ◌⊎◌, inl, inr, List, [], ◌∷◌, ◌++◌, refl, sym, ap, ◌∙◌, arith, subst, length, take, drop, get_or, slice_range}
use Rattle.std.specs.Prelude.{Contains, bit_or, bit_and, min}
use Rattle.std.specs.Int.Bits.{or_add_and}
use Rattle.std.proofs.lemmas.Nat.Bits.{and_pow, ones_shr}
use Rattle.std.proofs.lemmas.Bool.{cases_lt}
use Rattle.std.proofs.lemmas.List.{append_assoc, append-nil, length-append, length-take, length-drop, get_or-take, get_or-drop, ext_get_or}
use Rattle.std.proofs.Math.Nat.{pow-suc}
use Rattle.std.proofs.Math.Pow.{pow_mono}
use Rattle.wild_words.specs.Words.{word, number, place}
use Rattle.wild_words.proofs.WordLemmas.{length-word}
use Rattle.wild_words.proofs.OverlayLemmas.{length-place, place-below, place-above, HasBytesAt-place}
use Rattle.wild_words.proofs.RecordLemmas.{number-stands}
use Rattle.wild_words.proofs.OrderLemmas.{number_kept}
use Rattle.wild_relr.specs.declared.run.Run.{Run}
use Rattle.wild_relr.specs.declared.run.Run.TheVariants.{Closed, Address, Bitmap}
use Rattle.wild_relr.specs.declared.run.Choice.{Choice}
use Rattle.wild_relr.specs.declared.run.Choice.TheVariants.{Joins, Adds}
use Rattle.wild_relr.specs.Encoding.{slot, with_bit, with_last_bit, choice, starts, new_bitmap_or, after, State, Follows, Records, EachPlaceIsRecorded}
use Rattle.wild_relr.specs.Places.{places}
use Rattle.wild_relr.specs.RunWords.{bitmaps, bitmap_count, block, after_block, after_relr_slot, slots, BlocksHoldTheirSlots}
use Rattle.wild_relr.proofs.BlockLemmas.{block_is, length-block, block-no_base, block-no_slots}
use Rattle.wild_relr.proofs.PackedLemmas.{length-with_last_bit}
use Rattle.wild_relr.proofs.PackingLemmas.{with_last_bit-push}
use Rattle.wild_relr.specs.declared.writer.RelrWriter.{RelrWriter}
use Rattle.wild_relr.specs.WriterState.{words_in, state, HasLast}

-- ---- bits

pub bit_small : (i : ℕ) → i < 63 → 2 * 2 ^ i ≤ 2 ^ 63
bit_small i l =
    let m : i ≤ 62 = omega arith in
    let p : 2 ^ i ≤ 2 ^ 62 = pow_mono m in
    omega arith

pub bit_fits : (i : ℕ) → i < 63 → 2 * 2 ^ i % 2 ^ 64 ≡ 2 * 2 ^ i
bit_fits i l = let p = bit_small i l in omega arith

pub bit_set : (i w : ℕ) → bit_or w (2 * 2 ^ i) ≡ with_bit i w
unfolding with_bit
bit_set i w =
    let p = pow-suc 2 i in
    let twice : 2 ^ suc i ≡ 2 * 2 ^ i = omega (arith, p) in
    let sum = rw twice at (or_add_and w (2 ^ suc i)) in
    let both = rw twice at (and_pow w (suc i)) in
    elim (cases_lt (w / (2 * 2 ^ i) % 2) 1) [
      | inl low ↦
          (let z : w / (2 * 2 ^ i) % 2 ≡ 0 = omega arith in
          let none : bit_and w (2 * 2 ^ i) ≡ 0 = both ∙ rw z (let q : 0 * (2 * 2 ^ i) ≡ 0 = omega arith in q) in
          rw z (let r : bit_or w (2 * 2 ^ i) ≡ w + 2 * 2 ^ i = omega arith in r))
      | inr high ↦
          (let z : w / (2 * 2 ^ i) % 2 ≡ 1 = omega arith in
          let one : bit_and w (2 * 2 ^ i) ≡ 2 * 2 ^ i = both ∙ rw z (let q : 1 * (2 * 2 ^ i) ≡ 2 * 2 ^ i = omega arith in q) in
          rw z (let r : bit_or w (2 * 2 ^ i) ≡ w = omega arith in r))
    ]

-- ---- words in bytes

pub words_in_kept : (n : ℕ) (bs part : List ℕ) (at : ℕ) → 8 * n ≤ at → at + length part ≤ length bs → words_in (place at part bs) n ≡ words_in bs n
unfolding words_in
words_in_kept zero bs part at h l = refl
words_in_kept (suc n) bs part at h l =
    let e = number_kept bs part at (8 * n) 8 (omega arith) l in
    let r = words_in_kept n bs part at (omega arith) l in
    rw (e, r) refl

pub words_in_next : (bs : List ℕ) (n x : ℕ) → x < 2 ^ 64 → 8 * n + 8 ≤ length bs → words_in (place (8 * n) (word 8 x) bs) (suc n) ≡ words_in bs n ++ x ∷ []
unfolding words_in
words_in_next bs n x h l =
    let w = length-word 8 x in
    let f : 8 * n + length (word 8 x) ≤ length bs = omega arith in
    let small : x < 256 ^ 8 = h in
    let e = number-stands (place (8 * n) (word 8 x) bs) (8 * n) 8 x (HasBytesAt-place (8 * n) bs (word 8 x) f) small in
    let r = words_in_kept n bs (word 8 x) (8 * n) (omega arith) f in
    rw (e, r) refl

pub words_in_more : (bs : List ℕ) (n x m : ℕ) → m ≡ n + 1 → x < 2 ^ 64 → 8 * n + 8 ≤ length bs → words_in (place (8 * n) (word 8 x) bs) m ≡ words_in bs n ++ x ∷ []
words_in_more bs n x m e h l =
    let s : m ≡ suc n = omega arith in
    rw s (words_in_next bs n x h l)

words_in_split : (bs : List ℕ) (n : ℕ) → words_in bs (suc n) ≡ words_in bs n ++ number (slice_range bs (8 * n) (8 * n + 8)) ∷ []
unfolding words_in
words_in_split bs n = refl

pub words_in_joined : (bs : List ℕ) (n i at w : ℕ) → at ≡ 8 * (n - 1) → 0 < n → 8 * n ≤ length bs → w ≡ with_bit i (number (slice_range bs at (at + 8))) → w < 2 ^ 64 → words_in (place at (word 8 w) bs) n ≡ with_last_bit i (words_in bs n)
words_in_joined bs zero i at w e z l s h = absurd (omega arith)
words_in_joined bs (suc n) i at w e z l s h =
    let a : at ≡ 8 * n = omega arith in
    let t : w ≡ with_bit i (number (slice_range bs (8 * n) (8 * n + 8))) = rw (← a) s in
    rw a (words_in_next bs n w h (omega arith) ∙ sym (rw words_in_split (with_last_bit-push i (words_in bs n) (number (slice_range bs (8 * n) (8 * n + 8))) ∙ ap (λ (v : ℕ). words_in bs n ++ v ∷ []) (sym t))))

pub full_shift : (k c : ℕ) → c ≡ 63 - min k 63 → (2 ^ 64 - 1) / 2 ^ c ≡ 2 * 2 ^ min k 63 - 1
full_shift k c e =
    let l : c ≤ 64 = omega arith in
    let h = ones_shr 64 c l in
    let s : 64 - c ≡ suc (min k 63) = omega arith in
    let p = pow-suc 2 (min k 63) in
    let q : 2 ^ suc (min k 63) ≡ 2 * 2 ^ min k 63 = omega (arith, p) in
    h ∙ rw (s, q) refl

pub bitmaps_step : (n i k : ℕ) → i < n → bitmaps (n - i) k ≡ (2 * 2 ^ min k 63 - 1) ∷ bitmaps (n - (i + 1)) (k - 63)
unfolding bitmaps
bitmaps_step n i k l =
    let e : n - i ≡ suc (n - (i + 1)) = omega arith in
    rw e refl

pub length_words_in : (bs : List ℕ) (n : ℕ) → length (words_in bs n) ≡ n
unfolding words_in
length_words_in bs zero = refl
length_words_in bs (suc n) = length-append (words_in bs n) _ ∙ (let e = length_words_in bs n in omega arith)

bitmaps_none : (n k : ℕ) → n ≡ 0 → bitmaps n k ≡ []
unfolding bitmaps
bitmaps_none n k e = rw e refl

pub bitmaps_done : (out all : List ℕ) (count i n k : ℕ) → i ≡ n → words_in out (count + i) ++ bitmaps (n - i) k ≡ all → words_in out (count + n) ≡ all
bitmaps_done out all count i n k e h =
    let z : n - i ≡ 0 = omega arith in
    let none = bitmaps_none (n - i) k z in
    let g = rw (none, append-nil) at h in
    rw (← e) g

pub bitmaps_more : (new out all : List ℕ) (count i n k v : ℕ) → i < n → words_in new (count + i + 1) ≡ words_in out (count + i) ++ v ∷ [] → v ≡ 2 * 2 ^ min k 63 - 1 → words_in out (count + i) ++ bitmaps (n - i) k ≡ all → words_in new (count + (i + 1)) ++ bitmaps (n - (i + 1)) (k - 63) ≡ all
bitmaps_more new out all count i n k v l a e h =
    let z : count + (i + 1) ≡ count + i + 1 = omega arith in
    let s = bitmaps_step n i k l in
    let x : words_in out (count + i) ++ (v ∷ bitmaps (n - (i + 1)) (k - 63)) ≡ all = rw e (rw s at h) in
    rw (z, a, append_assoc) x

no_join : (o : Option ℕ) (s i : ℕ) (other : Choice) → new_bitmap_or s o other ≡ Joins i → (other ≡ Joins i → ⊥) → ⊥
no_join (Some j) s i other e h = cc
no_join None s i other e h = h e

pub joins_last : (r : Run) (p i n : ℕ) → choice r p ≡ Joins i → HasLast r n → 0 < n
unfolding choice
joins_last Closed p i n e h = cc
joins_last (Address a) p i n e h = absurd (no_join (slot (a + 8) p) (a + 8) i (starts p) e (λ x. cc))
joins_last (Bitmap s) p i n e h = h

pub length_joins : (bs : List ℕ) (r : RelrWriter) (p i : ℕ) → Joins i ≡ choice r.run p → length (after (state bs r) p).words ≡ r.count
length_joins bs r p i e = rw (← e) (length-with_last_bit i (words_in bs r.count) ∙ length_words_in bs r.count)

pub length_adds : (bs : List ℕ) (r : RelrWriter) (p w : ℕ) (q : Run) → Adds w q ≡ choice r.run p → length (after (state bs r) p).words ≡ r.count + 1
length_adds bs r p w q e = rw (← e) (length-append (words_in bs r.count) (w ∷ []) ∙ ap (λ (n : ℕ). n + 1) (length_words_in bs r.count))

-- ---- blocks

pub block_stands : (a b c : List ℕ) (n base k w : ℕ) → 0 < base → 0 < k → w ≡ bitmap_count (k - 1) → words_in b (n + 1) ≡ words_in a n ++ base ∷ [] → words_in c (n + 1 + w) ≡ words_in b (n + 1) ++ bitmaps w (k - 1) → words_in c (n + 1 + w) ≡ words_in a n ++ block base k
block_stands a b c n base k w z h e x y =
    let q = block_is base k z h in
    y ∙ rw (x, q, ← e) (append_assoc (words_in a n) (base ∷ []) (bitmaps w (k - 1)))

pub length-after_block : (bs : List ℕ) (r : RelrWriter) (base n : ℕ) → length (after_block (state bs r) base n).words ≡ r.count + length (block base n)
length-after_block bs r base n = length-append (words_in bs r.count) (block base n) ∙ ap (λ (k : ℕ). k + length (block base n)) (length_words_in bs r.count)

-- as the code counts
pub block_counted : (base n r : ℕ) → 0 < base → 0 < n → r ≡ bitmap_count (n - 1) → 1 + r ≡ length (block base n)
block_counted base n r z h e = let l = length-block base n z h in omega arith

pub no_block : (base n : ℕ) → (base ≡ 0) ⊎ (n ≡ 0) → 0 ≡ length (block base n)
no_block base n (inl e) = rw (e, block-no_base n) refl
no_block base n (inr e) = rw (e, block-no_slots base) refl

-- what is known of lists, of the state that a call left
pub recorded_as : (s t : State) (p : ℕ) → Follows s → p % 2 ≡ 0 → EachPlaceIsRecorded → t ≡ after s p → (Contains (places s.words) p → ⊥) → Records s.words t.words p
recorded_as s t p f h law e n =
    let P : State → Type 0 = λ u. Records s.words u.words p in
    subst P (sym e) (law s p f h n)

pub flat_recorded : (s t : State) (p : ℕ) → p % 2 ≡ 0 → EachPlaceIsRecorded → t ≡ after_relr_slot s p → (Contains (places s.words) p → ⊥) → Records s.words t.words p
unfolding choice
flat_recorded s t p h law e n =
    let P : State → Type 0 = λ u. Records s.words u.words p in
    subst P (sym e) (law (record { run = Closed; words = s.words }) p tt h n)

pub block_recorded : (s t : State) (base n : ℕ) → base % 2 ≡ 0 → BlocksHoldTheirSlots → t ≡ after_block s base n → base ≢ 0 → places t.words ≡ places s.words ++ slots base n
block_recorded s t base n h law e z = ap (λ (u : State). places u.words) e ∙ law s base n h z

pub length-after_relr_slot : (bs : List ℕ) (r : RelrWriter) (p : ℕ) → length (after_relr_slot (state bs r) p).words ≡ r.count + 1
length-after_relr_slot bs r p = length-append (words_in bs r.count) (p ∷ []) ∙ ap (λ (k : ℕ). k + 1) (length_words_in bs r.count)

pub word_above : (bs : List ℕ) (at x k : ℕ) → at + 8 ≤ length bs → at + 8 ≤ k → get_or (place at (word 8 x) bs) k 0 ≡ get_or bs k 0
word_above bs at x k h l =
    let w = length-word 8 x in
    place-above at k bs (word 8 x) (omega arith) (omega arith)
