-- Each word of a symbol stands at its own address.
use Rattle.wild_slots.proofs.Common.{◌≡◌, ℕ, zero, suc, ◌+◌, ◌*◌, Bool, true, false, List, [], ◌∷◌, Some, All, refl, ap, subst, arith, slice_get, Option, unwrap_or, holds_at, word_bytes, Symbol, Layout, SlotWord, Number, Address, InRelrGot, General, Plt, got_of, slots_address, word_of, slot_words, begins_relr_got, slots_of, words_in, HasSlotsInOrder}
use Rattle.std.proofs.lemmas.Option.{same_Some}
use Rattle.wild_words.specs.Words.{word, HasBytesAt}
use Rattle.wild_words.proofs.RecordLemmas.{HasBytesAt-left}
use Rattle.wild_relr.proofs.SpellLemmas.{HasBytesAt-word}
use Rattle.wild_types.specs.declared.part.Role.TheVariants as role
use Rattle.wild_slot.specs.declared.slot_parts.WordPart.TheVariants as words
use Rattle.wild_slots.specs.SlotPlaces.{IsLocatedAt, WordsArePlaced, WordIsPlaced}
use Rattle.wild_slots.proofs.BlockWordLemmas.{NotInBlock, first_alone, none_in_block}
use Rattle.wild_slots.proofs.PlaceLemmas.{word_at}
use Rattle.wild_slots.proofs.StandLemmas.{IsLocatedAt-inner, stands, only}

-- ---- a word of several

-- a word of no block
part_is : (l : Layout) (at : ℕ) (w : SlotWord) (value : ℕ) → NotInBlock w → word_of words.Got l.options.relr at w ≡ Some value → IsLocatedAt l role.Got at (word 8 value) → WordIsPlaced l at w
part_is l at (Number n) value h e s = record { value = value; is = e; stands = s }
part_is l at (Address a) value h e s = record { value = value; is = e; stands = s }
part_is l at (InRelrGot a) value h e s = absurd h
part_is l at (General g) value h e s = record { value = value; is = e; stands = s }
part_is l at (Plt g) value h e s = record { value = value; is = e; stands = s }

other_word : (l : Layout) (at k : ℕ) (s : Symbol) (w : SlotWord) → got_of s ≡ Some at → All NotInBlock (slots_of l s).words → IsLocatedAt l role.Got at (word_bytes (words_in words.Got l s)) → slice_get (slots_of l s).words k ≡ Some w → WordIsPlaced l (at + 8 * k) w
other_word l at k s w g a t e =
    let from : slots_address s ≡ at = ap (λ (o : Option ℕ). unwrap_or o 0) g in
    let x = word_at l.options.relr (slots_address s) k (slots_of l s).words w a e in
    let here = HasBytesAt-word (words_in words.Got l s) k 0 x.within in
    let P : ℕ → Type 0 = λ (v : ℕ). HasBytesAt (word_bytes (words_in words.Got l s)) (8 * k) (word 8 v) in
    let Q : ℕ → Type 0 = λ (p : ℕ). word_of words.Got l.options.relr (p + 8 * k) w ≡ Some x.value in
    part_is l (at + 8 * k) w x.value (holds_at NotInBlock (slots_of l s).words k w e a) (subst Q from x.is)
    (IsLocatedAt-inner l role.Got at (at + 8 * k) (8 * k) (word_bytes (words_in words.Got l s)) (word 8 x.value) t refl (subst P (x.there 0) here))

-- a word of the block
block_word : (l : Layout) (at a k : ℕ) (s : Symbol) (w : SlotWord) (ws : List SlotWord) → ws ≡ InRelrGot a ∷ [] → IsLocatedAt l role.GotRelr at (word_bytes (slot_words words.RelrGot l.options.relr (slots_address s) ws)) → slice_get ws k ≡ Some w → WordIsPlaced l (at + 8 * k) w
block_word l at a k s w ws is t e =
    let P : List SlotWord → Type 0 = λ vs. IsLocatedAt l role.GotRelr at (word_bytes (slot_words words.RelrGot l.options.relr (slots_address s) vs)) in
    at_place k w (subst (λ (vs : List SlotWord). slice_get vs k ≡ Some w) is e) (subst P is t)
  where
    at_place : (j : ℕ) (v : SlotWord) → slice_get (InRelrGot a ∷ []) j ≡ Some v → IsLocatedAt l role.GotRelr at (word_bytes (a ∷ [])) → WordIsPlaced l (at + 8 * j) v
    at_place (suc j) v i u = cc
    at_place zero v i u =
        let q : InRelrGot a ≡ v = same_Some (InRelrGot a) v i in
        let z : at ≡ at + 8 * 0 = omega arith in
        let first = HasBytesAt-left (word 8 a) (word_bytes []) in
        subst (WordIsPlaced l (at + 8 * 0)) q (record { value = a; is = refl; stands = IsLocatedAt-inner l role.GotRelr at (at + 8 * 0) 0 (word_bytes (a ∷ [])) (word 8 a) u (omega arith) first })

pub each_word : (l : Layout) → HasSlotsInOrder l → (i at k : ℕ) (s : Symbol) (w : SlotWord) → slice_get l.symbols i ≡ Some s → got_of s ≡ Some at → slice_get (slots_of l s).words k ≡ Some w → WordIsPlaced l (at + 8 * k) w
each_word l h i at k s w e g m = by_start (begins_relr_got (slots_of l s).words) refl (stands l h i at s e g).words
  where
    by_start : (b : Bool) → begins_relr_got (slots_of l s).words ≡ b → WordsArePlaced l s at b → WordIsPlaced l (at + 8 * k) w
    by_start true t ws =
        let o = only l h i at s e g t in
        block_word l at o.value k s w (slots_of l s).words o.is ws.0 m
    by_start false t ws = other_word l at k s w g (none_in_block (slots_of l s).words t (first_alone l s)) ws.0 m
