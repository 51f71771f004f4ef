-- What holds of the words of a symbol; slots of outputs at their own addresses.
use Rattle.wild_slots.proofs.Common.{◌≡◌, ℕ, inl, inr, Bool, false, List, [], ◌∷◌, get_or, Some, None, All, refl, sym, subst, Option, flat_map, All-nil, All-cons, All-head, All-tail, All-weaker, File, Resolution, Symbol, Layout, Setting, SlotWord, Number, Address, InRelrGot, General, Plt, is_position_independent, word_of, setting_of, slot, distance_if_too_far, own_symbols, slots_of, resolved_slots, words_in}
use Rattle.wild_types.specs.declared.kind.Machine.{Machine}
use Rattle.wild_slot.specs.declared.slot_parts.WordPart.TheVariants as words
use Rattle.wild_slot.specs.declared.slot_parts.EntryPart.TheVariants as entries
use Rattle.wild_slot.specs.SlotParts.{entry_of, relr_slot_place}
use Rattle.wild_needs.specs.SlotShares.{relr_got_place, relr_got_places, group_relr_got}
use Rattle.wild_layout.specs.SlotBytes.{symbol_entries, relr_slots_in, slot_words_of, slot_entries_of, flat_places_of}
use Rattle.wild_slots.specs.Entries.{MovesNothing}
use Rattle.wild_slots.proofs.SlotLemmas.{IsOther, IsFirst, Shape, shape}
use Rattle.wild_slots.proofs.PlaceLemmas.{nothing_given}

-- what nothing gives, all give nothing
pub none_of : {X Y : Type 0} (f : X → List Y) (xs : List X) → All (λ x. f x ≡ []) xs → flat_map f xs ≡ []
none_of f [] a = refl
none_of f (x ∷ xs) a =
    let e = All-head (λ y. f y ≡ []) x xs a in
    rw e (none_of f xs (All-tail (λ y. f y ≡ []) x xs a))

-- what holds of the words of each shape holds of the words
of_shape : (P : SlotWord → Type 0) (s : Setting) (far : Option ℕ) (r : Resolution) (ws : List SlotWord) → ((w : SlotWord) → IsOther s r w → P w) → ((w : SlotWord) → IsFirst s r w → P w) → Shape s far r ws → All P ws
of_shape P s far r ws other first (inl a) = All-weaker (IsOther s r) P other ws a
of_shape P s far r ws other first (inr led) =
    subst (All P) (sym led.is) (All-cons P led.first led.rest (first led.first led.leads) (All-weaker (IsOther s r) P other led.rest led.others))

pub of_words : (P : SlotWord → Type 0) (l : Layout) (s : Symbol) → ((r : Resolution) → s.resolution ≡ Some r → (w : SlotWord) → IsOther (setting_of l) r w → P w) → ((r : Resolution) → s.resolution ≡ Some r → (w : SlotWord) → IsFirst (setting_of l) r w → P w) → All P (slots_of l s).words
unfolding slots_of
of_words P l s other first = by_resolution s.resolution refl
  where
    by_resolution : (o : Option Resolution) → s.resolution ≡ o → All P (resolved_slots l o).words
    by_resolution None e = All-nil P
    by_resolution (Some r) e = of_shape P (setting_of l) (distance_if_too_far l r) r (slot (setting_of l) (distance_if_too_far l r) r).words (other r e) (first r e) (shape (setting_of l) (distance_if_too_far l r) r)

-- ---- outputs at their own addresses

-- the word has no address that moves
abbrev pub Stays : SlotWord → Type 0
Stays (Address a) = ⊥
Stays (InRelrGot a) = ⊥
Stays other = Unit {0}

stays_other : (s : Setting) (r : Resolution) → is_position_independent s.kind ≡ false → (w : SlotWord) → IsOther s r w → Stays w
stays_other s r f (Number n) h = tt
stays_other s r f (Address a) h = cc
stays_other s r f (InRelrGot a) h = h
stays_other s r f (General e) h = tt
stays_other s r f (Plt e) h = tt

stays_first : (s : Setting) (r : Resolution) → is_position_independent s.kind ≡ false → (w : SlotWord) → IsFirst s r w → Stays w
stays_first s r f (Number n) h = tt
stays_first s r f (Address a) h = cc
stays_first s r f (InRelrGot a) h = cc
stays_first s r f (General e) h = tt
stays_first s r f (Plt e) h = tt

all_stay : (l : Layout) → is_position_independent l.kind ≡ false → (s : Symbol) → All Stays (slots_of l s).words
all_stay l f s = of_words Stays l s (λ r e w h. stays_other (setting_of l) r f w h) (λ r e w h. stays_first (setting_of l) r f w h)

no_relative : (m : Machine) (relr : Bool) (at : ℕ) (w : SlotWord) → Stays w → entry_of entries.Relative m relr at w ≡ None
no_relative m relr at (Number n) h = refl
no_relative m relr at (Address a) h = absurd h
no_relative m relr at (InRelrGot a) h = absurd h
no_relative m relr at (General e) h = refl
no_relative m relr at (Plt e) h = refl

no_flat : (relr : Bool) (at : ℕ) (w : SlotWord) → Stays w → relr_slot_place relr at w ≡ None
no_flat relr at (Number n) h = refl
no_flat relr at (Address a) h = absurd h
no_flat relr at (InRelrGot a) h = absurd h
no_flat relr at (General e) h = refl
no_flat relr at (Plt e) h = refl

no_block : (relr : Bool) (at : ℕ) (w : SlotWord) → Stays w → word_of words.RelrGot relr at w ≡ None
no_block relr at (Number n) h = refl
no_block relr at (Address a) h = absurd h
no_block relr at (InRelrGot a) h = absurd h
no_block relr at (General e) h = refl
no_block relr at (Plt e) h = refl

no_place : (at : ℕ) (w : SlotWord) → Stays w → relr_got_place at w ≡ None
no_place at (Number n) h = refl
no_place at (Address a) h = absurd h
no_place at (InRelrGot a) h = absurd h
no_place at (General e) h = refl
no_place at (Plt e) h = refl

pub moves_nothing : (l : Layout) → is_position_independent l.kind ≡ false → MovesNothing l
unfolding slot_entries_of flat_places_of slot_words_of group_relr_got
moves_nothing l f = record {
  relative = λ d. none_of (symbol_entries entries.Relative l) (own_symbols l d) (λ k s lt. nothing_given (entry_of entries.Relative l.machine l.options.relr) Stays (λ p w h. no_relative l.machine l.options.relr p w h) _ _ (all_stay l f _));
  flat = λ d. none_of (relr_slots_in l) (own_symbols l d) (λ k s lt. nothing_given (relr_slot_place l.options.relr) Stays (λ p w h. no_flat l.options.relr p w h) _ _ (all_stay l f _));
  block = λ d. none_of (words_in words.RelrGot l) (own_symbols l d) (λ k s lt. nothing_given (word_of words.RelrGot l.options.relr) Stays (λ p w h. no_block l.options.relr p w h) _ _ (all_stay l f _));
  groups = λ g. none_of (λ (d : File). flat_map (relr_got_places l) (own_symbols l d)) g.files (λ j e m. none_of (relr_got_places l) (own_symbols l (get_or g.files j e)) (λ k s lt. nothing_given relr_got_place Stays (λ p w h. no_place p w h) _ _ (all_stay l f _)));
}
