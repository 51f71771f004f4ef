-- Where the words and the stub of a symbol stand that stands behind others.
use Rattle.wild_slots.proofs.Common.{◌≡◌, ℕ, ◌+◌, ◌*◌, ◌^◌, ◌≤◌, Bool, true, false, List, [], ◌∷◌, length, get_or, Some, None, All, refl, sym, ap, ◌∙◌, subst, arith, Option, if◌then◌else◌, option_to_list, unwrap_or, is_some, and_parts, eqb-true, All-nil, All-flat_map, slots, Group, Resolution, Symbol, Layout, SlotWord, Number, Address, InRelrGot, General, Plt, next, at_places, slot_words, begins_relr_got, got_of, resolved_got, plt_of, slots_address, setting_of, slot, with_items, no_slot, items_at, stub_size, words_in, symbol_share, own_symbols, slots_of, resolved_slots, distance_if_too_far, HasItsFlags, group_symbols, written_symbols, Ascend, place_in, word_places}
use Rattle.wild_types.specs.declared.part.Role.TheVariants as role
use Rattle.wild_plan_rules.specs.declared.slot_places.SlotCursor.{SlotCursor}
use Rattle.wild_slot.specs.declared.slot_parts.WordPart.TheVariants as words
use Rattle.wild_plan_rules.specs.SlotFlags.{second_slot_fits}
use Rattle.wild_plan_rules.specs.SlotPlaces.{is_free_place}
use Rattle.wild_types.proofs.FileLemmas.{All-own}
use Rattle.wild_slots.specs.AscendingPlaces.{stub_places}
use Rattle.wild_slots.proofs.Resolved.{has_resolution}
use Rattle.wild_slots.proofs.OrderLemmas.{IsPlacedAfter}
use Rattle.wild_slots.proofs.BlockWordLemmas.{NotInBlock, FirstAlone, first_alone, none_in_block, begins, only_word}
use Rattle.wild_slots.proofs.PlaceLemmas.{nothing_given, no_block_words, places_follow, all_words}
use Rattle.wild_slots.proofs.AscendLemmas.{Ascend-none, Ascend-one}

-- ---- what holds of each symbol

pub All-group : (l : Layout) (P : Symbol → Type 0) → All P l.symbols → (g : Group) → All P (group_symbols l g)
All-group l P a g = All-flat_map P (own_symbols l) g.files (λ k d lt. All-own P l (get_or g.files k d) a)

pub All-written : (l : Layout) (P : Symbol → Type 0) → All P l.symbols → All P (written_symbols l)
All-written l P a = All-flat_map P (group_symbols l) l.groups (λ k d lt. All-group l P a (get_or l.groups k d))

-- what a symbol without a place has
no_words : (l : Layout) (s : Symbol) → got_of s ≡ None → (slots_of l s).words ≡ []
unfolding slots_of slot
no_words l s g = by_resolution s.resolution g
  where
    by_place : (r : Resolution) (o : Option ℕ) → o ≡ None → (with_items no_slot (items_at (setting_of l) (distance_if_too_far l r) r o)).words ≡ []
    by_place r None e = refl
    by_place r (Some at) e = cc

    by_resolution : (o : Option Resolution) → resolved_got o ≡ None → (resolved_slots l o).words ≡ []
    by_resolution None e = refl
    by_resolution (Some r) e = by_place r r.got_address e

-- ---- its place

pub record IsAt (l : Layout) (s : Symbol) (free : SlotCursor) : Type 0 where
  pub words : (at : ℕ) → got_of s ≡ Some at → slots_address s ≡ (if begins_relr_got (slots_of l s).words then free.block else free.got)
  pub stub : (p : ℕ) → plt_of s ≡ Some p → p ≡ free.stub

pub free_place_is : (free at : ℕ) (o : Option ℕ) → is_free_place free o ≡ true → o ≡ Some at → at ≡ free
free_place_is free at None h e = cc
free_place_is free at (Some a) h e = let i : a ≡ at = cc in sym i ∙ eqb-true a free h

pub IsAt-from : (l : Layout) (front : List Symbol) (s : Symbol) (h : IsPlacedAfter l front s) → IsAt l s h.free
IsAt-from l front s h =
    let p = and_parts (is_free_place (if begins_relr_got (slots_of l s).words then h.free.block else h.free.got) (got_of s)) (is_free_place h.free.stub (plt_of s)) h.next in
    record {
      words = λ at g. ap (λ (o : Option ℕ). unwrap_or o 0) g ∙ free_place_is _ at (got_of s) p.0 g;
      stub = λ q e. free_place_is h.free.stub q (plt_of s) p.1 e;
    }

-- ---- the words of blocks

no_place : (at : ℕ) (w : SlotWord) → NotInBlock w → place_in words.RelrGot at w ≡ None
no_place at (Number n) h = refl
no_place at (Address a) h = refl
no_place at (InRelrGot a) h = absurd h
no_place at (General e) h = refl
no_place at (Plt e) h = refl

pub no_places : (at : ℕ) (ws : List SlotWord) → All NotInBlock ws → at_places (place_in words.RelrGot) at ws ≡ []
no_places at ws h = nothing_given (place_in words.RelrGot) NotInBlock (λ p w n. no_place p w n) at ws h

-- they have one place, the first, where they begin with one
block_begins : (relr : Bool) (at free : ℕ) (ws : List SlotWord) → begins_relr_got ws ≡ true → at ≡ free → FirstAlone ws → at_places (place_in words.RelrGot) at ws ≡ slots free (length (slot_words words.RelrGot relr at ws))
unfolding slots
block_begins relr at free ws t e a =
    let b = begins ws t in
    let P : List SlotWord → Type 0 = λ vs. at_places (place_in words.RelrGot) at vs ≡ slots free (length (slot_words words.RelrGot relr at vs)) in
    let rest = subst FirstAlone b.is a in
    let n = no_places (next at) b.rest rest in
    let m = no_block_words relr (next at) b.rest rest in
    subst P (sym b.is) (rw (n, m, e) refl)

block_none : (relr : Bool) (at free : ℕ) (ws : List SlotWord) → All NotInBlock ws → at_places (place_in words.RelrGot) at ws ≡ slots free (length (slot_words words.RelrGot relr at ws))
unfolding slots
block_none relr at free ws a =
    let n = no_places at ws a in
    let m = no_block_words relr at ws a in
    rw (n, m) refl

none_nil : (ws : List SlotWord) → ws ≡ [] → All NotInBlock ws
none_nil ws e = subst (All NotInBlock) (sym e) (All-nil NotInBlock)

-- the places of a symbol's words of the block: the free ones
pub block_slots : (l : Layout) (s : Symbol) (free : SlotCursor) → IsAt l s free → word_places words.RelrGot l s ≡ slots free.block (length (words_in words.RelrGot l s))
block_slots l s free h = by_place (got_of s) refl
  where
    by_start : (at : ℕ) → got_of s ≡ Some at → (b : Bool) → begins_relr_got (slots_of l s).words ≡ b → word_places words.RelrGot l s ≡ slots free.block (length (words_in words.RelrGot l s))
    by_start at g true t = block_begins l.options.relr (slots_address s) free.block (slots_of l s).words t (rw t at (h.words at g)) (first_alone l s)
    by_start at g false t = block_none l.options.relr (slots_address s) free.block (slots_of l s).words (none_in_block (slots_of l s).words t (first_alone l s))

    by_place : (o : Option ℕ) → got_of s ≡ o → word_places words.RelrGot l s ≡ slots free.block (length (words_in words.RelrGot l s))
    by_place None g = block_none l.options.relr (slots_address s) free.block (slots_of l s).words (none_nil (slots_of l s).words (no_words l s g))
    by_place (Some at) g = by_start at g (begins_relr_got (slots_of l s).words) refl

-- ---- the words of no block

-- what is known of each symbol
pub record IsFit (l : Layout) (s : Symbol) : Type 0 where
  pub flags : HasItsFlags s
  pub second : is_some s.resolution ≡ true → second_slot_fits l s ≡ true

other_none : (l : Layout) (s : Symbol) (free a : ℕ) (ws : List SlotWord) → ws ≡ InRelrGot a ∷ [] → at_places (place_in words.Got) (slots_address s) ws ≡ slots free (length (slot_words words.Got l.options.relr (slots_address s) ws))
unfolding slots
other_none l s free a ws e =
    let P : List SlotWord → Type 0 = λ vs. at_places (place_in words.Got) (slots_address s) vs ≡ slots free (length (slot_words words.Got l.options.relr (slots_address s) vs)) in
    subst P (sym e) refl

others_follow : (relr : Bool) (at free : ℕ) (ws : List SlotWord) → All NotInBlock ws → (1 ≤ length ws → at ≡ free) → free + 8 * length (slot_words words.Got relr at ws) ≤ 2 ^ 64 → at_places (place_in words.Got) at ws ≡ slots free (length (slot_words words.Got relr at ws))
unfolding slots
others_follow relr at free [] a e h = refl
others_follow relr at free (w ∷ ws) a e h =
    let n = all_words relr at (w ∷ ws) a in
    let i = e (omega arith) in
    let P : ℕ → Type 0 = λ (k : ℕ). at_places (place_in words.Got) at (w ∷ ws) ≡ slots free k in
    let Q : ℕ → Type 0 = λ (p : ℕ). at_places (place_in words.Got) at (w ∷ ws) ≡ slots p (length (w ∷ ws)) in
    subst P (sym n) (subst Q i (places_follow at (w ∷ ws) a (omega (arith, n, i, h))))

-- the places of a symbol's other words: the free ones
pub other_slots : (l : Layout) (s : Symbol) (free : SlotCursor) → IsFit l s → IsAt l s free → free.got + 8 * length (words_in words.Got l s) ≤ 2 ^ 64 → word_places words.Got l s ≡ slots free.got (length (words_in words.Got l s))
other_slots l s free fit h low = by_place (got_of s) refl
  where
    by_start : (at : ℕ) → got_of s ≡ Some at → (b : Bool) → begins_relr_got (slots_of l s).words ≡ b → word_places words.Got l s ≡ slots free.got (length (words_in words.Got l s))
    by_start at g true t =
        let b = begins (slots_of l s).words t in
        let rest = only_word l s at b.value b.rest fit.flags (fit.second (has_resolution s at g)) g b.is in
        other_none l s free.got b.value (slots_of l s).words (b.is ∙ ap (λ (ws : List SlotWord). InRelrGot b.value ∷ ws) rest)
    by_start at g false t = others_follow l.options.relr (slots_address s) free.got (slots_of l s).words (none_in_block (slots_of l s).words t (first_alone l s)) (λ some. rw t at (h.words at g)) low

    by_place : (o : Option ℕ) → got_of s ≡ o → word_places words.Got l s ≡ slots free.got (length (words_in words.Got l s))
    by_place None g =
        let none = no_words l s g in
        others_follow l.options.relr (slots_address s) free.got (slots_of l s).words (none_nil (slots_of l s).words none) (λ some. let n = ap (λ (ws : List SlotWord). length ws) none in absurd (omega (arith, n, some))) low
    by_place (Some at) g = by_start at g (begins_relr_got (slots_of l s).words) refl

-- ---- stubs

stub_ascends : (b : Bool) (o : Option ℕ) (free : ℕ) → ((p : ℕ) → o ≡ Some p → p ≡ free) → Ascend stub_size free (free + (if b then stub_size else 0)) (if b then option_to_list o else [])
stub_ascends false o free h = Ascend-none stub_size free (free + 0)
stub_ascends true None free h = Ascend-none stub_size free (free + stub_size)
stub_ascends true (Some p) free h =
    let P : ℕ → Type 0 = λ (q : ℕ). Ascend stub_size free (free + stub_size) (q ∷ []) in
    subst P (sym (h p refl)) (Ascend-one stub_size free (free + stub_size) (omega arith))

pub stub_place : (l : Layout) (s : Symbol) (free : SlotCursor) → IsAt l s free → Ascend stub_size free.stub (free.stub + symbol_share l role.PltGot s) (stub_places l s)
stub_place l s free h = stub_ascends (slots_of l s).has_stub (plt_of s) free.stub h.stub
