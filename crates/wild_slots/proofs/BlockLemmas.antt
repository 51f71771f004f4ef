-- A group's block of slots has no gap.
use Rattle.wild_slots.proofs.Common.{◌≡◌, ◌≢◌, ℕ, zero, suc, ◌+◌, ◌-◌, ◌*◌, ◌%◌, ◌^◌, ◌≤◌, inl, inr, true, List, [], ◌∷◌, ◌++◌, length, min, Some, None, All, Contains, refl, sym, ap, ◌∙◌, subst, arith, Option, not, ◌==◌, unwrap_or, flat_map, cases_Bool, eqb-true, All-nil, All-cons, All-head, All-tail, All-weaker, All-flat_map, slots, Role, Group, Symbol, Layout, SlotWord, Number, Address, InRelrGot, General, Plt, total, next, at_places, got_of, slots_address, own_symbols, slots_of, words_in, symbol_share, start_of, first_free, table_bytes, HasSlotsInOrder, group_symbols, place_in, word_places}
use Rattle.std.proofs.lemmas.Bool.{or_cases, not-true, eqb-false}
use Rattle.wild_words.proofs.ListLemmas.{flat_map-flat_map}
use Rattle.wild_relr.proofs.BlockLemmas.{slots-append}
use Rattle.wild_types.specs.declared.part.Part.{Part}
use Rattle.wild_types.specs.declared.part.Role.TheVariants as role
use Rattle.wild_slot.specs.declared.slot_parts.WordPart.TheVariants as words
use Rattle.wild_types.specs.Parts.{has_role, part_with}
use Rattle.wild_needs.specs.SlotShares.{relr_got_places, group_relr_got, block_of}
use Rattle.wild_plan_rules.specs.SlotPlaces.{address_of_part, is_even_slot, slot_is_even, block_has_base}
use Rattle.wild_types.proofs.ListLemmas.{total-append}
use Rattle.wild_layout.specs.SlotOrder.{SlotsFollow}
use Rattle.wild_slots.specs.Order.{end_of}
use Rattle.wild_slots.specs.Blocks.{IsWhole}
use Rattle.wild_slots.proofs.WalkLemmas.{AllAfter, Piece-from_contains}
use Rattle.wild_slots.proofs.OrderLemmas.{IsPlacedAfter, total-push, AreInOrder-from_test}
use Rattle.wild_slots.proofs.TableLemmas.{block_table}
use Rattle.wild_slots.proofs.BlockWordLemmas.{NotInBlock, FirstAlone, first_alone}
use Rattle.wild_slots.proofs.SymbolPlaces.{All-group, IsAt-from, no_places, block_slots}
use Rattle.wild_slots.proofs.PlacesLemmas.{headless_end}

-- ---- the places of symbols that follow each other

abbrev pub block_count : Layout → Symbol → ℕ
block_count l s = length (words_in words.RelrGot l s)

blocks_follow : (l : Layout) (ss front : List Symbol) (base : ℕ) → base ≡ (first_free l).block + total (symbol_share l role.GotRelr) front → AllAfter (IsPlacedAfter l) front ss → flat_map (word_places words.RelrGot l) ss ≡ slots base (total (block_count l) ss)
unfolding slots
blocks_follow l [] front base e a = refl
blocks_follow l (s ∷ ss) front base e a =
    let n = block_count l s in
    let m = total (block_count l) ss in
    let free = a.0.behind.block in
    let p = total-push (symbol_share l role.GotRelr) front s in
    let i : a.0.free.block ≡ base = omega (arith, e, free) in
    let here = block_slots l s a.0.free (IsAt-from l front s a.0) ∙ ap (λ (b : ℕ). slots b n) i in
    let rest = blocks_follow l ss (front ++ s ∷ []) (base + 8 * n) (omega (arith, e, p)) a.1 in
    ap (λ (ps : List ℕ). ps ++ flat_map (word_places words.RelrGot l) ss) here
    ∙ ap (λ (ps : List ℕ). slots base n ++ ps) rest
    ∙ sym (slots-append base n m)

-- eight bytes each
shares_counted : (l : Layout) (ss : List Symbol) → total (symbol_share l role.GotRelr) ss ≡ 8 * total (block_count l) ss
shares_counted l [] = refl
shares_counted l (s ∷ ss) = let e = shares_counted l ss in omega (arith, e)

-- ---- even places

even_at : (at : ℕ) (ws : List SlotWord) → FirstAlone ws → at % 2 ≡ 0 → All (λ p. p % 2 ≡ 0) (at_places (place_in words.RelrGot) at ws)
even_at at ws a h = by_first ws a
  where
    behind : (vs : List SlotWord) → All NotInBlock vs → All (λ p. p % 2 ≡ 0) (at_places (place_in words.RelrGot) (next at) vs)
    behind vs n = let e = no_places (next at) vs n in rw e (All-nil (λ (p : ℕ). p % 2 ≡ 0))

    by_first : (vs : List SlotWord) → FirstAlone vs → All (λ p. p % 2 ≡ 0) (at_places (place_in words.RelrGot) at vs)
    by_first [] n = All-nil (λ (p : ℕ). p % 2 ≡ 0)
    by_first (InRelrGot v ∷ vs) n = All-cons (λ (p : ℕ). p % 2 ≡ 0) at (at_places (place_in words.RelrGot) (next at) vs) h (behind vs n)
    by_first (Number v ∷ vs) n = behind vs n
    by_first (Address v ∷ vs) n = behind vs n
    by_first (General g ∷ vs) n = behind vs n
    by_first (Plt g ∷ vs) n = behind vs n

even_places : (l : Layout) (s : Symbol) → slot_is_even s ≡ true → All (λ p. p % 2 ≡ 0) (word_places words.RelrGot l s)
even_places l s h = even_at (slots_address s) (slots_of l s).words (first_alone l s) (even (got_of s) h)
  where
    even : (o : Option ℕ) → is_even_slot o ≡ true → unwrap_or o 0 % 2 ≡ 0
    even None e = refl
    even (Some at) e = let m = eqb-true (at % 8) 0 e in omega (arith, m)

-- ---- the base

-- the part of a role is one of the parts, and has the role
found_part : (r : Role) (T : Part → Type 0) (ps : List Part) (p : Part) → part_with r ps ≡ Some p → All T ps → (has_role r p ≡ true) × T p
found_part r T [] p h a = cc
found_part r T (q ∷ ps) p h a =
    elim (cases_Bool (has_role r q)) [
      | inl t ↦ (let e : q ≡ p = cc (rw t at h) in (subst (λ (x : Part). has_role r x ≡ true) e t, subst T e (All-head T q ps a)))
      | inr f ↦ found_part r T ps p (rw f at h) (All-tail T q ps a)
    ]

-- a part of packed slots does not begin at 0
based : (p : Part) → has_role role.GotRelr p ≡ true → block_has_base p ≡ true → p.address ≢ 0
based p r h =
    elim (or_cases (not (has_role role.GotRelr p)) (not (p.address == 0)) h) [
      | inl n ↦ (let f = not-true (has_role role.GotRelr p) n in cc)
      | inr n ↦ eqb-false p.address 0 (not-true (p.address == 0) n)
    ]

start_based : (l : Layout) → SlotsFollow l → (p : Part) → part_with role.GotRelr l.parts ≡ Some p → start_of l role.GotRelr ≢ 0
start_based l c p e =
    let f = found_part role.GotRelr (λ (q : Part). block_has_base q ≡ true) l.parts p e c.based in
    let b = based p f.0 f.1 in
    let a = ap address_of_part e in
    λ z. b (sym a ∙ z)

-- ---- the whole block

length-slots : (base n : ℕ) → length (slots base n) ≡ n
unfolding slots
length-slots base zero = refl
length-slots base (suc n) = ap suc (length-slots (base + 8) n)

whole_slots : (base n : ℕ) → base + 8 * n ≤ 2 ^ 64 → All (λ p. p % 2 ≡ 0) (slots base n) → (1 ≤ n → base ≢ 0) → IsWhole (block_of (slots base n)) (slots base n)
unfolding slots
whole_slots base zero h even nonzero = record { places = refl; even = refl; based = λ some. absurd (omega arith) }
whole_slots base (suc n) h even nonzero =
    let len = length-slots base (suc n) in
    let count : min (2 ^ 64 - 1) (length (slots base (suc n))) ≡ suc n = omega (arith, len, h) in
    record {
      places = sym (ap (λ (k : ℕ). slots base k) count);
      even = All-head (λ (p : ℕ). p % 2 ≡ 0) base (slots (base + 8) n) even;
      based = λ some. nonzero (omega arith);
    }

group_places : (l : Layout) (g : Group) → group_relr_got l g ≡ flat_map (word_places words.RelrGot l) (group_symbols l g)
unfolding group_relr_got
group_places l g = sym (flat_map-flat_map (relr_got_places l) (own_symbols l) g.files)

pub whole : (l : Layout) → HasSlotsInOrder l → end_of l role.GotRelr ≤ 2 ^ 64 → (part_with role.GotRelr l.parts ≡ None → table_bytes l role.GotRelr ≡ []) → (g : Group) → Contains l.groups g → IsWhole (block_of (group_relr_got l g)) (group_relr_got l g)
whole l h small missing g c =
    let order = AreInOrder-from_test l h.slots.placed in
    let piece = Piece-from_contains (IsPlacedAfter l) (group_symbols l) l.groups g c order.each in
    let own = group_symbols l g in
    let share = symbol_share l role.GotRelr in
    let base = (first_free l).block + total share piece.before in
    let n = total (block_count l) own in
    let places : group_relr_got l g ≡ slots base n = group_places l g ∙ blocks_follow l own piece.before base refl piece.each in
    let a = ap (total share) piece.is in
    let b = total-append share piece.before (own ++ piece.after) in
    let d = total-append share own piece.after in
    let counted = shares_counted l own in
    let end = headless_end l role.GotRelr (block_table l) in
    let within : base + 8 * n ≤ end_of l role.GotRelr = omega (arith, a, b, d, counted, end) in
    let each = All-flat_map (λ (p : ℕ). p % 2 ≡ 0) (word_places words.RelrGot l) own (All-weaker (λ (s : Symbol). slot_is_even s ≡ true) (λ (s : Symbol). All (λ (p : ℕ). p % 2 ≡ 0) (word_places words.RelrGot l s)) (λ s e. even_places l s e) own (All-group l (λ (s : Symbol). slot_is_even s ≡ true) h.slots.even g)) in
    let even = subst (All (λ (p : ℕ). p % 2 ≡ 0)) (blocks_follow l own piece.before base refl piece.each) each in
    let P : List ℕ → Type 0 = λ (ps : List ℕ). IsWhole (block_of ps) ps in
    subst P (sym places) (whole_slots base n (omega (arith, within, small)) even (λ some z. by_part base n (omega arith) within some z (part_with role.GotRelr l.parts) refl))
  where
    by_part : (base n : ℕ) → start_of l role.GotRelr ≤ base → base + 8 * n ≤ end_of l role.GotRelr → 1 ≤ n → base ≡ 0 → (o : Option Part) → part_with role.GotRelr l.parts ≡ o → ⊥
    by_part base n low within some z None e =
        let t = ap (λ (bs : List ℕ). length bs) (missing e) in
        let s = ap address_of_part e in
        omega (arith, within, some, t, s)
    by_part base n low within some z (Some p) e = start_based l h.slots p e (omega (arith, low, z))
