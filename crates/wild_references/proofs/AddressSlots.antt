-- The slot of an address: the first one has the symbol's value, a second one its stub's address.
use Rattle.wild_references.proofs.Common.{◌≡◌, ℕ, ◌+◌, ◌%◌, ◌^◌, ◌<◌, inl, inr, Bool, true, false, List, [], ◌∷◌, ◌++◌, Option, Some, None, refl, sym, ap, ◌∙◌, arith, subst, ◌||◌, if◌then◌else◌, GotEntry, SlotItem, General, Resolution, Layout, KeepsAll, has_flag, is_position_independent, setting_of, named, general, stub_items, items_if, ifunc_address_items, canonical_address_items, distance_if_too_far, has_thread_slot, AddressSlot, after_word, IsLoadedWord, Memory, World, HasWord, IsStub, word_below, IsPlaced, HasFlag, ValueFlags}
use Rattle.wild_slot.specs.declared.slot.SlotItem.TheVariants.{Word}
use Rattle.wild_slot.specs.declared.slot.SlotWord.TheVariants.{Number, Address}
use Rattle.wild_types.specs.Flags.{ifunc_got_for_address, canonical_plt_got_for_address}
use Rattle.wild_slot.specs.Slots.{stub_address, number}
use Rattle.wild_reloc.specs.declared.expression.SlotSort.TheVariants as sorts
use Rattle.wild_layout.specs.SlotValues.{has_second_slot}
use Rattle.wild_references.proofs.FirstSlots.{HasFirst, first_held, named_held, items_behind}
use Rattle.wild_references.proofs.SlotContents.{ItemsHold}
use Rattle.wild_references.proofs.SlotTerms.{SlotStands, SlotsStand, by_slot}
use Rattle.wild_references.proofs.SymbolStubs.{stub_from, stub_is}
use Rattle.wild_references.proofs.Symbols.{IsResolvedBy, resolved_flag}
use Rattle.wild_references.proofs.SlotFlags.{symbol_fits}
use Rattle.wild_references.proofs.StubCode.{StubLaws}

-- ---- the second slot

-- its word is the address of the stub
record HasSecond (w : World) (m : Memory) (pi : Bool) (at : ℕ) (plt : Option ℕ) : Type 0 where
  pub stub : ℕ
  pub given : plt ≡ Some stub
  pub value : ℕ
  pub there : HasWord m (w.base + at) value
  pub is : IsLoadedWord w m (w.base + at) (if pi then Address stub else Number stub) value

-- behind the stub, which takes no word
second_held : (l : Layout) (w : World) (m : Memory) (at : ℕ) (far plt : Option ℕ) (more : List SlotItem) → ItemsHold w m at (stub_items far plt ++ (stub_address (setting_of l) plt ∷ more)) → HasSecond w m (is_position_independent l.kind) at plt
second_held l w m at far None more h = absurd h
second_held l w m at (Some d) (Some stub) more h = absurd h
second_held l w m at None (Some stub) more h = by_kind (is_position_independent l.kind) h
  where
    by_kind : (pi : Bool) → ItemsHold w m at ((if pi then Word (Address stub) else number stub) ∷ more) → HasSecond w m pi at (Some stub)
    by_kind true h = record { stub = stub; given = refl; value = h.0.0; there = h.0.1; is = h.0.2 }
    by_kind false h = record { stub = stub; given = refl; value = h.0.0; there = h.0.1; is = h.0.2 }

-- of a symbol whose flag asks for it
second_asked : (l : Layout) (w : World) (m : Memory) (at : ℕ) (r : Resolution) → has_flag r.flags ifunc_got_for_address ≡ true → ItemsHold w m at (items_behind l r) → HasSecond w m (is_position_independent l.kind) at r.plt_address
second_asked l w m at r asked h =
    let far = distance_if_too_far l r in
    let more = canonical_address_items (setting_of l) r in
    let item = stub_address (setting_of l) r.plt_address in
    let here = subst (λ (b : Bool). ItemsHold w m at (stub_items far r.plt_address ++ (items_if b (item ∷ []) ++ more))) asked h in
    second_held l w m at far r.plt_address more here

-- the loaded address of the stub
second_is : (w : World) (m : Memory) (place : ℕ) (pi : Bool) (stub x : ℕ) → (pi ≡ false → w.base ≡ 0) → w.base + stub < 2 ^ 64 → IsLoadedWord w m place (if pi then Address stub else Number stub) x → x ≡ (w.base + stub) % 2 ^ 64
second_is w m place true stub x still low h = h ∙ omega arith
second_is w m place false stub x still low h = let z = still refl in omega (arith, h, z, low)

-- ---- the slot of an address

first_stands : (l : Layout) (w : World) (m : Memory) (i at : ℕ) (rest : List SlotItem) → HasFirst l w m i at rest → SlotStands AddressSlot l w m i at
first_stands l w m i at rest h = record { holds = (h.value, h.there, inl (inl h.is)); below = word_below m (w.base + at) h.value h.there }

second_stands : StubLaws → (l : Layout) (w : World) (m : Memory) (i at : ℕ) (r : Resolution) → IsPlaced l w m → KeepsAll l → IsResolvedBy l i r → has_flag r.flags ifunc_got_for_address ≡ true → HasSecond w m (is_position_independent l.kind) at r.plt_address → SlotStands AddressSlot l w m i at
second_stands law l w m i at r p all d asked h =
    let stub = stub_from law l w m i h.stub r p all d h.given in
    let flags : r.flags ≡ d.symbol.flags = (symbol_fits l i d.symbol p.symbols d.listed).flags r d.decided in
    let flagged = subst (λ (b : Bool). HasFlag l i ifunc_got_for_address b) (sym (ap (λ (f : ValueFlags). has_flag f ifunc_got_for_address) flags) ∙ asked) (resolved_flag l i ifunc_got_for_address r d) in
    let same = second_is w m (w.base + at) (is_position_independent l.kind) h.stub h.value p.still stub.below h.is in
    record {
      holds = (h.value, h.there, inr (flagged, subst (λ (a : ℕ). IsStub l w m i a) (sym same) (stub_is l w m i h.stub stub)));
      below = word_below m (w.base + at) h.value h.there;
    }

-- ---- the second slot of a function whose stub is canonical

-- behind the stub, which takes no word
behind_stub : (w : World) (m : Memory) (at : ℕ) (far plt : Option ℕ) (xs : List SlotItem) → ItemsHold w m at (stub_items far plt ++ xs) → ItemsHold w m at xs
behind_stub w m at far None xs h = h
behind_stub w m at None (Some stub) xs h = h
behind_stub w m at (Some d) (Some stub) xs h = absurd h

canonical_stands : (l : Layout) (w : World) (m : Memory) (i at : ℕ) (r : Resolution) → IsPlaced l w m → IsResolvedBy l i r → has_flag r.flags ifunc_got_for_address ≡ false → has_flag r.flags canonical_plt_got_for_address ≡ true → ItemsHold w m at (items_behind l r) → SlotStands AddressSlot l w m i at
canonical_stands l w m i at r p d plain asked h =
    let far = distance_if_too_far l r in
    let item = stub_address (setting_of l) r.plt_address in
    let own = named r.dynamic_symbol_index (λ d. general GotEntry d 0) in
    let here = behind_stub w m at far r.plt_address (ifunc_address_items (setting_of l) r ++ canonical_address_items (setting_of l) r) h in
    let here' = subst (λ (b : Bool). ItemsHold w m at (items_if b (item ∷ []) ++ canonical_address_items (setting_of l) r)) plain here in
    let there = subst (λ (b : Bool). ItemsHold w m at (items_if b (own ∷ []))) asked here' in
    first_stands l w m i at [] (named_held l w m i at r [] GotEntry (λ e. General e) p d refl (λ e x f. f) there)

-- ---- the one that references take

second_by : StubLaws → (l : Layout) (w : World) (m : Memory) (i at : ℕ) (r : Resolution) → IsPlaced l w m → KeepsAll l → IsResolvedBy l i r → has_second_slot r.flags ≡ true → ItemsHold w m at (items_behind l r) → SlotStands AddressSlot l w m i at
second_by law l w m i at r p all d e h = by_flag (has_flag r.flags ifunc_got_for_address) refl e
  where
    by_flag : (b : Bool) → has_flag r.flags ifunc_got_for_address ≡ b → (b || has_flag r.flags canonical_plt_got_for_address) ≡ true → SlotStands AddressSlot l w m i at
    by_flag true asked e = second_stands law l w m i at r p all d asked (second_asked l w m at r asked h)
    by_flag false plain e = canonical_stands l w m i at r p d plain e h

behind_by : StubLaws → (l : Layout) (w : World) (m : Memory) (i at : ℕ) (r : Resolution) (b : Bool) → IsPlaced l w m → KeepsAll l → IsResolvedBy l i r → has_second_slot r.flags ≡ b → HasFirst l w m i at (items_behind l r) → SlotStands AddressSlot l w m i (after_word b at)
behind_by law l w m i at r false p all d e first = first_stands l w m i at (items_behind l r) first
behind_by law l w m i at r true p all d e first =
    let there = second_by law l w m i (at + 8) r p all d e first.behind in
    let low = there.below in
    let same : (at + 8) % 2 ^ 64 ≡ at + 8 = omega (arith, low) in
    subst (λ (n : ℕ). SlotStands AddressSlot l w m i n) (sym same) there

-- where the writer knows of a slot for an address and all is written, memory has it
pub slots_are_placed : StubLaws → (l : Layout) (w : World) (m : Memory) → IsPlaced l w m → KeepsAll l → SlotsStand sorts.Address l w m
slots_are_placed law l w m p all = λ i slot h. by_slot sorts.Address l i slot (λ (n : ℕ). SlotStands AddressSlot l w m i n) h (λ r at d e among. by_flag i slot r at d e (has_thread_slot r.flags) refl among)
  where
    by_flag : (i slot : ℕ) (r : Resolution) (at : ℕ) → IsResolvedBy l i r → r.got_address ≡ Some at → (thread : Bool) → has_thread_slot r.flags ≡ thread → (if thread then None else Some (after_word (has_second_slot r.flags) at)) ≡ Some slot → SlotStands AddressSlot l w m i slot
    by_flag i slot r at d e true plain h = cc
    by_flag i slot r at d e false plain h =
        let same : after_word (has_second_slot r.flags) at ≡ slot = cc in
        subst (λ (n : ℕ). SlotStands AddressSlot l w m i n) same (behind_by law l w m i at r (has_second_slot r.flags) p all d refl (first_held l w m i at r p all d e plain))
