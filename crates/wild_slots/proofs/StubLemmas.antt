-- A stub that has a place is there, where nothing failed.
use Rattle.wild_slots.proofs.Common.{◌≡◌, ℕ, Bool, true, false, List, ◌∷◌, ◌++◌, Some, None, refl, ap, ◌∙◌, slice_get, Option, if◌then◌else◌, holds_at, Resolution, Symbol, Layout, Setting, SlotItem, Stub, got_of, resolved_got, plt_of, has_thread_slot, setting_of, slot, items_at, no_slot, add_item, with_items, thread_items, plain_item, stub_items, address_items, slots_of, resolved_slots, distance_if_too_far, HasItsFlags, HasSlotsInOrder}
use Rattle.wild_slot.specs.declared.slot.SlotFault.{SlotFault}
use Rattle.wild_types.specs.SymbolSlots.{resolved_plt}
use Rattle.wild_slot.specs.Slots.{SlotContent, with_item, with_item_by, stub_item, ifunc_address_items, canonical_address_items}
use Rattle.wild_plan_rules.proofs.ClauseLemmas.{not_thread}
use Rattle.wild_slots.proofs.Resolved.{has_resolution}
use Rattle.wild_slots.proofs.ItemLemmas.{fault_first, stub_stays}

-- the item of a stub, where nothing failed before it or behind it
stub_made : (c : SlotContent) (far : Option ℕ) (xs : List SlotItem) → c.fault ≡ None → (with_items (with_item c (stub_item far)) xs).fault ≡ None → (with_items (with_item c (stub_item far)) xs).has_stub ≡ true
stub_made c None xs h n =
    let e : with_item c Stub ≡ add_item c Stub = ap (λ (o : Option SlotFault). with_item_by o c Stub) h in
    stub_stays (with_item c Stub) xs (ap (λ (d : SlotContent). d.has_stub) e)
stub_made c (Some distance) xs h n =
    let x = stub_item (Some distance) in
    let e : with_item c x ≡ add_item c x = ap (λ (o : Option SlotFault). with_item_by o c x) h in
    let f = fault_first (with_item c x).fault (with_item c x) xs refl n in
    let g = ap (λ (d : SlotContent). d.fault) e in
    cc

second_made : (x : SlotItem) (far : Option ℕ) (xs : List SlotItem) → (with_items no_slot (x ∷ stub_item far ∷ xs)).fault ≡ None → (with_items no_slot (x ∷ stub_item far ∷ xs)).has_stub ≡ true
second_made x far xs n =
    let first = with_item no_slot x in
    stub_made first far xs (fault_first first.fault first (stub_item far ∷ xs) refl n) n

made : (s : Setting) (far : Option ℕ) (r : Resolution) (at p : ℕ) → r.got_address ≡ Some at → r.plt_address ≡ Some p → has_thread_slot r.flags ≡ false → (slot s far r).fault ≡ None → (slot s far r).has_stub ≡ true
unfolding slot
made s far r at p g q t n = by_got r.got_address g n
  where
    by_plt : (o : Option ℕ) → o ≡ Some p → (with_items no_slot (plain_item s r ∷ (stub_items far o ++ (ifunc_address_items s r ++ canonical_address_items s r)))).fault ≡ None → (with_items no_slot (plain_item s r ∷ (stub_items far o ++ (ifunc_address_items s r ++ canonical_address_items s r)))).has_stub ≡ true
    by_plt None e m = cc
    by_plt (Some stub) e m = second_made (plain_item s r) far (ifunc_address_items s r ++ canonical_address_items s r) m

    by_slot : (b : Bool) → b ≡ false → (with_items no_slot (if b then thread_items s r else address_items s far r)).fault ≡ None → (with_items no_slot (if b then thread_items s r else address_items s far r)).has_stub ≡ true
    by_slot true e m = cc
    by_slot false e m = by_plt r.plt_address q m

    by_got : (o : Option ℕ) → o ≡ Some at → (with_items no_slot (items_at s far r o)).fault ≡ None → (with_items no_slot (items_at s far r o)).has_stub ≡ true
    by_got None e m = cc
    by_got (Some got) e m = by_slot (has_thread_slot r.flags) t m

pub stub_there : (l : Layout) → HasSlotsInOrder l → (i at p : ℕ) (s : Symbol) → slice_get l.symbols i ≡ Some s → got_of s ≡ Some at → plt_of s ≡ Some p → (slots_of l s).fault ≡ None → (slots_of l s).has_stub ≡ true
unfolding slots_of
stub_there l h i at p s e g q n =
    let t = not_thread s p (h.flags.resolved i s e (has_resolution s at g)).alone q in
    by_resolution (holds_at HasItsFlags l.symbols i s e h.resolved) t s.resolution refl g q n
  where
    by_resolution : HasItsFlags s → has_thread_slot s.flags ≡ false → (o : Option Resolution) → s.resolution ≡ o → resolved_got o ≡ Some at → resolved_plt o ≡ Some p → (resolved_slots l o).fault ≡ None → (resolved_slots l o).has_stub ≡ true
    by_resolution own t None is a b m = cc
    by_resolution own t (Some r) is a b m = made (setting_of l) (distance_if_too_far l r) r at p a b (ap has_thread_slot (own r is) ∙ t) m
