-- Items of slots in order.
use Rattle.std.proofs.Common.{◌≡◌, List, [], ◌∷◌, ◌++◌, refl, Some, ap, ◌∙◌}
use Rattle.std.specs.Prelude.{Option}
use Rattle.wild_slot.specs.declared.slot.SlotItem.{SlotItem}
use Rattle.wild_slot.specs.Slots.{SlotContent, with_item, with_items, with_item_by}
use Rattle.wild_slot.specs.declared.slot.SlotFault.{SlotFault}

-- items behind items
pub items_joined : (c : SlotContent) (xs ys : List SlotItem) → with_items c (xs ++ ys) ≡ with_items (with_items c xs) ys
items_joined c [] ys = refl
items_joined c (x ∷ xs) ys = items_joined (with_item c x) xs ys

-- a fault stays
pub fault_stays : (c : SlotContent) (f : SlotFault) (xs : List SlotItem) → c.fault ≡ Some f → (with_items c xs).fault ≡ Some f
fault_stays c f [] h = h
fault_stays c f (x ∷ xs) h =
    let e : with_item c x ≡ c = ap (λ (o : Option SlotFault). with_item_by o c x) h in
    fault_stays (with_item c x) f xs (ap (λ (d : SlotContent). d.fault) e ∙ h)
