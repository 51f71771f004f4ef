-- What slots without a fault have in memory, item by item.
use Rattle.wild_references.proofs.Common.{◌≡◌, ℕ, suc, ◌+◌, ◌*◌, List, [], ◌∷◌, ◌++◌, Option, Some, None, refl, sym, ap, ◌∙◌, arith, append_assoc, subst, ⊤, slice_index_or, SlotItem, SlotWord, IsLoadedWord, HasWords, Memory, World, HasWord}
use Rattle.std.proofs.lemmas.List.{append-nil}
use Rattle.wild_slot.specs.declared.slot.SlotFault.{SlotFault}
use Rattle.wild_slot.specs.declared.slot.SlotItem.TheVariants.{Word, Stub, Fault}
use Rattle.wild_slot.specs.Slots.{SlotContent, no_slot, add_item, with_item_by, with_item, with_items}
use Rattle.wild_slot.proofs.SlotLemmas.{fault_stays}
use Rattle.wild_loader.specs.Memory.{number_in}

-- the words among items
abbrev words_of : List SlotItem → List SlotWord
words_of [] = []
words_of (Word v ∷ xs) = v ∷ words_of xs
words_of (Stub ∷ xs) = words_of xs
words_of (Fault f ∷ xs) = words_of xs

-- none of the items is a fault
abbrev NoFault : List SlotItem → Type 0
NoFault [] = ⊤
NoFault (Word v ∷ xs) = NoFault xs
NoFault (Stub ∷ xs) = NoFault xs
NoFault (Fault f ∷ xs) = ⊥

-- memory has the items' words from an address on, and none of them is a fault
abbrev pub ItemsHold : World → Memory → ℕ → List SlotItem → Type 0
ItemsHold w m at [] = ⊤
ItemsHold w m at (Word v ∷ xs) = ((x : ℕ) × HasWord m (w.base + at) x × IsLoadedWord w m (w.base + at) v x) × ItemsHold w m (at + 8) xs
ItemsHold w m at (Stub ∷ xs) = ItemsHold w m at xs
ItemsHold w m at (Fault f ∷ xs) = ⊥

-- ---- items without a fault

record IsWhole (c : SlotContent) (xs : List SlotItem) : Type 0 where
  pub sound : NoFault xs
  pub words : (with_items c xs).words ≡ c.words ++ words_of xs

whole : (xs : List SlotItem) (c : SlotContent) → c.fault ≡ None → (with_items c xs).fault ≡ None → IsWhole c xs
whole [] c none h = record { sound = tt; words = sym (append-nil c.words) }
whole (Word v ∷ xs) c none h =
    let same : with_item c (Word v) ≡ add_item c (Word v) = ap (λ (o : Option SlotFault). with_item_by o c (Word v)) none in
    let rest = whole xs (add_item c (Word v)) none (subst (λ (d : SlotContent). (with_items d xs).fault ≡ None) same h) in
    record { sound = rest.sound; words = ap (λ (d : SlotContent). (with_items d xs).words) same ∙ rest.words ∙ append_assoc c.words (v ∷ []) (words_of xs) }
whole (Stub ∷ xs) c none h =
    let same : with_item c Stub ≡ add_item c Stub = ap (λ (o : Option SlotFault). with_item_by o c Stub) none in
    let rest = whole xs (add_item c Stub) none (subst (λ (d : SlotContent). (with_items d xs).fault ≡ None) same h) in
    record { sound = rest.sound; words = ap (λ (d : SlotContent). (with_items d xs).words) same ∙ rest.words }
whole (Fault f ∷ xs) c none h =
    let same : with_item c (Fault f) ≡ add_item c (Fault f) = ap (λ (o : Option SlotFault). with_item_by o c (Fault f)) none in
    let some = fault_stays (add_item c (Fault f)) f xs refl in
    let gone = subst (λ (d : SlotContent). (with_items d xs).fault ≡ None) same h in
    cc

-- ---- words

-- the first word, at its address
pub word_first : (w : World) (m : Memory) (at : ℕ) (v : SlotWord) (vs : List SlotWord) → HasWords w m at (v ∷ vs) → (x : ℕ) × HasWord m (w.base + at) x × IsLoadedWord w m (w.base + at) v x
word_first w m at v vs h =
    let x = h 0 v (omega arith) in
    let e : w.base + at + 8 * 0 ≡ w.base + at = omega arith in
    (x.0, subst (λ (a : ℕ). HasWord m a x.0) e x.1, subst (λ (a : ℕ). IsLoadedWord w m a v x.0) e x.2)

-- the others, from 8 bytes behind it on
pub words_behind : (w : World) (m : Memory) (at : ℕ) (v : SlotWord) (vs : List SlotWord) → HasWords w m at (v ∷ vs) → HasWords w m (at + 8) vs
words_behind w m at v vs h = λ k d l.
    let x = h (suc k) d (omega (arith, l)) in
    let e : w.base + at + 8 * suc k ≡ w.base + (at + 8) + 8 * k = omega arith in
    (x.0, subst (λ (a : ℕ). number_in m a 8 ≡ Some x.0) e x.1, subst (λ (a : ℕ). IsLoadedWord w m a (slice_index_or vs k d) x.0) e x.2)

items_from_words : (w : World) (m : Memory) (at : ℕ) (xs : List SlotItem) → NoFault xs → HasWords w m at (words_of xs) → ItemsHold w m at xs
items_from_words w m at [] sound h = tt
items_from_words w m at (Word v ∷ xs) sound h = (word_first w m at v (words_of xs) h, items_from_words w m (at + 8) xs sound (words_behind w m at v (words_of xs) h))
items_from_words w m at (Stub ∷ xs) sound h = items_from_words w m at xs sound h
items_from_words w m at (Fault f ∷ xs) sound h = absurd sound

-- slots that have no fault, and whose words memory has
pub items_hold : (w : World) (m : Memory) (at : ℕ) (xs : List SlotItem) → (with_items no_slot xs).fault ≡ None → HasWords w m at (with_items no_slot xs).words → ItemsHold w m at xs
items_hold w m at xs none h =
    let all = whole xs no_slot refl none in
    items_from_words w m at xs all.sound (subst (λ (vs : List SlotWord). HasWords w m at vs) all.words h)
