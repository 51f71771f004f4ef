-- The words of items, one behind the other.
use Rattle.wild_slots.proofs.Common.{◌≡◌, ℕ, Bool, true, false, List, [], ◌∷◌, ◌++◌, Some, None, All, refl, sym, ap, ◌∙◌, subst, Option, append-nil, append_assoc, All-nil, All-cons, All-head, All-tail, All-append, SlotWord, SlotItem, Word, Stub, Fault, no_slot, with_items, stub_items}
use Rattle.wild_slot.specs.declared.slot.SlotFault.{SlotFault}
use Rattle.wild_slot.specs.Slots.{SlotContent, with_item_by, with_item, named, items_if, stub_item}
use Rattle.wild_slot.proofs.SlotLemmas.{fault_stays}

-- an item that is a word has what is said of it
abbrev pub ItemHas : (SlotWord → Type 0) → SlotItem → Type 0
ItemHas P (Word w) = P w
ItemHas P other = Unit {0}

-- words behind others, each of which has it
pub record More (P : SlotWord → Type 0) (front whole : List SlotWord) : Type 0 where
  pub more : List SlotWord
  pub is : whole ≡ front ++ more
  pub each : All P more

More-none : (P : SlotWord → Type 0) (ws : List SlotWord) → More P ws ws
More-none P ws = record { more = []; is = sym (append-nil ws); each = All-nil P }

More-more : (P : SlotWord → Type 0) (a b c : List SlotWord) → More P a b → More P b c → More P a c
More-more P a b c h k = record {
  more = h.more ++ k.more;
  is = k.is ∙ ap (λ (ws : List SlotWord). ws ++ k.more) h.is ∙ append_assoc a h.more k.more;
  each = All-append P h.more k.more h.each k.each;
}

More-item : (P : SlotWord → Type 0) (o : Option SlotFault) (c : SlotContent) (x : SlotItem) → ItemHas P x → More P c.words (with_item_by o c x).words
More-item P (Some f) c x h = More-none P c.words
More-item P None c (Word w) h = record { more = w ∷ []; is = refl; each = All-cons P w [] h (All-nil P) }
More-item P None c Stub h = More-none P c.words
More-item P None c (Fault f) h = More-none P c.words

-- items of which each word has it give words that have it
pub More-items : (P : SlotWord → Type 0) (c : SlotContent) (xs : List SlotItem) → All (ItemHas P) xs → More P c.words (with_items c xs).words
More-items P c [] a = More-none P c.words
More-items P c (x ∷ xs) a =
    More-more P c.words (with_item c x).words (with_items (with_item c x) xs).words
    (More-item P c.fault c x (All-head (ItemHas P) x xs a))
    (More-items P (with_item c x) xs (All-tail (ItemHas P) x xs a))

pub All-words : (P : SlotWord → Type 0) (xs : List SlotItem) → All (ItemHas P) xs → All P (with_items no_slot xs).words
All-words P xs a = let m = More-items P no_slot xs a in subst (All P) (sym m.is) m.each

-- no word has what cannot be
pub none_more : (front whole : List SlotWord) → More (λ w. ⊥) front whole → whole ≡ front
none_more front whole m = none m.more m.is m.each
  where
    none : (ws : List SlotWord) → whole ≡ front ++ ws → All (λ (w : SlotWord). ⊥) ws → whole ≡ front
    none [] is a = is ∙ append-nil front
    none (w ∷ ws) is a = absurd (All-head (λ (v : SlotWord). ⊥) w ws a)

-- ---- items by cases

pub of_named : (P : SlotWord → Type 0) (o : Option ℕ) (by : ℕ → SlotItem) → ((d : ℕ) → o ≡ Some d → ItemHas P (by d)) → ItemHas P (named o by)
of_named P None by h = tt
of_named P (Some d) by h = h d refl

pub of_where : (P : SlotWord → Type 0) (b : Bool) (xs : List SlotItem) → (b ≡ true → All (ItemHas P) xs) → All (ItemHas P) (items_if b xs)
of_where P true xs h = h refl
of_where P false xs h = All-nil (ItemHas P)

pub of_one : (P : SlotWord → Type 0) (x : SlotItem) → ItemHas P x → All (ItemHas P) (x ∷ [])
of_one P x h = All-cons (ItemHas P) x [] h (All-nil (ItemHas P))

pub of_stub : (P : SlotWord → Type 0) (far stub : Option ℕ) → All (ItemHas P) (stub_items far stub)
of_stub P far None = All-nil (ItemHas P)
of_stub P None (Some stub) = of_one P Stub tt
of_stub P (Some distance) (Some stub) = of_one P (stub_item (Some distance)) tt

-- ---- faults and stubs

pub fault_first : (o : Option SlotFault) (c : SlotContent) (xs : List SlotItem) → c.fault ≡ o → (with_items c xs).fault ≡ None → o ≡ None
fault_first None c xs h n = refl
fault_first (Some f) c xs h n = let e = fault_stays c f xs h in cc

pub stub_stays : (c : SlotContent) (xs : List SlotItem) → c.has_stub ≡ true → (with_items c xs).has_stub ≡ true
stub_stays c [] h = h
stub_stays c (x ∷ xs) h = stub_stays (with_item c x) xs (kept c.fault x)
  where
    kept : (o : Option SlotFault) (y : SlotItem) → (with_item_by o c y).has_stub ≡ true
    kept (Some f) y = h
    kept None (Word w) = h
    kept None Stub = refl
    kept None (Fault f) = h
