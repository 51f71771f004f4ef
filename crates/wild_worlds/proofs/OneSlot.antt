-- A symbol has one slot of a sort, and an own one its whole size.
use Rattle.wild_worlds.proofs.Common.{◌≡◌, ℕ, ◌+◌, ◌%◌, ◌^◌, inl, inr, true, Some, None, sym, ap, ◌∙◌, subst, Resolution, Symbol, Layout, IsReplaceable, one_symbol}
use Rattle.wild_reloc.specs.Formula.{Slot, AddressSlot, ModulePair, OwnModulePair, ThreadOffset, Descriptor}
use Rattle.wild_meaning.specs.Slot.{offset_from_first, HasSlotAddress, HasSlot}
use Rattle.wild_laws.proofs.Symbols.{not_replaceable}
use Rattle.wild_worlds.specs.Symbols.{SlotsAreOne, SizesAreWhole}

decided_one : (sort : Slot) (l : Layout) (i p q : ℕ) → HasSlotAddress sort l i p → HasSlotAddress sort l i q → p ≡ q
decided_one sort l i p q a b =
    let same : a.symbol ≡ b.symbol = one_symbol l i a.definition b.definition a.symbol b.symbol a.defined b.defined a.listed b.listed in
    let resolution : a.resolution ≡ b.resolution = (let e : Some a.resolution ≡ Some b.resolution = sym a.decided ∙ (ap (λ (s : Symbol). s.resolution) same ∙ b.decided) in cc) in
    let first : a.first ≡ b.first = (let e : Some a.first ≡ Some b.first = sym a.given ∙ (ap (λ (r : Resolution). r.got_address) resolution ∙ b.given) in cc) in
    a.place ∙ ap (λ (n : ℕ). n + offset_from_first sort a.symbol.flags) first ∙ ap (λ (s : Symbol). b.first + offset_from_first sort s.flags) same ∙ sym b.place

place_one : (sort : Slot) (l : Layout) (i p q : ℕ) → HasSlot sort l i p → HasSlot sort l i q → p ≡ q
place_one AddressSlot l i p q a b = decided_one AddressSlot l i p q a b
place_one ModulePair l i p q a b = decided_one ModulePair l i p q a b
place_one OwnModulePair l i p q a b = (let e : Some p ≡ Some q = sym a ∙ b in cc)
place_one ThreadOffset l i p q a b = decided_one ThreadOffset l i p q a b
place_one Descriptor l i p q a b = decided_one Descriptor l i p q a b

pub slots_one : SlotsAreOne
slots_one sort l w m n None g h a b = absurd a
slots_one sort l w m n (Some i) g h a b = a.moves ∙ ap (λ (p : ℕ). (w.base + p) % 2 ^ 64) (place_one sort l i a.slot b.slot a.given b.given) ∙ sym b.moves

-- only another module's symbol may have its low half
pub sizes_whole : SizesAreWhole
sizes_whole l r i n x named own (inl whole) = whole
sizes_whole l r i n x named own (inr half) =
    let same : half.0.symbol ≡ i = (let e : Some half.0.symbol ≡ Some i = sym half.0.named ∙ named in cc) in
    absurd (not_replaceable l i (subst (λ (k : ℕ). IsReplaceable l k true) same half.0.replaceable) own)
