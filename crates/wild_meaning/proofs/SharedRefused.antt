-- Wrong slots, addresses, offsets, sizes and bytes of the worked shared object are refused.
use Rattle.wild_meaning.proofs.Common.{◌≡◌, ℕ, ◌+◌, ◌-◌, ◌^◌, ◌<◌, ◌≤◌, ◌⊎◌, inl, inr, true, false, refl, sym, ap, ◌∙◌, arith, subst, ◌≢◌, Some, Ok, Contains, Option, option_and_then, All-from_recursion, pos, r_x86_64_none, r_x86_64_64, r_x86_64_tpoff64, r_x86_64_dtpoff64, r_x86_64_tlsgd, r_x86_64_tlsld, r_x86_64_gotpc32_tlsdesc, shf_execinstr, Formula, formula, SlotDistance, AddressSlot, ThreadOffset, ModulePair, OwnModulePair, Descriptor, SymbolAddress, Distance, PointerOffset, ModuleOffset, Full, Plain, Signed, Value, Slot, x86_64_formula, InputRelocation, Resolution, Symbol, has_flag, ifunc, absolute, Memory, Answer, byte_in, IsSet, IsKept, OfSection, form_width, FieldReads, InNoField, ItemHolds, IsOutsideReferences, UsesOwnDefinition, UsesOwnSymbolOnly, IsSlot, HasSlotAddress, reference, shared_layout, shared_data, shared_item, shared_near, shared_world, answer_of_module, own_symbol, open_symbol, own_thread, other_thread, Refused, own_offset, HasWrongNumber, TakesString}
use Rattle.wild_records.specs.Abi.Relocation.{r_x86_64_pc64, r_x86_64_gotpcrel64, r_x86_64_size64, r_x86_64_gottpoff}
use Rattle.wild_reloc.specs.Formula.{Size}
use Rattle.wild_types.specs.declared.kind.Machine.TheVariants as machine
use Rattle.wild_meaning.specs.Reference.{HoldsLinked, LinkedHolds}
use Rattle.wild_meaning.specs.Slot.{offset_from_first, has_slot_of}
use Rattle.wild_meaning.specs.Worked.Shared.{near_item, near_reference, shared_references}
use Rattle.wild_meaning.specs.Worked.SharedRefusals.{NamesAnother, NamesElsewhere, WrongSlotsAreRefused, WrongAddressesAreRefused, WrongOffsetsAreRefused, WrongSizeIsRefused, WrongByteIsRefused, WrongOwnDistanceIsRefused, other_offset, SlotsNeedTheirFlags}
use Rattle.wild_meaning.specs.Worked.Refusals.{NamesWrongWord}
use Rattle.wild_meaning.proofs.SymbolUnique.{defining_symbol_is, stub_of, own_value_of, IsPlainOwn, IsAnsweredAs, denoted, other_denoted, own_offset as own_offset_is, other_offset as other_offset_is, other_size, somewhere, defining_symbol}
use Rattle.wild_meaning.proofs.Read.{full_of, signed_of, word_below, same_word}
use Rattle.wild_meaning.proofs.SlotPlaces.{slot_holds}
use Rattle.wild_meaning.proofs.Refused.{HasValueThere, value_there, no_template, not_excepted}
use Rattle.wild_meaning.specs.Formula.{GivesLinked}
use Rattle.wild_meaning.proofs.StringLemmas.{nothing_named}
use Rattle.wild_meaning.proofs.SymbolLemmas.{referent_stands, in_slot_denotes}

-- its data is kept
pub kept : IsKept shared_layout shared_item
kept = OfSection shared_data (record { input = record { group = _; grouped = (0, omega arith, refl); file = _; filed = (0, omega arith, refl); listed = (0, omega arith, refl) }; loaded = tt; room = refl; has_data = refl; written = λ p at h. (let off : false ≡ true = h.only.bare in cc) }) refl

-- ---- formulas

pub slot_formula : x86_64_formula r_x86_64_gotpcrel64 ≡ Some (formula (SlotDistance AddressSlot) Full)
unfolding x86_64_formula
slot_formula = refl

pub address_formula : x86_64_formula r_x86_64_64 ≡ Some (formula SymbolAddress Full)
unfolding x86_64_formula
address_formula = refl

pub pointer_formula : x86_64_formula r_x86_64_tpoff64 ≡ Some (formula PointerOffset Full)
unfolding x86_64_formula
pointer_formula = refl

pub inner_formula : x86_64_formula r_x86_64_dtpoff64 ≡ Some (formula ModuleOffset Full)
unfolding x86_64_formula
inner_formula = refl

pub size_formula : x86_64_formula r_x86_64_size64 ≡ Some (formula Size Full)
unfolding x86_64_formula
size_formula = refl

pub pair_formula : x86_64_formula r_x86_64_tlsgd ≡ Some (formula (SlotDistance ModulePair) (Plain 32 Signed))
unfolding x86_64_formula
pair_formula = refl

pub own_pair_formula : x86_64_formula r_x86_64_tlsld ≡ Some (formula (SlotDistance OwnModulePair) (Plain 32 Signed))
unfolding x86_64_formula
own_pair_formula = refl

pub thread_slot_formula : x86_64_formula r_x86_64_gottpoff ≡ Some (formula (SlotDistance ThreadOffset) (Plain 32 Signed))
unfolding x86_64_formula
thread_slot_formula = refl

pub descriptor_formula : x86_64_formula r_x86_64_gotpc32_tlsdesc ≡ Some (formula (SlotDistance Descriptor) (Plain 32 Signed))
unfolding x86_64_formula
descriptor_formula = refl

-- ---- symbols

pub own_is : IsPlainOwn shared_layout 0 0x1100
unfolding has_flag
own_is = record { symbol = own_symbol; resolution = _; is = refl; decided = refl; raw_is = refl; own = refl; plain = refl; moves = refl; unstubbed = refl }

pub thread_is : IsPlainOwn shared_layout 2 0x3008
unfolding has_flag
thread_is = record { symbol = own_thread; resolution = _; is = refl; decided = refl; raw_is = refl; own = refl; plain = refl; moves = refl; unstubbed = refl }

pub open_is : IsAnsweredAs shared_layout shared_world 1 (answer_of_module 0x700010 3 0 24)
unfolding has_flag
open_is = record { symbol = open_symbol; resolution = _; index = 1; is = refl; decided = refl; replaced = refl; moves = refl; has_dynamic_index = refl; given = refl; unstubbed = refl }

pub other_is : IsAnsweredAs shared_layout shared_world 3 (answer_of_module 0 4 0x20 8)
unfolding has_flag
other_is = record { symbol = other_thread; resolution = _; index = 2; is = refl; decided = refl; replaced = refl; moves = refl; has_dynamic_index = refl; given = refl; unstubbed = refl }

plain_open : has_flag open_symbol.flags ifunc ≡ false
unfolding has_flag
plain_open = refl

still_open : has_flag open_symbol.flags absolute ≡ false
unfolding has_flag
still_open = refl

-- ---- references

pub no_code : IsSet 3 shf_execinstr → ⊥
no_code e = omega arith

pub refers : (n : ℕ) → 0 < n → n ≢ r_x86_64_none
refers n h e = omega (arith, h, let z : n ≡ 0 = e in z)

-- a reference to an own symbol has its value there
pub own_there : (m : Memory) (r : InputRelocation) (f : Formula) (i raw : ℕ) → ItemHolds shared_layout shared_world m shared_item → Contains shared_references r → 0 < r.number → x86_64_formula r.number ≡ Some f → r.symbol ≡ Some i → IsPlainOwn shared_layout i raw → HasValueThere shared_layout shared_world m shared_item r f
own_there m r f i raw holds listed number known named p =
    value_there shared_layout shared_world m shared_item r f i p.symbol (λ e. (let off : false ≡ true = e in cc)) holds no_code listed (refers r.number number) known named p.is p.moves (λ e. absurd (let both : true ≡ false = sym e ∙ p.own in cc))

-- so does one to a symbol that others may define, where it does not take the own one
pub other_there : (m : Memory) (r : InputRelocation) (f : Formula) (i : ℕ) (x : Answer) → ItemHolds shared_layout shared_world m shared_item → Contains shared_references r → 0 < r.number → x86_64_formula r.number ≡ Some f → r.symbol ≡ Some i → IsAnsweredAs shared_layout shared_world i x → (UsesOwnDefinition shared_layout shared_item i f → ⊥) → HasValueThere shared_layout shared_world m shared_item r f
other_there m r f i x holds listed number known named p takes =
    value_there shared_layout shared_world m shared_item r f i p.symbol (λ e. (let off : false ≡ true = e in cc)) holds no_code listed (refers r.number number) known named p.is p.moves (λ e. takes)

-- ---- slots

-- a slot's distance takes no symbol's address
pub no_address : {A B : Type 0} → ⊥ ⊎ (⊥ × A × B) → ⊥
no_address (inl h) = h
no_address (inr h) = h.0

own_slot : Refused (NamesWrongWord 0x11000 8 0x1000 0x12000 0x11100)
own_slot image h x =
    let r = reference 0 r_x86_64_gotpcrel64 0 (pos 0) in
    let v = own_there h.memory r _ 0 0x1100 (h.kept shared_item kept) (0, omega arith, refl) (omega arith) slot_formula refl own_is in
    let is : v.value ≡ 0x1000 = full_of shared_world h.memory shared_item r v.value 0x1000 v.field x.field in
    let slot = slot_holds AddressSlot shared_layout shared_world h.memory 0 v.gives.0 v.gives.1 in
    let below : v.gives.0 < 2 ^ 64 = word_below h.memory v.gives.0 slot.0 slot.1 in
    let at : v.gives.0 ≡ 0x12000 = omega (arith, is, below, v.gives.2) in
    let address : slot.0 ≡ 0x11100 = denoted shared_layout shared_world h.memory 0 0x1100 slot.0 own_is (in_slot_denotes shared_layout shared_world h.memory 0 slot.0 slot.2) in
    x.wrong (sym (same_word h.memory v.gives.0 0x12000 slot.0 x.word at slot.1 x.there) ∙ address)

other_slot : Refused (NamesWrongWord 0x11038 8 0xfd0 0x12008 0x700010)
other_slot image h x =
    let r = reference 56 r_x86_64_gotpcrel64 1 (pos 0) in
    let v = other_there h.memory r _ 1 _ (h.kept shared_item kept) (9, omega arith, refl) (omega arith) slot_formula refl open_is no_address in
    let is : v.value ≡ 0xfd0 = full_of shared_world h.memory shared_item r v.value 0xfd0 v.field x.field in
    let slot = slot_holds AddressSlot shared_layout shared_world h.memory 1 v.gives.0 v.gives.1 in
    let below : v.gives.0 < 2 ^ 64 = word_below h.memory v.gives.0 slot.0 slot.1 in
    let at : v.gives.0 ≡ 0x12008 = omega (arith, is, below, v.gives.2) in
    let address : slot.0 ≡ 0x700010 = other_denoted shared_layout shared_world h.memory 1 slot.0 _ open_is (in_slot_denotes shared_layout shared_world h.memory 1 slot.0 slot.2) in
    x.wrong (sym (same_word h.memory v.gives.0 0x12008 slot.0 x.word at slot.1 x.there) ∙ address)

another_slot : Refused NamesAnother
another_slot image h x =
    let r = reference 0 r_x86_64_gotpcrel64 0 (pos 0) in
    let v = own_there h.memory r _ 0 0x1100 (h.kept shared_item kept) (0, omega arith, refl) (omega arith) slot_formula refl own_is in
    let is : v.value ≡ 0x1008 = full_of shared_world h.memory shared_item r v.value 0x1008 v.field x.field in
    let slot = slot_holds AddressSlot shared_layout shared_world h.memory 0 v.gives.0 v.gives.1 in
    let below : v.gives.0 < 2 ^ 64 = word_below h.memory v.gives.0 slot.0 slot.1 in
    let at : v.gives.0 ≡ 0x12008 = omega (arith, is, below, v.gives.2) in
    let address : slot.0 ≡ 0x11100 = denoted shared_layout shared_world h.memory 0 0x1100 slot.0 own_is (in_slot_denotes shared_layout shared_world h.memory 0 slot.0 slot.2) in
    let word : slot.0 ≡ 0x700010 = same_word h.memory v.gives.0 0x12008 slot.0 0x700010 at slot.1 x.there in
    omega (arith, address, word)

-- the own symbol's slot stands at one place
own_place : (m : Memory) (g : ℕ) → IsSlot AddressSlot shared_layout shared_world m (Some 0) g → g ≡ 0x12000
unfolding has_flag
own_place m g h =
    let same : h.given.symbol ≡ own_symbol = defining_symbol_is shared_layout 0 h.given.definition h.given.symbol own_symbol refl h.given.defined h.given.listed in
    let decided : own_symbol.resolution ≡ Some h.given.resolution = subst (λ (s : Symbol). s.resolution ≡ Some h.given.resolution) same h.given.decided in
    let first : Some 0x2000 ≡ Some h.given.first = subst (λ (o : Option Resolution). option_and_then (λ (r : Resolution). r.got_address) o ≡ Some h.given.first) (sym decided) h.given.given in
    let at : 0x2000 ≡ h.given.first = cc in
    let place : h.slot ≡ h.given.first + 0 = subst (λ (s : Symbol). h.slot ≡ h.given.first + offset_from_first AddressSlot s.flags) same h.given.place in
    omega (arith, at, place, h.moves)

elsewhere_slot : Refused NamesElsewhere
elsewhere_slot image h x =
    let r = reference 0 r_x86_64_gotpcrel64 0 (pos 0) in
    let v = own_there h.memory r _ 0 0x1100 (h.kept shared_item kept) (0, omega arith, refl) (omega arith) slot_formula refl own_is in
    let is : v.value ≡ 0x1100 = full_of shared_world h.memory shared_item r v.value 0x1100 v.field x.field in
    let at : v.gives.0 ≡ 0x12000 = own_place h.memory v.gives.0 v.gives.1 in
    omega (arith, is, at, v.gives.2)

pub wrong_slots : WrongSlotsAreRefused
wrong_slots = record { own = own_slot; other = other_slot; another = another_slot; elsewhere = elsewhere_slot }

-- ---- flags of slots

flag_missing : (sort : Slot) (i p : ℕ) (t : Symbol) → defining_symbol shared_layout i ≡ Some t → has_slot_of sort t.flags ≡ false → HasSlotAddress sort shared_layout i p → ⊥
flag_missing sort i p t there none h =
    let same : h.symbol ≡ t = defining_symbol_is shared_layout i h.definition h.symbol t there h.defined h.listed in
    let both : true ≡ false = sym h.flagged ∙ ap (λ (s : Symbol). has_slot_of sort s.flags) same ∙ none in
    cc

pub slots_need_flags : SlotsNeedTheirFlags
unfolding has_flag
slots_need_flags = record {
  address = λ p h. flag_missing AddressSlot 2 p own_thread refl refl h;
  offset = λ p h. flag_missing ThreadOffset 0 p own_symbol refl refl h;
  pair = λ p h. flag_missing ModulePair 0 p own_symbol refl refl h;
  descriptor = λ p h. flag_missing Descriptor 3 p other_thread refl refl h;
}

-- ---- addresses

-- the library has no merged strings
pub no_string : (v : Value) (r : InputRelocation) → TakesString v shared_layout r → ⊥
no_string v r t = nothing_named shared_layout refl r t.1

moved_address : Refused (HasWrongNumber 0x11010 8 0x11104)
moved_address image h x =
    let r = reference 16 r_x86_64_64 0 (pos 4) in
    let v = own_there h.memory r _ 0 0x1100 (h.kept shared_item kept) (2, omega arith, refl) (omega arith) address_formula refl own_is in
    let is : v.value ≡ x.number = full_of shared_world h.memory shared_item r v.value x.number v.field x.there in
    let address : v.gives.symbol ≡ 0x11100 = denoted shared_layout shared_world h.memory 0 0x1100 v.gives.symbol own_is (referent_stands SymbolAddress shared_layout shared_world h.memory shared_item r v.gives.symbol refl (no_string SymbolAddress r) v.gives.denoted) in
    x.wrong (omega (arith, is, address, v.gives.sum))

-- the field is filled by a loader
pub does_not_use_own : UsesOwnDefinition shared_layout shared_item 1 (formula SymbolAddress Full) → ⊥
unfolding has_flag
does_not_use_own (inl h) = h
does_not_use_own (inr h) = h.1 (record { writable = refl; interposable = record { definition = 1; defined = record { symbol = open_symbol; listed = refl; defined = inr (refl, refl) }; symbol = open_symbol; listed = refl; flagged = refl }; value = refl; wide = refl })

replaced_address : Refused (HasWrongNumber 0x11008 8 0x700010)
replaced_address image h x =
    let r = reference 8 r_x86_64_64 1 (pos 0) in
    let v = other_there h.memory r _ 1 _ (h.kept shared_item kept) (1, omega arith, refl) (omega arith) address_formula refl open_is does_not_use_own in
    let is : v.value ≡ x.number = full_of shared_world h.memory shared_item r v.value x.number v.field x.there in
    let address : v.gives.symbol ≡ 0x700010 = other_denoted shared_layout shared_world h.memory 1 v.gives.symbol _ open_is (referent_stands SymbolAddress shared_layout shared_world h.memory shared_item r v.gives.symbol refl (no_string SymbolAddress r) v.gives.denoted) in
    x.wrong (omega (arith, is, address, v.gives.sum))

pub wrong_addresses : WrongAddressesAreRefused
wrong_addresses = record { moved = moved_address; replaced = replaced_address }

-- ---- offsets

own_offset_there : Refused (HasWrongNumber 0x11018 8 own_offset)
own_offset_there image h x =
    let r = reference 24 r_x86_64_tpoff64 2 (pos 0) in
    let v = own_there h.memory r _ 2 0x3008 (h.kept shared_item kept) (3, omega arith, refl) (omega arith) pointer_formula refl thread_is in
    let is : v.value ≡ x.number = full_of shared_world h.memory shared_item r v.value x.number v.field x.there in
    let offset : v.gives.0 ≡ own_offset = own_offset_is shared_layout shared_world 2 0x3008 (2 ^ 64 - 0x60) v.gives.0 thread_is (omega arith) (somewhere shared_layout 2 0 own_thread refl refl) refl v.gives.1 in
    x.wrong (omega (arith, is, offset, v.gives.2))

inside_offset : Refused (HasWrongNumber 0x11040 8 8)
inside_offset image h x =
    let r = reference 64 r_x86_64_dtpoff64 2 (pos 0) in
    let v = own_there h.memory r _ 2 0x3008 (h.kept shared_item kept) (10, omega arith, refl) (omega arith) inner_formula refl thread_is in
    let is : v.value ≡ x.number = full_of shared_world h.memory shared_item r v.value x.number v.field x.there in
    let offset : v.gives.0 ≡ own_offset = own_offset_is shared_layout shared_world 2 0x3008 (2 ^ 64 - 0x60) v.gives.0 thread_is (omega arith) (somewhere shared_layout 2 0 own_thread refl refl) refl v.gives.2 in
    let both : Ok (2 ^ 64 - 0x60) ≡ Ok v.gives.1 = v.gives.3 in
    let base : 2 ^ 64 - 0x60 ≡ v.gives.1 = cc in
    x.wrong (omega (arith, is, offset, base, v.gives.4))

own_offset_slot : Refused (NamesWrongWord 0x11024 4 0xfec 0x12010 own_offset)
own_offset_slot image h x =
    let r = reference 36 r_x86_64_gottpoff 2 (pos 0) in
    let v = own_there h.memory r _ 2 0x3008 (h.kept shared_item kept) (5, omega arith, refl) (omega arith) thread_slot_formula refl thread_is in
    let is : v.value ≡ 0xfec = signed_of shared_world h.memory shared_item r v.value 0xfec v.field x.field in
    let slot = slot_holds ThreadOffset shared_layout shared_world h.memory 2 v.gives.0 v.gives.1 in
    let below : v.gives.0 < 2 ^ 64 = word_below h.memory v.gives.0 slot.0 slot.1 in
    let at : v.gives.0 ≡ 0x12010 = omega (arith, is, below, v.gives.2) in
    let offset : slot.0 ≡ own_offset = own_offset_is shared_layout shared_world 2 0x3008 (2 ^ 64 - 0x60) slot.0 thread_is (omega arith) (somewhere shared_layout 2 0 own_thread refl refl) refl slot.2 in
    x.wrong (sym (same_word h.memory v.gives.0 0x12010 slot.0 x.word at slot.1 x.there) ∙ offset)

other_offset_slot : Refused (NamesWrongWord 0x1104c 4 0xfec 0x12038 other_offset)
other_offset_slot image h x =
    let r = reference 76 r_x86_64_gottpoff 3 (pos 0) in
    let v = other_there h.memory r _ 3 _ (h.kept shared_item kept) (12, omega arith, refl) (omega arith) thread_slot_formula refl other_is no_address in
    let is : v.value ≡ 0xfec = signed_of shared_world h.memory shared_item r v.value 0xfec v.field x.field in
    let slot = slot_holds ThreadOffset shared_layout shared_world h.memory 3 v.gives.0 v.gives.1 in
    let below : v.gives.0 < 2 ^ 64 = word_below h.memory v.gives.0 slot.0 slot.1 in
    let at : v.gives.0 ≡ 0x12038 = omega (arith, is, below, v.gives.2) in
    let offset : slot.0 ≡ other_offset = other_offset_is shared_layout shared_world 3 (2 ^ 64 - 0x2000) slot.0 _ other_is refl slot.2 in
    x.wrong (sym (same_word h.memory v.gives.0 0x12038 slot.0 x.word at slot.1 x.there) ∙ offset)

pub wrong_offsets : WrongOffsetsAreRefused
wrong_offsets = record { own = own_offset_there; own_slot = own_offset_slot; other_slot = other_offset_slot; inside = inside_offset }

-- ---- a size, and a byte

pub wrong_size : WrongSizeIsRefused
wrong_size image h x =
    let r = reference 48 r_x86_64_size64 1 (pos 0) in
    let v = other_there h.memory r _ 1 _ (h.kept shared_item kept) (8, omega arith, refl) (omega arith) size_formula refl open_is no_address in
    let is : v.value ≡ x.number = full_of shared_world h.memory shared_item r v.value x.number v.field x.there in
    let size : v.gives.0 ≡ 24 = other_size shared_layout shared_world 1 v.gives.0 _ open_is v.gives.1 in
    elim v.gives.2 [
      | inl e ↦ x.wrong (omega (arith, is, size, e))
      | inr s ↦ absurd (let n : 33 ≡ 32 = s.0.number in omega (arith, n))
    ]

-- ---- a distance of the own symbol

pub distance_formula : x86_64_formula r_x86_64_pc64 ≡ Some (formula Distance Full)
unfolding x86_64_formula
distance_formula = refl

pub no_near_code : IsSet 2 shf_execinstr → ⊥
no_near_code e = omega arith

pub near_kept : IsKept shared_layout near_item
near_kept = OfSection shared_near (record { input = record { group = _; grouped = (0, omega arith, refl); file = _; filed = (0, omega arith, refl); listed = (2, omega arith, refl) }; loaded = tt; room = refl; has_data = refl; written = λ p at h. (let off : false ≡ true = h.only.bare in cc) }) refl

-- the reference is one to the output's own symbol
pub near_uses : UsesOwnSymbolOnly shared_layout near_item near_reference
unfolding has_flag
near_uses = record {
  symbol = 1;
  named = refl;
  replaceable = record { definition = 1; defined = record { symbol = open_symbol; listed = refl; defined = inr (refl, refl) }; symbol = open_symbol; listed = refl; told = refl };
  formula = formula Distance Full;
  known = distance_formula;
  takes = inr (tt, (λ f. (let no : Distance ≡ SymbolAddress = f.value in cc)), (λ s. stub_of shared_layout 1 s.stub open_is.symbol open_is.resolution open_is.is open_is.decided open_is.unstubbed s.there));
  direct = λ b. (let no : machine.X86_64 ≡ machine.AArch64 = b.on in cc);
}

own_distance : (m : Memory) (v : ℕ) → GivesLinked Distance shared_layout shared_world near_item near_reference v → v ≡ 0xb0
own_distance m v g =
    let address : g.1.symbol ≡ 0x11110 = own_value_of shared_layout shared_world 1 0x1110 g.1.symbol open_symbol _ refl refl refl plain_open still_open g.1.denoted in
    omega (arith, address, g.1.sum, g.2)

pub wrong_near : WrongOwnDistanceIsRefused
wrong_near image h x = by_case ((h.kept near_item near_kept).linked near_reference (record { listed = (0, omega arith, refl); refers = refers r_x86_64_pc64 (omega arith) }) (λ o. (let off : false ≡ true = o.0 in cc)) (λ e. absurd (not_excepted shared_layout near_item near_reference 1 open_is.symbol refl open_is.is open_is.moves e)) near_uses)
  where
    by_formula : HoldsLinked shared_layout shared_world h.memory near_item near_reference → ⊥
    by_formula l =
        let both : Some l.formula ≡ Some (formula Distance Full) = sym l.known ∙ distance_formula in
        let same : l.formula ≡ formula Distance Full = cc in
        let gives = subst (λ (f : Formula). GivesLinked f.value shared_layout shared_world near_item near_reference l.value) same l.gives in
        let field = subst (λ (f : Formula). FieldReads shared_world h.memory near_item near_reference f.form l.value) same l.field in
        let is : l.value ≡ x.number = full_of shared_world h.memory near_item near_reference l.value x.number field x.there in
        let right : l.value ≡ 0xb0 = own_distance h.memory l.value gives in
        x.wrong (sym is ∙ right)

    by_case : LinkedHolds shared_layout shared_world h.memory near_item near_reference → ⊥
    by_case (inl l) = by_formula l
    by_case (inr (inl d)) = no_near_code d.template.stands.code
    by_case (inr (inr p)) = no_near_code p.sequence.stands.code

-- a field that ends before a byte
past : (n offset k width : ℕ) (g : Formula) → x86_64_formula n ≡ Some g → form_width g.form ≡ width → offset + width ≤ k → (f : Formula) → x86_64_formula n ≡ Some f → (k < offset) ⊎ (offset + form_width f.form ≤ k)
past n offset k width g is wide low f known =
    let both : Some g ≡ Some f = sym is ∙ known in
    let same : g ≡ f = cc in
    let same_width : form_width f.form ≡ width = sym (ap (λ (e : Formula). form_width e.form) same) ∙ wide in
    inr (omega (arith, same_width, low))

in_no_field : InNoField shared_layout shared_item 81
in_no_field =
    All-from_recursion (λ (r : InputRelocation). (f : Formula) → x86_64_formula r.number ≡ Some f → (81 < r.offset) ⊎ (r.offset + form_width f.form ≤ 81)) shared_references (
      past r_x86_64_gotpcrel64 0 81 8 _ slot_formula refl (omega arith),
      (
        past r_x86_64_64 8 81 8 _ address_formula refl (omega arith),
        (
          past r_x86_64_64 16 81 8 _ address_formula refl (omega arith),
          (
            past r_x86_64_tpoff64 24 81 8 _ pointer_formula refl (omega arith),
            (
              past r_x86_64_tlsgd 32 81 4 _ pair_formula refl (omega arith),
              (
                past r_x86_64_gottpoff 36 81 4 _ thread_slot_formula refl (omega arith),
                (
                  past r_x86_64_gotpc32_tlsdesc 40 81 4 _ descriptor_formula refl (omega arith),
                  (
                    past r_x86_64_tlsld 44 81 4 _ own_pair_formula refl (omega arith),
                    (
                      past r_x86_64_size64 48 81 8 _ size_formula refl (omega arith),
                      (
                        past r_x86_64_gotpcrel64 56 81 8 _ slot_formula refl (omega arith),
                        (
                          past r_x86_64_dtpoff64 64 81 8 _ inner_formula refl (omega arith),
                          (
                            past r_x86_64_tlsgd 72 81 4 _ pair_formula refl (omega arith),
                            (past r_x86_64_gottpoff 76 81 4 _ thread_slot_formula refl (omega arith), tt),
                          ),
                        ),
                      ),
                    ),
                  ),
                ),
              ),
            ),
          ),
        ),
      ),
    )

pub wrong_byte : WrongByteIsRefused
wrong_byte image h x =
    let other : IsOutsideReferences shared_layout shared_item 81 = record { fields = in_no_field; templates = λ r start o first _ t. absurd (no_template shared_layout shared_item r start o first no_code t) } in
    let there : byte_in h.memory 0x11051 ≡ Some 2 = (h.kept shared_item kept).others 81 (omega arith) other in
    let both : Some x.byte ≡ Some 2 = sym x.there ∙ there in
    let same : x.byte ≡ 2 = cc in
    x.wrong same
