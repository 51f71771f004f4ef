-- What is told of a symbol is one thing: its flags, its address, its value, its stub, its slots, and the address that instructions with a part each
-- of it have.
use Rattle.wild_references.proofs.Common.{◌≡◌, ℕ, ◌+◌, ◌%◌, ◌^◌, ◌⊎◌, inl, inr, Bool, true, false, sym, ap, ◌∙◌, subst, Option, Some, None, Ok, slice_get, AddressSlot, ModulePair, OwnModulePair, ThreadOffset, Descriptor, Resolution, Symbol, InputSection, File, Layout, has_flag, World, Answer, Memory, IsSymbol, IsDefinedBy, IsLocatedAt, IsResolved, IsUnresolved, HasRaw, HasFlag, IsValue, HasOwnValue, may_be_replaced, IsReplaceable, HasAnswer, HasValue, HasStub, IsSlot, IsOneAddress, canonical_is}
use Rattle.wild_reloc.specs.Formula.{Slot}
use Rattle.wild_types.specs.declared.symbol.Place.TheVariants as at
use Rattle.wild_meaning.specs.Slot.{offset_from_first, HasSlotAddress, HasSlot}

-- ---- the definition

one_definition : (l : Layout) (i c d : ℕ) → IsDefinedBy l i c → IsDefinedBy l i d → c ≡ d
one_definition l i c d a b = sym (canonical_is l i c a) ∙ canonical_is l i d b

one_symbol : (l : Layout) (i c d : ℕ) (s t : Symbol) → IsDefinedBy l i c → IsSymbol l c s → IsDefinedBy l i d → IsSymbol l d t → s ≡ t
one_symbol l i c d s t a e b f =
    let there : slice_get l.symbols d ≡ Some s = subst (λ (k : ℕ). slice_get l.symbols k ≡ Some s) (one_definition l i c d a b) e in
    let both : Some s ≡ Some t = sym there ∙ f in
    cc

one_flag : (l : Layout) (i flag : ℕ) (a b : Bool) → HasFlag l i flag a → HasFlag l i flag b → a ≡ b
one_flag l i flag a b h k = sym h.flagged ∙ ap (λ (s : Symbol). has_flag s.flags flag) (one_symbol l i h.definition k.definition h.symbol k.symbol h.defined h.listed k.defined k.listed) ∙ k.flagged

one_owner : (l : Layout) (i : ℕ) (a b : Bool) → IsReplaceable l i a → IsReplaceable l i b → a ≡ b
one_owner l i a b h k = sym h.told ∙ ap (λ (s : Symbol). may_be_replaced l.kind s.flags) (one_symbol l i h.definition k.definition h.symbol k.symbol h.defined h.listed k.defined k.listed) ∙ k.told

-- what was decided of it
one_resolution : (s t : Symbol) (a b : Resolution) → s ≡ t → s.resolution ≡ Some a → t.resolution ≡ Some b → a ≡ b
one_resolution s t a b same h k =
    let both : Some a ≡ Some b = sym h ∙ ap (λ (u : Symbol). u.resolution) same ∙ k in
    cc

-- ---- the address

one_place : (l : Layout) (i a b : ℕ) → IsLocatedAt l i a → IsLocatedAt l i b → a ≡ b
one_place l i a b h k =
    let symbols : Some h.symbol ≡ Some k.symbol = sym h.listed ∙ k.listed in
    let symbol : h.symbol ≡ k.symbol = cc in
    let places : at.Section h.number ≡ at.Section k.number = sym h.place ∙ ap (λ (s : Symbol). s.place) symbol ∙ k.place in
    let number : h.number ≡ k.number = cc in
    let files : Some h.file ≡ Some k.file = sym h.own ∙ k.own in
    let file : h.file ≡ k.file = cc in
    let found : slice_get k.file.sections k.number ≡ Some h.section = subst (λ (n : ℕ). slice_get k.file.sections n ≡ Some h.section) number (subst (λ (f : File). slice_get f.sections h.number ≡ Some h.section) file h.found) in
    let sections : Some h.section ≡ Some k.section = sym found ∙ k.found in
    let section : h.section ≡ k.section = cc in
    h.address ∙ ap (λ (s : InputSection). (s.address + h.symbol.value) % 2 ^ 64) section ∙ ap (λ (s : Symbol). (k.section.address + s.value) % 2 ^ 64) symbol ∙ sym k.address

unresolved : (l : Layout) (c a : ℕ) → IsResolved l c a → IsUnresolved l c → ⊥
unresolved l c a h none = (let both : Some h.resolution ≡ None = sym h.decided ∙ none h.symbol h.listed in cc)

one_raw : (l : Layout) (i a b : ℕ) → HasRaw l i a → HasRaw l i b → a ≡ b
one_raw l i a b h k = by h.given (subst (λ (c : ℕ). IsResolved l c b ⊎ (IsUnresolved l c × IsLocatedAt l i b)) (one_definition l i k.definition h.definition k.defined h.defined) k.given)
  where
    by : IsResolved l h.definition a ⊎ (IsUnresolved l h.definition × IsLocatedAt l i a) → IsResolved l h.definition b ⊎ (IsUnresolved l h.definition × IsLocatedAt l i b) → a ≡ b
    by (inl x) (inl y) = x.value ∙ ap (λ (r : Resolution). r.raw_value) (one_resolution x.symbol y.symbol x.resolution y.resolution (one_symbol l i h.definition h.definition x.symbol y.symbol h.defined x.listed h.defined y.listed) x.decided y.decided) ∙ sym y.value
    by (inl x) (inr y) = absurd (unresolved l h.definition a x y.0)
    by (inr x) (inl y) = absurd (unresolved l h.definition b y x.0)
    by (inr x) (inr y) = one_place l i a b x.1 y.1

-- ---- the value

one_own_value : (l : Layout) (w : World) (i a b : ℕ) → HasOwnValue l w i a → HasOwnValue l w i b → a ≡ b
one_own_value l w i a b h k =
    let raw = subst (λ (n : ℕ). IsValue w h.indirect h.still n a) (one_raw l i h.raw k.raw h.given k.given) h.is in
    let indirect = subst (λ (c : Bool). IsValue w c h.still k.raw a) (one_flag l i _ h.indirect k.indirect h.resolved k.resolved) raw in
    by k.indirect k.still k.raw (subst (λ (c : Bool). IsValue w k.indirect c k.raw a) (one_flag l i _ h.still k.still h.absolute k.absolute) indirect) k.is
  where
    by : (indirect still : Bool) (raw : ℕ) → IsValue w indirect still raw a → IsValue w indirect still raw b → a ≡ b
    by true still raw x y = (let both : Ok a ≡ Ok b = sym x ∙ y in cc)
    by false still raw x y = x ∙ sym y

one_answer : (l : Layout) (w : World) (i : ℕ) (x y : Answer) → HasAnswer l w i x → HasAnswer l w i y → x ≡ y
one_answer l w i x y h k =
    let decided = one_resolution h.symbol k.symbol h.resolution k.resolution (one_symbol l i h.definition k.definition h.symbol k.symbol h.defined h.listed k.defined k.listed) h.decided k.decided in
    let indexes : Some h.index ≡ Some k.index = sym h.told ∙ ap (λ (r : Resolution). r.dynamic_symbol_index) decided ∙ k.told in
    let index : h.index ≡ k.index = cc in
    let both : Some x ≡ Some y = sym h.given ∙ ap (slice_get w.symbols) index ∙ k.given in
    cc

pub one_value : (l : Layout) (w : World) (i a b : ℕ) → HasValue l w i a → HasValue l w i b → a ≡ b
one_value l w i a b (inl h) (inl k) = h.3 ∙ ap (λ (x : Answer). x.address) (one_answer l w i h.1 k.1 h.2 k.2) ∙ sym k.3
one_value l w i a b (inl h) (inr k) = (let both : true ≡ false = one_owner l i true false h.0 k.0 in cc)
one_value l w i a b (inr h) (inl k) = (let both : true ≡ false = one_owner l i true false k.0 h.0 in cc)
one_value l w i a b (inr h) (inr k) = one_own_value l w i a b h.1 k.1

-- ---- the stub, and what stands for the symbol

one_stub : (l : Layout) (i p q : ℕ) → HasStub l i p → HasStub l i q → p ≡ q
one_stub l i p q h k =
    let decided = one_resolution h.symbol k.symbol h.resolution k.resolution (one_symbol l i h.definition k.definition h.symbol k.symbol h.defined h.listed k.defined k.listed) h.decided k.decided in
    let both : Some p ≡ Some q = sym h.stub ∙ ap (λ (r : Resolution). r.plt_address) decided ∙ k.stub in
    cc

pub one_address : (l : Layout) (w : World) (m : Memory) (i a b : ℕ) → IsOneAddress l w m i a → IsOneAddress l w m i b → a ≡ b
one_address l w m i a b (inl h) (inl k) = h.2 ∙ ap (λ (p : ℕ). (w.base + p) % 2 ^ 64) (one_stub l i h.0 k.0 h.1.stub k.1.stub) ∙ sym k.2
one_address l w m i a b (inl h) (inr k) = absurd (k.0 h.0 h.1)
one_address l w m i a b (inr h) (inl k) = absurd (h.0 k.0 k.1)
one_address l w m i a b (inr h) (inr k) = one_value l w i a b h.1 k.1

-- ---- slots

decided_once : (sort : Slot) (l : Layout) (i p q : ℕ) → HasSlotAddress sort l i p → HasSlotAddress sort l i q → p ≡ q
decided_once sort l i p q h k =
    let symbol = one_symbol l i h.definition k.definition h.symbol k.symbol h.defined h.listed k.defined k.listed in
    let decided = one_resolution h.symbol k.symbol h.resolution k.resolution symbol h.decided k.decided in
    let places : Some h.first ≡ Some k.first = sym h.given ∙ ap (λ (r : Resolution). r.got_address) decided ∙ k.given in
    let first : h.first ≡ k.first = cc in
    h.place ∙ ap (λ (n : ℕ). n + offset_from_first sort h.symbol.flags) first ∙ ap (λ (s : Symbol). k.first + offset_from_first sort s.flags) symbol ∙ sym k.place

one_slot_place : (sort : Slot) (l : Layout) (i p q : ℕ) → HasSlot sort l i p → HasSlot sort l i q → p ≡ q
one_slot_place AddressSlot l i p q h k = decided_once AddressSlot l i p q h k
one_slot_place ModulePair l i p q h k = decided_once ModulePair l i p q h k
one_slot_place OwnModulePair l i p q h k = (let both : Some p ≡ Some q = sym h ∙ k in cc)
one_slot_place ThreadOffset l i p q h k = decided_once ThreadOffset l i p q h k
one_slot_place Descriptor l i p q h k = decided_once Descriptor l i p q h k

pub one_slot : (sort : Slot) (l : Layout) (w : World) (m : Memory) (symbol : Option ℕ) (g h : ℕ) → IsSlot sort l w m symbol g → IsSlot sort l w m symbol h → g ≡ h
one_slot sort l w m None g h a b = absurd a
one_slot sort l w m (Some i) g h a b = a.moves ∙ ap (λ (p : ℕ). (w.base + p) % 2 ^ 64) (one_slot_place sort l i a.slot b.slot a.given b.given) ∙ sym b.moves
