-- The value of each row with a term is what the row's expression gives.
use Rattle.wild_references.proofs.Common.{◌≡◌, ℕ, ◌+◌, ◌-◌, ◌*◌, ◌/◌, ◌%◌, ◌^◌, ◌<◌, ◌≤◌, ◌⊎◌, inl, inr, Bool, true, false, refl, sym, ap, ◌∙◌, arith, subst, Option, Some, None, Ok, not, ◌&&◌, ◌||◌, ◌==◌, is_none, if◌then◌else◌, and_parts, eqb-true, Machine, InputRelocation, Layout, KeepsAll, place_of, kind_treatment, row_accepts, expression_of, paged, subtrahend_of, expressed, slot_sort, writes, Value, Distance, StubDistance, StubFromTable, SlotAddress, SlotDistance, SlotPageDistance, SlotSort, Subtrahend, Term, PageMask, RelocationKind, RelocationKindInfo, stub_address, subtract, is_undefined_weak_without_stub, subtracts_place, adds_symbol, weak_resolves_to_place, undefined_weak_target, term_by, Memory, World, Item, place_at, is_listed, branch_types, page_of, IsTarget, IsReferent, IsPlaceRelative, HasOffsetMode, Gives, GivesLinked, TakesAddress, TakesOffset, TakesString, IsSlot, HasStubAddress, IsPlaced, is_expressed, value_by_row, IsDirect, HasTerm, IsFollowed, RowGives, RowGivesLinked, TermGives, IsReplaceable}
use Rattle.wild_types.specs.declared.kind.Machine.TheVariants as machine
use Rattle.wild_slot.specs.declared.treatment.Treatment.TheVariants as treatments
use Rattle.wild_slot.specs.Treatment.{named, is_slot}
use Rattle.wild_reloc.specs.Agreement as shape
use Rattle.wild_reloc.specs.Formula.{SlotFromTable, SlotFromTablePage}
use Rattle.wild_reloc.specs.declared.expression.Class.TheVariants as class
use Rattle.wild_reloc.specs.declared.expression.SlotSort.TheVariants as sorts
use Rattle.wild_reloc.specs.declared.expression.Subtrahend.TheVariants as subtrahend
use Rattle.wild_reloc.specs.declared.expression.Term.TheVariants as term
use Rattle.wild_reloc.specs.declared.info.PageMask.TheVariants as masks
use Rattle.wild_reloc.specs.declared.info.RelocationKind.TheVariants as kinds
use Rattle.wild_layout.specs.Values.{term_value}
use Rattle.wild_meaning.specs.Formula.{IsReferentOnX86_64}
use Rattle.wild_references.specs.Laws.{TermGivesLinked, StubsRepresentSymbols, SlotsGive, GivesPart, GivesLinkedPart, PartsGive, PartsGiveLinked}
use Rattle.wild_references.proofs.AddressSlots.{slots_are_placed}
use Rattle.wild_references.proofs.DescriptorSlots.{descriptors_stand}
use Rattle.wild_references.proofs.Referents.{no_mask, with_mask, of_table, sized_is, absent, present, own_parts, not_own, named_absent, own_at, own_referent, referent}
use Rattle.wild_references.proofs.Relatives.{less_place, less_table}
use Rattle.wild_references.proofs.SlotTerms.{SlotsAgree, SlotsStand, address_slots, offset_slots, pair_slots, descriptor_slots, own_pair_slot, slot_given}
use Rattle.wild_references.proofs.StubCode.{StubLaws, paged_on}
use Rattle.wild_references.proofs.SymbolStubs.{goal_given, goal_stands}
use Rattle.wild_references.proofs.ThreadKinds.{gives_pointer, links_pointer, gives_offset, links_offset}
use Rattle.wild_references.proofs.ThreadPlaces.{offsets_stand, pairs_stand, own_pair_stands}
use Rattle.wild_references.proofs.MovingSymbols.{symbol_named}
use Rattle.wild_references.proofs.ValueKinds.{more, value_is, taken_is, plain_term, gives_sum, gives_part, gives_distance, gives_from_table, links_sum, links_part, links_distance, links_from_table, gives_table, gives_size}

-- ---- S

-- the kinds with S
symbol_kind : (k : RelocationKind) → (expression_of k).term ≡ term.Symbol → writes (expression_of k).class ≡ true → (k ≡ kinds.Absolute) ⊎ ((k ≡ kinds.Relative) ⊎ (k ≡ kinds.SymRelGotBase))
symbol_kind kinds.Absolute e v = inl refl
symbol_kind kinds.Relative e v = inr (inl refl)
symbol_kind kinds.SymRelGotBase e v = inr (inr refl)
symbol_kind other e v = cc

pub symbols_give : StubLaws → TermGives term.Symbol
symbols_give law = λ info e v. by_kind law info (symbol_kind info.kind e v)
  where
    by_kind : StubLaws → (info : RelocationKindInfo) → (info.kind ≡ kinds.Absolute) ⊎ ((info.kind ≡ kinds.Relative) ⊎ (info.kind ≡ kinds.SymRelGotBase)) → RowGives info
    by_kind law info (inl k) = gives_sum law info k
    by_kind law info (inr (inl k)) = gives_distance law info k
    by_kind law info (inr (inr k)) = gives_from_table law info k

pub symbols_link : TermGivesLinked term.Symbol
symbols_link = λ info e v. by_kind info e (symbol_kind info.kind e v)
  where
    by_kind : (info : RelocationKindInfo) → (expression_of info.kind).term ≡ term.Symbol → (info.kind ≡ kinds.Absolute) ⊎ ((info.kind ≡ kinds.Relative) ⊎ (info.kind ≡ kinds.SymRelGotBase)) → RowGivesLinked info
    by_kind info e (inl k) = links_sum info k
    by_kind info e (inr (inl k)) = links_distance info k
    by_kind info e (inr (inr k)) = links_from_table info k

-- ---- L

-- an expression that takes L: of a stub, or of the distance of a branch
abbrev TakesL : Layout → InputRelocation → Value → Type 0
TakesL l r v = ((v ≡ StubDistance) ⊎ ((v ≡ Distance) × (l.machine ≡ machine.AArch64) × (is_listed r.number branch_types ≡ true))) ⊎ ((v ≡ StubFromTable) × (l.machine ≡ machine.X86_64))

-- L, as the writer has it, or the place itself
stub_refers : StubLaws → (v : Value) (l : Layout) (w : World) (m : Memory) (s : Item) (r : InputRelocation) (info : RelocationKindInfo) (x : ℕ) → (h : HasTerm l w m s r info x) → (expression_of info.kind).term ≡ term.Stub → named r.symbol (λ i. treatments.Value h.row) ≡ treatments.Value h.row → TakesL l r v → (l.machine ≡ machine.AArch64 → subtracts_place (subtrahend_of info.kind info.mask) ≡ true) → (TakesString v l r → ⊥) → IsReferent l.machine v l w m s r ((w.base + h.term) % 2 ^ 64)
stub_refers law v l w m s r info x h stub treated which place none = by_own (weak_resolves_to_place l.machine l r info) refl h.given
  where
    distance : l.machine ≡ machine.AArch64 → TakesL l r v → (v ≡ StubDistance) ⊎ ((v ≡ Distance) × (is_listed r.number branch_types ≡ true))
    distance on (inl (inl e)) = inl e
    distance on (inl (inr d)) = inr (d.0, d.2)
    distance on (inr t) = absurd (let e : machine.AArch64 ≡ machine.X86_64 = sym on ∙ t.1 in cc)

    on_x86 : (a : ℕ) → IsTarget l w m r.symbol a → TakesL l r v → l.machine ≡ machine.X86_64 → IsReferentOnX86_64 v l w m r.symbol a
    on_x86 a t (inl (inl e)) x = subst (λ (q : Value). IsReferentOnX86_64 q l w m r.symbol a) (sym e) t
    on_x86 a t (inl (inr d)) x = absurd (let e : machine.AArch64 ≡ machine.X86_64 = sym d.1 ∙ x in cc)
    on_x86 a t (inr d) x = subst (λ (q : Value). IsReferentOnX86_64 q l w m r.symbol a) (sym d.0) t

    relative_by : (v ≡ StubDistance) ⊎ ((v ≡ Distance) × (is_listed r.number branch_types ≡ true)) → IsPlaceRelative v
    relative_by (inl e) = subst IsPlaceRelative (sym e) tt
    relative_by (inr e) = subst IsPlaceRelative (sym e.0) tt

    whole : weak_resolves_to_place l.machine l r info ≡ false → KeepsAll l
    whole e = elim h.present [ inl all ↦ all | inr own ↦ (let both : true ≡ false = sym (subst (λ (t : Term). IsDirect l r info t) stub own) ∙ e in cc) ]

    by_own : (b : Bool) → weak_resolves_to_place l.machine l r info ≡ b → (if b then Ok (undefined_weak_target r.number (place_of s.address r)) else term_by l r (expression_of info.kind).term) ≡ Ok h.term → IsReferent l.machine v l w m s r ((w.base + h.term) % 2 ^ 64)
    by_own true e g =
        let o = own_parts l.machine l r info e in
        let n = named_absent l r.symbol o.absent in
        let a = absent l w m r n.0 h.placed h.listed n.1 n.2 in
        let relative = relative_by (distance o.on which) in
        let term : undefined_weak_target r.number (place_of s.address r) ≡ h.term = cc in
        let at = own_at w s r h.place ∙ ap (λ (n : ℕ). (w.base + n) % 2 ^ 64) term in
        subst (λ (n : ℕ). IsReferent l.machine v l w m s r n) at (own_referent v l w m s r n.0 o.on n.1 (relative, a))
    by_own false e g =
        let i = symbol_named r.symbol (λ i. treatments.Value h.row) h.row treated in
        let given : stub_address l r.symbol ≡ Ok h.term = subst (λ (t : Term). term_by l r t ≡ Ok h.term) stub g in
        referent v l w m s r ((w.base + h.term) % 2 ^ 64) none (on_x86 ((w.base + h.term) % 2 ^ 64) (goal_given law l w m r.symbol i.0 h.term h.placed (whole e) i.1 given) which) (λ none_named. absurd (let both : None ≡ Some i.0 = sym none_named ∙ i.1 in cc))
        (λ j n on. (
          λ own. present l j (subst (λ (o : Option ℕ). is_undefined_weak_without_stub l o ≡ false) n (not_own l.machine l r info e on (ap adds_symbol stub) (place on))) own.1,
          goal_stands law v l w m r j h.term h.placed (whole e) (distance on which) (subst (λ (o : Option ℕ). stub_address l o ≡ Ok h.term) n given),
        ))

stub_kind : (k : RelocationKind) → (expression_of k).term ≡ term.Stub → (k ≡ kinds.PltRelative) ⊎ (k ≡ kinds.PltRelGotBase)
stub_kind kinds.PltRelative e = inl refl
stub_kind kinds.PltRelGotBase e = inr refl
stub_kind other e = cc

-- the distance of the stub, as the writer has it
record IsStubDistance (v : Value) (l : Layout) (w : World) (m : Memory) (s : Item) (r : InputRelocation) (info : RelocationKindInfo) (x : ℕ) : Type 0 where
  is : value_by_row info ≡ StubDistance
  symbol : ℕ
  referent : IsReferent l.machine v l w m s r symbol
  value : x ≡ (symbol + more r + (2 ^ 64 - place_at w s r.offset)) % 2 ^ 64

stub_distance_is : StubLaws → (v : Value) (info : RelocationKindInfo) → info.kind ≡ kinds.PltRelative → (l : Layout) (w : World) (m : Memory) (s : Item) (r : InputRelocation) (x : ℕ) → TakesL l r v → HasTerm l w m s r info x → (TakesString v l r → ⊥) → IsStubDistance v l w m s r info x
stub_distance_is law v info kind l w m s r x which h none =
    let mask = no_mask l.machine term.Stub subtrahend.Place info.mask (subst (λ (k : RelocationKind). is_expressed l.machine (expression_of k).term (expression_of k).subtrahend info.mask ≡ true) kind h.expressed) refl in
    let less : subtrahend_of info.kind info.mask ≡ subtrahend.Place = taken_is info kinds.PltRelative None kind mask in
    let treated = subst (λ (k : RelocationKind). kind_treatment l s.flags h.number r.symbol h.row k ≡ treatments.Value h.row) kind h.treated in
    let value = subst (λ (u : Subtrahend). subtract l u h.term r.addend (place_of s.address r) ≡ x) less h.value in
    record {
      is = value_is info kinds.PltRelative None kind mask ∙ sized_is info.size StubDistance refl;
      symbol = (w.base + h.term) % 2 ^ 64;
      referent = stub_refers law v l w m s r info x h (ap (λ (k : RelocationKind). (expression_of k).term) kind) treated which (λ on. ap subtracts_place less) none;
      value = less_place l w m s r info x h value;
    }

stub_distance : StubLaws → (info : RelocationKindInfo) → info.kind ≡ kinds.PltRelative → RowGives info
stub_distance law info kind = λ l w m s r x h f.
    let d = stub_distance_is law StubDistance info kind l w m s r x (inl (inl refl)) h (λ t. t.0) in
    subst (λ (v : Value). Gives v l w m s r x) (sym d.is) (d.symbol, d.referent, d.value)

flat : (x c q : ℕ) → (x + c + q) % 2 ^ 64 ≡ ((x + c) % 2 ^ 64 + q) % 2 ^ 64
flat x c q = omega arith

pub stubs_stand : StubLaws → StubsRepresentSymbols
stubs_stand law info kind l w m s r x on branch none h =
    let d = stub_distance_is law Distance info kind l w m s r x (inl (inr (refl, on, branch))) h (λ t. none t.1) in
    ((d.symbol + more r) % 2 ^ 64, record { symbol = d.symbol; denoted = d.referent; sum = refl }, d.value ∙ flat d.symbol (more r) (2 ^ 64 - place_at w s r.offset))

stub_offset : StubLaws → (info : RelocationKindInfo) → info.kind ≡ kinds.PltRelGotBase → RowGives info
stub_offset law info kind = λ l w m s r x h f.
    let expressed = subst (λ (k : RelocationKind). is_expressed l.machine (expression_of k).term (expression_of k).subtrahend info.mask ≡ true) kind h.expressed in
    let mask = no_mask l.machine term.Stub subtrahend.GotBase info.mask expressed refl in
    let x86 = of_table l.machine term.Stub (subst (λ (o : Option PageMask). is_expressed l.machine term.Stub subtrahend.GotBase o ≡ true) mask expressed) in
    let is : value_by_row info ≡ StubFromTable = value_is info kinds.PltRelGotBase None kind mask ∙ sized_is info.size StubFromTable refl in
    let less : subtrahend_of info.kind info.mask ≡ subtrahend.GotBase = taken_is info kinds.PltRelGotBase None kind mask in
    let treated = subst (λ (k : RelocationKind). kind_treatment l s.flags h.number r.symbol h.row k ≡ treatments.Value h.row) kind h.treated in
    let a = stub_refers law StubFromTable l w m s r info x h (ap (λ (k : RelocationKind). (expression_of k).term) kind) treated (inr (refl, x86)) (λ on. (let e : machine.AArch64 ≡ machine.X86_64 = sym on ∙ x86 in cc)) (λ t. t.0) in
    let value = subst (λ (u : Subtrahend). subtract l u h.term r.addend (place_of s.address r) ≡ x) less h.value in
    subst (λ (v : Value). Gives v l w m s r x) (sym is) ((w.base + h.term) % 2 ^ 64, a, less_table l w m s r info x h value)

pub stubs_give : StubLaws → TermGives term.Stub
stubs_give law = λ info e v. by_kind law info (stub_kind info.kind e)
  where
    by_kind : StubLaws → (info : RelocationKindInfo) → (info.kind ≡ kinds.PltRelative) ⊎ (info.kind ≡ kinds.PltRelGotBase) → RowGives info
    by_kind law info (inl k) = stub_distance law info k
    by_kind law info (inr k) = stub_offset law info k

-- ---- G

-- the slots of each sort are the reader's, and stand in memory where all is written
slots_agree : (sort : SlotSort) (l : Layout) (w : World) (m : Memory) → IsPlaced l w m → SlotsAgree sort l
slots_agree sorts.Address l w m p = address_slots l p.symbols.own p.symbols.flags
slots_agree sorts.TlsGd l w m p = pair_slots l p.symbols.own
slots_agree sorts.TlsLd l w m p = own_pair_slot l
slots_agree sorts.TpOff l w m p = offset_slots l p.symbols.own
slots_agree sorts.TlsDesc l w m p = descriptor_slots l p.symbols.own

all_stand : StubLaws → (sort : SlotSort) (l : Layout) (w : World) (m : Memory) → IsPlaced l w m → KeepsAll l → SlotsStand sort l w m
all_stand law sorts.Address l w m p all = slots_are_placed law l w m p all
all_stand law sorts.TlsGd l w m p all = pairs_stand l w m p all
all_stand law sorts.TlsLd l w m p all = own_pair_stands l w m p all
all_stand law sorts.TpOff l w m p all = offsets_stand l w m p all
all_stand law sorts.TlsDesc l w m p all = descriptors_stand l w m p all

-- a kind of a slot needs a symbol
slot_named : (sort : SlotSort) (k : RelocationKind) (l : Layout) (s : Item) (r : InputRelocation) (number : ℕ) (row : RelocationKindInfo) → (expression_of k).term ≡ term.Slot sort → kind_treatment l s.flags number r.symbol row k ≡ treatments.Value row → (i : ℕ) × (r.symbol ≡ Some i)
slot_named sort k l s r number row e treated = by_symbol r.symbol refl treated
  where
    nameless : (k : RelocationKind) → (expression_of k).term ≡ term.Slot sort → kind_treatment l s.flags number None row k ≡ treatments.Value row → ⊥
    nameless kinds.Got e t = cc
    nameless kinds.GotRelative e t = cc
    nameless kinds.GotRelGotBase e t = cc
    nameless kinds.TlsGd e t = cc
    nameless kinds.TlsGdGot e t = cc
    nameless kinds.TlsLd e t = cc
    nameless kinds.GotTpOff e t = cc
    nameless kinds.GotTpOffGot e t = cc
    nameless kinds.TlsDesc e t = cc
    nameless kinds.TlsDescGot e t = cc
    nameless other e t = cc

    by_symbol : (o : Option ℕ) → r.symbol ≡ o → kind_treatment l s.flags number o row k ≡ treatments.Value row → (i : ℕ) × (r.symbol ≡ Some i)
    by_symbol None named t = absurd (nameless k e t)
    by_symbol (Some i) named t = (i, named)

slot_here : StubLaws → (sort : SlotSort) (l : Layout) (w : World) (m : Memory) (s : Item) (r : InputRelocation) (info : RelocationKindInfo) (x : ℕ) → (h : HasTerm l w m s r info x) → (expression_of info.kind).term ≡ term.Slot sort → IsSlot (slot_sort sort) l w m r.symbol ((w.base + h.term) % 2 ^ 64)
slot_here law sort l w m s r info x h e =
    let i = slot_named sort info.kind l s r h.number h.row e h.treated in
    let plain = plain_term l w m s r info x h (ap adds_symbol e) in
    let all : KeepsAll l = elim h.present [ inl all ↦ all | inr none ↦ absurd (subst (λ (t : Term). IsDirect l r info t) e none) ] in
    slot_given sort l w m r.symbol i.0 h.term (slots_agree sort l w m h.placed) (all_stand law sort l w m h.placed all) i.1 (subst (λ (t : Term). term_value l r.symbol t ≡ Ok h.term) e plain)

-- on AArch64 nothing is added to it
adds_nothing : (k : Machine) (r : InputRelocation) (info : RelocationKindInfo) (sort : SlotSort) → k ≡ machine.AArch64 → row_accepts k r info ≡ true → (expression_of info.kind).term ≡ term.Slot sort → more r ≡ 0
adds_nothing machine.X86_64 r info sort on h e = cc
adds_nothing machine.AArch64 r info sort on h e =
    let a = (and_parts (more r == 0 || not (is_slot (expression_of info.kind).term)) (not (is_none r.symbol && not (is_none info.mask))) h).0 in
    eqb-true _ _ (first (more r == 0) (is_slot (expression_of info.kind).term) a (ap is_slot e))
  where
    first : (a b : Bool) → (a || not b) ≡ true → b ≡ true → a ≡ true
    first true b h e = refl
    first false true h e = cc
    first false false h e = cc

-- ---- what is taken

-- the kind with the slot of a sort, by what is taken
slot_taken : (sort : SlotSort) (k : RelocationKind) → (expression_of k).term ≡ term.Slot sort → writes (expression_of k).class ≡ true → ((expression_of k).subtrahend ≡ subtrahend.Place) ⊎ ((sort ≡ sorts.Address) × ((expression_of k).subtrahend ≡ subtrahend.GotBase))
slot_taken sort kinds.GotRelative e v = inl refl
slot_taken sorts.Address kinds.GotRelGotBase e v = inr (refl, refl)
slot_taken sort kinds.TlsGd e v = inl refl
slot_taken sort kinds.TlsLd e v = inl refl
slot_taken sort kinds.GotTpOff e v = inl refl
slot_taken sort kinds.TlsDesc e v = inl refl
slot_taken sort other e v = cc

-- the distance of a slot that is not taken by its page, where a descriptor's reference is no offset
gives_slot_distance : (sort : SlotSort) (l : Layout) (w : World) (m : Memory) (s : Item) (r : InputRelocation) (x g : ℕ) → IsSlot (slot_sort sort) l w m r.symbol g → (sort ≡ sorts.TlsDesc → HasOffsetMode l s → ⊥) → x ≡ (g + more r + (2 ^ 64 - place_at w s r.offset)) % 2 ^ 64 → Gives (SlotDistance (slot_sort sort)) l w m s r x
gives_slot_distance sorts.Address l w m s r x g slot none e = (g, slot, e)
gives_slot_distance sorts.TlsGd l w m s r x g slot none e = (g, slot, e)
gives_slot_distance sorts.TlsLd l w m s r x g slot none e = (g, slot, e)
gives_slot_distance sorts.TpOff l w m s r x g slot none e = (g, slot, e)
gives_slot_distance sorts.TlsDesc l w m s r x g slot none e = (g, slot, none refl, e)

-- pages move with the base
slot_pages : (base a c p : ℕ) → base % 4096 ≡ 0 → c ≡ 0 → base + p ≤ 2 ^ 64 → ((a + c) % 2 ^ 64 / 4096 * 4096 + (2 ^ 64 - p / 4096 * 4096)) % 2 ^ 64 ≡ (page_of ((base + a) % 2 ^ 64) + (2 ^ 64 - page_of (base + p))) % 2 ^ 64
slot_pages base a c p pages none ends = omega (arith, pages, none, ends)

table_pages : (base a c g : ℕ) → base % 4096 ≡ 0 → c ≡ 0 → g < 2 ^ 64 → ((a + c) % 2 ^ 64 + (2 ^ 64 - g / 4096 * 4096)) % 2 ^ 64 ≡ ((base + a) % 2 ^ 64 + (2 ^ 64 - page_of ((base + g) % 2 ^ 64))) % 2 ^ 64
table_pages base a c g pages none low = omega (arith, pages, none, low)

-- what is taken, and the value of a slot's row
slot_less : (info : RelocationKindInfo) (u : Subtrahend) (mask : Option PageMask) → (expression_of info.kind).subtrahend ≡ u → info.mask ≡ mask → subtrahend_of info.kind info.mask ≡ paged mask u
slot_less info u mask f g = ap (λ (y : Subtrahend). paged info.mask y) f ∙ ap (λ (o : Option PageMask). paged o u) g

slot_value : (sort : SlotSort) (info : RelocationKindInfo) (u : Subtrahend) (mask : Option PageMask) → (expression_of info.kind).term ≡ term.Slot sort → (expression_of info.kind).subtrahend ≡ u → info.mask ≡ mask → value_by_row info ≡ shape.sized info.size (expressed (term.Slot sort) (paged mask u))
slot_value sort info u mask e f g = ap (λ (t : Term). shape.sized info.size (expressed t (subtrahend_of info.kind info.mask))) e ∙ ap (λ (y : Subtrahend). shape.sized info.size (expressed (term.Slot sort) y)) (slot_less info u mask f g)

-- what is said of it
abbrev SlotGives : SlotSort → RelocationKindInfo → Type 0
SlotGives sort info = (l : Layout) (w : World) (m : Memory) (s : Item) (r : InputRelocation) (x : ℕ) → HasTerm l w m s r info x → (sort ≡ sorts.TlsDesc → HasOffsetMode l s → ⊥) → Gives (value_by_row info) l w m s r x

place_given : StubLaws → (sort : SlotSort) (info : RelocationKindInfo) → (expression_of info.kind).term ≡ term.Slot sort → (expression_of info.kind).subtrahend ≡ subtrahend.Place → SlotGives sort info
place_given law sort info e f = λ l w m s r x h none. by_mask law sort info e f l w m s r x h none info.mask refl (here sort info e f l.machine h.expressed)
  where
    here : (sort : SlotSort) (info : RelocationKindInfo) → (expression_of info.kind).term ≡ term.Slot sort → (expression_of info.kind).subtrahend ≡ subtrahend.Place → (k : Machine) → is_expressed k (expression_of info.kind).term (expression_of info.kind).subtrahend info.mask ≡ true → is_expressed k (term.Slot sort) subtrahend.Place info.mask ≡ true
    here sort info e f k h = subst (λ (t : Term). is_expressed k t subtrahend.Place info.mask ≡ true) e (subst (λ (u : Subtrahend). is_expressed k (expression_of info.kind).term u info.mask ≡ true) f h)

    by_mask : StubLaws → (sort : SlotSort) (info : RelocationKindInfo) → (expression_of info.kind).term ≡ term.Slot sort → (expression_of info.kind).subtrahend ≡ subtrahend.Place → (l : Layout) (w : World) (m : Memory) (s : Item) (r : InputRelocation) (x : ℕ) → (h : HasTerm l w m s r info x) → (sort ≡ sorts.TlsDesc → HasOffsetMode l s → ⊥) → (o : Option PageMask) → info.mask ≡ o → is_expressed l.machine (term.Slot sort) subtrahend.Place o ≡ true → Gives (value_by_row info) l w m s r x
    by_mask law sort info e f l w m s r x h none None mask fit =
        let is = slot_value sort info subtrahend.Place None e f mask ∙ sized_is info.size (SlotDistance (slot_sort sort)) refl in
        let value = subst (λ (u : Subtrahend). subtract l u h.term r.addend (place_of s.address r) ≡ x) (slot_less info subtrahend.Place None f mask) h.value in
        subst (λ (v : Value). Gives v l w m s r x) (sym is) (gives_slot_distance sort l w m s r x ((w.base + h.term) % 2 ^ 64) (slot_here law sort l w m s r info x h e) none (less_place l w m s r info x h value))
    by_mask law sort info e f l w m s r x h none (Some masks.GotEntryAndPosition) mask fit =
        let on = (with_mask l.machine (term.Slot sort) subtrahend.Place masks.GotEntryAndPosition fit).0 in
        let is = slot_value sort info subtrahend.Place (Some masks.GotEntryAndPosition) e f mask ∙ sized_is info.size (SlotPageDistance (slot_sort sort)) refl in
        let value = subst (λ (u : Subtrahend). subtract l u h.term r.addend (place_of s.address r) ≡ x) (slot_less info subtrahend.Place (Some masks.GotEntryAndPosition) f mask) h.value in
        let g = (w.base + h.term) % 2 ^ 64 in
        let pages = slot_pages w.base h.term (more r) (place_of s.address r) (paged_on l w h.placed.paged on).pages (adds_nothing l.machine r info sort on h.row_that_accepts e) h.ends in
        let at = ap (λ (p : ℕ). (page_of g + (2 ^ 64 - page_of p)) % 2 ^ 64) (sym h.place) in
        subst (λ (v : Value). Gives v l w m s r x) (sym is) (g, (slot_here law sort l w m s r info x h e, adds_nothing l.machine r info sort on h.row_that_accepts e), sym value ∙ pages ∙ at)
    by_mask law sort info e f l w m s r x h none (Some masks.SymbolPlusAddendAndPosition) mask fit = (let no = (with_mask l.machine (term.Slot sort) subtrahend.Place masks.SymbolPlusAddendAndPosition fit).1 in cc)
    by_mask law sort info e f l w m s r x h none (Some masks.GotBase) mask fit = (let no = (with_mask l.machine (term.Slot sort) subtrahend.Place masks.GotBase fit).1 in cc)

table_given : StubLaws → (info : RelocationKindInfo) → (expression_of info.kind).term ≡ term.Slot sorts.Address → (expression_of info.kind).subtrahend ≡ subtrahend.GotBase → SlotGives sorts.Address info
table_given law info e f = λ l w m s r x h none. by_mask law info e f l w m s r x h info.mask refl (here info e f l.machine h.expressed)
  where
    here : (info : RelocationKindInfo) → (expression_of info.kind).term ≡ term.Slot sorts.Address → (expression_of info.kind).subtrahend ≡ subtrahend.GotBase → (k : Machine) → is_expressed k (expression_of info.kind).term (expression_of info.kind).subtrahend info.mask ≡ true → is_expressed k (term.Slot sorts.Address) subtrahend.GotBase info.mask ≡ true
    here info e f k h = subst (λ (t : Term). is_expressed k t subtrahend.GotBase info.mask ≡ true) e (subst (λ (u : Subtrahend). is_expressed k (expression_of info.kind).term u info.mask ≡ true) f h)

    by_mask : StubLaws → (info : RelocationKindInfo) → (expression_of info.kind).term ≡ term.Slot sorts.Address → (expression_of info.kind).subtrahend ≡ subtrahend.GotBase → (l : Layout) (w : World) (m : Memory) (s : Item) (r : InputRelocation) (x : ℕ) → (h : HasTerm l w m s r info x) → (o : Option PageMask) → info.mask ≡ o → is_expressed l.machine (term.Slot sorts.Address) subtrahend.GotBase o ≡ true → Gives (value_by_row info) l w m s r x
    by_mask law info e f l w m s r x h None mask fit =
        let is = slot_value sorts.Address info subtrahend.GotBase None e f mask ∙ sized_is info.size SlotFromTable refl in
        let value = subst (λ (u : Subtrahend). subtract l u h.term r.addend (place_of s.address r) ≡ x) (slot_less info subtrahend.GotBase None f mask) h.value in
        subst (λ (v : Value). Gives v l w m s r x) (sym is) ((w.base + h.term) % 2 ^ 64, slot_here law sorts.Address l w m s r info x h e, less_table l w m s r info x h value)
    by_mask law info e f l w m s r x h (Some masks.GotBase) mask fit =
        let on = (with_mask l.machine (term.Slot sorts.Address) subtrahend.GotBase masks.GotBase fit).0 in
        let is = slot_value sorts.Address info subtrahend.GotBase (Some masks.GotBase) e f mask ∙ sized_is info.size SlotFromTablePage refl in
        let value = subst (λ (u : Subtrahend). subtract l u h.term r.addend (place_of s.address r) ≡ x) (slot_less info subtrahend.GotBase (Some masks.GotBase) f mask) h.value in
        let pages = table_pages w.base h.term (more r) l.got_base (paged_on l w h.placed.paged on).pages (adds_nothing l.machine r info sorts.Address on h.row_that_accepts e) h.placed.got in
        subst (λ (v : Value). Gives v l w m s r x) (sym is) ((w.base + h.term) % 2 ^ 64, (slot_here law sorts.Address l w m s r info x h e, adds_nothing l.machine r info sorts.Address on h.row_that_accepts e), sym value ∙ pages)
    by_mask law info e f l w m s r x h (Some masks.SymbolPlusAddendAndPosition) mask fit = (let no = (with_mask l.machine (term.Slot sorts.Address) subtrahend.GotBase masks.SymbolPlusAddendAndPosition fit).1 in cc)
    by_mask law info e f l w m s r x h (Some masks.GotEntryAndPosition) mask fit = (let no = (with_mask l.machine (term.Slot sorts.Address) subtrahend.GotBase masks.GotEntryAndPosition fit).1 in cc)

pub slots_give : StubLaws → SlotsGive
slots_give law = λ sort info e v. by_taken law sort info e (slot_taken sort info.kind e v)
  where
    by_taken : StubLaws → (sort : SlotSort) (info : RelocationKindInfo) → (expression_of info.kind).term ≡ term.Slot sort → ((expression_of info.kind).subtrahend ≡ subtrahend.Place) ⊎ ((sort ≡ sorts.Address) × ((expression_of info.kind).subtrahend ≡ subtrahend.GotBase)) → SlotGives sort info
    by_taken law sort info e (inl f) = place_given law sort info e f
    by_taken law sort info e (inr t) = subst (λ (y : SlotSort). SlotGives y info) (sym t.0) (table_given law info (subst (λ (y : SlotSort). (expression_of info.kind).term ≡ term.Slot y) t.0 e) t.1)

-- ---- the bits below a page

-- of a symbol's address, or of a slot's
part_kind : (k : RelocationKind) → (expression_of k).class ≡ class.Part → ((expression_of k).subtrahend ≡ subtrahend.Nothing) × (((expression_of k).term ≡ term.Symbol) ⊎ ((sort : SlotSort) × ((expression_of k).term ≡ term.Slot sort)))
part_kind kinds.AbsoluteLowPart e = (refl, inl refl)
part_kind kinds.Got e = (refl, inr (sorts.Address, refl))
part_kind kinds.TlsGdGot e = (refl, inr (sorts.TlsGd, refl))
part_kind kinds.GotTpOffGot e = (refl, inr (sorts.TpOff, refl))
part_kind kinds.TlsDescGot e = (refl, inr (sorts.TlsDesc, refl))
part_kind other e = cc

slot_part_same : (base a c x : ℕ) → base % 4096 ≡ 0 → c ≡ 0 → (a + c) % 2 ^ 64 ≡ x → (base + a) % 2 ^ 64 % 2 ^ 64 % 4096 ≡ x % 4096
slot_part_same base a c x pages none e = omega (arith, pages, none, e)

slot_part : StubLaws → (sort : SlotSort) (info : RelocationKindInfo) → (expression_of info.kind).term ≡ term.Slot sort → (expression_of info.kind).subtrahend ≡ subtrahend.Nothing → (l : Layout) (w : World) (m : Memory) (s : Item) (r : InputRelocation) (x : ℕ) → l.machine ≡ machine.AArch64 → HasTerm l w m s r info x → GivesPart (value_by_row info) l w m s r x
slot_part law sort info e f l w m s r x on h =
    let fit = subst (λ (t : Term). is_expressed l.machine t subtrahend.Nothing info.mask ≡ true) e (subst (λ (u : Subtrahend). is_expressed l.machine (expression_of info.kind).term u info.mask ≡ true) f h.expressed) in
    let mask = no_mask l.machine (term.Slot sort) subtrahend.Nothing info.mask fit refl in
    let is = slot_value sort info subtrahend.Nothing None e f mask ∙ sized_is info.size (SlotAddress (slot_sort sort)) refl in
    let value : (h.term + more r) % 2 ^ 64 ≡ x = subst (λ (u : Subtrahend). subtract l u h.term r.addend (place_of s.address r) ≡ x) (slot_less info subtrahend.Nothing None f mask) h.value in
    let g = (w.base + h.term) % 2 ^ 64 in
    let gives : Gives (SlotAddress (slot_sort sort)) l w m s r (g % 2 ^ 64) = (g, (slot_here law sort l w m s r info x h e, adds_nothing l.machine r info sort on h.row_that_accepts e), refl) in
    (g % 2 ^ 64, subst (λ (v : Value). Gives v l w m s r (g % 2 ^ 64)) (sym is) gives, slot_part_same w.base h.term (more r) x (paged_on l w h.placed.paged on).pages (adds_nothing l.machine r info sort on h.row_that_accepts e) value)

pub parts_give : StubLaws → PartsGive
parts_give law = λ info c l w m s r x on h f. by_term law info (part_kind info.kind c).0 (part_kind info.kind c).1 l w m s r x on h f
  where
    by_term : StubLaws → (info : RelocationKindInfo) → (expression_of info.kind).subtrahend ≡ subtrahend.Nothing → ((expression_of info.kind).term ≡ term.Symbol) ⊎ ((sort : SlotSort) × ((expression_of info.kind).term ≡ term.Slot sort)) → (l : Layout) (w : World) (m : Memory) (s : Item) (r : InputRelocation) (x : ℕ) → l.machine ≡ machine.AArch64 → HasTerm l w m s r info x → IsFollowed l r (value_by_row info) → GivesPart (value_by_row info) l w m s r x
    by_term law info nothing (inl symbol) l w m s r x on h f = gives_part law info symbol nothing l w m s r x (paged_on l w h.placed.paged on).pages h f
    by_term law info nothing (inr slot) l w m s r x on h f = slot_part law slot.0 info slot.1 nothing l w m s r x on h

-- with the output's own symbol it is its address; a slot takes none
no_slot : (sort : SlotSort) (info : RelocationKindInfo) → (expression_of info.kind).term ≡ term.Slot sort → (expression_of info.kind).subtrahend ≡ subtrahend.Nothing → info.mask ≡ None → TakesOffset (value_by_row info) ⊎ TakesAddress (value_by_row info) → ⊥
no_slot sort info e f mask takes = neither (subst (λ (v : Value). TakesOffset v ⊎ TakesAddress v) (slot_value sort info subtrahend.Nothing None e f mask ∙ sized_is info.size (SlotAddress (slot_sort sort)) refl) takes)
  where
    neither : TakesOffset (SlotAddress (slot_sort sort)) ⊎ TakesAddress (SlotAddress (slot_sort sort)) → ⊥
    neither (inl o) = o
    neither (inr a) = a

pub parts_link : PartsGiveLinked
parts_link = λ info c l w m s r x i on h named whose alone takes. by_term info (part_kind info.kind c).0 (part_kind info.kind c).1 l w m s r x i on h named whose alone takes
  where
    by_term : (info : RelocationKindInfo) → (expression_of info.kind).subtrahend ≡ subtrahend.Nothing → ((expression_of info.kind).term ≡ term.Symbol) ⊎ ((sort : SlotSort) × ((expression_of info.kind).term ≡ term.Slot sort)) → (l : Layout) (w : World) (m : Memory) (s : Item) (r : InputRelocation) (x i : ℕ) → l.machine ≡ machine.AArch64 → HasTerm l w m s r info x → r.symbol ≡ Some i → IsReplaceable l i true → (HasStubAddress l i → ⊥) ⊎ TakesOffset (value_by_row info) → TakesOffset (value_by_row info) ⊎ TakesAddress (value_by_row info) → GivesLinkedPart (value_by_row info) l w s r x
    by_term info nothing (inl symbol) l w m s r x i on h named whose alone takes = links_part info symbol nothing l w m s r x i (paged_on l w h.placed.paged on).pages h named whose alone
    by_term info nothing (inr slot) l w m s r x i on h named whose alone takes =
        let fit = subst (λ (t : Term). is_expressed l.machine t subtrahend.Nothing info.mask ≡ true) slot.1 (subst (λ (u : Subtrahend). is_expressed l.machine (expression_of info.kind).term u info.mask ≡ true) nothing h.expressed) in
        absurd (no_slot slot.0 info slot.1 nothing (no_mask l.machine (term.Slot slot.0) subtrahend.Nothing info.mask fit refl) takes)

-- ---- the other terms

table_kind : (k : RelocationKind) → (expression_of k).term ≡ term.GotBase → k ≡ kinds.GotBaseRelative
table_kind kinds.GotBaseRelative e = refl
table_kind other e = cc

size_kind : (k : RelocationKind) → (expression_of k).term ≡ term.Size → k ≡ kinds.SymbolSize
size_kind kinds.SymbolSize e = refl
size_kind other e = cc

pointer_kind : (k : RelocationKind) → (expression_of k).term ≡ term.PointerOffset → k ≡ kinds.TpOff
pointer_kind kinds.TpOff e = refl
pointer_kind other e = cc

module_kind : (k : RelocationKind) → (expression_of k).term ≡ term.ModuleOffset → k ≡ kinds.DtpOff
module_kind kinds.DtpOff e = refl
module_kind other e = cc

pub table_gives : TermGives term.GotBase
table_gives = λ info e v. gives_table info (table_kind info.kind e)

pub sizes_give : TermGives term.Size
sizes_give = λ info e v. gives_size info (size_kind info.kind e)

pub pointers_give : TermGives term.PointerOffset
pointers_give = λ info e v. gives_pointer info (pointer_kind info.kind e)

pub pointers_link : TermGivesLinked term.PointerOffset
pointers_link = λ info e v. links_pointer info (pointer_kind info.kind e)

pub modules_give : TermGives term.ModuleOffset
modules_give = λ info e v. gives_offset info (module_kind info.kind e)

pub modules_link : TermGivesLinked term.ModuleOffset
modules_link = λ info e v. links_offset info (module_kind info.kind e)
