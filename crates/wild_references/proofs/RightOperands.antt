-- What the operand of an instruction in memory reads as is what is demanded, by its sort.
use Rattle.wild_references.proofs.Common.{◌≡◌, ℕ, suc, ◌+◌, ◌-◌, ◌*◌, ◌%◌, ◌^◌, ◌<◌, inl, inr, List, length, refl, sym, ap, ◌∙◌, arith, subst, Option, Some, None, Result, option_map, option_and_then, Contains, slice_index, w64, cast_unsigned, Machine, InputRelocation, Layout, Value, Formula, Distance, StubDistance, SlotDistance, AddressSlot, ModulePair, OwnModulePair, ThreadOffset, Descriptor, LoadFault, World, Memory, Holds, byte_in, distance_of, byte_below, Operand, Number, Effect, sum_64, demand_x86_64, Sort, Target, TargetInSlot, AddressInSlot, OffsetInSlot, SymbolPair, OwnPair, Described, DescribedCall, FieldBits, Instruction, size_of, instructions_of, Item, place_at, form_width, formula_of, IsPair, IsSlot, Gives, IsTarget, IsOffset, HasOffsetMode, IsReferent, TakesString, HasOriginAddend, field_origin, reads, effect_of, demand_of, Demands, IsDemanded, old_bytes, DoesDemanded}
use Rattle.wild_types.specs.declared.kind.Machine.TheVariants as machine
use Rattle.wild_loader.specs.Memory.{number_in}
use Rattle.wild_meaning.specs.Sequence.{Address}
use Rattle.wild_meaning.specs.Template.{or_none, sum_of, pair_in, IsBranchReferent, IsSlotAddress}
use Rattle.wild_meaning.proofs.SymbolLemmas.{stub_referent_is, referent_stands, in_slot_denotes}
use Rattle.wild_meaning.proofs.PairLemmas.{counts_four}
use Rattle.wild_references.proofs.Fills.{instructions_do}
use Rattle.wild_references.proofs.Does.{IsThere, IsDisplaced, FormulaIs, WidthIs, displaced, operand_by, named_by, told_of, formula_is, displaced_by, named_is, field_place, new_bytes, is_filled, all_there, read_holds, length_read, to_slot, to_target, distance_sum}
use Rattle.wild_meaning.proofs.StringLemmas.{branch_referent, goes_to_none}

-- ---- bounds

-- nor is a number
number_below : (m : Memory) (a n x : ℕ) → number_in m a (suc n) ≡ Some x → a < 2 ^ 64
number_below m a n x h = by_first m a n x (byte_in m a) (λ b e. byte_below m a b e) h
  where
    by_first : (m : Memory) (a n x : ℕ) (o : Option ℕ) → ((b : ℕ) → o ≡ Some b → a < 2 ^ 64) → option_and_then (λ (b : ℕ). option_map (λ (rest : ℕ). b + 256 * rest) (number_in m (a + 1) n)) o ≡ Some x → a < 2 ^ 64
    by_first m a n x None below h = cc
    by_first m a n x (Some b) below h = below b refl

-- ---- pairs

pair_reads : (w : World) (m : Memory) (g t : ℕ) → IsPair w m g t → pair_in w m g ≡ Some t
pair_reads w m g t p =
    ap (λ (x : Option ℕ). sum_of (option_and_then (λ owner. or_none (distance_of w owner)) x) (number_in m (g + 8) 8)) p.first
    ∙ ap (λ (x : Result ℕ LoadFault). sum_of (or_none x) (number_in m (g + 8) 8)) p.known
    ∙ ap (λ (x : Option ℕ). sum_of (Some p.distance) x) p.second
    ∙ ap (λ (x : ℕ). Some x) (sym p.sum)

-- ---- by the sort

pub record RightBy (sort : Sort) (l : Layout) (w : World) (m : Memory) (item : Item) (r : InputRelocation) (operand : Operand) : Type 0 where
  pub value : ℕ
  pub demands : Demands sort l w m item r value
  pub reads : reads w m operand ≡ Some value
  pub call : sort ≡ DescribedCall → HasOffsetMode l item → ⊥

-- the operand in memory
abbrev operand_of : World → Memory → Item → ℕ → Instruction → Operand
operand_of w m item start o = (o.template.action (place_at w item start) (new_bytes w m item start o)).operand

-- the operand in memory, once its sort is known
named : (s : Sort) (l : Layout) (w : World) (m : Memory) (item : Item) (r : InputRelocation) (start : ℕ) (o : Instruction) (x y : ℕ) → o.sort ≡ s → IsThere l w m item r start o → IsDisplaced l w m item r start o x → sum_64 (place_at w item start + (o.field + 4)) x ≡ y → operand_of w m item start o ≡ operand_by s y
named s l w m item r start o x y e h d n = subst (λ (q : Sort). operand_of w m item start o ≡ operand_by q y) e (named_is l w m item r start o x y h d n)

-- its field lies below the last address, since it is loaded
pub low_place : (m : Memory) (p : ℕ) (bs : List ℕ) → length bs ≡ 4 → Holds m p bs → p < 2 ^ 64
low_place m p bs four held =
    let z : p + 0 ≡ p = omega arith in
    byte_below m p (slice_index bs 0) (subst (λ (x : ℕ). byte_in m x ≡ Some (slice_index bs 0)) z (held 0 (omega (arith, four))))

-- a field of four bytes whose formula is G + A - P names its slot
slot_named : (s : Sort) (l : Layout) (w : World) (m : Memory) (item : Item) (r : InputRelocation) (start : ℕ) (o : Instruction) (v : Value) (g : ℕ) → o.sort ≡ s → (h : IsThere l w m item r start o) → o.width ≡ 4 → h.field.formula ≡ displaced v → (cast_unsigned w64 r.addend + 4) % 2 ^ 64 ≡ 0 → g < 2 ^ 64
    → h.field.value ≡ (g + cast_unsigned w64 r.addend + (2 ^ 64 - place_at w item r.offset)) % 2 ^ 64 → operand_of w m item start o ≡ operand_by s g
slot_named s l w m item r start o v g e h width f counts small is =
    let place = field_place w item r start o.field h.stands.field in
    let low = low_place m (place_at w item r.offset) h.field.field.bytes (h.field.field.wide ∙ ap (λ (q : Formula). form_width q.form) f) h.field.field.held in
    let at = to_slot (place_at w item start) o.field (place_at w item r.offset) g (cast_unsigned w64 r.addend) place low small counts in
    named s l w m item r start o h.field.value g e h (displaced_by l w m item r start o v h h.field width f) (ap (λ (x : ℕ). sum_64 (place_at w item start + (o.field + 4)) x) is ∙ at)

-- one whose formula is S + A - P or L + A - P names where a branch goes
target_named : (l : Layout) (w : World) (m : Memory) (item : Item) (r : InputRelocation) (start : ℕ) (o : Instruction) (v : Value) (g : ℕ) → o.sort ≡ Target → (h : IsThere l w m item r start o) → o.width ≡ 4 → h.field.formula ≡ displaced v
    → h.field.value ≡ (g + cast_unsigned w64 r.addend + (2 ^ 64 - place_at w item r.offset)) % 2 ^ 64 → operand_of w m item start o ≡ Number ((g + cast_unsigned w64 r.addend + 4) % 2 ^ 64)
target_named l w m item r start o v g e h width f is =
    let place = field_place w item r start o.field h.stands.field in
    let low = low_place m (place_at w item r.offset) h.field.field.bytes (h.field.field.wide ∙ ap (λ (q : Formula). form_width q.form) f) h.field.field.held in
    let at = to_target (place_at w item start) o.field (place_at w item r.offset) g (cast_unsigned w64 r.addend) place low in
    named Target l w m item r start o h.field.value _ e h (displaced_by l w m item r start o v h h.field width f) (ap (λ (x : ℕ). sum_64 (place_at w item start + (o.field + 4)) x) is ∙ at)

reads_by : (w : World) (m : Memory) (p q : Operand) (v : ℕ) → p ≡ q → reads w m q ≡ Some v → reads w m p ≡ Some v
reads_by w m p q v e h = ap (λ (x : Operand). reads w m x) e ∙ h

-- a field counts from its end
from_end : (l : Layout) (n : ℕ) → l.machine ≡ machine.X86_64 → (n + 4) % 2 ^ 64 ≡ (n + field_origin l.machine) % 2 ^ 64
from_end l n x = ap (λ (k : ℕ). (n + k) % 2 ^ 64) (sym (counts_four l.machine x))

-- S, of a reference that takes the distance of the symbol itself
by_distance : (l : Layout) (w : World) (m : Memory) (item : Item) (r : InputRelocation) (a : ℕ) (f : Formula) → l.machine ≡ machine.X86_64 → formula_of l.machine r.number ≡ Some f → f.value ≡ Distance → IsReferent l.machine Distance l w m item r a → IsBranchReferent l w m item r a
by_distance l w m item r a f x86 known is (inl s) = inl (record { formula = f; known = known; takes = subst (λ (v : Value). TakesString v l r) (sym is) s.0 }, s.1)
by_distance l w m item r a f x86 known is (inr plain) =
    branch_referent l w m item r a (goes_to_none l r f known (λ t. plain.0 (subst (λ (v : Value). TakesString v l r) is t)))
    (stub_referent_is l w m item r a x86 (referent_stands Distance l w m item r a x86 plain.0 (inr plain)))

-- L goes to no string
by_stub : (l : Layout) (w : World) (m : Memory) (item : Item) (r : InputRelocation) (a : ℕ) (f : Formula) → formula_of l.machine r.number ≡ Some f → f.value ≡ StubDistance → IsReferent l.machine StubDistance l w m item r a → IsBranchReferent l w m item r a
by_stub l w m item r a f known is h = branch_referent l w m item r a (goes_to_none l r f known (λ t. (subst (λ (v : Value). TakesString v l r) is t).0)) h

pub right_by : (s : Sort) (l : Layout) (w : World) (m : Memory) (item : Item) (r : InputRelocation) (start : ℕ) (o : Instruction) → o.sort ≡ s → (h : IsThere l w m item r start o) → FormulaIs s h.field.formula → WidthIs s o.width → HasOriginAddend machine.X86_64 s r → RightBy s l w m item r (operand_of w m item start o)
right_by Target l w m item r start o e h (inl f) width counts =
    let gives = subst (λ (x : Formula). Gives x.value l w m item r h.field.value) f h.field.gives in
    let is = distance_sum gives.1.symbol (cast_unsigned w64 r.addend) (place_at w item r.offset) gives.0 h.field.value gives.1.sum gives.2 in
    record {
      value = (gives.1.symbol + cast_unsigned w64 r.addend + 4) % 2 ^ 64;
      demands = record { goal = gives.1.symbol; stands = by_distance l w m item r gives.1.symbol h.field.formula h.x86 h.field.known (ap (λ (q : Formula). q.value) f) gives.1.denoted; is = from_end l (gives.1.symbol + cast_unsigned w64 r.addend) h.x86 };
      reads = reads_by w m _ _ _ (target_named l w m item r start o Distance gives.1.symbol e h width f is) refl;
      call = λ no. cc;
    }
right_by Target l w m item r start o e h (inr f) width counts =
    let gives = subst (λ (x : Formula). Gives x.value l w m item r h.field.value) f h.field.gives in
    record {
      value = (gives.0 + cast_unsigned w64 r.addend + 4) % 2 ^ 64;
      demands = record { goal = gives.0; stands = by_stub l w m item r gives.0 h.field.formula h.field.known (ap (λ (q : Formula). q.value) f) gives.1; is = from_end l (gives.0 + cast_unsigned w64 r.addend) h.x86 };
      reads = reads_by w m _ _ _ (target_named l w m item r start o StubDistance gives.0 e h width f gives.2) refl;
      call = λ no. cc;
    }
right_by TargetInSlot l w m item r start o e h f width counts = by r.symbol refl
  where
    by : (symbol : Option ℕ) → r.symbol ≡ symbol → RightBy TargetInSlot l w m item r (operand_of w m item start o)
    by None n = (let gives = subst (λ (x : Formula). Gives x.value l w m item r h.field.value) f h.field.gives in absurd (subst (λ (x : Option ℕ). IsSlot AddressSlot l w m x gives.0) n gives.1))
    by (Some i) n =
        (let gives = subst (λ (x : Formula). Gives x.value l w m item r h.field.value) f h.field.gives in
        let slot = subst (λ (x : Option ℕ). IsSlot AddressSlot l w m x gives.0) n gives.1 in
        let small = number_below m gives.0 7 slot.holds.0 slot.holds.1 in
        record {
          value = slot.holds.0;
          demands = subst (λ (x : Option ℕ). IsTarget l w m x slot.holds.0) (sym n) (in_slot_denotes l w m i slot.holds.0 slot.holds.2);
          reads = reads_by w m _ _ _ (slot_named TargetInSlot l w m item r start o (SlotDistance AddressSlot) gives.0 e h width f counts small gives.2) slot.holds.1;
          call = λ no. cc;
        })
right_by AddressInSlot l w m item r start o e h f width counts = by r.symbol refl
  where
    by : (symbol : Option ℕ) → r.symbol ≡ symbol → RightBy AddressInSlot l w m item r (operand_of w m item start o)
    by None n = (let gives = subst (λ (x : Formula). Gives x.value l w m item r h.field.value) f h.field.gives in absurd (subst (λ (x : Option ℕ). IsSlot AddressSlot l w m x gives.0) n gives.1))
    by (Some i) n =
        (let gives = subst (λ (x : Formula). Gives x.value l w m item r h.field.value) f h.field.gives in
        let slot = subst (λ (x : Option ℕ). IsSlot AddressSlot l w m x gives.0) n gives.1 in
        let small = number_below m gives.0 7 slot.holds.0 slot.holds.1 in
        record {
          value = slot.holds.0;
          demands = subst (λ (x : Option ℕ). IsSlotAddress l w m x slot.holds.0) (sym n) slot.holds.2;
          reads = reads_by w m _ _ _ (slot_named AddressInSlot l w m item r start o (SlotDistance AddressSlot) gives.0 e h width f counts small gives.2) slot.holds.1;
          call = λ no. cc;
        })
right_by OffsetInSlot l w m item r start o e h f width counts = by r.symbol refl
  where
    by : (symbol : Option ℕ) → r.symbol ≡ symbol → RightBy OffsetInSlot l w m item r (operand_of w m item start o)
    by None n = (let gives = subst (λ (x : Formula). Gives x.value l w m item r h.field.value) f h.field.gives in absurd (subst (λ (x : Option ℕ). IsSlot ThreadOffset l w m x gives.0) n gives.1))
    by (Some i) n =
        (let gives = subst (λ (x : Formula). Gives x.value l w m item r h.field.value) f h.field.gives in
        let slot = subst (λ (x : Option ℕ). IsSlot ThreadOffset l w m x gives.0) n gives.1 in
        let small = number_below m gives.0 7 slot.holds.0 slot.holds.1 in
        record {
          value = slot.holds.0;
          demands = subst (λ (x : Option ℕ). IsOffset l w x slot.holds.0) (sym n) slot.holds.2;
          reads = reads_by w m _ _ _ (slot_named OffsetInSlot l w m item r start o (SlotDistance ThreadOffset) gives.0 e h width f counts small gives.2) slot.holds.1;
          call = λ no. cc;
        })
right_by SymbolPair l w m item r start o e h f width counts = by r.symbol refl
  where
    by : (symbol : Option ℕ) → r.symbol ≡ symbol → RightBy SymbolPair l w m item r (operand_of w m item start o)
    by None n = (let gives = subst (λ (x : Formula). Gives x.value l w m item r h.field.value) f h.field.gives in absurd (subst (λ (x : Option ℕ). IsSlot ModulePair l w m x gives.0) n gives.1))
    by (Some i) n =
        (let gives = subst (λ (x : Formula). Gives x.value l w m item r h.field.value) f h.field.gives in
        let slot = subst (λ (x : Option ℕ). IsSlot ModulePair l w m x gives.0) n gives.1 in
        let small = number_below m gives.0 7 slot.holds.1.owner slot.holds.1.first in
        record {
          value = slot.holds.0;
          demands = subst (λ (x : Option ℕ). IsOffset l w x slot.holds.0) (sym n) slot.holds.2;
          reads = reads_by w m _ _ _ (slot_named SymbolPair l w m item r start o (SlotDistance ModulePair) gives.0 e h width f counts small gives.2) (pair_reads w m gives.0 slot.holds.0 slot.holds.1);
          call = λ no. cc;
        })
right_by OwnPair l w m item r start o e h f width counts = by r.symbol refl
  where
    by : (symbol : Option ℕ) → r.symbol ≡ symbol → RightBy OwnPair l w m item r (operand_of w m item start o)
    by None n = (let gives = subst (λ (x : Formula). Gives x.value l w m item r h.field.value) f h.field.gives in absurd (subst (λ (x : Option ℕ). IsSlot OwnModulePair l w m x gives.0) n gives.1))
    by (Some i) n =
        (let gives = subst (λ (x : Formula). Gives x.value l w m item r h.field.value) f h.field.gives in
        let slot = subst (λ (x : Option ℕ). IsSlot OwnModulePair l w m x gives.0) n gives.1 in
        let small = number_below m gives.0 7 slot.holds.pair.owner slot.holds.pair.first in
        record {
          value = slot.holds.begin;
          demands = slot.holds.counted;
          reads = reads_by w m _ _ _ (slot_named OwnPair l w m item r start o (SlotDistance OwnModulePair) gives.0 e h width f counts small gives.2) (pair_reads w m gives.0 slot.holds.begin slot.holds.pair);
          call = λ no. cc;
        })
right_by Described l w m item r start o e h f width counts =
    let gives = subst (λ (x : Formula). Gives x.value l w m item r h.field.value) f h.field.gives in
    let low : gives.0 % 2 ^ 64 < 2 ^ 64 = omega arith in
    record {
      value = gives.0 % 2 ^ 64;
      demands = inr (gives.2, gives.0, gives.1, refl);
      reads = reads_by w m _ _ _ (slot_named Described l w m item r start o (SlotDistance Descriptor) (gives.0 % 2 ^ 64) e h width f counts low (gives.3 ∙ reduced gives.0 (cast_unsigned w64 r.addend) (place_at w item r.offset))) refl;
      call = λ no. cc;
    }
  where
    reduced : (g c p : ℕ) → (g + c + (2 ^ 64 - p)) % 2 ^ 64 ≡ (g % 2 ^ 64 + c + (2 ^ 64 - p)) % 2 ^ 64
    reduced g c p = omega arith
right_by DescribedCall l w m item r start o e h f width counts =
    let gives = subst (λ (x : Formula). Gives x.value l w m item r h.field.value) f h.field.gives in
    let t = told_of o (subst (λ (k : Machine). Contains (instructions_of k) o) h.x86 h.stands.known) in
    record {
      value = 0;
      demands = refl;
      reads = reads_by w m _ _ _ (t.operand (place_at w item start) (new_bytes w m item start o) ∙ ap (λ (q : Sort). operand_by q (named_by o (place_at w item start) (new_bytes w m item start o))) e) refl;
      call = λ same. gives;
    }
right_by Address l w m item r start o e h f width counts = absurd f
right_by FieldBits l w m item r start o e h f width counts = absurd f

-- ---- the effect

as_demanded : (s : Sort) (l : Layout) (item : Item) (v a : ℕ) (old : List ℕ) (e : Effect) → l.machine ≡ machine.X86_64 → (s ≡ DescribedCall → HasOffsetMode l item → ⊥) → (s ≡ FieldBits → ⊥) → demand_x86_64 v a old ≡ Some e → IsDemanded s l item v a old e
as_demanded Target l item v a old e x call bits h = subst (λ (k : Machine). demand_of k v a old ≡ Some e) (sym x) h
as_demanded TargetInSlot l item v a old e x call bits h = subst (λ (k : Machine). demand_of k v a old ≡ Some e) (sym x) h
as_demanded AddressInSlot l item v a old e x call bits h = subst (λ (k : Machine). demand_of k v a old ≡ Some e) (sym x) h
as_demanded OffsetInSlot l item v a old e x call bits h = subst (λ (k : Machine). demand_of k v a old ≡ Some e) (sym x) h
as_demanded SymbolPair l item v a old e x call bits h = subst (λ (k : Machine). demand_of k v a old ≡ Some e) (sym x) h
as_demanded OwnPair l item v a old e x call bits h = subst (λ (k : Machine). demand_of k v a old ≡ Some e) (sym x) h
as_demanded Described l item v a old e x call bits h = subst (λ (k : Machine). demand_of k v a old ≡ Some e) (sym x) h
as_demanded DescribedCall l item v a old e x call bits h = inr (call refl, subst (λ (k : Machine). demand_of k v a old ≡ Some e) (sym x) h)
as_demanded Address l item v a old e x call bits h = subst (λ (k : Machine). demand_of k v a old ≡ Some e) (sym x) h
as_demanded FieldBits l item v a old e x call bits h = absurd (bits refl)

-- an instruction that stands in the input, with its field as its formula and its own bytes, does what it demands
pub does_demanded : (l : Layout) (w : World) (m : Memory) (item : Item) (r : InputRelocation) (start : ℕ) (o : Instruction) → IsThere l w m item r start o → DoesDemanded (reads w m) l w m item r start o
does_demanded l w m item r start o h =
    let listed = subst (λ (k : Machine). Contains (instructions_of k) o) h.x86 h.stands.known in
    let t = told_of o listed in
    let f = formula_is l r o h.field.formula h.x86 h.stands.known h.stands.number h.field.known in
    let right = right_by o.sort l w m item r start o refl h f t.width (subst (λ (k : Machine). HasOriginAddend k o.sort r) h.x86 h.stands.counts) in
    let a = place_at w item start in
    let does = instructions_do o (reads w m) a right.value (old_bytes item start o) (new_bytes w m item start o) listed (is_filled l w m item r start o h) right.reads in
    record {
      value = right.value;
      demands = right.demands;
      code = record {
        effect = does.effect;
        demanded = as_demanded o.sort l item right.value a (old_bytes item start o) does.effect h.x86 right.call (λ bits. subst (λ (q : Sort). FormulaIs q h.field.formula) bits f) does.demanded;
        bytes = new_bytes w m item start o;
        whole = length_read m (size_of o) a;
        held = read_holds m a (size_of o) (all_there l w m item r start o h);
        does = subst (λ (k : Machine). effect_of k (reads w m) a (new_bytes w m item start o) ≡ Some does.effect) (sym h.x86) does.done;
      };
    }
