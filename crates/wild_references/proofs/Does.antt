-- An instruction whose fields read as their formulas, and which keeps its own bytes, does in memory what it demands.
use Rattle.wild_references.proofs.Common.{◌≡◌, ℕ, zero, suc, ◌+◌, ◌-◌, ◌%◌, ◌^◌, ◌<◌, ◌≤◌, ◌⊎◌, inl, inr, Bool, true, false, List, [], ◌∷◌, length, get_or, slice_range, refl, sym, ap, ◌∙◌, arith, subst, nat_le, not, ◌==◌, ◌&&◌, ◌||◌, if◌then◌else◌, Some, Option, unwrap_or, Contains, slice_index, ⊤, list_all, cases_lt, leb-true, eqb-true, and_parts, or_cases, number, length-range, range_byte, listed_passes, implied, not_both, Machine, InputRelocation, Layout, Value, Formula, formula, NoValue, Distance, StubDistance, SlotDistance, AddressSlot, ModulePair, OwnModulePair, ThreadOffset, Descriptor, NoField, Plain, Reads, sign_extended, x86_64_formula, World, Memory, Holds, byte_in, r_x86_64_none, r_x86_64_pc32, r_x86_64_plt32, r_x86_64_gotpcrel, r_x86_64_gottpoff, r_x86_64_gotpc32_tlsdesc, r_x86_64_code_4_gotpc32_tlsdesc, r_x86_64_tlsdesc_call, r_x86_64_tlsgd, r_x86_64_tlsld, Operand, Number, Word, sum_64, Sort, Target, TargetInSlot, AddressInSlot, OffsetInSlot, SymbolPair, OwnPair, Described, DescribedCall, FieldBits, Instruction, size_of, IsOutsidePartners, IsOwnByte, instructions_of, Item, place_at, formula_of, form_width, FieldReads, IsInputByte, Gives, HasOffsetMode, IsInstruction, reads, Demands, old_bytes, are_several}
use Rattle.std.proofs.Common.{eq-eqb}
use Rattle.std.specs.List.{list_any}
use Rattle.wild_words.specs.Words.{HasBytesAt}
use Rattle.wild_words.proofs.RecordLemmas.{HasBytesAt-slice}
use Rattle.wild_types.specs.declared.kind.Machine.TheVariants as machine
use Rattle.wild_reloc.specs.Formula.{Signed}
use Rattle.wild_records.specs.Abi.Relocation.{r_x86_64_gotpcrelx, r_x86_64_rex_gotpcrelx, r_x86_64_code_4_gotpcrelx, r_x86_64_code_4_gottpoff}
use Rattle.wild_loader.specs.declared.instruction.Operand.TheVariants.{Pair}
use Rattle.wild_loader.specs.Instruction.{signed_32, signed_at}
use Rattle.wild_meaning.specs.Sequence.{Address, Partner}
use Rattle.wild_references.specs.FilledX86_64.{IsFilled}
use Rattle.wild_references.proofs.Fills.{Each, each_at}

-- ---- what memory has

abbrev pub read_all : Memory → ℕ → ℕ → List ℕ
read_all m a zero = []
read_all m a (suc n) = unwrap_or (byte_in m a) 0 ∷ read_all m (a + 1) n

pub length_read : (m : Memory) (n a : ℕ) → length (read_all m a n) ≡ n
length_read m zero a = refl
length_read m (suc n) a = ap suc (length_read m n (a + 1))

get_read : (m : Memory) (n a k : ℕ) → k < n → get_or (read_all m a n) k 0 ≡ unwrap_or (byte_in m (a + k)) 0
get_read m zero a k lt = absurd (omega arith)
get_read m (suc n) a zero lt = let e : a + 0 ≡ a = omega arith in rw e refl
get_read m (suc n) a (suc k) lt = let e : a + suc k ≡ a + 1 + k = omega arith in rw e (get_read m n (a + 1) k (omega arith))

-- each of n bytes is loaded
abbrev pub AreThere : Memory → ℕ → ℕ → Type 0
AreThere m a n = (k : ℕ) → k < n → (b : ℕ) × (byte_in m (a + k) ≡ Some b)

read_there : (m : Memory) (a n k b : ℕ) → k < n → byte_in m (a + k) ≡ Some b → get_or (read_all m a n) k 0 ≡ b
read_there m a n k b lt e = get_read m n a k lt ∙ ap (λ (o : Option ℕ). unwrap_or o 0) e

pub read_holds : (m : Memory) (a n : ℕ) → AreThere m a n → Holds m a (read_all m a n)
read_holds m a n h k lt =
    let l = length_read m n a in
    let below : k < n = omega (arith, lt, l) in
    let b = h k below in
    b.1 ∙ ap (λ (x : ℕ). Some x) (sym (read_there m a n k b.0 below b.1))

pub read_stands : (m : Memory) (a n f : ℕ) (bs : List ℕ) → f + length bs ≤ n → Holds m (a + f) bs → HasBytesAt (read_all m a n) f bs
read_stands m a n f bs fits h = stands (length_read m n a)
  where
    stands : length (read_all m a n) ≡ n → HasBytesAt (read_all m a n) f bs
    stands l = record {
      fits = omega (arith, fits, l);
      same = λ k lt. (let e : a + f + k ≡ a + (f + k) = omega arith in read_there m a n (f + k) (get_or bs k 0) (omega (arith, fits, lt)) (subst (λ (x : ℕ). byte_in m x ≡ Some (get_or bs k 0)) e (h k lt)));
    }

-- ---- what is known of each instruction

-- where its operand is: at a place that counts from its field's end; the call through a descriptor has none
abbrev pub operand_by : Sort → ℕ → Operand
operand_by Target x = Number x
operand_by TargetInSlot x = Word x
operand_by AddressInSlot x = Word x
operand_by OffsetInSlot x = Word x
operand_by SymbolPair x = Pair x
operand_by OwnPair x = Pair x
operand_by Described x = Number x
operand_by DescribedCall x = Number 0
operand_by Address x = Number x
operand_by FieldBits x = Number x

abbrev pub named_by : Instruction → ℕ → List ℕ → ℕ
named_by o a bs = sum_64 (a + (o.field + 4)) (signed_at bs o.field)

abbrev pub displaced : Value → Formula
displaced v = formula v (Plain 32 Signed)

-- what the relocation types of a sort have for their formula
abbrev pub FormulaIs : Sort → Formula → Type 0
FormulaIs Target f = (f ≡ displaced Distance) ⊎ (f ≡ displaced StubDistance)
FormulaIs TargetInSlot f = f ≡ displaced (SlotDistance AddressSlot)
FormulaIs AddressInSlot f = f ≡ displaced (SlotDistance AddressSlot)
FormulaIs OffsetInSlot f = f ≡ displaced (SlotDistance ThreadOffset)
FormulaIs SymbolPair f = f ≡ displaced (SlotDistance ModulePair)
FormulaIs OwnPair f = f ≡ displaced (SlotDistance OwnModulePair)
FormulaIs Described f = f ≡ displaced (SlotDistance Descriptor)
FormulaIs DescribedCall f = f ≡ formula NoValue NoField
FormulaIs Address f = ⊥
FormulaIs FieldBits f = ⊥

abbrev HasFormula : Sort → ℕ → Type 0
HasFormula sort n = (f : Formula) × (x86_64_formula n ≡ Some f) × FormulaIs sort f

abbrev EachNumber : Sort → List ℕ → Type 0
EachNumber sort [] = ⊤
EachNumber sort (n ∷ ns) = HasFormula sort n × EachNumber sort ns

-- the relocation types of a sort
abbrev numbers_of : Sort → List ℕ
numbers_of Target = r_x86_64_pc32 ∷ r_x86_64_plt32 ∷ []
numbers_of TargetInSlot = r_x86_64_gotpcrel ∷ r_x86_64_gotpcrelx ∷ []
numbers_of AddressInSlot = r_x86_64_gotpcrel ∷ r_x86_64_gotpcrelx ∷ r_x86_64_rex_gotpcrelx ∷ r_x86_64_code_4_gotpcrelx ∷ []
numbers_of OffsetInSlot = r_x86_64_gottpoff ∷ r_x86_64_code_4_gottpoff ∷ []
numbers_of SymbolPair = r_x86_64_tlsgd ∷ []
numbers_of OwnPair = r_x86_64_tlsld ∷ []
numbers_of Described = r_x86_64_gotpc32_tlsdesc ∷ r_x86_64_code_4_gotpc32_tlsdesc ∷ []
numbers_of DescribedCall = r_x86_64_tlsdesc_call ∷ []
numbers_of other = []

each_formula : (sort : Sort) → EachNumber sort (numbers_of sort)
unfolding x86_64_formula
each_formula Target = ((_, refl, inl refl), ((_, refl, inr refl), tt))
each_formula TargetInSlot = ((_, refl, refl), ((_, refl, refl), tt))
each_formula AddressInSlot = ((_, refl, refl), ((_, refl, refl), ((_, refl, refl), ((_, refl, refl), tt))))
each_formula OffsetInSlot = ((_, refl, refl), ((_, refl, refl), tt))
each_formula SymbolPair = ((_, refl, refl), tt)
each_formula OwnPair = ((_, refl, refl), tt)
each_formula Described = ((_, refl, refl), ((_, refl, refl), tt))
each_formula DescribedCall = ((_, refl, refl), tt)
each_formula Address = tt
each_formula FieldBits = tt

number_with : (sort : Sort) (ns : List ℕ) (n : ℕ) → EachNumber sort ns → list_any (λ (m : ℕ). m == n) ns ≡ true → HasFormula sort n
number_with sort [] n h t = cc
number_with sort (x ∷ ns) n h t =
    elim (or_cases (x == n) (list_any (λ (m : ℕ). m == n) ns) t) [
      | inl e ↦ subst (λ (y : ℕ). HasFormula sort y) (eqb-true x n e) h.0
      | inr rest ↦ number_with sort ns n h.1 rest
    ]

abbrev is_call : Sort → Bool
is_call DescribedCall = true
is_call other = false

-- a field of four bytes, but of the call through a descriptor
abbrev pub WidthIs : Sort → ℕ → Type 0
WidthIs DescribedCall width = width ≡ 0
WidthIs other width = width ≡ 4

width_is : (sort : Sort) (width : ℕ) → (width == (if is_call sort then 0 else 4)) ≡ true → WidthIs sort width
width_is DescribedCall width h = eqb-true width 0 h
width_is other width h = eqb-true width 4 h

-- a sequence asks for a pair
abbrev is_pair : Sort → Bool
is_pair SymbolPair = true
is_pair OwnPair = true
is_pair other = false

pair_sort : (sort : Sort) → is_pair sort ≡ true → (sort ≡ SymbolPair) ⊎ (sort ≡ OwnPair)
pair_sort SymbolPair h = inl refl
pair_sort OwnPair h = inr refl
pair_sort other h = cc

abbrev NamesOperand : Instruction → Type 0
NamesOperand o = (a : ℕ) (bs : List ℕ) → (o.template.action a bs).operand ≡ operand_by o.sort (named_by o a bs)

pub record IsReadInstruction (o : Instruction) : Type 0 where
  pub operand : NamesOperand o
  pub numbers : (n : ℕ) → Contains o.numbers n → HasFormula o.sort n
  pub width : WidthIs o.sort o.width
  pub fits : nat_le (o.field + o.width) (size_of o) ≡ true
  pub refers : (n : ℕ) → Contains o.numbers n → n ≡ r_x86_64_none → ⊥
  pub pair : (p : Partner) → o.partners ≡ p ∷ [] → (o.sort ≡ SymbolPair) ⊎ (o.sort ≡ OwnPair)

each_operand : Each NamesOperand (instructions_of machine.X86_64)
each_operand = ((λ a bs. refl), ((λ a bs. refl), ((λ a bs. refl), ((λ a bs. refl), ((λ a bs. refl), ((λ a bs. refl), ((λ a bs. refl), ((λ a bs. refl), ((λ a bs. refl), ((λ a bs. refl), ((λ a bs. refl), ((λ a bs. refl), ((λ a bs. refl), ((λ a bs. refl), ((λ a bs. refl), ((λ a bs. refl), ((λ a bs. refl), ((λ a bs. refl), ((λ a bs. refl), ((λ a bs. refl), ((λ a bs. refl), ((λ a bs. refl), ((λ a bs. refl), ((λ a bs. refl), ((λ a bs. refl), ((λ a bs. refl), ((λ a bs. refl), ((λ a bs. refl), ((λ a bs. refl), ((λ a bs. refl), ((λ a bs. refl), tt)))))))))))))))))))))))))))))))

abbrev has_sort : Sort → ℕ → Bool
has_sort sort n = list_any (λ (m : ℕ). m == n) (numbers_of sort) && not (n == r_x86_64_none)

abbrev is_told : Instruction → Bool
is_told o =
    list_all (has_sort o.sort) o.numbers
    && (o.width == (if is_call o.sort then 0 else 4)
    && (nat_le (o.field + o.width) (size_of o)
    && (not (are_several o.partners) || is_pair o.sort)))

each_told : list_all is_told (instructions_of machine.X86_64) ≡ true
each_told = refl

pub told_of : (o : Instruction) → Contains (instructions_of machine.X86_64) o → IsReadInstruction o
told_of o listed =
    let a = and_parts _ _ (listed_passes is_told (instructions_of machine.X86_64) o each_told listed) in
    let b = and_parts _ _ a.1 in
    let c = and_parts _ _ b.1 in
    let number : (n : ℕ) → Contains o.numbers n → (list_any (λ (m : ℕ). m == n) (numbers_of o.sort) ≡ true) × (not (n == r_x86_64_none) ≡ true) = λ n there. and_parts _ _ (listed_passes (has_sort o.sort) o.numbers n a.0 there) in
    record {
      operand = each_at NamesOperand (instructions_of machine.X86_64) o each_operand listed.0 listed.1 listed.2;
      numbers = λ n there. number_with o.sort (numbers_of o.sort) n (each_formula o.sort) (number n there).0;
      width = width_is o.sort o.width b.0;
      fits = c.0;
      refers = λ n there e. not_both (n == r_x86_64_none) (number n there).1 (eq-eqb n r_x86_64_none e);
      pair = λ p e. pair_sort o.sort (implied (are_several o.partners) (is_pair o.sort) c.1 (ap are_several e));
    }

-- ---- the reference

-- the field reads as the formula of the relocation's type
pub record HasField (l : Layout) (w : World) (m : Memory) (item : Item) (r : InputRelocation) : Type 0 where
  pub formula : Formula
  pub known : formula_of l.machine r.number ≡ Some formula
  pub value : ℕ
  pub gives : Gives formula.value l w m item r value
  pub field : FieldReads w m item r formula.form value

-- memory has some bytes at the further fields of a sequence
abbrev pub PartnerThere : World → Memory → Item → ℕ → Partner → Type 0
PartnerThere w m item start p = (bs : List ℕ) × (length bs ≡ p.width) × Holds m (place_at w item (start + p.field)) bs

abbrev pub PartnersThere : World → Memory → Item → ℕ → List Partner → Type 0
PartnersThere w m item start [] = ⊤
PartnersThere w m item start (p ∷ ps) = PartnerThere w m item start p × PartnersThere w m item start ps

-- what is known in memory of an instruction that stands in the input: its first field, its own bytes and its further fields
pub record IsThere (l : Layout) (w : World) (m : Memory) (item : Item) (r : InputRelocation) (start : ℕ) (o : Instruction) : Type 0 where
  pub x86 : l.machine ≡ machine.X86_64
  pub stands : IsInstruction l item r start o
  pub field : HasField l w m item r
  pub own : (k : ℕ) → IsOwnByte o k → IsInputByte w m item (start + k)
  pub partners : PartnersThere w m item start o.partners

-- the formula is that of the sort
pub formula_is : (l : Layout) (r : InputRelocation) (o : Instruction) (f : Formula) → l.machine ≡ machine.X86_64 → Contains (instructions_of l.machine) o → Contains o.numbers r.number → formula_of l.machine r.number ≡ Some f → FormulaIs o.sort f
formula_is l r o f x listed number known =
    let t = told_of o (subst (λ (k : Machine). Contains (instructions_of k) o) x listed) in
    let h = t.numbers r.number number in
    let k : x86_64_formula r.number ≡ Some f = subst (λ (n : Machine). formula_of n r.number ≡ Some f) x known in
    let both : Some h.0 ≡ Some f = sym h.1 ∙ k in
    let same : h.0 ≡ f = cc in
    subst (λ (g : Formula). FormulaIs o.sort g) same h.2

-- ---- all bytes are loaded

byte_own : (l : Layout) (w : World) (m : Memory) (item : Item) (r : InputRelocation) (start : ℕ) (o : Instruction) → IsThere l w m item r start o → (k : ℕ) → IsOwnByte o k → byte_in m (place_at w item start + k) ≡ Some (slice_index item.bytes (start + k))
byte_own l w m item r start o h k own =
    let e : place_at w item (start + k) ≡ place_at w item start + k = omega arith in
    subst (λ (x : ℕ). byte_in m x ≡ Some (slice_index item.bytes (start + k))) e (h.own k own)

-- where a byte is: of the field, of a further one, or the instruction's own
data IsOf (o : Instruction) (k : ℕ) : Type 0 where
  OfField : o.field ≤ k → k < o.field + o.width → IsOf o k
  OfPartner : (p : Partner) → Contains o.partners p → p.field ≤ k → k < p.field + p.width → IsOf o k
  OfItself : IsOwnByte o k → IsOf o k

-- a byte that is in one of them
record IsInPartner (k : ℕ) (ps : List Partner) : Type 0 where
  partner : Partner
  listed : Contains ps partner
  from : partner.field ≤ k
  to : k < partner.field + partner.width

further : (k : ℕ) (p : Partner) (ps : List Partner) → IsInPartner k ps → IsInPartner k (p ∷ ps)
further k p ps t = let lt = t.listed.1 in record { partner = t.partner; listed = (suc t.listed.0, omega (arith, lt), t.listed.2); from = t.from; to = t.to }

field_cases : (k a b : ℕ) → ((k < a) ⊎ (b ≤ k)) ⊎ ((a ≤ k) × (k < b))
field_cases k a b =
    elim (cases_lt k a) [
      | inl low ↦ inl (inl low)
      | inr high ↦ elim (cases_lt k b) [ inl inside ↦ inr (omega arith, inside) | inr above ↦ inl (inr (omega arith)) ]
    ]

partner_cases : (k : ℕ) (ps : List Partner) → IsOutsidePartners k ps ⊎ IsInPartner k ps
partner_cases k [] = inl tt
partner_cases k (p ∷ ps) =
    elim (field_cases k p.field (p.field + p.width)) [
      | inr f ↦ inr (record { partner = p; listed = (0, omega arith, refl); from = f.0; to = f.1 })
      | inl beside ↦ elim (partner_cases k ps) [ inl apart ↦ inl (beside, apart) | inr t ↦ inr (further k p ps t) ]
    ]

byte_of : (o : Instruction) (k : ℕ) → k < size_of o → IsOf o k
byte_of o k lt =
    elim (field_cases k o.field (o.field + o.width)) [
      | inr f ↦ OfField f.0 f.1
      | inl beside ↦
          elim (partner_cases k o.partners) [
            | inl apart ↦ OfItself (record { inside = lt; beside = beside; apart = apart })
            | inr t ↦ OfPartner t.partner t.listed t.from t.to
          ]
    ]

-- a byte of what memory has at a place
part_there : (m : Memory) (a f k : ℕ) (bs : List ℕ) → Holds m (a + f) bs → f ≤ k → k < f + length bs → (b : ℕ) × (byte_in m (a + k) ≡ Some b)
part_there m a f k bs h from to =
    let e : a + f + (k - f) ≡ a + k = omega (arith, from) in
    (slice_index bs (k - f), subst (λ (x : ℕ). byte_in m x ≡ Some (slice_index bs (k - f))) e (h (k - f) (omega (arith, from, to))))

-- the field in memory, from the instruction's start
record FieldHeld (w : World) (m : Memory) (item : Item) (r : InputRelocation) (start : ℕ) (o : Instruction) : Type 0 where
  bytes : List ℕ
  wide : length bytes ≡ o.width
  held : Holds m (place_at w item start + o.field) bytes

wide_of : (sort : Sort) (width : ℕ) (f : Formula) → WidthIs sort width → FormulaIs sort f → form_width f.form ≡ width
wide_of Target width f e (inl h) = ap (λ (g : Formula). form_width g.form) h ∙ sym e
wide_of Target width f e (inr h) = ap (λ (g : Formula). form_width g.form) h ∙ sym e
wide_of TargetInSlot width f e h = ap (λ (g : Formula). form_width g.form) h ∙ sym e
wide_of AddressInSlot width f e h = ap (λ (g : Formula). form_width g.form) h ∙ sym e
wide_of OffsetInSlot width f e h = ap (λ (g : Formula). form_width g.form) h ∙ sym e
wide_of SymbolPair width f e h = ap (λ (g : Formula). form_width g.form) h ∙ sym e
wide_of OwnPair width f e h = ap (λ (g : Formula). form_width g.form) h ∙ sym e
wide_of Described width f e h = ap (λ (g : Formula). form_width g.form) h ∙ sym e
wide_of DescribedCall width f e h = ap (λ (g : Formula). form_width g.form) h ∙ sym e
wide_of Address width f e h = absurd h
wide_of FieldBits width f e h = absurd h

pub field_place : (w : World) (item : Item) (r : InputRelocation) (start field : ℕ) → r.offset ≡ start + field → place_at w item r.offset ≡ place_at w item start + field
field_place w item r start field e = omega (arith, e)

field_held : (l : Layout) (w : World) (m : Memory) (item : Item) (r : InputRelocation) (start : ℕ) (o : Instruction) → IsThere l w m item r start o → FieldHeld w m item r start o
field_held l w m item r start o h =
    let t = told_of o (subst (λ (k : Machine). Contains (instructions_of k) o) h.x86 h.stands.known) in
    let f = formula_is l r o h.field.formula h.x86 h.stands.known h.stands.number h.field.known in
    record {
      bytes = h.field.field.bytes;
      wide = h.field.field.wide ∙ wide_of o.sort o.width h.field.formula t.width f;
      held = subst (λ (x : ℕ). Holds m x h.field.field.bytes) (field_place w item r start o.field h.stands.field) h.field.field.held;
    }

partner_at : (w : World) (m : Memory) (item : Item) (start : ℕ) (ps : List Partner) (p : Partner) (k : ℕ) → PartnersThere w m item start ps → k < length ps → get_or ps k p ≡ p → PartnerThere w m item start p
partner_at w m item start [] p k h lt e = absurd (omega (arith, lt))
partner_at w m item start (q ∷ ps) p zero h lt e = subst (λ (x : Partner). PartnerThere w m item start x) e h.0
partner_at w m item start (q ∷ ps) p (suc k) h lt e = partner_at w m item start ps p k h.1 (omega (arith, lt)) e

partner_held : (w : World) (m : Memory) (item : Item) (start k : ℕ) (ps : List Partner) (p : Partner) → PartnersThere w m item start ps → Contains ps p → p.field ≤ k → k < p.field + p.width → (b : ℕ) × (byte_in m (place_at w item start + k) ≡ Some b)
partner_held w m item start k ps p h listed from to =
    let g = partner_at w m item start ps p listed.0 h listed.1 listed.2 in
    let long = g.1 in
    let z : place_at w item (start + p.field) ≡ place_at w item start + p.field = omega arith in
    part_there m (place_at w item start) p.field k g.0 (subst (λ (x : ℕ). Holds m x g.0) z g.2) from (omega (arith, to, long))

pub all_there : (l : Layout) (w : World) (m : Memory) (item : Item) (r : InputRelocation) (start : ℕ) (o : Instruction) → IsThere l w m item r start o → AreThere m (place_at w item start) (size_of o)
all_there l w m item r start o h k lt = by (byte_of o k lt)
  where
    by : IsOf o k → (b : ℕ) × (byte_in m (place_at w item start + k) ≡ Some b)
    by (OfField from to) = (let f = field_held l w m item r start o h in let wide = f.wide in part_there m (place_at w item start) o.field k f.bytes f.held from (omega (arith, to, wide)))
    by (OfPartner p e from to) = partner_held w m item start k o.partners p h.partners e from to
    by (OfItself own) = (slice_index item.bytes (start + k), byte_own l w m item r start o h k own)

-- ---- the bytes in memory

abbrev pub new_bytes : World → Memory → Item → ℕ → Instruction → List ℕ
new_bytes w m item start o = read_all m (place_at w item start) (size_of o)

pub is_filled : (l : Layout) (w : World) (m : Memory) (item : Item) (r : InputRelocation) (start : ℕ) (o : Instruction) → IsThere l w m item r start o → IsFilled o (old_bytes item start o) (new_bytes w m item start o)
is_filled l w m item r start o h = record {
  stood = h.stands.stands;
  long = length-range item.bytes start (size_of o) h.stands.inside;
  whole = length_read m (size_of o) (place_at w item start);
  same = λ k own. read_there m (place_at w item start) (size_of o) k (slice_index item.bytes (start + k)) own.inside (byte_own l w m item r start o h k own) ∙ sym (range_byte item.bytes start (size_of o) k own.inside);
}

-- ---- the field's number

same_signs : (n : ℕ) → signed_32 n ≡ sign_extended 32 n
same_signs n = refl

signed_field : (m : Memory) (a n f : ℕ) (bs : List ℕ) → length bs ≡ 4 → f + 4 ≤ n → Holds m (a + f) bs → signed_at (read_all m a n) f ≡ sign_extended 32 (number bs)
signed_field m a n f bs four fits h =
    let s = read_stands m a n f bs (omega (arith, four, fits)) h in
    let e : slice_range (read_all m a n) f (f + length bs) ≡ bs = HasBytesAt-slice (read_all m a n) bs f s in
    let g : slice_range (read_all m a n) f (f + 4) ≡ bs = subst (λ (k : ℕ). slice_range (read_all m a n) f (f + k) ≡ bs) four e in
    ap (λ (xs : List ℕ). signed_32 (number xs)) g ∙ same_signs (number bs)

-- memory has the value of a displacement in the field
pub record IsDisplaced (l : Layout) (w : World) (m : Memory) (item : Item) (r : InputRelocation) (start : ℕ) (o : Instruction) (x : ℕ) : Type 0 where
  pub is : signed_at (new_bytes w m item start o) o.field ≡ x

pub displaced_by : (l : Layout) (w : World) (m : Memory) (item : Item) (r : InputRelocation) (start : ℕ) (o : Instruction) (v : Value) → IsThere l w m item r start o → (f : HasField l w m item r) → o.width ≡ 4 → f.formula ≡ displaced v → IsDisplaced l w m item r start o f.value
displaced_by l w m item r start o v h f width e =
    let t = told_of o (subst (λ (k : Machine). Contains (instructions_of k) o) h.x86 h.stands.known) in
    let reads : sign_extended 32 (number f.field.bytes) ≡ f.value = subst (λ (g : Formula). Reads g.form f.field.bytes f.value) e f.field.reads in
    let four : length f.field.bytes ≡ 4 = f.field.wide ∙ ap (λ (g : Formula). form_width g.form) e in
    let held = subst (λ (x : ℕ). Holds m x f.field.bytes) (field_place w item r start o.field h.stands.field) f.field.held in
    let inside : o.field + o.width ≤ size_of o = leb-true (o.field + o.width) (size_of o) t.fits in
    record { is = signed_field m (place_at w item start) (size_of o) o.field f.field.bytes four (omega (arith, width, inside)) held ∙ reads }

-- ---- arithmetic

-- to the slot: the addend takes back the field's bytes
pub to_slot : (a f p g c : ℕ) → p ≡ a + f → p < 2 ^ 64 → g < 2 ^ 64 → (c + 4) % 2 ^ 64 ≡ 0 → sum_64 (a + (f + 4)) ((g + c + (2 ^ 64 - p)) % 2 ^ 64) ≡ g
to_slot a f p g c e low small z = omega (arith, e, low, small, z)

-- to a branch's target
pub to_target : (a f p g c : ℕ) → p ≡ a + f → p < 2 ^ 64 → sum_64 (a + (f + 4)) ((g + c + (2 ^ 64 - p)) % 2 ^ 64) ≡ (g + c + 4) % 2 ^ 64
to_target a f p g c e low = omega (arith, e, low)

pub distance_sum : (s c p t x : ℕ) → t ≡ (s + c) % 2 ^ 64 → x ≡ (t + (2 ^ 64 - p)) % 2 ^ 64 → x ≡ (s + c + (2 ^ 64 - p)) % 2 ^ 64
distance_sum s c p t x h e = omega (arith, h, e)

-- ---- operands

-- the operand names that address
pub named_is : (l : Layout) (w : World) (m : Memory) (item : Item) (r : InputRelocation) (start : ℕ) (o : Instruction) (x y : ℕ) → IsThere l w m item r start o → IsDisplaced l w m item r start o x → sum_64 (place_at w item start + (o.field + 4)) x ≡ y
    → (o.template.action (place_at w item start) (new_bytes w m item start o)).operand ≡ operand_by o.sort y
named_is l w m item r start o x y h d e =
    let t = told_of o (subst (λ (k : Machine). Contains (instructions_of k) o) h.x86 h.stands.known) in
    t.operand (place_at w item start) (new_bytes w m item start o) ∙ ap (λ (z : ℕ). operand_by o.sort (sum_64 (place_at w item start + (o.field + 4)) z)) d.is ∙ ap (operand_by o.sort) e

-- what is to be shown: the operand reads as what is demanded
pub record IsRight (l : Layout) (w : World) (m : Memory) (item : Item) (r : InputRelocation) (start : ℕ) (o : Instruction) : Type 0 where
  pub value : ℕ
  pub demands : Demands o.sort l w m item r value
  pub reads : reads w m (o.template.action (place_at w item start) (new_bytes w m item start o)).operand ≡ Some value
  pub call : o.sort ≡ DescribedCall → HasOffsetMode l item → ⊥

-- no instruction's type is the one that refers to nothing
pub refers : (o : Instruction) (n : ℕ) → Contains (instructions_of machine.X86_64) o → Contains o.numbers n → n ≡ r_x86_64_none → ⊥
refers o n listed number z = (told_of o listed).refers n number z

-- a sequence's sort
pub pair_of : (o : Instruction) (p : Partner) → Contains (instructions_of machine.X86_64) o → o.partners ≡ p ∷ [] → (o.sort ≡ SymbolPair) ⊎ (o.sort ≡ OwnPair)
pair_of o p listed e = (told_of o listed).pair p e

-- each of its types has a formula
pub known_formula : (o : Instruction) (n : ℕ) → Contains (instructions_of machine.X86_64) o → Contains o.numbers n → (f : Formula) × (x86_64_formula n ≡ Some f)
known_formula o n listed number = (let h = (told_of o listed).numbers n number in (h.0, h.1))
