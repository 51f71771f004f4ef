-- An instruction whose references keep it does what it demands.
use Rattle.wild_references.proofs.Common.{◌≡◌, ℕ, ◌⊎◌, inl, inr, true, false, ◌∷◌, refl, sym, ap, ◌∙◌, subst, arith, ⊤, List, Some, Contains, Machine, InputRelocation, Layout, Formula, SlotDistance, AddressSlot, ModulePair, OwnModulePair, World, Memory, Holds, FieldHolds, IsKeptReference, IsLoadedItem, Sort, TargetInSlot, SymbolPair, OwnPair, Instruction, instructions_of, Item, place_at, formula_of, IsPlaceRelative, TakesAddress, TakesOffset, IsSingle, IsTemplate, reads, DoesDemanded, IsOfSequence, IsGetterCall, as_pair, MustHold, UsesOwnSymbolOnly, IsOmitted, HasPlace, UsesOwnDefinition, IsSlotValue, HasSlotFormula, InstructionsAreKept}
use Rattle.wild_types.specs.declared.kind.Machine.TheVariants as machine
use Rattle.wild_reloc.specs.Formula.{Slot}
use Rattle.wild_references.specs.Laws.{FieldsHold}
use Rattle.wild_meaning.specs.Sequence.{Partner}
use Rattle.wild_meaning.proofs.PairLemmas.{as_double, counts_by_slot}
use Rattle.wild_meaning.specs.Reference.{HasRelativeInstruction}
use Rattle.wild_references.specs.EffectLaws.{SequencesAreKept, KeptInstructionsDo}
use Rattle.wild_references.proofs.OmittedReferences.{keeps_all}
use Rattle.wild_references.proofs.OmittedSequences.{left_along}
use Rattle.wild_references.proofs.Does.{HasField, PartnersThere, FormulaIs, displaced, formula_is, pair_of, known_formula}
use Rattle.wild_references.proofs.RightOperands.{does_demanded}
use Rattle.wild_references.proofs.KeptTables.{partner_width}
use Rattle.wild_references.proofs.KeptBytes.{bytes_there, known_filled}
use Rattle.wild_references.proofs.SinglesAArch64.{lone_word_does}
use Rattle.wild_references.proofs.RunWords.{IsKeptRun}
use Rattle.wild_references.proofs.SequencesAArch64.{run_does}

-- ---- the pair of a sequence is asked everywhere

-- the formula of a sequence's first relocation
pair_formula : (s : Sort) (f : Formula) → (s ≡ SymbolPair) ⊎ (s ≡ OwnPair) → FormulaIs s f → (f ≡ displaced (SlotDistance ModulePair)) ⊎ (f ≡ displaced (SlotDistance OwnModulePair))
pair_formula s f (inl e) h = inl (subst (λ (q : Sort). FormulaIs q f) e h)
pair_formula s f (inr e) h = inr (subst (λ (q : Sort). FormulaIs q f) e h)

record HasPair (l : Layout) (r : InputRelocation) : Type 0 where
  each : (f : Formula) → formula_of l.machine r.number ≡ Some f → (f ≡ displaced (SlotDistance ModulePair)) ⊎ (f ≡ displaced (SlotDistance OwnModulePair))

has_pair : (l : Layout) (item : Item) (first second : InputRelocation) (start : ℕ) (o : Instruction) → l.machine ≡ machine.X86_64 → IsGetterCall l item first second start o → HasPair l first
has_pair l item first second start o x q =
    let listed = subst (λ (k : Machine). Contains (instructions_of k) o) x q.stands.known in
    record { each = λ f known. pair_formula o.sort f (pair_of o q.partner listed q.calls) (formula_is l first o f x q.stands.known q.stands.number known) }

no_place : (f : Formula) → (f ≡ displaced (SlotDistance ModulePair)) ⊎ (f ≡ displaced (SlotDistance OwnModulePair)) → IsPlaceRelative f.value → ⊥
no_place f (inl e) h = subst (λ (g : Formula). IsPlaceRelative g.value) e h
no_place f (inr e) h = subst (λ (g : Formula). IsPlaceRelative g.value) e h

pair_slot : (f : Formula) → (f ≡ displaced (SlotDistance ModulePair)) ⊎ (f ≡ displaced (SlotDistance OwnModulePair)) → IsSlotValue f.value
pair_slot f (inl e) = subst (λ (g : Formula). IsSlotValue g.value) (sym e) tt
pair_slot f (inr e) = subst (λ (g : Formula). IsSlotValue g.value) (sym e) tt

no_offset : (f : Formula) → (f ≡ displaced (SlotDistance ModulePair)) ⊎ (f ≡ displaced (SlotDistance OwnModulePair)) → TakesOffset f.value → ⊥
no_offset f (inl e) h = subst (λ (g : Formula). TakesOffset g.value) e h
no_offset f (inr e) h = subst (λ (g : Formula). TakesOffset g.value) e h

no_address : (f : Formula) → (f ≡ displaced (SlotDistance ModulePair)) ⊎ (f ≡ displaced (SlotDistance OwnModulePair)) → TakesAddress f.value → ⊥
no_address f (inl e) h = subst (λ (g : Formula). TakesAddress g.value) e h
no_address f (inr e) h = subst (λ (g : Formula). TakesAddress g.value) e h

abbrev IsPairSlot : Slot → Type 0
IsPairSlot ModulePair = ⊤
IsPairSlot OwnModulePair = ⊤
IsPairSlot other = ⊥

apart_module : ModulePair ≡ AddressSlot → ⊥
apart_module e = subst IsPairSlot e tt

apart_own : OwnModulePair ≡ AddressSlot → ⊥
apart_own e = subst IsPairSlot e tt

no_slot : (s : Slot) → SlotDistance s ≡ SlotDistance AddressSlot → (s ≡ AddressSlot → ⊥) → ⊥
no_slot s e h = h (let same : s ≡ AddressSlot = cc in same)

no_slot_formula : (f : Formula) → (f ≡ displaced (SlotDistance ModulePair)) ⊎ (f ≡ displaced (SlotDistance OwnModulePair)) → f ≡ displaced (SlotDistance AddressSlot) → ⊥
no_slot_formula f (inl e) h = no_slot ModulePair (ap (λ (g : Formula). g.value) (sym e ∙ h)) (λ same. (let both : ModulePair ≡ AddressSlot = same in absurd (apart_module both)))
no_slot_formula f (inr e) h = no_slot OwnModulePair (ap (λ (g : Formula). g.value) (sym e ∙ h)) (λ same. (let both : OwnModulePair ≡ AddressSlot = same in absurd (apart_own both)))

-- its type has a formula
first_known : (l : Layout) (w : World) (m : Memory) (item : Item) (first : InputRelocation) (start : ℕ) (o : Instruction) (second : InputRelocation) → l.machine ≡ machine.X86_64 → IsGetterCall l item first second start o → (f : Formula) × (formula_of l.machine first.number ≡ Some f)
first_known l w m item first start o second x q =
    let listed = subst (λ (k : Machine). Contains (instructions_of k) o) x q.stands.known in
    let h = known_formula o first.number listed q.stands.number in
    (h.0, subst (λ (k : Machine). formula_of k first.number ≡ Some h.0) (sym x) h.1)

-- it calls and jumps through no slot
no_through : (l : Layout) (item : Item) (r : InputRelocation) (f : Formula) → l.machine ≡ machine.X86_64 → formula_of l.machine r.number ≡ Some f → HasPair l r → HasRelativeInstruction l item r → ⊥
no_through l item r f x known p (g) = by g.template
  where
    by : IsTemplate l item r g.start g.instruction g.first → ⊥
    by (inl t) =
        (let is = formula_is l r g.instruction f x t.0.stands.known t.0.stands.number known in
        no_slot_formula f (p.each f known) (subst (λ (s : Sort). FormulaIs s f) (counts_by_slot l g.instruction x t.0.stands.known g.counts) is))
    by (inr t) =
        (let listed = subst (λ (k : Machine). Contains (instructions_of k) g.instruction) x t.sequence.stands.known in
        let q = (as_double l item r g.start g.instruction g.first x t).sequence in
        no_pair_sort (pair_of g.instruction q.partner listed q.calls) (counts_by_slot l g.instruction x t.sequence.stands.known g.counts))
      where
        no_pair_sort : (g.instruction.sort ≡ SymbolPair) ⊎ (g.instruction.sort ≡ OwnPair) → g.instruction.sort ≡ TargetInSlot → ⊥
        no_pair_sort (inl e) h = (let both : SymbolPair ≡ TargetInSlot = sym e ∙ h in cc)
        no_pair_sort (inr e) h = (let both : OwnPair ≡ TargetInSlot = sym e ∙ h in cc)

first_asked : (l : Layout) (w : World) (item : Item) (r : InputRelocation) (f : Formula) → l.machine ≡ machine.X86_64 → formula_of l.machine r.number ≡ Some f → HasPair l r → MustHold l w item r
first_asked l w item r f x known p e = by e.relative
  where
    by : HasPlace l r ⊎ HasRelativeInstruction l item r → w.base ≡ 0
    by (inl h) = absurd (no_place h.formula (p.each h.formula h.known) h.relative)
    by (inr h) = absurd (no_through l item r f x known p h)

first_not_alone : (l : Layout) (item : Item) (r : InputRelocation) → HasPair l r → UsesOwnSymbolOnly l item r → ⊥
first_not_alone l item r p a = by a.takes
  where
    by : UsesOwnDefinition l item a.symbol a.formula → ⊥
    by (inl h) = no_offset a.formula (p.each a.formula a.known) h
    by (inr h) = no_address a.formula (p.each a.formula a.known) h.0

-- ---- instructions

as_field : (l : Layout) (w : World) (m : Memory) (item : Item) (r : InputRelocation) → FieldHolds l w m item r → HasField l w m item r
as_field l w m item r f = record { formula = f.formula; known = f.known; value = f.value; gives = f.gives; field = f.field }

single_does : InstructionsAreKept → (l : Layout) (w : World) (m : Memory) (s : Item) → IsLoadedItem machine.X86_64 l w m s → FieldsHold l w m s → (i : ℕ) (r : InputRelocation) → IsKeptReference l s i r → (IsOmitted l s r → ⊥) → MustHold l w s r → (UsesOwnSymbolOnly l s r → ⊥)
    → (start : ℕ) (o : Instruction) → IsSingle l s r start o → DoesDemanded (reads w m) l w m s r start o
single_does kept l w m s g f i r k present asked alone start o t =
    does_demanded l w m s r start o (record {
      x86 = g.on;
      stands = t.stands;
      field = as_field l w m s r (f.references i r k present asked alone);
      own = kept machine.X86_64 l w m s g i r k.decision k.has k.keeps start o r (inl (t, refl));
      partners = subst (λ (ps : List Partner). PartnersThere w m s start ps) (sym t.single) tt;
    })

double_does : SequencesAreKept → InstructionsAreKept → (l : Layout) (w : World) (m : Memory) (s : Item) → IsLoadedItem machine.X86_64 l w m s → FieldsHold l w m s → (i : ℕ) (r : InputRelocation) → IsKeptReference l s i r → (IsOmitted l s r → ⊥)
    → (start : ℕ) (o : Instruction) (first : InputRelocation) → IsOfSequence l s r start o first → DoesDemanded (reads w m) l w m s first start o
double_does sequences kept l w m s g f i r k present start o first part =
    let pair = as_pair l s first part.rest start o g.on part.sequence in
    let t = pair.pair in
    let p = has_pair l s first pair.second start o g.on t in
    let here = sequences machine.X86_64 l w m s g i r k start o first part first (0, omega arith, refl) in
    let call = sequences machine.X86_64 l w m s g i r k start o first part pair.second (subst (λ (rs : List InputRelocation). Contains (first ∷ rs) pair.second) (sym pair.is) (1, omega arith, refl)) in
    let formula = first_known l w m s first start o pair.second g.on t in
    let slot : HasSlotFormula l first = record { formula = formula.0; known = formula.1; slot = pair_slot formula.0 (p.each formula.0 formula.1) } in
    let all = keeps_all l (λ bare. present (bare, inr (inl (inr (record { start = start; instruction = o; first = first; of = part; other = first; one = (0, omega arith, refl); slot = slot }))))) in
    let bytes = bytes_there l w m s call.index pair.second call.kept.decision g all call.kept.has call.kept.keeps in
    let wide = bytes.1 ∙ partner_width o t.partner pair.second.number (known_filled l s first start o g.on t.stands) t.calls t.has.number in
    let held = subst (λ (n : ℕ). Holds m (place_at w s n) bytes.0) t.has.field bytes.2 in
    let field = f.references here.index first here.kept (λ left. (let off = all in let on = left.0 in let both : true ≡ false = sym on ∙ off in cc)) (first_asked l w s first formula.0 g.on formula.1 p) (first_not_alone l s first p) in
    does_demanded l w m s first start o (record {
      x86 = g.on;
      stands = t.stands;
      field = as_field l w m s first field;
      own = kept machine.X86_64 l w m s g i r k.decision k.has k.keeps start o first (inr part);
      partners = subst (λ (ps : List Partner). PartnersThere w m s start ps) (sym t.calls) ((bytes.0, wide, held), tt);
    })

-- words of AArch64, alone and in runs
run_kept : SequencesAreKept → InstructionsAreKept → (l : Layout) (w : World) (m : Memory) (s : Item) → IsLoadedItem machine.AArch64 l w m s → FieldsHold l w m s → (i : ℕ) (r : InputRelocation) → IsKeptReference l s i r → (IsOmitted l s r → ⊥) → MustHold l w s r → (UsesOwnSymbolOnly l s r → ⊥)
    → (start : ℕ) (o : Instruction) (first : InputRelocation) → IsOfSequence l s r start o first → IsKeptRun l w m s r start o first
run_kept sequences kept l w m s g f i r k present asked alone start o first t = record {
  on = g.on;
  rest = t.rest;
  sequence = t.sequence;
  one = t.one;
  each = λ q c a n. (let h = sequences machine.AArch64 l w m s g i r k start o first t q c in f.references h.index q h.kept (λ left. present (left_along l s r q start o first g.on t c left)) a n);
  asked = asked;
  alone = alone;
  own = kept machine.AArch64 l w m s g i r k.decision k.has k.keeps start o first (inr t);
}

pub kept_do : SequencesAreKept → InstructionsAreKept → KeptInstructionsDo
kept_do sequences kept machine.X86_64 l w m s g f i r k present asked alone start o first (inl t) =
    subst (λ (x : InputRelocation). DoesDemanded (reads w m) l w m s x start o) (sym t.1) (single_does kept l w m s g f i r k present asked alone start o t.0)
kept_do sequences kept machine.X86_64 l w m s g f i r k present asked alone start o first (inr t) = double_does sequences kept l w m s g f i r k present start o first t
kept_do sequences kept machine.AArch64 l w m s g f i r k present asked alone start o first (inl t) =
    subst (λ (x : InputRelocation). DoesDemanded (reads w m) l w m s x start o) (sym t.1) (lone_word_does l w m s r start o g.on t.0.stands t.0.single (f.references i r k present asked alone))
kept_do sequences kept machine.AArch64 l w m s g f i r k present asked alone start o first (inr t) = run_does l w m s r start o first (run_kept sequences kept l w m s g f i r k present asked alone start o first t)
