-- The words of a run that its references keep: each has the bits of its formula's value.
use Rattle.wild_references.proofs.Common.{◌≡◌, ℕ, ◌+◌, ◌<◌, ◌⊎◌, inl, inr, true, false, List, [], ◌∷◌, length, refl, sym, ◌∙◌, subst, Bool, slice_range, Some, Contains, ◌||◌, ◌==◌, number, r_aarch64_tstbr14, r_aarch64_condbr19, r_aarch64_jump26, r_aarch64_call26, Machine, InputRelocation, Layout, Item, SymbolAddress, Formula, Reads, Keeps, aarch64_formula, Memory, World, Holds, Instruction, FieldBits, Target, IsOwnByte, descriptor_call_words, offset_pair_words, address_pair_words, instructions_of, place_at, formula_of, form_width, FieldReads, IsInputByte, IsPlaceRelative, Gives, TakesAddress, TakesOffset, IsSequence, IsTemplate, HasPlace, MustHold, UsesOwnDefinition, UsesOwnSymbolOnly, are_several, only_one, FieldHolds}
use Rattle.wild_types.specs.declared.kind.Machine.TheVariants as machine
use Rattle.wild_meaning.specs.Sequence.{of_word}
use Rattle.wild_meaning.specs.Reference.{CountsFromPlace, HasRelativeInstruction}
use Rattle.wild_meaning.proofs.AmongLemmas.{pick}
use Rattle.wild_meaning.proofs.OneReference.{has}
use Rattle.wild_meaning.proofs.PairLemmas.{some}
use Rattle.wild_meaning.proofs.InstructionsAArch64.{numbers_in, numbered}
use Rattle.wild_references.proofs.SinglesAArch64.{IsWord, is_word}

-- ---- the runs

abbrev pub IsRun : Instruction → Type 0
IsRun o = (o ≡ descriptor_call_words) ⊎ ((o ≡ offset_pair_words) ⊎ (o ≡ address_pair_words))

pub is_run_of : (o : Instruction) → Contains (instructions_of machine.AArch64) o → 0 < length o.partners → IsRun o
is_run_of o known several = pick (λ (x : Instruction). are_several x.partners) IsRun (instructions_of machine.AArch64) (inl refl, (inr (inl refl), (inr (inr refl), tt))) o known (some o.partners several)

-- a run of the input, of which a reference is one: what is known of it and of its references
pub record IsKeptRun (l : Layout) (w : World) (m : Memory) (s : Item) (r : InputRelocation) (start : ℕ) (o : Instruction) (first : InputRelocation) : Type 0 where
  pub on : l.machine ≡ machine.AArch64
  pub rest : List InputRelocation
  pub sequence : IsSequence l s first rest start o
  pub one : Contains (first ∷ rest) r
  pub each : (q : InputRelocation) → Contains (first ∷ rest) q → MustHold l w s q → (UsesOwnSymbolOnly l s q → ⊥) → FieldHolds l w m s q
  pub asked : MustHold l w s r
  pub alone : UsesOwnSymbolOnly l s r → ⊥
  pub own : (k : ℕ) → IsOwnByte o k → IsInputByte w m s (start + k)

-- ---- a word and its field

pub same_formula : (l : Layout) (n : ℕ) (f g : Formula) → l.machine ≡ machine.AArch64 → aarch64_formula n ≡ Some f → formula_of l.machine n ≡ Some g → g ≡ f
same_formula l n f g on known there =
    let here : aarch64_formula n ≡ Some g = subst (λ (k : Machine). formula_of k n ≡ Some g) on there in
    let both : Some g ≡ Some f = sym here ∙ known in
    cc

-- the field of a reference reads as that formula, and its other bits are the input's
pub record HasWord (g : Formula) (l : Layout) (w : World) (m : Memory) (s : Item) (r : InputRelocation) (at : ℕ) : Type 0 where
  pub value : ℕ
  pub gives : Gives g.value l w m s r value
  pub bytes : List ℕ
  pub whole : length bytes ≡ form_width g.form
  pub held : Holds m (place_at w s at) bytes
  pub reads : Reads g.form bytes value
  pub keeps : Keeps g.form (slice_range s.bytes at (at + form_width g.form)) bytes

has_word : (g : Formula) (l : Layout) (w : World) (m : Memory) (s : Item) (r : InputRelocation) (at : ℕ) → l.machine ≡ machine.AArch64 → r.offset ≡ at → aarch64_formula r.number ≡ Some g → FieldHolds l w m s r → HasWord g l w m s r at
has_word g l w m s r at on place known h =
    let same = same_formula l r.number g h.formula on known h.known in
    let field = subst (λ (f : Formula). FieldReads w m s r f.form h.value) same h.field in
    record {
      value = h.value;
      gives = subst (λ (f : Formula). Gives f.value l w m s r h.value) same h.gives;
      bytes = field.bytes;
      whole = field.wide;
      held = subst (λ (k : ℕ). Holds m (place_at w s k) field.bytes) place field.held;
      reads = field.reads;
      keeps = subst (λ (k : ℕ). Keeps g.form (slice_range s.bytes k (k + form_width g.form)) field.bytes) place field.keeps;
    }

-- ---- references by a slot are asked everywhere

-- an instruction that counts from its place is one of an address
by_place : (l : Layout) (s : Item) (q : InputRelocation) → l.machine ≡ machine.AArch64 → HasRelativeInstruction l s q → has q.number (numbers_in address_pair_words) ≡ true
by_place l s q on g = by g.template
  where
    not_word : (word : IsWord g.instruction) → ⊥
    not_word word = by_sort word.is
      where
        by_sort : (g.instruction ≡ of_word FieldBits word.number) ⊎ (((word.number ≡ r_aarch64_jump26) ⊎ (word.number ≡ r_aarch64_call26)) × (g.instruction ≡ of_word Target word.number)) → ⊥
        by_sort (inl e) = subst (λ (o : Instruction). CountsFromPlace o.sort) e g.counts
        by_sort (inr e) = subst (λ (o : Instruction). CountsFromPlace o.sort) e.1 g.counts

    of_run : IsRun g.instruction → has q.number (numbers_in g.instruction) ≡ true → has q.number (numbers_in address_pair_words) ≡ true
    of_run (inl e) n = absurd (subst (λ (o : Instruction). CountsFromPlace o.sort) e g.counts)
    of_run (inr (inl e)) n = absurd (subst (λ (o : Instruction). CountsFromPlace o.sort) e g.counts)
    of_run (inr (inr e)) n = subst (λ (o : Instruction). has q.number (numbers_in o) ≡ true) e n

    by : IsTemplate l s q g.start g.instruction g.first → has q.number (numbers_in address_pair_words) ≡ true
    by (inl t) = absurd (not_word (is_word g.instruction (subst (λ (k : Machine). Contains (instructions_of k) g.instruction) on t.0.stands.known) t.0.single))
    by (inr t) = of_run (is_run_of g.instruction (subst (λ (k : Machine). Contains (instructions_of k) g.instruction) on t.sequence.stands.known) t.sequence.several) (numbered l s q g.start g.instruction g.first t)

-- a relocation type whose formula has the symbol by its slot alone
pub record IsOfSlot (n : ℕ) (f : Formula) : Type 0 where
  pub known : aarch64_formula n ≡ Some f
  pub still : IsPlaceRelative f.value → ⊥
  pub offset : TakesOffset f.value → ⊥
  pub address : TakesAddress f.value → ⊥
  pub other : has n (numbers_in address_pair_words) ≡ false

slot_asked : (l : Layout) (w : World) (s : Item) (q : InputRelocation) (n : ℕ) (f : Formula) → l.machine ≡ machine.AArch64 → q.number ≡ n → IsOfSlot n f → MustHold l w s q
slot_asked l w s q n f on is k e = absurd (by e.relative)
  where
    by : HasPlace l q ⊎ HasRelativeInstruction l s q → ⊥
    by (inl h) =
        let same = same_formula l n f h.formula on k.known (subst (λ (x : ℕ). formula_of l.machine x ≡ Some h.formula) is h.known) in
        k.still (subst (λ (g : Formula). IsPlaceRelative g.value) same h.relative)
    by (inr g) =
        let yes : has n (numbers_in address_pair_words) ≡ true = subst (λ (x : ℕ). has x (numbers_in address_pair_words) ≡ true) is (by_place l s q on g) in
        let both : true ≡ false = sym yes ∙ k.other in
        cc

slot_followed : (l : Layout) (s : Item) (q : InputRelocation) (n : ℕ) (f : Formula) → l.machine ≡ machine.AArch64 → q.number ≡ n → IsOfSlot n f → UsesOwnSymbolOnly l s q → ⊥
slot_followed l s q n f on is k a =
    let same = same_formula l n f a.formula on k.known (subst (λ (x : ℕ). formula_of l.machine x ≡ Some a.formula) is a.known) in
    by (subst (λ (g : Formula). UsesOwnDefinition l s a.symbol g) same a.takes)
  where
    by : UsesOwnDefinition l s a.symbol f → ⊥
    by (inl h) = k.offset h
    by (inr h) = k.address h.0

-- its word
pub slot_word : (g : Formula) (n : ℕ) (l : Layout) (w : World) (m : Memory) (s : Item) (r q : InputRelocation) (start at : ℕ) (o : Instruction) (first : InputRelocation) → (k : IsKeptRun l w m s r start o first) → IsOfSlot n g → Contains (first ∷ k.rest) q → Contains (n ∷ []) q.number → q.offset ≡ at → HasWord g l w m s q at
slot_word g n l w m s r q start at o first k t c number place =
    let is = only_one n q.number number in
    let known = subst (λ (x : ℕ). aarch64_formula x ≡ Some g) (sym is) t.known in
    has_word g l w m s q at k.on place known (k.each q c (slot_asked l w s q n g k.on is t) (slot_followed l s q n g k.on is t))

-- ---- the two parts of an address are asked together

-- the type of a conditional branch
abbrev is_conditional : ℕ → Bool
is_conditional n = n == r_aarch64_tstbr14 || n == r_aarch64_condbr19

pub not_conditional : (n : ℕ) → is_conditional n ≡ false → (n ≡ r_aarch64_tstbr14) ⊎ (n ≡ r_aarch64_condbr19) → ⊥
not_conditional n h (inl e) = (let both : is_conditional r_aarch64_tstbr14 ≡ false = subst (λ (k : ℕ). is_conditional k ≡ false) e h in cc)
not_conditional n h (inr e) = (let both : is_conditional r_aarch64_condbr19 ≡ false = subst (λ (k : ℕ). is_conditional k ≡ false) e h in cc)

-- a relocation type that has a part of a symbol's address
pub record IsOfAddress (n : ℕ) (f : Formula) : Type 0 where
  pub straight : is_conditional n ≡ false
  pub known : aarch64_formula n ≡ Some f
  pub takes : TakesAddress f.value
  pub part : f.value ≡ SymbolAddress → ⊥
  pub offset : TakesOffset f.value → ⊥

-- the reference itself has a part of the run's address
pub record HasPart (r first : InputRelocation) : Type 0 where
  pub symbol : r.symbol ≡ first.symbol
  pub formula : Formula
  pub is : IsOfAddress r.number formula

-- so that it is asked where the other part is
pub part_word : (g : Formula) (n : ℕ) (l : Layout) (w : World) (m : Memory) (s : Item) (r q : InputRelocation) (start at : ℕ) (first : InputRelocation) → (k : IsKeptRun l w m s r start address_pair_words first) → HasPart r first → IsOfAddress n g → q.symbol ≡ first.symbol → Contains (first ∷ k.rest) q
    → Contains (n ∷ []) q.number → q.offset ≡ at → HasWord g l w m s q at
part_word g n l w m s r q start at first k own t symbol c number place = has_word g l w m s q at k.on place known (k.each q c asked followed)
  where
    known : aarch64_formula q.number ≡ Some g
    known = subst (λ (x : ℕ). aarch64_formula x ≡ Some g) (sym (only_one n q.number number)) t.known

    asked : MustHold l w s q
    asked e =
        k.asked (record {
          movable = e.movable;
          symbol = e.symbol;
          named = own.symbol ∙ sym symbol ∙ e.named;
          absolute = e.absolute;
          relative = inr (record { start = start; instruction = address_pair_words; first = first; template = inr (record { rest = k.rest; sequence = k.sequence; one = k.one }); counts = tt });
        })

    followed : UsesOwnSymbolOnly l s q → ⊥
    followed a = k.alone (record {
      symbol = a.symbol;
      named = own.symbol ∙ sym symbol ∙ a.named;
      replaceable = a.replaceable;
      formula = own.formula;
      known = subst (λ (x : Machine). formula_of x r.number ≡ Some own.formula) (sym k.on) own.is.known;
      takes = by (subst (λ (f : Formula). UsesOwnDefinition l s a.symbol f) (same_formula l q.number g a.formula k.on known a.known) a.takes);
      direct = λ through. not_conditional r.number own.is.straight through.conditional;
    })
      where
        by : UsesOwnDefinition l s a.symbol g → UsesOwnDefinition l s a.symbol own.formula
        by (inl h) = absurd (t.offset h)
        by (inr h) = inr (own.is.takes, (λ left. own.is.part left.value), h.2)
