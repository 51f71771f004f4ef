-- Instructions of x86-64 that are rewritten hold, and so do the calls that they take along.
use Rattle.wild_references.proofs.Common.{◌≡◌, ℕ, ◌+◌, ◌≤◌, inl, inr, Bool, true, false, [], ◌∷◌, refl, sym, ap, ◌∙◌, arith, subst, ◌==◌, ◌||◌, not, Contains, Option, Some, None, Ok, slice_get, list_all, cases_Bool, slice_get_within, or_other, listed_passes, Value, Formula, SlotDistance, x86_64_formula, InputRelocation, Layout, Row, r_x86_64_gotpcrel, PLAIN_LEA, is_skip, rewrite_of, rows_x86_64, pattern_size, keeps_bytes, Decision, Rewritten, Partner, template_start, decide_partner, HasDecision, Memory, World, Item, TargetInSlot, Instruction, size_of, IsSingle, IsTemplate, formula_of, MustHold, HoldsRewritten, ReadsOffsetSlots, IsSlotValue, HasSlotFormula, IsOmitted, Machine, IsLoadedItem}
use Rattle.wild_references.proofs.TableRows.{plain_is}
use Rattle.wild_layout.proofs.ChoiceLemmas.{IsSequence}
use Rattle.wild_layout.proofs.DecisionLemmas.{sequence_is_rewritten}
use Rattle.wild_meaning.specs.Reference.{CountsFromPlace, HoldsWithSequence}
use Rattle.wild_types.specs.declared.kind.Machine.TheVariants as machine
use Rattle.wild_references.specs.EffectLaws.{IsLocatedAt}
use Rattle.wild_references.proofs.OmittedReferences.{keeps_all}
use Rattle.wild_references.proofs.RewrittenReads.{IsDone}
use Rattle.wild_references.proofs.RewrittenForms.{instruction_of}
use Rattle.wild_references.proofs.RewrittenPlaces.{LawsBelow, IsPlacedRow, placed_row, size_is}
use Rattle.wild_references.proofs.RewrittenInInput.{called}
use Rattle.wild_references.proofs.RewrittenPairs.{paired}
use Rattle.wild_references.proofs.RewrittenSingles.{is_told}
use Rattle.wild_references.proofs.RewrittenDoes.{is_call, IsWhole, GoesWithBase, does_row}
use Rattle.wild_references.proofs.RewrittenTemplates.{single_there, sequence_there, of_sequence_there, sequence_sort}
use Rattle.wild_references.proofs.RewrittenPrefix.{wide_load, wide_single, IsWider, wider_or_not}
use Rattle.wild_references.proofs.RewrittenShorter.{plain_single}
use Rattle.wild_references.proofs.RewrittenWider.{does_wider}

-- ---- an instruction, where it stands, and what it does where it is asked

record IsHeld (l : Layout) (w : World) (m : Memory) (s : Item) (r : InputRelocation) (row : Row) : Type 0 where
  from : ℕ
  instruction : Instruction
  template : IsTemplate l s r from instruction r
  before : from ≤ template_start row r
  behind : template_start row r + pattern_size row ≤ from + size_of instruction
  does : IsWhole l row → (instruction.sort ≡ TargetInSlot → MustHold l w s r) → IsDone machine.X86_64 l w m s r from instruction

-- where code goes through a slot to an absolute symbol of an output that moves, the reference is asked at base 0 alone
goes_with : (l : Layout) (w : World) (m : Memory) (s : Item) (i : ℕ) (r : InputRelocation) (row : Row) (v : ℕ) → (p : IsPlacedRow l s i r row v) → IsSingle l s r (template_start row r) (instruction_of row) → ((instruction_of row).sort ≡ TargetInSlot → MustHold l w s r) → GoesWithBase l w row p.chosen.symbol
goes_with l w m s i r row v p t asked sort movable still = asked sort (record {
  movable = movable;
  symbol = p.chosen.symbol;
  named = p.chosen.named;
  absolute = still;
  relative = inr (record { start = template_start row r; instruction = instruction_of row; first = r; template = inl (t, refl); counts = subst CountsFromPlace (sym sort) tt });
})

single_held : LawsBelow → (l : Layout) (w : World) (m : Memory) (s : Item) (i : ℕ) (r : InputRelocation) (row : Row) (v : ℕ) → IsLoadedItem machine.X86_64 l w m s → IsPlacedRow l s i r row v → IsSingle l s r (template_start row r) (instruction_of row) → IsHeld l w m s r row
single_held laws l w m s i r row v h p t =
    let size = size_is l s i r row v p in
    record {
      from = template_start row r;
      instruction = instruction_of row;
      template = inl (t, refl);
      before = omega arith;
      behind = omega (arith, size);
      does = λ whole asked. does_row laws l w m s i r row v h whole p (goes_with l w m s i r row v p t asked);
    }

wider_held : LawsBelow → (l : Layout) (w : World) (m : Memory) (s : Item) (i : ℕ) (r : InputRelocation) (v from : ℕ) → IsLoadedItem machine.X86_64 l w m s → IsWider l s i r v from → IsHeld l w m s r PLAIN_LEA
wider_held laws l w m s i r v from h t =
    let start = t.plain.start in
    record {
      from = from;
      instruction = wide_load;
      template = inl (wide_single laws.alone l s i r v from h.on h.decided t, refl);
      before = omega (arith, start);
      behind = omega (arith, start);
      does = λ whole asked. does_wider laws l w m s i r v from h (whole refl) t;
    }

plain_held : LawsBelow → (l : Layout) (w : World) (m : Memory) (s : Item) (i : ℕ) (r : InputRelocation) (v : ℕ) → IsLoadedItem machine.X86_64 l w m s → IsPlacedRow l s i r PLAIN_LEA v → IsHeld l w m s r PLAIN_LEA
plain_held laws l w m s i r v h p =
    elim (wider_or_not l s i r v p) [
      | inl t ↦ wider_held laws l w m s i r v t.0 h t.1
      | inr none ↦ single_held laws l w m s i r PLAIN_LEA v h p (plain_single laws.alone l s i r v h.on h.decided p none)
    ]

-- the call is there
call_there : (l : Layout) (s : Item) (i : ℕ) (r : InputRelocation) (row : Row) (v : ℕ) → IsPlacedRow l s i r row v → is_skip (rewrite_of row).next ≡ true → (next : InputRelocation) × (slice_get s.relocations (i + 1) ≡ Some next)
call_there l s i r row v p skips =
    let pair = paired row p.changing skips in
    let c = called l s row r p.chosen.symbol pair.distance (slice_get s.relocations (i + 1)) pair.behind p.stands.taken.partner in
    (c.0, c.1)

sequence_held : LawsBelow → (l : Layout) (w : World) (m : Memory) (s : Item) (i : ℕ) (r : InputRelocation) (row : Row) (v : ℕ) → IsLoadedItem machine.X86_64 l w m s → IsPlacedRow l s i r row v → is_skip (rewrite_of row).next ≡ true → IsHeld l w m s r row
sequence_held laws l w m s i r row v h p skips =
    let size = size_is l s i r row v p in
    let c = call_there l s i r row v p skips in
    record {
      from = template_start row r;
      instruction = instruction_of row;
      template = inr (of_sequence_there laws l w m s i r c.0 row v h p skips c.1);
      before = omega arith;
      behind = omega (arith, size);
      does = λ whole asked. does_row laws l w m s i r row v h whole p (λ sort. absurd (sequence_sort row p.changing skips sort));
    }

told_held : LawsBelow → (l : Layout) (w : World) (m : Memory) (s : Item) (i : ℕ) (r : InputRelocation) (row : Row) (v : ℕ) → IsLoadedItem machine.X86_64 l w m s → IsPlacedRow l s i r row v → is_told row ≡ true → IsHeld l w m s r row
told_held laws l w m s i r row v h p told =
    elim (cases_Bool (is_skip (rewrite_of row).next)) [
      | inl skips ↦ sequence_held laws l w m s i r row v h p skips
      | inr alone ↦ single_held laws l w m s i r row v h p (single_there laws l w m s i r row v h p alone told)
    ]

row_held : LawsBelow → (l : Layout) (w : World) (m : Memory) (s : Item) (i : ℕ) (r : InputRelocation) (row : Row) (v : ℕ) → IsLoadedItem machine.X86_64 l w m s → IsPlacedRow l s i r row v → IsHeld l w m s r row
row_held laws l w m s i r row v h p = by (is_told row) refl
  where
    truly : (b : Bool) → not b ≡ false → b ≡ true
    truly true e = refl
    truly false e = cc

    by : (b : Bool) → is_told row ≡ b → IsHeld l w m s r row
    by true told = told_held laws l w m s i r row v h p told
    by false plain =
        let same = plain_is row p.changing.listed (truly (row.number == r_x86_64_gotpcrel) plain) in
        subst (λ (x : Row). IsPlacedRow l s i r x v → IsHeld l w m s r x) (sym same) (λ q. plain_held laws l w m s i r v h q) p

pub instruction_stands : LawsBelow → (l : Layout) (w : World) (m : Memory) (s : Item) → IsLoadedItem machine.X86_64 l w m s → (i : ℕ) (r : InputRelocation) (row : Row) (v : ℕ) → HasDecision l s i r (Rewritten row v) → IsLocatedAt l s r (template_start row r) (pattern_size row)
instruction_stands laws l w m s h i r row v has =
    let t = row_held laws l w m s i r row v h (placed_row laws l s i r row v h.on has) in
    record { from = t.from; instruction = t.instruction; first = r; template = t.template; before = t.before; behind = t.behind }

-- the formula of what is rewritten names a slot, but that of a call
abbrev is_slot_value : Value → Bool
is_slot_value (SlotDistance sort) = true
is_slot_value other = false

abbrev is_of_slot : Option Formula → Bool
is_of_slot None = false
is_of_slot (Some f) = is_slot_value f.value

abbrev goes_by_slot : Row → Bool
goes_by_slot row = keeps_bytes row || (is_call (instruction_of row).sort || is_of_slot (x86_64_formula row.number))

each_by_slot : list_all goes_by_slot rows_x86_64 ≡ true
unfolding rows_x86_64 x86_64_formula
each_by_slot = refl

slot_value : (v : Value) → is_slot_value v ≡ true → IsSlotValue v
slot_value (SlotDistance sort) h = tt
slot_value other h = cc

names_slot : (l : Layout) (r : InputRelocation) (row : Row) → l.machine ≡ machine.X86_64 → Contains rows_x86_64 row → keeps_bytes row ≡ false → r.number ≡ row.number → is_call (instruction_of row).sort ≡ false → HasSlotFormula l r
names_slot l r row x86 listed changes number other =
    by_formula (x86_64_formula row.number) (ap (λ (k : Machine). formula_of k r.number) x86 ∙ ap x86_64_formula number)
    (or_other (is_call (instruction_of row).sort) _ (or_other (keeps_bytes row) _ (listed_passes goes_by_slot rows_x86_64 row each_by_slot listed) changes) other)
  where
    by_formula : (o : Option Formula) → formula_of l.machine r.number ≡ o → is_of_slot o ≡ true → HasSlotFormula l r
    by_formula None known h = cc
    by_formula (Some f) known h = record { formula = f; known = known; slot = slot_value f.value h }

-- which words code reads, on the machine of the output
words_on : (l : Layout) (w : World) (m : Memory) (s : Item) (first : InputRelocation) (start : ℕ) (o : Instruction) → l.machine ≡ machine.X86_64 → ReadsOffsetSlots machine.X86_64 l w m s first start o → ReadsOffsetSlots l.machine l w m s first start o
words_on l w m s first start o x h = subst (λ (k : Machine). ReadsOffsetSlots k l w m s first start o) (sym x) h

pub instruction_holds : LawsBelow → (l : Layout) (w : World) (m : Memory) (s : Item) → IsLoadedItem machine.X86_64 l w m s → (i : ℕ) (r : InputRelocation) (row : Row) (v : ℕ) → HasDecision l s i r (Rewritten row v) → (IsOmitted l s r → ⊥) → MustHold l w s r → HoldsRewritten l w m s r
instruction_holds laws l w m s h i r row v has present asked =
    let p = placed_row laws l s i r row v h.on has in
    let t = row_held laws l w m s i r row v h p in
    let whole : IsWhole l row = λ other. keeps_all l (λ bare. present (bare, inr (inl (inl (names_slot l r row h.on p.changing.listed p.changing.changes p.chosen.number other))))) in
    let done = t.does whole (λ sort. asked) in
    record { start = t.from; instruction = t.instruction; first = r; template = t.template; does = done.does; words = words_on l w m s r t.from t.instruction h.on done.words }

-- ---- the calls of sequences

-- the relocation before the call is rewritten by the row that takes it along
record IsBefore (l : Layout) (s : Item) (j : ℕ) (second : InputRelocation) : Type 0 where
  first : InputRelocation
  row : Row
  value : ℕ
  has : HasDecision l s j first (Rewritten row value)
  skips : is_skip (rewrite_of row).next ≡ true
  listed : slice_get s.relocations (j + 1) ≡ Some second

before_call : (l : Layout) (w : World) (m : Memory) (s : Item) (i : ℕ) (r : InputRelocation) → IsLoadedItem machine.X86_64 l w m s → HasDecision l s i r Partner → (j : ℕ) × IsBefore l s j r
before_call l w m s i r h has =
    let t = decide_partner l s i r has.listed has.decided in
    (t.0, by_row t.0 t.2 t.3 (subst (λ (n : ℕ). slice_get s.relocations n ≡ Some r) t.1 has.listed))
  where
    by_row : (j : ℕ) (row : Row) → IsSequence l s j row → slice_get s.relocations (j + 1) ≡ Some r → IsBefore l s j r
    by_row j row q listed =
        let d = h.decided.each j (slice_get_within s.relocations j q.relocation q.listed) in
        let by = sequence_is_rewritten l s j row d.0 q d.1 in
        record { first = q.relocation; row = row; value = by.0; has = record { listed = q.listed; decided = d.1 ∙ ap (λ (x : Decision). Ok x) by.1 }; skips = q.takes; listed = listed }

pub partner_holds : LawsBelow → (l : Layout) (w : World) (m : Memory) (s : Item) → IsLoadedItem machine.X86_64 l w m s → (i : ℕ) (r : InputRelocation) → HasDecision l s i r Partner → (IsOmitted l s r → ⊥) → HoldsWithSequence l w m s r
partner_holds laws l w m s h i r has present =
    let b = before_call l w m s i r h has in
    let t = b.1 in
    let p = placed_row laws l s b.0 t.first t.row t.value h.on t.has in
    let sequence = sequence_there laws l w m s b.0 t.first r t.row t.value h p t.skips t.listed in
    let whole : IsWhole l t.row = λ other. keeps_all l (λ bare. present (
      bare,
      inr (inl (inr (record {
        start = template_start t.row t.first;
        instruction = instruction_of t.row;
        first = t.first;
        of = record { rest = r ∷ []; sequence = sequence; one = (1, omega arith, refl) };
        other = t.first;
        one = (0, omega arith, refl);
        slot = names_slot l t.first t.row h.on p.changing.listed p.changing.changes p.chosen.number other;
      }))),
    )) in
    let done = does_row laws l w m s b.0 t.first t.row t.value h whole p (λ sort. absurd (sequence_sort t.row p.changing t.skips sort)) in
    record {
      start = template_start t.row t.first;
      instruction = instruction_of t.row;
      first = t.first;
      rest = r ∷ [];
      one = (0, omega arith, refl);
      sequence = sequence;
      does = done.does;
      words = words_on l w m s t.first (template_start t.row t.first) (instruction_of t.row) h.on done.words;
    }
