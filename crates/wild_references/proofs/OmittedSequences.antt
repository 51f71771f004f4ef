-- An image for debuggers alone leaves out the references of a sequence together.
use Rattle.wild_references.proofs.Common.{◌≡◌, ℕ, ◌⊎◌, inl, inr, Bool, true, false, [], ◌∷◌, refl, sym, ap, ◌∙◌, arith, subst, ◌==◌, ◌||◌, Contains, Some, eqb-true, r_aarch64_tlsdesc_adr_page21, r_aarch64_tlsie_adr_gottprel_page21, r_aarch64_adr_prel_pg_hi21, r_aarch64_add_abs_lo12_nc, r_aarch64_jump26, r_aarch64_call26, Machine, InputRelocation, Layout, Item, Formula, Value, SymbolAddress, SymbolPart, Distance, PageDistance, FromTable, Size, aarch64_formula, formula_of, TakesAddress, Instruction, descriptor_call_words, offset_pair_words, address_pair_words, instructions_of, IsOfSequence, HasStubAddress, IsSlotValue, HasSlotFormula, TakesStub, IsOmitted, only_one}
use Rattle.wild_types.specs.declared.kind.Machine.TheVariants as machine
use Rattle.wild_meaning.specs.Reference.{SequenceNamesSlot, TakesEntry, UsesStubAddress, UsesStub, UsesStubOrThunk, NamesSlot}
use Rattle.wild_meaning.proofs.InstructionsAArch64.{numbers_in, numbered}
use Rattle.wild_meaning.proofs.OneReference.{has}
use Rattle.wild_references.proofs.RunWords.{IsRun, is_run_of, IsOfSlot, HasPart, same_formula, not_conditional}
use Rattle.wild_references.proofs.SequencesAArch64.{call_page, offset_page, part_of}

-- ---- sequences by a slot

first_slot : (l : Layout) (first : InputRelocation) (n : ℕ) (f : Formula) → l.machine ≡ machine.AArch64 → IsOfSlot n f → IsSlotValue f.value → Contains (n ∷ []) first.number → HasSlotFormula l first
first_slot l first n f on is slot number = record {
  formula = f;
  known = subst (λ (k : Machine). formula_of k first.number ≡ Some f) (sym on) (subst (λ (x : ℕ). aarch64_formula x ≡ Some f) (sym (only_one n first.number number)) is.known);
  slot = slot;
}

-- of a run whose first word names a slot
pub beside_slot : (l : Layout) (s : Item) (r : InputRelocation) (start : ℕ) (o : Instruction) (first : InputRelocation) → l.machine ≡ machine.AArch64 → IsOfSequence l s r start o first → (o ≡ descriptor_call_words) ⊎ (o ≡ offset_pair_words) → SequenceNamesSlot l s r
beside_slot l s r start o first on t which = record { start = start; instruction = o; first = first; of = t; other = first; one = (0, omega arith, refl); slot = by which }
  where
    by : (o ≡ descriptor_call_words) ⊎ (o ≡ offset_pair_words) → HasSlotFormula l first
    by (inl e) = first_slot l first r_aarch64_tlsdesc_adr_page21 _ on call_page tt (subst (λ (p : Instruction). Contains p.numbers first.number) e t.sequence.stands.number)
    by (inr e) = first_slot l first r_aarch64_tlsie_adr_gottprel_page21 _ on offset_page tt (subst (λ (p : Instruction). Contains p.numbers first.number) e t.sequence.stands.number)

-- ---- the two parts of an address

no_slot : (v : Value) → TakesAddress v → IsSlotValue v → ⊥
no_slot SymbolAddress a s = s
no_slot SymbolPart a s = s
no_slot Distance a s = s
no_slot PageDistance a s = s
no_slot FromTable a s = s
no_slot other a s = a

no_stub : (v : Value) → TakesAddress v → TakesStub v → ⊥
no_stub SymbolAddress a s = s
no_stub SymbolPart a s = s
no_stub Distance a s = s
no_stub PageDistance a s = s
no_stub FromTable a s = s
no_stub other a s = a

two_numbers : (n : ℕ) → has n (numbers_in address_pair_words) ≡ true → (n ≡ r_aarch64_adr_prel_pg_hi21) ⊎ (n ≡ r_aarch64_add_abs_lo12_nc)
two_numbers n h = by (r_aarch64_adr_prel_pg_hi21 == n) (r_aarch64_add_abs_lo12_nc == n) (λ e. sym (eqb-true _ _ e)) (λ e. sym (eqb-true _ _ e)) h
  where
    by : (a b : Bool) → (a ≡ true → n ≡ r_aarch64_adr_prel_pg_hi21) → (b ≡ true → n ≡ r_aarch64_add_abs_lo12_nc) → (a || (b || false)) ≡ true → (n ≡ r_aarch64_adr_prel_pg_hi21) ⊎ (n ≡ r_aarch64_add_abs_lo12_nc)
    by true b f g h = inl (f refl)
    by false true f g h = inr (g refl)
    by false false f g h = cc

-- which are of no other sequence
not_of_call : (n : ℕ) → (n ≡ r_aarch64_adr_prel_pg_hi21) ⊎ (n ≡ r_aarch64_add_abs_lo12_nc) → has n (numbers_in descriptor_call_words) ≡ true → ⊥
not_of_call n (inl e) h = (let none : has r_aarch64_adr_prel_pg_hi21 (numbers_in descriptor_call_words) ≡ true = subst (λ (k : ℕ). has k (numbers_in descriptor_call_words) ≡ true) e h in cc)
not_of_call n (inr e) h = (let none : has r_aarch64_add_abs_lo12_nc (numbers_in descriptor_call_words) ≡ true = subst (λ (k : ℕ). has k (numbers_in descriptor_call_words) ≡ true) e h in cc)

not_of_offset : (n : ℕ) → (n ≡ r_aarch64_adr_prel_pg_hi21) ⊎ (n ≡ r_aarch64_add_abs_lo12_nc) → has n (numbers_in offset_pair_words) ≡ true → ⊥
not_of_offset n (inl e) h = (let none : has r_aarch64_adr_prel_pg_hi21 (numbers_in offset_pair_words) ≡ true = subst (λ (k : ℕ). has k (numbers_in offset_pair_words) ≡ true) e h in cc)
not_of_offset n (inr e) h = (let none : has r_aarch64_add_abs_lo12_nc (numbers_in offset_pair_words) ≡ true = subst (λ (k : ℕ). has k (numbers_in offset_pair_words) ≡ true) e h in cc)

-- nor a branch
no_branch : (n : ℕ) → has n (numbers_in address_pair_words) ≡ true → (n ≡ r_aarch64_jump26) ⊎ (n ≡ r_aarch64_call26) → ⊥
no_branch n h (inl e) = (let none : has r_aarch64_jump26 (numbers_in address_pair_words) ≡ true = subst (λ (k : ℕ). has k (numbers_in address_pair_words) ≡ true) e h in cc)
no_branch n h (inr e) = (let none : has r_aarch64_call26 (numbers_in address_pair_words) ≡ true = subst (λ (k : ℕ). has k (numbers_in address_pair_words) ≡ true) e h in cc)

-- its formula is that of a part
part_formula : (l : Layout) (q first : InputRelocation) (g : Formula) → l.machine ≡ machine.AArch64 → (p : HasPart q first) → formula_of l.machine q.number ≡ Some g → TakesAddress g.value
part_formula l q first g on p known = subst (λ (f : Formula). TakesAddress f.value) (sym (same_formula l q.number p.formula g on p.is.known known)) p.is.takes

no_entry : (l : Layout) (s : Item) (q first : InputRelocation) → l.machine ≡ machine.AArch64 → HasPart q first → TakesEntry l s q → ⊥
no_entry l s q first on p e =
    let same : e.formula ≡ p.formula = same_formula l q.number p.formula e.formula on p.is.known e.known in
    elim e.filled [
      | inl left ↦ p.is.part (ap (λ (f : Formula). f.value) (sym same) ∙ left.2.value)
      | inr other ↦ elim other [
        | inl moves ↦ p.is.part (ap (λ (f : Formula). f.value) (sym same) ∙ moves.1)
        | inr size ↦ (let takes : TakesAddress Size = subst TakesAddress size.2 (part_formula l q first e.formula on p e.known) in takes)
      ]
    ]

-- no reference of such a pair names a slot
no_slot_formula : (l : Layout) (q first : InputRelocation) → l.machine ≡ machine.AArch64 → HasPart q first → HasSlotFormula l q → ⊥
no_slot_formula l q first on p h = no_slot h.formula.value (part_formula l q first h.formula on p h.known) h.slot

no_named_slot : (l : Layout) (s : Item) (q : InputRelocation) (start : ℕ) (first : InputRelocation) → l.machine ≡ machine.AArch64 → IsOfSequence l s q start address_pair_words first → NamesSlot l s q → ⊥
no_named_slot l s q start first on t (inl own) = no_slot_formula l q first on (part_of l s q start first t) own
no_named_slot l s q start first on t (inr b) = by (is_run_of b.instruction (subst (λ (k : Machine). Contains (instructions_of k) b.instruction) on b.of.sequence.stands.known) b.of.sequence.several)
  where
    number : (q.number ≡ r_aarch64_adr_prel_pg_hi21) ⊎ (q.number ≡ r_aarch64_add_abs_lo12_nc)
    number = two_numbers q.number (numbered l s q start address_pair_words first t)

    there : has q.number (numbers_in b.instruction) ≡ true
    there = numbered l s q b.start b.instruction b.first b.of

    other : IsOfSequence l s b.other b.start b.instruction b.first
    other = record { rest = b.of.rest; sequence = b.of.sequence; one = b.one }

    by : IsRun b.instruction → ⊥
    by (inl e) = not_of_call q.number number (subst (λ (o : Instruction). has q.number (numbers_in o) ≡ true) e there)
    by (inr (inl e)) = not_of_offset q.number number (subst (λ (o : Instruction). has q.number (numbers_in o) ≡ true) e there)
    by (inr (inr e)) = no_slot_formula l b.other b.first on (part_of l s b.other b.start b.first (subst (λ (o : Instruction). IsOfSequence l s b.other b.start o b.first) e other)) b.slot

-- what goes to a stub goes there with both
both_stubbed : (l : Layout) (s : Item) (r q first : InputRelocation) → l.machine ≡ machine.AArch64 → HasPart r first → HasPart q first → UsesStub l s q → UsesStub l s r
both_stubbed l s r q first on own p g = record {
  symbol = g.symbol;
  named = own.symbol ∙ (sym p.symbol ∙ g.named);
  formula = own.formula;
  known = subst (λ (k : Machine). formula_of k r.number ≡ Some own.formula) (sym on) own.is.known;
  stub = inl (inl own.is.takes, stubbed g.stub);
}
  where
    takes : TakesAddress g.formula.value
    takes = part_formula l q first g.formula on p g.known

    stubbed : UsesStubAddress l s q g.symbol g.formula.value → HasStubAddress l g.symbol
    stubbed (inl x) = x.1
    stubbed (inr x) = absurd (no_stub g.formula.value takes x.0)

pair_aside : (l : Layout) (s : Item) (r q : InputRelocation) (start : ℕ) (first : InputRelocation) → l.machine ≡ machine.AArch64 → IsOfSequence l s r start address_pair_words first → IsOfSequence l s q start address_pair_words first → UsesStubOrThunk l s q → UsesStubOrThunk l s r
pair_aside l s r q start first on t u (inl g) = inl (both_stubbed l s r q first on (part_of l s r start first t) (part_of l s q start first u) g)
pair_aside l s r q start first on t u (inr (inl g)) = absurd (not_conditional q.number (part_of l s q start first u).is.straight g.conditional)
pair_aside l s r q start first on t u (inr (inr g)) = absurd (no_branch q.number (numbered l s q start address_pair_words first u) g.branch)

pair_along : (l : Layout) (s : Item) (r q : InputRelocation) (start : ℕ) (first : InputRelocation) → l.machine ≡ machine.AArch64 → IsOfSequence l s r start address_pair_words first → IsOfSequence l s q start address_pair_words first → TakesEntry l s q ⊎ (NamesSlot l s q ⊎ UsesStubOrThunk l s q) → UsesStubOrThunk l s r
pair_along l s r q start first on t u (inl entry) = absurd (no_entry l s q first on (part_of l s q start first u) entry)
pair_along l s r q start first on t u (inr (inl slot)) = absurd (no_named_slot l s q start first on u slot)
pair_along l s r q start first on t u (inr (inr aside)) = pair_aside l s r q start first on t u aside

-- ---- together

pub left_along : (l : Layout) (s : Item) (r q : InputRelocation) (start : ℕ) (o : Instruction) (first : InputRelocation) → l.machine ≡ machine.AArch64 → (t : IsOfSequence l s r start o first) → Contains (first ∷ t.rest) q → IsOmitted l s q → IsOmitted l s r
left_along l s r q start o first on t c left = by (is_run_of o (subst (λ (k : Machine). Contains (instructions_of k) o) on t.sequence.stands.known) t.sequence.several)
  where
    other : IsOfSequence l s q start o first
    other = record { rest = t.rest; sequence = t.sequence; one = c }

    by : IsRun o → IsOmitted l s r
    by (inl e) = (left.0, inr (inl (inr (beside_slot l s r start o first on t (inl e)))))
    by (inr (inl e)) = (left.0, inr (inl (inr (beside_slot l s r start o first on t (inr e)))))
    by (inr (inr e)) =
        let P : Instruction → Type 0 = λ p. IsOfSequence l s r start p first in
        let Q : Instruction → Type 0 = λ p. IsOfSequence l s q start p first in
        (left.0, inr (inr (pair_along l s r q start first on (subst P e t) (subst Q e other) left.1)))
