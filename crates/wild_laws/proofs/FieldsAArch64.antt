-- On AArch64: the field of a number in data reads as its formula, and bytes in no field are the input's.
use Rattle.wild_laws.proofs.Common.{◌≡◌, ℕ, zero, suc, ◌+◌, ◌*◌, ◌<◌, ◌≤◌, ◌⊎◌, inl, inr, Bool, true, false, List, [], ◌∷◌, length, get_or, refl, sym, ap, ◌∙◌, arith, subst, ◌&&◌, ◌||◌, ◌==◌, Option, Some, None, Contains, list_all, and_parts, All-contains, listed_passes, Machine, InputRelocation, Layout, Item, is_listed, SymbolAddress, Distance, Formula, formula, Plain, Memory, World, branch_types, formula_of, InNoField, Instruction, size_of, instructions_of, IsInstruction, IsTemplate, ReferenceHolds, ItemHolds, HasFirstTypes, HasFormula}
use Rattle.std.proofs.Common.{eqb-true}
use Rattle.std.proofs.lemmas.Bool.{or_cases}
use Rattle.wild_words.proofs.Basics.{listed_at}
use Rattle.wild_records.specs.Abi.Relocation.{r_aarch64_abs64, r_aarch64_abs32, r_aarch64_abs16, r_aarch64_prel64, r_aarch64_prel32, r_aarch64_prel16, r_aarch64_tlsdesc_call}
use Rattle.wild_types.specs.declared.kind.Machine.TheVariants as machine
use Rattle.wild_reloc.specs.Formula.{Full, Either}
use Rattle.wild_reloc.specs.FormulaAArch64.{aarch64_formula}
use Rattle.wild_meaning.specs.Field.{form_width, IsInputByte}
use Rattle.wild_meaning.specs.Sequence.{Partner}
use Rattle.wild_meaning.specs.Partners.{HasPartners}
use Rattle.wild_meaning.proofs.AmongLemmas.{Among}
use Rattle.wild_meaning.proofs.OneReference.{fills}
use Rattle.wild_meaning.proofs.InstructionsAArch64.{Nothing, takes, single_is, sequence_is}
use Rattle.wild_laws.specs.FirstTypes.{addresses_aarch64}
use Rattle.wild_laws.proofs.FirstNames.{IsKnown, plain_has}

-- ---- the types of addresses and distances

-- no instruction has the type, whose formula is an address or a distance
record IsNumber (n : ℕ) : Type 0 where
  unfilled : Among (fills n) Nothing (instructions_of machine.AArch64)
  untaken : Among (takes n) Nothing (instructions_of machine.AArch64)
  plain : is_listed n branch_types ≡ false
  writes : (f : Formula) → aarch64_formula n ≡ Some f → IsKnown f.value

writes_by : (n : ℕ) (v : Formula) → aarch64_formula n ≡ Some v → IsKnown v.value → (f : Formula) → aarch64_formula n ≡ Some f → IsKnown f.value
writes_by n v is k f h = (let both : Some v ≡ Some f = sym is ∙ h in let same : v ≡ f = cc in subst (λ (g : Formula). IsKnown g.value) same k)

abs64 : IsNumber r_aarch64_abs64
unfolding aarch64_formula
abs64 = record { unfilled = tt; untaken = tt; plain = refl; writes = writes_by r_aarch64_abs64 (formula SymbolAddress Full) refl (inl refl) }

abs32 : IsNumber r_aarch64_abs32
unfolding aarch64_formula
abs32 = record { unfilled = tt; untaken = tt; plain = refl; writes = writes_by r_aarch64_abs32 (formula SymbolAddress (Plain 32 Either)) refl (inl refl) }

abs16 : IsNumber r_aarch64_abs16
unfolding aarch64_formula
abs16 = record { unfilled = tt; untaken = tt; plain = refl; writes = writes_by r_aarch64_abs16 (formula SymbolAddress (Plain 16 Either)) refl (inl refl) }

prel64 : IsNumber r_aarch64_prel64
unfolding aarch64_formula
prel64 = record { unfilled = tt; untaken = tt; plain = refl; writes = writes_by r_aarch64_prel64 (formula Distance Full) refl (inr refl) }

prel32 : IsNumber r_aarch64_prel32
unfolding aarch64_formula
prel32 = record { unfilled = tt; untaken = tt; plain = refl; writes = writes_by r_aarch64_prel32 (formula Distance (Plain 32 Either)) refl (inr refl) }

prel16 : IsNumber r_aarch64_prel16
unfolding aarch64_formula
prel16 = record { unfilled = tt; untaken = tt; plain = refl; writes = writes_by r_aarch64_prel16 (formula Distance (Plain 16 Either)) refl (inr refl) }

a_number : (n : ℕ) → Contains addresses_aarch64 n → IsNumber n
a_number n c = at n c.0 c.1 c.2
  where
    at : (n k : ℕ) → k < length addresses_aarch64 → get_or addresses_aarch64 k n ≡ n → IsNumber n
    at n zero l e = subst IsNumber e abs64
    at n (suc zero) l e = subst IsNumber e abs32
    at n (suc (suc zero)) l e = subst IsNumber e abs16
    at n (suc (suc (suc zero))) l e = subst IsNumber e prel64
    at n (suc (suc (suc (suc zero)))) l e = subst IsNumber e prel32
    at n (suc (suc (suc (suc (suc zero))))) l e = subst IsNumber e prel16
    at n (suc (suc (suc (suc (suc (suc k)))))) l e = absurd (omega (arith, l))

no_template : (l : Layout) (s : Item) (r : InputRelocation) (start : ℕ) (o : Instruction) (first : InputRelocation) → l.machine ≡ machine.AArch64 → IsNumber r.number → IsTemplate l s r start o first → ⊥
no_template l s r start o first x n (inl t) = single_is Nothing l s r start o x n.unfilled t.0.single t.0.stands
no_template l s r start o first x n (inr q) = sequence_is Nothing l s r start o first x n.untaken q

pub number_has : (l : Layout) (w : World) (m : Memory) (s : Item) (r : InputRelocation) → l.machine ≡ machine.AArch64 → Contains addresses_aarch64 r.number → ReferenceHolds l w m s r → HasFormula l w m s r
number_has l w m s r x type (inl p) = let n = a_number r.number type in plain_has l w m s r p (n.writes p.formula (subst (λ (k : Machine). formula_of k r.number ≡ Some p.formula) x p.known)) (λ on. n.plain)
number_has l w m s r x type (inr q) = absurd (no_template l s r q.start q.instruction q.first x (a_number r.number type) q.template)

-- ---- fields of words

abbrev has_four : Option Formula → Bool
has_four None = false
has_four (Some f) = form_width f.form == 4

-- the field is a word, but for the call through a descriptor, which has none
abbrev is_word : ℕ → Bool
is_word n = n == r_aarch64_tlsdesc_call || has_four (aarch64_formula n)

-- the further fields are words, one behind the other
abbrev are_words : ℕ → List Partner → Bool
are_words at [] = true
are_words at (p ∷ ps) = p.field == at && (list_all is_word p.numbers && are_words (at + 4) ps)

-- and so are all of an instruction
abbrev is_of_words : Instruction → Bool
is_of_words o = o.field == 0 && (list_all is_word o.numbers && (are_words 4 o.partners && size_of o == 4 + 4 * length o.partners))

all_of_words : list_all is_of_words (instructions_of machine.AArch64) ≡ true
unfolding aarch64_formula
all_of_words = refl

record HasFour (n : ℕ) : Type 0 where
  formula : Formula
  known : aarch64_formula n ≡ Some formula
  wide : form_width formula.form ≡ 4

four_by : (n : ℕ) (o : Option Formula) → aarch64_formula n ≡ o → has_four o ≡ true → HasFour n
four_by n None e h = cc
four_by n (Some f) e h = record { formula = f; known = e; wide = eqb-true (form_width f.form) 4 h }

-- a byte in no field is not in that word
word_beside : (l : Layout) (s : Item) (r : InputRelocation) (k : ℕ) → l.machine ≡ machine.AArch64 → HasFirstTypes machine.AArch64 s → InNoField l s k → Contains s.relocations r → is_word r.number ≡ true → (k < r.offset) ⊎ (r.offset + 4 ≤ k)
word_beside l s r k x types out listed word =
    elim (or_cases (r.number == r_aarch64_tlsdesc_call) (has_four (aarch64_formula r.number)) word) [
      | inl e ↦ absurd (types.each r listed (eqb-true r.number r_aarch64_tlsdesc_call e))
      | inr e ↦ (let f = four_by r.number (aarch64_formula r.number) refl e in
          subst (λ (n : ℕ). (k < r.offset) ⊎ (r.offset + n ≤ k)) f.wide (All-contains (λ (q : InputRelocation). (g : Formula) → formula_of l.machine q.number ≡ Some g → (k < q.offset) ⊎ (q.offset + form_width g.form ≤ k)) s.relocations r out listed f.formula (subst (λ (m : Machine). formula_of m r.number ≡ Some f.formula) (sym x) f.known)))
    ]

abbrev IsOutsideWords : ℕ → ℕ → ℕ → Type 0
IsOutsideWords k start n = (k < start) ⊎ (start + n ≤ k)

-- behind those before it is not in this word either
next_word : (k start at offset : ℕ) → offset ≡ start + at → start + at ≤ k → (k < offset) ⊎ (offset + 4 ≤ k) → IsOutsideWords k start (at + 4)
next_word k start at offset e past (inl h) = absurd (omega (arith, e, past, h))
next_word k start at offset e past (inr h) = inr (omega (arith, e, h))

further_words : (l : Layout) (s : Item) (first : InputRelocation) (k start index at : ℕ) (ps : List Partner) (rs : List InputRelocation) → l.machine ≡ machine.AArch64 → HasFirstTypes machine.AArch64 s → InNoField l s k → HasPartners l s first start index ps rs → are_words at ps ≡ true → IsOutsideWords k start at → IsOutsideWords k start (at + 4 * length ps)
further_words l s first k start index at [] [] x types out has words h = let e : at ≡ at + 4 * 0 = omega arith in subst (λ (n : ℕ). IsOutsideWords k start n) e h
further_words l s first k start index at [] (r ∷ rs) x types out has words h = absurd has
further_words l s first k start index at (p ∷ ps) [] x types out has words h = absurd has
further_words l s first k start index at (p ∷ ps) (r ∷ rs) x types out has words (inl low) = inl low
further_words l s first k start index at (p ∷ ps) (r ∷ rs) x types out has words (inr past) =
    let parts = and_parts (p.field == at) (list_all is_word p.numbers && are_words (at + 4) ps) words in
    let more = and_parts (list_all is_word p.numbers) (are_words (at + 4) ps) parts.1 in
    let field : r.offset ≡ start + at = has.0.field ∙ ap (λ (n : ℕ). start + n) (eqb-true p.field at parts.0) in
    let outside = word_beside l s r k x types out (listed_at s.relocations index r has.0.listed) (listed_passes is_word p.numbers r.number more.0 has.0.number) in
    let e : at + 4 + 4 * length ps ≡ at + 4 * length (p ∷ ps) = omega arith in
    subst (λ (n : ℕ). IsOutsideWords k start n) e (further_words l s first k start (index + 1) (at + 4) ps rs x types out has.1 more.1 (next_word k start at r.offset field past outside))

-- what is known of an instruction's words
record HasWords (o : Instruction) : Type 0 where
  field : o.field ≡ 0
  numbers : list_all is_word o.numbers ≡ true
  further : are_words 4 o.partners ≡ true
  size : size_of o ≡ 4 + 4 * length o.partners

has_words : (l : Layout) (o : Instruction) → l.machine ≡ machine.AArch64 → Contains (instructions_of l.machine) o → HasWords o
has_words l o x known =
    let all = listed_passes is_of_words (instructions_of machine.AArch64) o all_of_words (subst (λ (m : Machine). Contains (instructions_of m) o) x known) in
    let first = and_parts (o.field == 0) (list_all is_word o.numbers && (are_words 4 o.partners && size_of o == 4 + 4 * length o.partners)) all in
    let second = and_parts (list_all is_word o.numbers) (are_words 4 o.partners && size_of o == 4 + 4 * length o.partners) first.1 in
    let third = and_parts (are_words 4 o.partners) (size_of o == 4 + 4 * length o.partners) second.1 in
    record { field = eqb-true o.field 0 first.0; numbers = second.0; further = third.0; size = eqb-true (size_of o) (4 + 4 * length o.partners) third.1 }

-- a byte in no field is not in the first word
first_word : (l : Layout) (s : Item) (r : InputRelocation) (k start : ℕ) (o : Instruction) → l.machine ≡ machine.AArch64 → HasFirstTypes machine.AArch64 s → InNoField l s k → Contains s.relocations r → HasWords o → IsInstruction l s r start o → IsOutsideWords k start 4
first_word l s r k start o x types out listed h t =
    let field : r.offset ≡ start + 0 = t.field ∙ ap (λ (n : ℕ). start + n) h.field in
    by_side k start r.offset field (word_beside l s r k x types out listed (listed_passes is_word o.numbers r.number h.numbers t.number))
  where
    by_side : (k start offset : ℕ) → offset ≡ start + 0 → (k < offset) ⊎ (offset + 4 ≤ k) → IsOutsideWords k start 4
    by_side k start offset e (inl a) = inl (omega (arith, e, a))
    by_side k start offset e (inr a) = inr (omega (arith, e, a))

-- so it is in no instruction of a reference
template_beside : (l : Layout) (s : Item) (r : InputRelocation) (k start : ℕ) (o : Instruction) (first : InputRelocation) → l.machine ≡ machine.AArch64 → HasFirstTypes machine.AArch64 s → InNoField l s k → Contains s.relocations r → IsTemplate l s r start o first → (k < start) ⊎ (start + size_of o ≤ k)
template_beside l s r k start o first x types out listed (inl t) =
    let h = has_words l o x t.0.stands.known in
    let four : 4 ≡ size_of o = sym (h.size ∙ ap (λ (ps : List Partner). 4 + 4 * length ps) t.0.single) in
    subst (λ (n : ℕ). IsOutsideWords k start n) four (first_word l s r k start o x types out listed h t.0.stands)
template_beside l s r k start o first x types out listed (inr q) =
    let h = has_words l o x q.sequence.stands.known in
    let front = first_word l s first k start o x types out (listed_at s.relocations q.sequence.index first q.sequence.listed) h q.sequence.stands in
    subst (λ (n : ℕ). IsOutsideWords k start n) (sym h.size) (further_words l s first k start (q.sequence.index + 1) 4 o.partners q.rest x types out q.sequence.has h.further front)

pub word_byte : (l : Layout) (w : World) (m : Memory) (s : Item) (k : ℕ) → l.machine ≡ machine.AArch64 → HasFirstTypes machine.AArch64 s → ItemHolds l w m s → k < length s.bytes → InNoField l s k → IsInputByte w m s k
word_byte l w m s k x types holds lt out = holds.others k lt (record { fields = out; templates = λ r start o first ref t. template_beside l s r k start o first x types out ref.listed t })
