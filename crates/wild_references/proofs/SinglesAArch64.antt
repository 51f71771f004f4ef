-- An instruction of one word of AArch64 whose reference keeps it does what it demands.
use Rattle.wild_references.proofs.Common.{◌≡◌, ℕ, zero, suc, ◌+◌, ◌-◌, ◌%◌, ◌^◌, ◌<◌, ◌≤◌, ◌⊎◌, inl, inr, true, List, [], ◌∷◌, length, refl, sym, ap, ◌∙◌, subst, arith, ◌++◌, map, slice_range, slice_index_or, Some, Contains, w64, cast_unsigned, number, length-range, r_aarch64_jump26, r_aarch64_call26, Machine, InputRelocation, Layout, Item, Formula, formula, Bits, Imm26Field, WithinPower, StubDistance, others, Keeps, aarch64_formula, words_of, World, Memory, Holds, place_at, formula_of, FieldReads, Gives, Sort, Target, FieldBits, Instruction, IsOwnByte, instructions_of, IsInstruction, field_origin, reads, effect_of, demand_of, DoesDemanded, FieldHolds}
use Rattle.wild_types.specs.declared.kind.Machine.TheVariants as machine
use Rattle.wild_meaning.specs.WordsAArch64.{is_filled, filled_numbers}
use Rattle.wild_meaning.specs.Sequence.{of_word, runs_of_words}
use Rattle.wild_meaning.specs.Template.{bits_of}
use Rattle.wild_references.proofs.RightOperands.{low_place}
use Rattle.wild_references.proofs.FilledAArch64.{word_does, width_four, branch_does}
use Rattle.wild_meaning.proofs.StringLemmas.{branch_referent, goes_to_none}

-- ---- the instructions of one word

-- one that has the bits of a field, or a branch
pub record IsWord (o : Instruction) : Type 0 where
  pub number : ℕ
  pub is : (o ≡ of_word FieldBits number) ⊎ (((number ≡ r_aarch64_jump26) ⊎ (number ≡ r_aarch64_call26)) × (o ≡ of_word Target number))

in_runs : (o : Instruction) (k : ℕ) → k < length runs_of_words → slice_index_or runs_of_words k o ≡ o → o.partners ≡ [] → IsWord o
in_runs o zero lt e none = (let some = ap (λ (q : Instruction). q.partners) e ∙ none in cc)
in_runs o (suc zero) lt e none = (let some = ap (λ (q : Instruction). q.partners) e ∙ none in cc)
in_runs o (suc (suc zero)) lt e none = (let some = ap (λ (q : Instruction). q.partners) e ∙ none in cc)
in_runs o (suc (suc (suc k))) lt e none = absurd (omega (arith, lt))

in_bits : (ns : List ℕ) (o : Instruction) (k : ℕ) → k < length (map (of_word FieldBits) ns ++ runs_of_words) → slice_index_or (map (of_word FieldBits) ns ++ runs_of_words) k o ≡ o → o.partners ≡ [] → IsWord o
in_bits [] o k lt e none = in_runs o k lt e none
in_bits (n ∷ ns) o zero lt e none = record { number = n; is = inl (sym e) }
in_bits (n ∷ ns) o (suc k) lt e none = in_bits ns o k (omega (arith, lt)) e none

pub is_word : (o : Instruction) → Contains (instructions_of machine.AArch64) o → o.partners ≡ [] → IsWord o
is_word o c none = by c.0 c.1 c.2
  where
    by : (k : ℕ) → k < length (instructions_of machine.AArch64) → slice_index_or (instructions_of machine.AArch64) k o ≡ o → IsWord o
    by zero lt e = record { number = r_aarch64_jump26; is = inr (inl refl, sym e) }
    by (suc zero) lt e = record { number = r_aarch64_call26; is = inr (inr refl, sym e) }
    by (suc (suc k)) lt e = in_bits filled_numbers o k (omega (arith, lt)) e none

-- its field is all of it
pub no_own_byte_of_word : (o : Instruction) → IsWord o → (k : ℕ) → IsOwnByte o k → ⊥
no_own_byte_of_word o word k own = by word.is
  where
    none : (sort : Sort) → IsOwnByte (of_word sort word.number) k → ⊥
    none sort h = by_field h.inside h.beside
      where
        by_field : k < 4 → (k < 0) ⊎ (4 ≤ k) → ⊥
        by_field low (inl a) = omega (arith, a)
        by_field low (inr a) = omega (arith, low, a)

    by : (o ≡ of_word FieldBits word.number) ⊎ (((word.number ≡ r_aarch64_jump26) ⊎ (word.number ≡ r_aarch64_call26)) × (o ≡ of_word Target word.number)) → ⊥
    by (inl e) = none FieldBits (subst (λ (x : Instruction). IsOwnByte x k) e own)
    by (inr e) = none Target (subst (λ (x : Instruction). IsOwnByte x k) e.1 own)

the_number : (n m : ℕ) → Contains (n ∷ []) m → m ≡ n
the_number n m c = by c.0 c.1 c.2
  where
    by : (k : ℕ) → k < 1 → slice_index_or (n ∷ []) k m ≡ m → m ≡ n
    by zero lt e = sym e
    by (suc k) lt e = absurd (omega (arith, lt))

-- ---- the bits of a field

bits_do : (l : Layout) (w : World) (m : Memory) (s : Item) (r : InputRelocation) (start n : ℕ) → l.machine ≡ machine.AArch64 → IsInstruction l s r start (of_word FieldBits n) → FieldHolds l w m s r → DoesDemanded (reads w m) l w m s r start (of_word FieldBits n)
bits_do l w m s r start n on t h =
    let same : r.number ≡ n = the_number n r.number t.number in
    let at : r.offset ≡ start = omega (arith, t.field) in
    let old = slice_range s.bytes start (start + 4) in
    let here : slice_range s.bytes r.offset (r.offset + 4) ≡ old = ap (λ (k : ℕ). slice_range s.bytes k (k + 4)) at in
    let long : length old ≡ 4 = length-range s.bytes start 4 t.inside in
    let filled : is_filled r.number (words_of old) ≡ true = subst (λ (k : ℕ). is_filled k (words_of old) ≡ true) (sym same) t.words in
    let known : aarch64_formula r.number ≡ Some h.formula = subst (λ (k : Machine). formula_of k r.number ≡ Some h.formula) on h.known in
    let four = width_four r.number h.formula old known filled long in
    let keeps : Keeps h.formula.form old h.field.bytes = subst (λ (bs : List ℕ). Keeps h.formula.form bs h.field.bytes) here (subst (λ (k : ℕ). Keeps h.formula.form (slice_range s.bytes r.offset (r.offset + k)) h.field.bytes) four h.field.keeps) in
    let d = word_does r.number (place_at w s start) h.value h.formula old h.field.bytes (reads w m) known filled long (h.field.wide ∙ four) h.field.reads keeps (λ k. refl) in
    record {
      value = bits_of h.formula.form h.value;
      demands = record { formula = h.formula; known = h.known; value = h.value; gives = h.gives; fits = d.can; bits = refl };
      code = record {
        effect = d.effect;
        demanded = d.demanded;
        bytes = h.field.bytes;
        whole = h.field.wide ∙ four;
        held = subst (λ (k : ℕ). Holds m (place_at w s k) h.field.bytes) at h.field.held;
        does = subst (λ (k : Machine). effect_of k (reads w m) (place_at w s start) h.field.bytes ≡ Some d.effect) (sym on) d.does;
      };
    }

-- ---- branches

branch_formula : (n : ℕ) → (n ≡ r_aarch64_jump26) ⊎ (n ≡ r_aarch64_call26) → aarch64_formula n ≡ Some (formula StubDistance (Bits Imm26Field 27 2 (WithinPower 28) 4))
unfolding aarch64_formula
branch_formula n (inl e) = rw e refl
branch_formula n (inr e) = rw e refl

goes_there : (p g a x : ℕ) → p < 2 ^ 64 → x ≡ (g + a + (2 ^ 64 - p)) % 2 ^ 64 → (p + x) % 2 ^ 64 ≡ (g + a + 0) % 2 ^ 64
goes_there p g a x low is = omega (arith, low, is)

branch_do : (l : Layout) (w : World) (m : Memory) (s : Item) (r : InputRelocation) (start n : ℕ) → l.machine ≡ machine.AArch64 → (n ≡ r_aarch64_jump26) ⊎ (n ≡ r_aarch64_call26) → IsInstruction l s r start (of_word Target n) → FieldHolds l w m s r → DoesDemanded (reads w m) l w m s r start (of_word Target n)
branch_do l w m s r start n on one t h =
    let same : r.number ≡ n = the_number n r.number t.number in
    let at : r.offset ≡ start = omega (arith, t.field) in
    let old = slice_range s.bytes start (start + 4) in
    let here : slice_range s.bytes r.offset (r.offset + 4) ≡ old = ap (λ (k : ℕ). slice_range s.bytes k (k + 4)) at in
    let long : length old ≡ 4 = length-range s.bytes start 4 t.inside in
    let known : aarch64_formula r.number ≡ Some h.formula = subst (λ (k : Machine). formula_of k r.number ≡ Some h.formula) on h.known in
    let table : aarch64_formula r.number ≡ Some (formula StubDistance (Bits Imm26Field 27 2 (WithinPower 28) 4)) = ap aarch64_formula same ∙ branch_formula n one in
    let both : Some h.formula ≡ Some (formula StubDistance (Bits Imm26Field 27 2 (WithinPower 28) 4)) = sym known ∙ table in
    let is : h.formula ≡ formula StubDistance (Bits Imm26Field 27 2 (WithinPower 28) 4) = cc in
    let gives = subst (λ (f : Formula). Gives f.value l w m s r h.value) is h.gives in
    let field = subst (λ (f : Formula). FieldReads w m s r f.form h.value) is h.field in
    let keeps = subst (λ (bs : List ℕ). others Imm26Field (number bs) ≡ others Imm26Field (number field.bytes)) here field.keeps in
    let held : Holds m (place_at w s start) field.bytes = subst (λ (k : ℕ). Holds m (place_at w s k) field.bytes) at field.held in
    let value = (gives.0 + cast_unsigned w64 r.addend + field_origin l.machine) % 2 ^ 64 in
    let low = low_place m (place_at w s start) field.bytes field.wide held in
    let place : place_at w s r.offset ≡ place_at w s start = ap (place_at w s) at in
    let value_is = gives.2 ∙ ap (λ (p : ℕ). (gives.0 + cast_unsigned w64 r.addend + (2 ^ 64 - p)) % 2 ^ 64) place in
    let goes : (place_at w s start + h.value) % 2 ^ 64 ≡ value = goes_there (place_at w s start) gives.0 (cast_unsigned w64 r.addend) h.value low value_is ∙ ap (λ (k : Machine). (gives.0 + cast_unsigned w64 r.addend + field_origin k) % 2 ^ 64) (sym on) in
    let d = branch_does n (place_at w s start) value h.value old field.bytes (reads w m) one t.words long field.wide field.reads keeps (λ k. refl) goes in
    record {
      value = value;
      demands = record { goal = gives.0; stands = branch_referent l w m s r gives.0 (goes_to_none l r (formula StubDistance (Bits Imm26Field 27 2 (WithinPower 28) 4)) (h.known ∙ ap (λ (f : Formula). Some f) is) (λ t. t.0)) gives.1; is = refl };
      code = record {
        effect = d.effect;
        demanded = subst (λ (k : Machine). demand_of k value (place_at w s start) old ≡ Some d.effect) (sym on) d.demanded;
        bytes = field.bytes;
        whole = field.wide;
        held = held;
        does = subst (λ (k : Machine). effect_of k (reads w m) (place_at w s start) field.bytes ≡ Some d.effect) (sym on) d.does;
      };
    }

-- ---- any of them

pub lone_word_does : (l : Layout) (w : World) (m : Memory) (s : Item) (r : InputRelocation) (start : ℕ) (o : Instruction) → l.machine ≡ machine.AArch64 → IsInstruction l s r start o → o.partners ≡ [] → FieldHolds l w m s r → DoesDemanded (reads w m) l w m s r start o
lone_word_does l w m s r start o on t single h = by word.is
  where
    word : IsWord o
    word = is_word o (subst (λ (k : Machine). Contains (instructions_of k) o) on t.known) single

    by : (o ≡ of_word FieldBits word.number) ⊎ (((word.number ≡ r_aarch64_jump26) ⊎ (word.number ≡ r_aarch64_call26)) × (o ≡ of_word Target word.number)) → DoesDemanded (reads w m) l w m s r start o
    by (inl e) = subst (λ (q : Instruction). DoesDemanded (reads w m) l w m s r start q) (sym e) (bits_do l w m s r start word.number on (subst (λ (q : Instruction). IsInstruction l s r start q) e t) h)
    by (inr e) = subst (λ (q : Instruction). DoesDemanded (reads w m) l w m s r start q) (sym e.1) (branch_do l w m s r start word.number on e.0 (subst (λ (q : Instruction). IsInstruction l s r start q) e.1 t) h)
