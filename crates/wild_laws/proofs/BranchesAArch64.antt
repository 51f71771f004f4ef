-- On AArch64 a `bl` or a `b` that a reference fills goes to what stands for the symbol, or to a thunk that goes on there.
use Rattle.wild_laws.proofs.Common.{◌≡◌, ℕ, ◌+◌, ◌%◌, ◌^◌, ◌<◌, ◌≤◌, ◌⊎◌, inl, inr, true, List, [], ◌∷◌, length, slice_range, refl, sym, ap, ◌∙◌, arith, subst, Option, Some, None, Contains, length-range, Machine, InputRelocation, Layout, Item, is_listed, Formula, formula, StubDistance, Memory, World, Deed, Call, Jump, matches_cells, branch_types, place_at, formula_of, Instruction, instructions_of, demand_of, reads, reads_without_calls, IsInstruction, DoesDemanded, ReferenceHolds, bit_code}
use Rattle.std.specs.Int.{w64, cast_unsigned}
use Rattle.wild_words.specs.Words.{number}
use Rattle.wild_records.specs.Abi.Relocation.{r_aarch64_jump26, r_aarch64_call26}
use Rattle.wild_types.specs.declared.kind.Machine.TheVariants as machine
use Rattle.wild_reloc.specs.Formula.{Bits, Imm26Field, WithinPower}
use Rattle.wild_reloc.specs.FormulaAArch64.{aarch64_formula}
use Rattle.wild_aarch64.specs.Immediate.{immediate, Imm26}
use Rattle.wild_aarch64.specs.Slice.{bits}
use Rattle.wild_aarch64.specs.Effect.{words_of}
use Rattle.wild_aarch64.proofs.ReadLemmas.{reads_b, reads_bl}
use Rattle.wild_loader.specs.InstructionAArch64.{demand_aarch64}
use Rattle.wild_meaning.specs.WordsAArch64.{is_filled}
use Rattle.wild_meaning.specs.ReferentAArch64.{IsUndefinedWeak, own_place}
use Rattle.wild_meaning.specs.Formula.{IsTarget, IsReferent, IsReferentOnAArch64}
use Rattle.wild_meaning.specs.Sequence.{Target, of_word, bytes_of}
use Rattle.wild_meaning.specs.Template.{field_origin, IsBranchReferent}
use Rattle.wild_meaning.proofs.StringLemmas.{referent_by, branch_stands, goes_to_none}
use Rattle.wild_meaning.proofs.InstructionsAArch64.{IsAlone, alone_template, alone_only}
use Rattle.wild_laws.specs.FirstTypes.{IsBranchWord}
use Rattle.wild_meaning.proofs.SymbolLemmas.{goes_within}
use Rattle.wild_laws.specs.FirstPath.{BranchReaches, branch_size, IsBranchedTo}
use Rattle.wild_laws.proofs.Readers.{does_so, once_more}

-- ---- words

-- four bytes are a word
one_word : (bs : List ℕ) → length bs ≡ 4 → words_of bs ≡ number bs ∷ []
one_word [] n = absurd (omega (arith, n))
one_word (a ∷ []) n = absurd (omega (arith, n))
one_word (a ∷ b ∷ []) n = absurd (omega (arith, n))
one_word (a ∷ b ∷ c ∷ []) n = absurd (omega (arith, n))
one_word (a ∷ b ∷ c ∷ d ∷ []) n = refl
one_word (a ∷ b ∷ c ∷ d ∷ e ∷ bs) n = absurd (omega (arith, n))

any_four : (bs : List ℕ) → length bs ≡ 4 → matches_cells (bytes_of 1).cells bs ≡ true
any_four [] n = absurd (omega (arith, n))
any_four (a ∷ []) n = absurd (omega (arith, n))
any_four (a ∷ b ∷ []) n = absurd (omega (arith, n))
any_four (a ∷ b ∷ c ∷ []) n = absurd (omega (arith, n))
any_four (a ∷ b ∷ c ∷ d ∷ rest) n = refl

-- ---- the two instructions

abbrev stub_distance : Formula
stub_distance = formula StubDistance (Bits Imm26Field 27 2 (WithinPower 28) 4)

-- what is known of one: no other instruction has its type, its bits tell it, and it goes where its field says
record IsBranch (n opcode : ℕ) (deed : Deed) : Type 0 where
  alone : IsAlone n (of_word Target n)
  known : Contains (instructions_of machine.AArch64) (of_word Target n)
  formula : aarch64_formula n ≡ Some stub_distance
  listed : is_listed n branch_types ≡ true
  filled : (w : ℕ) → bits 26 6 w ≡ opcode → is_filled n (w ∷ []) ≡ true
  does : (a v w : ℕ) (bs : List ℕ) → bits 26 6 w ≡ opcode → words_of bs ≡ w ∷ [] → demand_aarch64 v a bs ≡ Some (record { deed = deed; width = 64; value = v % 2 ^ 64 })

call_class : (w : ℕ) → bits 26 6 w ≡ 37 → bits 26 3 w ≡ 5
call_class w h = omega (arith, h)

jump_class : (w : ℕ) → bits 26 6 w ≡ 5 → bits 26 3 w ≡ 5
jump_class w h = omega (arith, h)

call_filled : (w : ℕ) → bits 26 6 w ≡ 37 → is_filled r_aarch64_call26 (w ∷ []) ≡ true
call_filled w b = let a = call_class w b in let r = reads_bl w (immediate Imm26 w) a b refl in rw (r, a, b) refl

jump_filled : (w : ℕ) → bits 26 6 w ≡ 5 → is_filled r_aarch64_jump26 (w ∷ []) ≡ true
jump_filled w b = let a = jump_class w b in let r = reads_b w (immediate Imm26 w) a b refl in rw (r, a, b) refl

call_does : (a v w : ℕ) (bs : List ℕ) → bits 26 6 w ≡ 37 → words_of bs ≡ w ∷ [] → demand_aarch64 v a bs ≡ Some (record { deed = Call; width = 64; value = v % 2 ^ 64 })
call_does a v w bs b one = let r = reads_bl w (immediate Imm26 w) (call_class w b) b refl in rw (one, r) refl

jump_does : (a v w : ℕ) (bs : List ℕ) → bits 26 6 w ≡ 5 → words_of bs ≡ w ∷ [] → demand_aarch64 v a bs ≡ Some (record { deed = Jump; width = 64; value = v % 2 ^ 64 })
jump_does a v w bs b one = let r = reads_b w (immediate Imm26 w) (jump_class w b) b refl in rw (one, r) refl

a_call : IsBranch r_aarch64_call26 37 Call
unfolding aarch64_formula
a_call = record { alone = record { single = refl; at = refl; one = (refl, tt); none = tt }; known = (1, omega arith, refl); formula = refl; listed = refl; filled = call_filled; does = call_does }

a_jump : IsBranch r_aarch64_jump26 5 Jump
unfolding aarch64_formula
a_jump = record { alone = record { single = refl; at = refl; one = (refl, tt); none = tt }; known = (0, omega arith, refl); formula = refl; listed = refl; filled = jump_filled; does = jump_does }

-- ---- the input's instruction

no_byte : (k : ℕ) → k < 4 → (k < 0) ⊎ (4 ≤ k) → ⊥
no_byte k lt (inl h) = omega (arith, h)
no_byte k lt (inr h) = omega (arith, lt, h)

old_length : (s : Item) (r : InputRelocation) (opcode n : ℕ) → IsBranchWord s r r.offset opcode n → length (slice_range s.bytes r.offset (r.offset + 4)) ≡ 4
old_length s r opcode n h = length-range s.bytes r.offset 4 h.inside

old_word : (s : Item) (r : InputRelocation) (opcode n : ℕ) → IsBranchWord s r r.offset opcode n → words_of (slice_range s.bytes r.offset (r.offset + 4)) ≡ number (slice_range s.bytes r.offset (r.offset + 4)) ∷ []
old_word s r opcode n h = one_word (slice_range s.bytes r.offset (r.offset + 4)) (old_length s r opcode n h)

word_instruction : (l : Layout) (s : Item) (r : InputRelocation) (n opcode : ℕ) (deed : Deed) → IsBranch n opcode deed → l.machine ≡ machine.AArch64 → IsBranchWord s r r.offset opcode n → IsInstruction l s r r.offset (of_word Target n)
word_instruction l s r n opcode deed b x h = record {
  code = bit_code s.flags h.code;
  known = subst (λ (k : Machine). Contains (instructions_of k) (of_word Target n)) (sym x) b.known;
  number = (0, omega arith, sym h.number);
  field = omega arith;
  inside = h.inside;
  stands = any_four (slice_range s.bytes r.offset (r.offset + 4)) (old_length s r opcode n h);
  words = subst (λ (ws : List ℕ). is_filled n ws ≡ true) (sym (old_word s r opcode n h)) (b.filled (number (slice_range s.bytes r.offset (r.offset + 4))) h.begins);
  counts = tt;
  alone = λ k own. absurd (no_byte k own.inside own.beside);
}

alone_here : (r : InputRelocation) (n opcode : ℕ) (deed : Deed) → IsBranch n opcode deed → r.number ≡ n → IsAlone r.number (of_word Target n)
alone_here r n opcode deed b e = subst (λ (k : ℕ). IsAlone k (of_word Target n)) (sym e) b.alone

-- ---- a reference that holds

abbrev Does : Layout → World → Memory → Item → InputRelocation → ℕ → Type 0
Does l w m s r n = DoesDemanded (reads w m) l w m s r r.offset (of_word Target n)

does_it : (l : Layout) (w : World) (m : Memory) (s : Item) (r : InputRelocation) (n opcode : ℕ) (deed : Deed) → IsBranch n opcode deed → l.machine ≡ machine.AArch64 → IsBranchWord s r r.offset opcode n → ReferenceHolds l w m s r → Does l w m s r n
does_it l w m s r n opcode deed b x h (inl p) = p.does r.offset (of_word Target n) r (alone_template l s r (of_word Target n) x (alone_here r n opcode deed b h.number) (word_instruction l s r n opcode deed b x h))
does_it l w m s r n opcode deed b x h (inr q) =
    does_so l w m s r r.offset (of_word Target n)
    (alone_only (λ (start : ℕ) (o : Instruction) (first : InputRelocation). DoesDemanded (reads_without_calls w m) l w m s first start o → DoesDemanded (reads_without_calls w m) l w m s r r.offset (of_word Target n)) l s r (of_word Target n) x (alone_here r n opcode deed b h.number) (λ d. d) q.start q.instruction q.first q.template q.does)

-- ---- where it goes

behind_is : (w : World) (s : Item) (r : InputRelocation) → is_listed r.number branch_types ≡ true → own_place w s r ≡ (place_at w s r.offset + 4) % 2 ^ 64
behind_is w s r h = rw h refl

one_symbol : {i j : ℕ} → Some i ≡ Some j → i ≡ j
one_symbol {i} {j} e = cc

by_symbol : (l : Layout) (w : World) (m : Memory) (s : Item) (r : InputRelocation) (a : ℕ) (o : Option ℕ) → is_listed r.number branch_types ≡ true → r.symbol ≡ o → IsReferentOnAArch64 StubDistance l w m s r o a → IsBranchedTo machine.AArch64 l w m s r a
by_symbol l w m s r a None listed e h =
    inl (record { present = λ d. (let both : Some d.symbol ≡ None = sym d.named ∙ e in cc); symbol = a; stands = subst (λ (p : Option ℕ). IsTarget l w m p a) (sym e) h; comes = inl refl })
by_symbol l w m s r a (Some i) listed e (inl t) = inr (record { absent = record { symbol = i; named = e; absent = t.0.1 }; behind = t.1 ∙ behind_is w s r listed })
by_symbol l w m s r a (Some i) listed e (inr t) = inl (record {
  present = λ d. t.0 (tt, subst (λ (j : ℕ). IsUndefinedWeak l j) (one_symbol (sym d.named ∙ e)) d.absent);
  symbol = t.1.symbol;
  stands = subst (λ (p : Option ℕ). IsTarget l w m p t.1.symbol) (sym e) t.1.denoted;
  comes = goes_within l m _ _ t.1.comes;
})

branched_to : (l : Layout) (w : World) (m : Memory) (s : Item) (r : InputRelocation) (n opcode : ℕ) (deed : Deed) (a : ℕ) → IsBranch n opcode deed → l.machine ≡ machine.AArch64 → r.number ≡ n → IsBranchReferent l w m s r a → IsBranchedTo l.machine l w m s r a
branched_to l w m s r n opcode deed a b x e h =
    let known : formula_of l.machine r.number ≡ Some stub_distance = subst (λ (k : Machine). formula_of k r.number ≡ Some stub_distance) (sym x) (subst (λ (i : ℕ). aarch64_formula i ≡ Some stub_distance) (sym e) b.formula) in
    let stands = branch_stands l w m s r a (goes_to_none l r stub_distance known (λ t. t.0)) h in
    let there = referent_by machine.AArch64 StubDistance l w m s r a (λ t. t.0) (subst (λ (k : Machine). IsReferent k StubDistance l w m s r a) x stands) in
    subst (λ (k : Machine). IsBranchedTo k l w m s r a) (sym x) (by_symbol l w m s r a r.symbol (subst (λ (i : ℕ). is_listed i branch_types ≡ true) (sym e) b.listed) refl there)

goes : (l : Layout) (w : World) (m : Memory) (s : Item) (r : InputRelocation) (n opcode : ℕ) (deed : Deed) → IsBranch n opcode deed → l.machine ≡ machine.AArch64 → IsBranchWord s r r.offset opcode n → Does l w m s r n → BranchReaches l w m s r r.offset deed
goes l w m s r n opcode deed b x h d =
    let a = place_at w s r.offset in
    let bs = slice_range s.bytes r.offset (r.offset + 4) in
    let old : demand_of machine.AArch64 d.value a bs ≡ Some d.code.effect = subst (λ (k : Machine). demand_of k d.value a bs ≡ Some d.code.effect) x d.code.demanded in
    let is = b.does a d.value (number bs) bs h.begins (old_word s r opcode n h) in
    let value = once_more d.value (d.demands.goal + cast_unsigned w64 r.addend + field_origin l.machine) d.demands.is in
    record {
      target = d.demands.goal;
      stands = branched_to l w m s r n opcode deed d.demands.goal b x h.number d.demands.stands;
      bytes = d.code.bytes;
      whole = subst (λ (k : Machine). length d.code.bytes ≡ branch_size k) (sym x) d.code.whole;
      held = d.code.held;
      goes = d.code.does ∙ sym old ∙ is ∙ ap (λ (v : ℕ). Some (record { deed = deed; width = 64; value = v })) value;
    }

reaches : (l : Layout) (w : World) (m : Memory) (s : Item) (r : InputRelocation) (k n opcode : ℕ) (deed : Deed) → IsBranch n opcode deed → l.machine ≡ machine.AArch64 → IsBranchWord s r k opcode n → ReferenceHolds l w m s r → BranchReaches l w m s r k deed
reaches l w m s r k n opcode deed b x h holds =
    let here = subst (λ (j : ℕ). IsBranchWord s r j opcode n) (sym h.at) h in
    subst (λ (j : ℕ). BranchReaches l w m s r j deed) h.at (goes l w m s r n opcode deed b x here (does_it l w m s r n opcode deed b x here holds))

pub call_goes : (l : Layout) (w : World) (m : Memory) (s : Item) (r : InputRelocation) (k : ℕ) → l.machine ≡ machine.AArch64 → IsBranchWord s r k 37 r_aarch64_call26 → ReferenceHolds l w m s r → BranchReaches l w m s r k Call
call_goes l w m s r k x h holds = reaches l w m s r k r_aarch64_call26 37 Call a_call x h holds

pub jump_goes : (l : Layout) (w : World) (m : Memory) (s : Item) (r : InputRelocation) (k : ℕ) → l.machine ≡ machine.AArch64 → IsBranchWord s r k 5 r_aarch64_jump26 → ReferenceHolds l w m s r → BranchReaches l w m s r k Jump
jump_goes l w m s r k x h holds = reaches l w m s r k r_aarch64_jump26 5 Jump a_jump x h holds
