-- The worked examples' code is that of the instructions that it should be.
use Rattle.wild_worlds.proofs.Common.{◌≡◌, ℕ, zero, suc, ◌+◌, ◌<◌, ◌≤◌, ◌⊎◌, inl, inr, Bool, true, false, List, [], ◌∷◌, length, get_or, refl, sym, ap, ◌∙◌, arith, subst, eq-eqb, Some, None, Contains, slice_range, slice_get, ◌≢◌, not, ◌||◌, ◌==◌, nat_le, list_all, r_x86_64_gotpcrelx, InputRelocation, Layout, Formula, formula, Plain, Signed, x86_64_formula, formula_of, HasFlag, Instruction, not_both}
use Rattle.std.proofs.lemmas.Bool.{leb-true, le-leb}
use Rattle.std.proofs.lemmas.Option.{slice_get_past}
use Rattle.wild_words.proofs.Basics.{listed_passes}
use Rattle.wild_words.specs.Words.{number}
use Rattle.wild_records.specs.Abi.Relocation.{r_x86_64_none, r_x86_64_pc32, r_x86_64_plt32, r_x86_64_gotpcrel, r_x86_64_rex_gotpcrelx, r_x86_64_tlsgd, r_aarch64_jump26, r_aarch64_call26, r_aarch64_add_abs_lo12_nc, r_aarch64_tlsdesc_adr_page21, r_aarch64_tlsdesc_ld64_lo12, r_aarch64_tlsdesc_add_lo12, r_aarch64_tlsdesc_call}
use Rattle.wild_types.specs.declared.kind.Machine.{Machine}
use Rattle.wild_types.specs.declared.kind.Machine.TheVariants as machine
use Rattle.wild_types.specs.Flags.{non_interposable, undefined_weak}
use Rattle.wild_reloc.specs.Formula.{SlotDistance, SlotAddress, SlotPageDistance, ModulePair, Descriptor, NoValue, NoField, Bits, AdrField, Imm12Field, WithinPower, NoCheck}
use Rattle.wild_reloc.specs.FormulaAArch64.{aarch64_formula}
use Rattle.wild_reloc.proofs.FormLemmas.{plt32_formula}
use Rattle.wild_loader.specs.declared.instruction.Deed.TheVariants.{Call, Jump}
use Rattle.wild_loader.specs.Instruction.{matches_cells}
use Rattle.wild_meaning.specs.Field.{form_width, InNoField}
use Rattle.wild_meaning.specs.Sequence.{size_of, instructions_of, IsOwnByte, address_pair_words, descriptor_call_words}
use Rattle.wild_aarch64.specs.Effect.{words_of}
use Rattle.wild_aarch64.specs.Code.{read, read_address, read_access, read_vector_access, read_literal, read_transfer, read_condition}
use Rattle.wild_meaning.specs.Template.{HasOriginAddend, IsInstruction, IsSequence}
use Rattle.wild_meaning.proofs.PairLemmas.{as_its_call}
use Rattle.wild_meaning.proofs.InstructionsAArch64.{IsAlone, alone_template}
use Rattle.wild_sample_layouts.specs.CallingPlans.{branch_reference, branch_bytes}
use Rattle.wild_worlds.specs.Worked.{WorkedBranchesAreChecked, WorkedAddressesAreChecked, IsWorked, IsPaired, ComputesThreadAddress, worked_relocation, worked_item, direct_code, indirect_code, load_code, direct_branch, indirect_branch, load, general, branch_word, jump_word, jump_code, word_relocation, address_code, page_relocation, address_relocations, descriptor_code, descriptor_relocation, descriptor_relocations, AreOfRun, pair_relocation, getter_relocation, general_item}

-- ---- one instruction

-- the bytes before the one field are in none
before : (l : Layout) (address : ℕ) (bytes : List ℕ) (r : InputRelocation) (k : ℕ) → k < r.offset → InNoField l (worked_item address bytes (r ∷ [])) k
before l address bytes r k low = λ i d lt f known. at r i k d f lt low
  where
    at : (r : InputRelocation) (i k : ℕ) (d : InputRelocation) (f : Formula) → i < 1 → k < r.offset → (k < (get_or (r ∷ []) i d).offset) ⊎ ((get_or (r ∷ []) i d).offset + form_width f.form ≤ k)
    at r zero k d f lt low = inl low
    at r (suc i) k d f lt low = absurd (omega (arith, lt))

-- nothing stands behind the field
own_before : (k field size : ℕ) → size ≡ field + 4 → k < size → (k < field) ⊎ (field + 4 ≤ k) → k < field
own_before k field size e lt (inl a) = a
own_before k field size e lt (inr b) = absurd (omega (arith, e, lt, b))

-- an instruction that the relocation fills, with its field no farther from its beginning, has at most n bytes
abbrev is_within : ℕ → ℕ → ℕ → Instruction → Bool
is_within number offset n o = list_all (λ m. not (m == number)) o.numbers || (not (nat_le o.field offset) || nat_le (size_of o) n)

within : (number offset n from : ℕ) (o : Instruction) → list_all (is_within number offset n) (instructions_of machine.X86_64) ≡ true → Contains (instructions_of machine.X86_64) o → Contains o.numbers number → offset ≡ from + o.field → size_of o ≤ n
within number offset n from o all known filled e =
    let near : nat_le o.field offset ≡ true = le-leb o.field offset (omega (arith, e)) in
    leb-true (size_of o) n (third (list_all (λ (m : ℕ). not (m == number)) o.numbers) (nat_le o.field offset) (nat_le (size_of o) n) (listed_passes (is_within number offset n) (instructions_of machine.X86_64) o all known) (λ none. not_itself number (listed_passes (λ (m : ℕ). not (m == number)) o.numbers number none filled)) near)
  where
    third : (a b c : Bool) → (a || (not b || c)) ≡ true → (a ≡ true → ⊥) → b ≡ true → c ≡ true
    third true b c h never e = absurd (never refl)
    third false true c h never e = h
    third false false c h never e = cc

    not_itself : (m : ℕ) → not (m == m) ≡ true → ⊥
    not_itself m h = let same : (m == m) ≡ true = eq-eqb m m refl in cc (rw same at h)

-- code of an instruction at its beginning
at_start : (l : Layout) (address : ℕ) (bytes : List ℕ) (r : InputRelocation) (o : Instruction) → l.machine ≡ machine.X86_64 → Contains (instructions_of machine.X86_64) o → Contains o.numbers r.number → r.offset ≡ 0 + o.field → 0 + size_of o ≤ length bytes → matches_cells o.template.cells (slice_range bytes 0 (0 + size_of o)) ≡ true → HasOriginAddend machine.X86_64 o.sort r
    → ((k : ℕ) → IsOwnByte o k → k < r.offset) → IsInstruction l (worked_item address bytes (r ∷ [])) r 0 o
at_start l address bytes r o x known number field inside standing counts own = record {
  code = refl;
  known = subst (λ (m : Machine). Contains (instructions_of m) o) (sym x) known;
  number = number;
  field = field;
  inside = inside;
  stands = standing;
  words = listed_passes (λ (p : Instruction). p.words (words_of (slice_range bytes 0 (0 + size_of o)))) (instructions_of machine.X86_64) o refl known;
  counts = subst (λ (m : Machine). HasOriginAddend m o.sort r) (sym x) counts;
  alone = λ k h. subst (λ (j : ℕ). InNoField l (worked_item address bytes (r ∷ [])) j) (let e : k ≡ 0 + k = omega arith in e) (before l address bytes r k (own k h));
}

-- one relocation is no sequence's
no_next : (l : Layout) (address : ℕ) (bytes : List ℕ) (a r : InputRelocation) (rest : List InputRelocation) (from : ℕ) (p : Instruction) → l.machine ≡ machine.X86_64 → IsSequence l (worked_item address bytes (r ∷ [])) a rest from p → Contains rest r → ⊥
no_next l address bytes a r rest from p x q c = let t = as_its_call l (worked_item address bytes (r ∷ [])) a r rest from p x q c in at r t.has.index t.has.next
  where
    at : (r : InputRelocation) (i : ℕ) → slice_get (r ∷ []) (i + 1) ≡ Some r → ⊥
    at r i h = let none = slice_get_past (r ∷ []) (i + 1) (omega arith) in let both : None ≡ Some r = sym none ∙ h in cc

worked : (l : Layout) (address : ℕ) (bytes : List ℕ) (r : InputRelocation) (o : Instruction) → l.machine ≡ machine.X86_64 → r.number ≢ r_x86_64_none → o.partners ≡ [] → list_all (is_within r.number r.offset (size_of o)) (instructions_of machine.X86_64) ≡ true → IsInstruction l (worked_item address bytes (r ∷ [])) r 0 o → IsWorked l address bytes r o
worked l address bytes r o x refers single all t = (
  record { listed = (0, omega arith, refl); refers = refers },
  inl (
    record {
      single = single;
      stands = t;
      longest = λ from p none s. within r.number r.offset (size_of o) from p all (subst (λ (m : Machine). Contains (instructions_of m) p) x s.known) s.number s.field;
      free = λ a rest from p q c. no_next l address bytes a r rest from p x q c;
    },
    refl,
  ),
)

not_none : (n : ℕ) → 0 < n → n ≢ r_x86_64_none
not_none n h = λ e. absurd (let z : n ≡ 0 = e in omega (arith, h, z))

worked_call : (l : Layout) (address : ℕ) → l.machine ≡ machine.X86_64 → IsWorked l address (direct_code 0xe8) (worked_relocation 1 r_x86_64_pc32 0) (direct_branch 0xe8 Call)
worked_call l address x =
    worked l address (direct_code 0xe8) (worked_relocation 1 r_x86_64_pc32 0) (direct_branch 0xe8 Call) x (not_none r_x86_64_pc32 (omega arith)) refl refl
    (at_start l address (direct_code 0xe8) (worked_relocation 1 r_x86_64_pc32 0) (direct_branch 0xe8 Call) x (0, omega arith, refl) (0, omega arith, refl) refl (omega arith) refl tt (λ k h. own_before k 1 5 refl h.inside h.beside))

worked_jump : (l : Layout) (address : ℕ) → l.machine ≡ machine.X86_64 → IsWorked l address (direct_code 0xe9) (worked_relocation 1 r_x86_64_plt32 0) (direct_branch 0xe9 Jump)
worked_jump l address x =
    worked l address (direct_code 0xe9) (worked_relocation 1 r_x86_64_plt32 0) (direct_branch 0xe9 Jump) x (not_none r_x86_64_plt32 (omega arith)) refl refl
    (at_start l address (direct_code 0xe9) (worked_relocation 1 r_x86_64_plt32 0) (direct_branch 0xe9 Jump) x (1, omega arith, refl) (1, omega arith, refl) refl (omega arith) refl tt (λ k h. own_before k 1 5 refl h.inside h.beside))

worked_slot_call : (l : Layout) (address : ℕ) → l.machine ≡ machine.X86_64 → IsWorked l address (indirect_code 0x15) (worked_relocation 2 r_x86_64_gotpcrelx 0) (indirect_branch 0x15 Call)
worked_slot_call l address x =
    worked l address (indirect_code 0x15) (worked_relocation 2 r_x86_64_gotpcrelx 0) (indirect_branch 0x15 Call) x (not_none r_x86_64_gotpcrelx (omega arith)) refl refl
    (at_start l address (indirect_code 0x15) (worked_relocation 2 r_x86_64_gotpcrelx 0) (indirect_branch 0x15 Call) x (2, omega arith, refl) (1, omega arith, refl) refl (omega arith) refl refl (λ k h. own_before k 2 6 refl h.inside h.beside))

worked_slot_jump : (l : Layout) (address : ℕ) → l.machine ≡ machine.X86_64 → IsWorked l address (indirect_code 0x25) (worked_relocation 2 r_x86_64_gotpcrel 0) (indirect_branch 0x25 Jump)
worked_slot_jump l address x =
    worked l address (indirect_code 0x25) (worked_relocation 2 r_x86_64_gotpcrel 0) (indirect_branch 0x25 Jump) x (not_none r_x86_64_gotpcrel (omega arith)) refl refl
    (at_start l address (indirect_code 0x25) (worked_relocation 2 r_x86_64_gotpcrel 0) (indirect_branch 0x25 Jump) x (3, omega arith, refl) (0, omega arith, refl) refl (omega arith) refl refl (λ k h. own_before k 2 6 refl h.inside h.beside))

worked_load : (l : Layout) (address : ℕ) → l.machine ≡ machine.X86_64 → IsWorked l address load_code (worked_relocation 3 r_x86_64_rex_gotpcrelx 0) load
worked_load l address x =
    worked l address load_code (worked_relocation 3 r_x86_64_rex_gotpcrelx 0) load x (not_none r_x86_64_rex_gotpcrelx (omega arith)) refl refl
    (at_start l address load_code (worked_relocation 3 r_x86_64_rex_gotpcrelx 0) load x (8, omega arith, refl) (0, omega arith, refl) refl (omega arith) refl refl (λ k h. own_before k 3 7 refl h.inside h.beside))

-- ---- a sequence

-- both fields have four bytes
tlsgd_formula : x86_64_formula r_x86_64_tlsgd ≡ Some (formula (SlotDistance ModulePair) (Plain 32 Signed))
unfolding x86_64_formula
tlsgd_formula = refl

width : (m : Machine) (n : ℕ) (f g : Formula) → m ≡ machine.X86_64 → x86_64_formula n ≡ Some g → formula_of m n ≡ Some f → form_width f.form ≡ form_width g.form
width m n f g x is h =
    let known : x86_64_formula n ≡ Some f = subst (λ (k : Machine). formula_of k n ≡ Some f) x h in
    let both : Some g ≡ Some f = sym is ∙ known in
    let same : g ≡ f = cc in
    ap (λ (e : Formula). form_width e.form) (sym same)

-- a byte beside both fields is in none
beside_both : (l : Layout) (address k : ℕ) → l.machine ≡ machine.X86_64 → (k < 4) ⊎ (8 ≤ k) → (k < 12) ⊎ (16 ≤ k) → InNoField l (general_item address) k
beside_both l address k x a b = λ i d lt f known. at l i k d f x lt known a b
  where
    past : (k offset width : ℕ) → width ≡ 4 → (k < offset) ⊎ (offset + 4 ≤ k) → (k < offset) ⊎ (offset + width ≤ k)
    past k offset width e (inl h) = inl h
    past k offset width e (inr h) = inr (omega (arith, e, h))

    at : (l : Layout) (i k : ℕ) (d : InputRelocation) (f : Formula) → l.machine ≡ machine.X86_64 → i < 2 → formula_of l.machine (get_or (pair_relocation ∷ getter_relocation ∷ []) i d).number ≡ Some f → (k < 4) ⊎ (8 ≤ k) → (k < 12) ⊎ (16 ≤ k)
        → (k < (get_or (pair_relocation ∷ getter_relocation ∷ []) i d).offset) ⊎ ((get_or (pair_relocation ∷ getter_relocation ∷ []) i d).offset + form_width f.form ≤ k)
    at l zero k d f x lt known a b = past k 4 (form_width f.form) (width l.machine r_x86_64_tlsgd f _ x tlsgd_formula known) a
    at l (suc zero) k d f x lt known a b = past k 12 (form_width f.form) (width l.machine r_x86_64_plt32 f _ x plt32_formula known) b
    at l (suc (suc i)) k d f x lt known a b = absurd (omega (arith, lt))

general_stands : (l : Layout) (address : ℕ) → l.machine ≡ machine.X86_64 → IsInstruction l (general_item address) pair_relocation 0 general
general_stands l address x = record {
  code = refl;
  known = subst (λ (m : Machine). Contains (instructions_of m) general) (sym x) (25, omega arith, refl);
  number = (0, omega arith, refl);
  field = refl;
  inside = omega arith;
  stands = refl;
  words = refl;
  counts = subst (λ (m : Machine). HasOriginAddend m general.sort pair_relocation) (sym x) refl;
  alone = λ k h. subst (λ (j : ℕ). InNoField l (general_item address) j) (let e : k ≡ 0 + k = omega arith in e) (beside_both l address k x h.beside h.apart.0);
}

general_sequence : (l : Layout) (address : ℕ) → ComputesThreadAddress l → IsSequence l (general_item address) pair_relocation (getter_relocation ∷ []) 0 general
general_sequence l address h = record {
  stands = general_stands l address h.x86;
  several = omega arith;
  index = 0;
  listed = refl;
  has = (record { listed = refl; field = refl; number = (1, omega arith, refl); names = (h.getter, refl) }, tt);
  symbol = 0;
  named = refl;
  met = (h.executable, (h.plain, ((λ other. absurd (not_both l 0 non_interposable h.own other)), tt)));
}

paired : (l : Layout) (address : ℕ) → ComputesThreadAddress l → IsPaired l address pair_relocation
paired l address h = (record { listed = (0, omega arith, refl); refers = not_none r_x86_64_tlsgd (omega arith) }, inr (record { rest = getter_relocation ∷ []; sequence = general_sequence l address h; one = (0, omega arith, refl) }))

getter : (l : Layout) (address : ℕ) → ComputesThreadAddress l → IsPaired l address getter_relocation
getter l address h = (record { listed = (1, omega arith, refl); refers = not_none r_x86_64_plt32 (omega arith) }, inr (record { rest = getter_relocation ∷ []; sequence = general_sequence l address h; one = (1, omega arith, refl) }))

-- ---- AArch64

-- a word is a field as a whole
no_byte : (k : ℕ) → k < 4 → (k < 0) ⊎ (4 ≤ k) → ⊥
no_byte k lt (inl h) = omega (arith, h)
no_byte k lt (inr h) = omega (arith, lt, h)

word_alone : IsAlone r_aarch64_call26 branch_word
word_alone = record { single = refl; at = refl; one = (refl, tt); none = tt }

word_stands : (l : Layout) (address : ℕ) → l.machine ≡ machine.AArch64 → IsInstruction l (worked_item address branch_bytes (branch_reference ∷ [])) branch_reference 0 branch_word
unfolding number read read_address read_access read_vector_access read_literal read_transfer read_condition
word_stands l address x = record {
  code = refl;
  known = subst (λ (m : Machine). Contains (instructions_of m) branch_word) (sym x) (1, omega arith, refl);
  number = (0, omega arith, refl);
  field = refl;
  inside = omega arith;
  stands = refl;
  words = refl;
  counts = tt;
  alone = λ k h. absurd (no_byte k h.inside h.beside);
}

worked_word : (l : Layout) (address : ℕ) → l.machine ≡ machine.AArch64 → IsWorked l address branch_bytes branch_reference branch_word
worked_word l address x = (
  record { listed = (0, omega arith, refl); refers = not_none r_aarch64_call26 (omega arith) },
  alone_template l (worked_item address branch_bytes (branch_reference ∷ [])) branch_reference branch_word x word_alone (word_stands l address x),
)

jump_alone : IsAlone r_aarch64_jump26 jump_word
jump_alone = record { single = refl; at = refl; one = (refl, tt); none = tt }

jump_stands : (l : Layout) (address : ℕ) → l.machine ≡ machine.AArch64 → IsInstruction l (worked_item address jump_code (word_relocation 0 r_aarch64_jump26 ∷ [])) (word_relocation 0 r_aarch64_jump26) 0 jump_word
unfolding number read read_address read_access read_vector_access read_literal read_transfer read_condition
jump_stands l address x = record {
  code = refl;
  known = subst (λ (m : Machine). Contains (instructions_of m) jump_word) (sym x) (0, omega arith, refl);
  number = (0, omega arith, refl);
  field = refl;
  inside = omega arith;
  stands = refl;
  words = refl;
  counts = tt;
  alone = λ k h. absurd (no_byte k h.inside h.beside);
}

worked_word_jump : (l : Layout) (address : ℕ) → l.machine ≡ machine.AArch64 → IsWorked l address jump_code (word_relocation 0 r_aarch64_jump26) jump_word
worked_word_jump l address x = (
  record { listed = (0, omega arith, refl); refers = not_none r_aarch64_jump26 (omega arith) },
  alone_template l (worked_item address jump_code (word_relocation 0 r_aarch64_jump26 ∷ [])) (word_relocation 0 r_aarch64_jump26) jump_word x jump_alone (jump_stands l address x),
)

-- an address in two words, each a field as a whole
no_byte_of_two : (k : ℕ) → k < 8 → (k < 0) ⊎ (4 ≤ k) → (k < 4) ⊎ (8 ≤ k) → ⊥
no_byte_of_two k lt (inl a) other = omega (arith, a)
no_byte_of_two k lt (inr a) (inl b) = omega (arith, a, b)
no_byte_of_two k lt (inr a) (inr b) = omega (arith, lt, b)

address_stands : (l : Layout) (address : ℕ) → l.machine ≡ machine.AArch64 → IsInstruction l (worked_item address address_code address_relocations) page_relocation 0 address_pair_words
unfolding number read read_address read_access read_vector_access read_literal read_transfer read_condition
address_stands l address x = record {
  code = refl;
  known = subst (λ (m : Machine). Contains (instructions_of m) address_pair_words) (sym x) (48, omega arith, refl);
  number = (0, omega arith, refl);
  field = refl;
  inside = omega arith;
  stands = refl;
  words = refl;
  counts = tt;
  alone = λ k h. absurd (no_byte_of_two k h.inside h.beside h.apart.0);
}

address_sequence : (l : Layout) (address : ℕ) → l.machine ≡ machine.AArch64 → HasFlag l 0 undefined_weak false → IsSequence l (worked_item address address_code address_relocations) page_relocation (word_relocation 4 r_aarch64_add_abs_lo12_nc ∷ []) 0 address_pair_words
address_sequence l address x there = record {
  stands = address_stands l address x;
  several = omega arith;
  index = 0;
  listed = refl;
  has = (record { listed = refl; field = refl; number = (0, omega arith, refl); names = (refl, refl) }, tt);
  symbol = 0;
  named = refl;
  met = ((λ absent. not_both l 0 undefined_weak absent.weak there), tt);
}

-- what each of a list has, the list has
some_number : (rs : List InputRelocation) (r : InputRelocation) → list_all (λ (q : InputRelocation). not (q.number == r_x86_64_none)) rs ≡ true → Contains rs r → r.number ≢ r_x86_64_none
some_number rs r all c = λ e. (let other = listed_passes (λ (q : InputRelocation). not (q.number == r_x86_64_none)) rs r all c in let same : (r.number == r_x86_64_none) ≡ true = eq-eqb r.number r_x86_64_none e in cc (rw same at other))

worked_pair : (l : Layout) (address : ℕ) → l.machine ≡ machine.AArch64 → HasFlag l 0 undefined_weak false → AreOfRun l address address_code address_relocations page_relocation address_pair_words
worked_pair l address x there = λ r c. (
  record { listed = c; refers = some_number address_relocations r refl c },
  inr (record { rest = word_relocation 4 r_aarch64_add_abs_lo12_nc ∷ []; sequence = address_sequence l address x there; one = c }),
)

-- the call through a descriptor, whose last word is no field
own_last : (k : ℕ) → (k < 0) ⊎ (4 ≤ k) → (k < 4) ⊎ (8 ≤ k) → (k < 8) ⊎ (12 ≤ k) → 12 ≤ k
own_last k (inl a) other more = absurd (omega (arith, a))
own_last k (inr a) (inl b) more = absurd (omega (arith, a, b))
own_last k (inr a) (inr b) (inl c) = absurd (omega (arith, b, c))
own_last k (inr a) (inr b) (inr c) = c

word_width : (m : Machine) (n : ℕ) (f g : Formula) → m ≡ machine.AArch64 → aarch64_formula n ≡ Some g → formula_of m n ≡ Some f → form_width f.form ≡ form_width g.form
word_width m n f g x is h =
    let known : aarch64_formula n ≡ Some f = subst (λ (k : Machine). formula_of k n ≡ Some f) x h in
    let both : Some g ≡ Some f = sym is ∙ known in
    let same : g ≡ f = cc in
    ap (λ (e : Formula). form_width e.form) (sym same)

page_formula : aarch64_formula r_aarch64_tlsdesc_adr_page21 ≡ Some (formula (SlotPageDistance Descriptor) (Bits AdrField 32 12 (WithinPower 33) 4096))
unfolding aarch64_formula
page_formula = refl

load_formula : aarch64_formula r_aarch64_tlsdesc_ld64_lo12 ≡ Some (formula (SlotAddress Descriptor) (Bits Imm12Field 11 3 NoCheck 8))
unfolding aarch64_formula
load_formula = refl

add_formula : aarch64_formula r_aarch64_tlsdesc_add_lo12 ≡ Some (formula (SlotAddress Descriptor) (Bits Imm12Field 11 0 NoCheck 1))
unfolding aarch64_formula
add_formula = refl

call_formula : aarch64_formula r_aarch64_tlsdesc_call ≡ Some (formula NoValue NoField)
unfolding aarch64_formula
call_formula = refl

behind_all : (l : Layout) (address k : ℕ) → l.machine ≡ machine.AArch64 → 12 ≤ k → InNoField l (worked_item address descriptor_code descriptor_relocations) k
behind_all l address k x past = λ i d lt f known. at l i k d f x lt past known
  where
    ends : (k offset n width : ℕ) → width ≡ n → offset + n ≤ 12 → 12 ≤ k → (k < offset) ⊎ (offset + width ≤ k)
    ends k offset n width e low past = inr (omega (arith, e, low, past))

    at : (l : Layout) (i k : ℕ) (d : InputRelocation) (f : Formula) → l.machine ≡ machine.AArch64 → i < 4 → 12 ≤ k → formula_of l.machine (get_or descriptor_relocations i d).number ≡ Some f → (k < (get_or descriptor_relocations i d).offset) ⊎ ((get_or descriptor_relocations i d).offset + form_width f.form ≤ k)
    at l zero k d f x lt past known = ends k 0 4 (form_width f.form) (word_width l.machine r_aarch64_tlsdesc_adr_page21 f _ x page_formula known) (omega arith) past
    at l (suc zero) k d f x lt past known = ends k 4 4 (form_width f.form) (word_width l.machine r_aarch64_tlsdesc_ld64_lo12 f _ x load_formula known) (omega arith) past
    at l (suc (suc zero)) k d f x lt past known = ends k 8 4 (form_width f.form) (word_width l.machine r_aarch64_tlsdesc_add_lo12 f _ x add_formula known) (omega arith) past
    at l (suc (suc (suc zero))) k d f x lt past known = ends k 12 0 (form_width f.form) (word_width l.machine r_aarch64_tlsdesc_call f _ x call_formula known) (omega arith) past
    at l (suc (suc (suc (suc i)))) k d f x lt past known = absurd (omega (arith, lt))

descriptor_stands : (l : Layout) (address : ℕ) → l.machine ≡ machine.AArch64 → IsInstruction l (worked_item address descriptor_code descriptor_relocations) descriptor_relocation 0 descriptor_call_words
unfolding number read read_address read_access read_vector_access read_literal read_transfer read_condition
descriptor_stands l address x = record {
  code = refl;
  known = subst (λ (m : Machine). Contains (instructions_of m) descriptor_call_words) (sym x) (46, omega arith, refl);
  number = (0, omega arith, refl);
  field = refl;
  inside = omega arith;
  stands = refl;
  words = refl;
  counts = subst (λ (m : Machine). HasOriginAddend m descriptor_call_words.sort descriptor_relocation) (sym x) refl;
  alone = λ k h. subst (λ (j : ℕ). InNoField l (worked_item address descriptor_code descriptor_relocations) j) (let e : k ≡ 0 + k = omega arith in e) (behind_all l address k x (own_last k h.beside h.apart.0 h.apart.1.0));
}

descriptor_sequence : (l : Layout) (address : ℕ) → l.machine ≡ machine.AArch64
    → IsSequence l (worked_item address descriptor_code descriptor_relocations) descriptor_relocation (word_relocation 4 r_aarch64_tlsdesc_ld64_lo12 ∷ word_relocation 8 r_aarch64_tlsdesc_add_lo12 ∷ word_relocation 12 r_aarch64_tlsdesc_call ∷ []) 0 descriptor_call_words
descriptor_sequence l address x = record {
  stands = descriptor_stands l address x;
  several = omega arith;
  index = 0;
  listed = refl;
  has = (
    record { listed = refl; field = refl; number = (0, omega arith, refl); names = (refl, refl) },
    (record { listed = refl; field = refl; number = (0, omega arith, refl); names = (refl, refl) }, (record { listed = refl; field = refl; number = (0, omega arith, refl); names = (refl, refl) }, tt)),
  );
  symbol = 0;
  named = refl;
  met = tt;
}

worked_descriptor : (l : Layout) (address : ℕ) → l.machine ≡ machine.AArch64 → AreOfRun l address descriptor_code descriptor_relocations descriptor_relocation descriptor_call_words
worked_descriptor l address x = λ r c. (
  record { listed = c; refers = some_number descriptor_relocations r refl c },
  inr (record { rest = word_relocation 4 r_aarch64_tlsdesc_ld64_lo12 ∷ word_relocation 8 r_aarch64_tlsdesc_add_lo12 ∷ word_relocation 12 r_aarch64_tlsdesc_call ∷ []; sequence = descriptor_sequence l address x; one = c }),
)

pub branches_asked : WorkedBranchesAreChecked
branches_asked = record { call = worked_call; jump = worked_jump; slot_call = worked_slot_call; slot_jump = worked_slot_jump; word = worked_word; word_jump = worked_word_jump }

pub addresses_asked : WorkedAddressesAreChecked
addresses_asked = record { loads = worked_load; pairs = paired; getters = getter; words = worked_pair; descriptors = worked_descriptor }
