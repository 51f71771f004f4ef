-- The instructions of the worked program of AArch64, and the formulas of its relocation types.
use Rattle.wild_meaning.proofs.Common.{◌≡◌, ℕ, zero, suc, ◌+◌, ◌<◌, ◌≤◌, ◌⊎◌, inl, inr, true, false, List, [], ◌∷◌, refl, sym, ap, ◌∙◌, subst, arith, Some, None, Contains, slice_get, All-from_recursion, number, r_aarch64_adr_got_page, r_aarch64_ld64_got_lo12_nc, Formula, formula, SymbolPart, PageDistance, StubDistance, SlotAddress, SlotPageDistance, AddressSlot, Descriptor, AdrField, Imm12Field, NoCheck, WithinPower, Bits, Value, aarch64_formula, InputRelocation, has_flag, read, read_address, read_access, read_vector_access, read_literal, read_transfer, read_condition, form_width, InNoField, Target, FieldBits, Instruction, descriptor_call_words, address_pair_words, IsInstruction, IsSequence, IsOfSequence, IsTemplate, words_static, near_function, local_data, page_reference, low_reference, slot_item, slot_low_reference, call_item, call_reference, past_item, past_reference, kept_item, descriptor_item, descriptor_page, descriptor_load, TakesString}
use Rattle.wild_records.specs.Abi.Relocation.{r_aarch64_adr_prel_pg_hi21, r_aarch64_add_abs_lo12_nc, r_aarch64_call26, r_aarch64_tlsdesc_adr_page21, r_aarch64_tlsdesc_ld64_lo12, r_aarch64_tlsdesc_add_lo12, r_aarch64_tlsdesc_call}
use Rattle.wild_reloc.specs.Formula.{NoValue, Imm26Field, NoField}
use Rattle.wild_types.specs.Flags.{undefined_weak}
use Rattle.wild_meaning.specs.ReferentAArch64.{IsUndefinedWeak}
use Rattle.wild_meaning.specs.Sequence.{of_word}
use Rattle.wild_meaning.specs.Worked.AArch64.{address_item, slot_page_reference, descriptor_low, descriptor_call}
use Rattle.wild_meaning.proofs.SymbolUnique.{flag_of, IsPlainOwn}
use Rattle.wild_meaning.proofs.PairLemmas.{only_one}
use Rattle.wild_meaning.proofs.InstructionsAArch64.{IsAlone, single_is, alone_template, sequence_is}
use Rattle.wild_meaning.proofs.StringLemmas.{nothing_named}

-- ---- symbols

pub function_is : IsPlainOwn words_static 0 0x11200
unfolding has_flag
function_is = record { symbol = near_function; resolution = _; is = refl; decided = refl; raw_is = refl; own = refl; plain = refl; moves = refl; unstubbed = refl }

pub data_is : IsPlainOwn words_static 1 0x30008
unfolding has_flag
data_is = record { symbol = local_data; resolution = _; is = refl; decided = refl; raw_is = refl; own = refl; plain = refl; moves = refl; unstubbed = refl }

function_there : has_flag near_function.flags undefined_weak ≡ false
unfolding has_flag
function_there = refl

-- the function is there
-- the program has no merged strings
pub no_string : (v : Value) (r : InputRelocation) → TakesString v words_static r → ⊥
no_string v r t = nothing_named words_static refl r t.1

pub not_absent : IsUndefinedWeak words_static 0 → ⊥
not_absent h = let both : true ≡ false = sym (flag_of words_static 0 undefined_weak true near_function refl h.weak) ∙ function_there in cc

-- ---- formulas

pub slot_page_formula : aarch64_formula r_aarch64_adr_got_page ≡ Some (formula (SlotPageDistance AddressSlot) (Bits AdrField 32 12 (WithinPower 33) 4096))
unfolding aarch64_formula
slot_page_formula = refl

pub slot_low_formula : aarch64_formula r_aarch64_ld64_got_lo12_nc ≡ Some (formula (SlotAddress AddressSlot) (Bits Imm12Field 11 3 NoCheck 8))
unfolding aarch64_formula
slot_low_formula = refl

pub call_formula : aarch64_formula r_aarch64_call26 ≡ Some (formula StubDistance (Bits Imm26Field 27 2 (WithinPower 28) 4))
unfolding aarch64_formula
call_formula = refl

pub page_formula : aarch64_formula r_aarch64_adr_prel_pg_hi21 ≡ Some (formula PageDistance (Bits AdrField 32 12 (WithinPower 33) 4096))
unfolding aarch64_formula
page_formula = refl

pub low_formula : aarch64_formula r_aarch64_add_abs_lo12_nc ≡ Some (formula SymbolPart (Bits Imm12Field 11 0 NoCheck 1))
unfolding aarch64_formula
low_formula = refl

descriptor_page_formula : aarch64_formula r_aarch64_tlsdesc_adr_page21 ≡ Some (formula (SlotPageDistance Descriptor) (Bits AdrField 32 12 (WithinPower 33) 4096))
unfolding aarch64_formula
descriptor_page_formula = refl

pub descriptor_load_formula : aarch64_formula r_aarch64_tlsdesc_ld64_lo12 ≡ Some (formula (SlotAddress Descriptor) (Bits Imm12Field 11 3 NoCheck 8))
unfolding aarch64_formula
descriptor_load_formula = refl

descriptor_low_formula : aarch64_formula r_aarch64_tlsdesc_add_lo12 ≡ Some (formula (SlotAddress Descriptor) (Bits Imm12Field 11 0 NoCheck 1))
unfolding aarch64_formula
descriptor_low_formula = refl

descriptor_call_formula : aarch64_formula r_aarch64_tlsdesc_call ≡ Some (formula NoValue NoField)
unfolding aarch64_formula
descriptor_call_formula = refl

-- ---- words alone

abbrev pub slot_page_word : Instruction
slot_page_word = of_word FieldBits r_aarch64_adr_got_page

abbrev pub slot_low_word : Instruction
slot_low_word = of_word FieldBits r_aarch64_ld64_got_lo12_nc

abbrev pub call_word : Instruction
call_word = of_word Target r_aarch64_call26

pub slot_page_alone : IsAlone r_aarch64_adr_got_page slot_page_word
slot_page_alone = record { single = refl; at = refl; one = (refl, tt); none = tt }

pub slot_low_alone : IsAlone r_aarch64_ld64_got_lo12_nc slot_low_word
slot_low_alone = record { single = refl; at = refl; one = (refl, tt); none = tt }

pub call_alone : IsAlone r_aarch64_call26 call_word
call_alone = record { single = refl; at = refl; one = (refl, tt); none = tt }

-- a word is a field as a whole
pub no_byte : (k : ℕ) → k < 4 → (k < 0) ⊎ (4 ≤ k) → ⊥
no_byte k lt (inl h) = omega (arith, h)
no_byte k lt (inr h) = omega (arith, lt, h)

slot_page_stands : IsInstruction words_static slot_item slot_page_reference 0 slot_page_word
unfolding number read read_address read_access read_vector_access read_literal read_transfer read_condition
slot_page_stands = record { code = refl; known = (21, omega arith, refl); number = (0, omega arith, refl); field = refl; inside = omega arith; stands = refl; words = refl; counts = tt; alone = λ k h. absurd (no_byte k h.inside h.beside) }

slot_low_stands : IsInstruction words_static slot_item slot_low_reference 4 slot_low_word
unfolding number read read_address read_access read_vector_access read_literal read_transfer read_condition
slot_low_stands = record { code = refl; known = (22, omega arith, refl); number = (0, omega arith, refl); field = refl; inside = omega arith; stands = refl; words = refl; counts = tt; alone = λ k h. absurd (no_byte k h.inside h.beside) }

call_stands : IsInstruction words_static call_item call_reference 0 call_word
unfolding number read read_address read_access read_vector_access read_literal read_transfer read_condition
call_stands = record { code = refl; known = (1, omega arith, refl); number = (0, omega arith, refl); field = refl; inside = omega arith; stands = refl; words = refl; counts = tt; alone = λ k h. absurd (no_byte k h.inside h.beside) }

past_stands : IsInstruction words_static past_item past_reference 0 call_word
unfolding number read read_address read_access read_vector_access read_literal read_transfer read_condition
past_stands = record { code = refl; known = (1, omega arith, refl); number = (0, omega arith, refl); field = refl; inside = omega arith; stands = refl; words = refl; counts = tt; alone = λ k h. absurd (no_byte k h.inside h.beside) }

pub slot_page_template : IsTemplate words_static slot_item slot_page_reference 0 slot_page_word slot_page_reference
slot_page_template = alone_template words_static slot_item slot_page_reference slot_page_word refl slot_page_alone slot_page_stands

pub slot_low_template : IsTemplate words_static slot_item slot_low_reference 4 slot_low_word slot_low_reference
slot_low_template = alone_template words_static slot_item slot_low_reference slot_low_word refl slot_low_alone slot_low_stands

pub call_template : IsTemplate words_static call_item call_reference 0 call_word call_reference
call_template = alone_template words_static call_item call_reference call_word refl call_alone call_stands

pub past_template : IsTemplate words_static past_item past_reference 0 call_word past_reference
past_template = alone_template words_static past_item past_reference call_word refl call_alone past_stands

-- ---- the address

pub no_byte_of_two : (k : ℕ) → k < 8 → (k < 0) ⊎ (4 ≤ k) → (k < 4) ⊎ (8 ≤ k) → ⊥
no_byte_of_two k lt (inl a) b = omega (arith, a)
no_byte_of_two k lt (inr a) (inl b) = omega (arith, a, b)
no_byte_of_two k lt (inr a) (inr b) = omega (arith, lt, b)

address_stands : IsInstruction words_static address_item page_reference 0 address_pair_words
unfolding number read read_address read_access read_vector_access read_literal read_transfer read_condition
address_stands = record { code = refl; known = (48, omega arith, refl); number = (0, omega arith, refl); field = refl; inside = omega arith; stands = refl; words = refl; counts = tt; alone = λ k h. absurd (no_byte_of_two k h.inside h.beside h.apart.0) }

address_sequence : IsSequence words_static address_item page_reference (low_reference ∷ []) 0 address_pair_words
address_sequence = record {
  stands = address_stands;
  several = omega arith;
  index = 0;
  listed = refl;
  has = (record { listed = refl; field = refl; number = (0, omega arith, refl); names = (refl, refl) }, tt);
  symbol = 0;
  named = refl;
  met = ((λ h. not_absent h), tt);
}

pub page_template : IsTemplate words_static address_item page_reference 0 address_pair_words page_reference
page_template = inr (record { rest = low_reference ∷ []; sequence = address_sequence; one = (0, omega arith, refl) })

pub low_template : IsTemplate words_static address_item low_reference 0 address_pair_words page_reference
low_template = inr (record { rest = low_reference ∷ []; sequence = address_sequence; one = (1, omega arith, refl) })

-- ---- the address that stays

abbrev pub page_word : Instruction
page_word = of_word FieldBits r_aarch64_adr_prel_pg_hi21

kept_stands : IsInstruction words_static kept_item page_reference 0 address_pair_words
unfolding number read read_address read_access read_vector_access read_literal read_transfer read_condition
kept_stands = record { code = refl; known = (48, omega arith, refl); number = (0, omega arith, refl); field = refl; inside = omega arith; stands = refl; words = refl; counts = tt; alone = λ k h. absurd (no_byte_of_two k h.inside h.beside h.apart.0) }

kept_sequence : IsSequence words_static kept_item page_reference (low_reference ∷ []) 0 address_pair_words
kept_sequence = record {
  stands = kept_stands;
  several = omega arith;
  index = 0;
  listed = refl;
  has = (record { listed = refl; field = refl; number = (0, omega arith, refl); names = (refl, refl) }, tt);
  symbol = 0;
  named = refl;
  met = ((λ h. not_absent h), tt);
}

pub kept_template : IsTemplate words_static kept_item page_reference 0 address_pair_words page_reference
kept_template = inr (record { rest = low_reference ∷ []; sequence = kept_sequence; one = (0, omega arith, refl) })

pub kept_low_template : IsTemplate words_static kept_item low_reference 0 address_pair_words page_reference
kept_low_template = inr (record { rest = low_reference ∷ []; sequence = kept_sequence; one = (1, omega arith, refl) })

kept_first : (first : InputRelocation) (i : ℕ) → slice_get kept_item.relocations i ≡ Some first → first.number ≡ r_aarch64_adr_prel_pg_hi21 → first ≡ page_reference
kept_first first zero a n = let one : Some page_reference ≡ Some first = a in cc
kept_first first (suc zero) a n = absurd (let one : Some low_reference ≡ Some first = a in let same : low_reference ≡ first = cc in let other : r_aarch64_add_abs_lo12_nc ≡ r_aarch64_adr_prel_pg_hi21 = ap (λ (q : InputRelocation). q.number) same ∙ n in omega (arith, other))
kept_first first (suc (suc i)) a n = absurd (let none : None ≡ Some first = a in cc)

-- what holds of the pair holds of each sequence there
in_pair : (P : ℕ → Instruction → InputRelocation → Type 0) (r : InputRelocation) → P 0 address_pair_words page_reference → (start : ℕ) (o : Instruction) (first : InputRelocation) → o ≡ address_pair_words → IsOfSequence words_static kept_item r start o first → P start o first
in_pair P r h start o first same q =
    let stands : IsInstruction words_static kept_item first start address_pair_words = subst (λ (p : Instruction). IsInstruction words_static kept_item first start p) same q.sequence.stands in
    let number : first.number ≡ r_aarch64_adr_prel_pg_hi21 = only_one r_aarch64_adr_prel_pg_hi21 first.number stands.number in
    let one = kept_first first q.sequence.index q.sequence.listed number in
    let offset : first.offset ≡ 0 = ap (λ (r : InputRelocation). r.offset) one in
    let at : 0 ≡ start = omega (arith, offset, stands.field) in
    subst (λ (f : InputRelocation). P start o f) (sym one) (subst (λ (p : Instruction). P start p page_reference) (sym same) (subst (λ (k : ℕ). P k address_pair_words page_reference) at h))

-- the relocation of the page belongs to the pair, and to its word alone; that of the low bits to the pair
pub kept_page_only : (P : ℕ → Instruction → InputRelocation → Type 0) → P 0 page_word page_reference → P 0 address_pair_words page_reference → (start : ℕ) (o : Instruction) (first : InputRelocation) → IsTemplate words_static kept_item page_reference start o first → P start o first
kept_page_only P h k start o first (inl t) =
    let same : o ≡ page_word = single_is (λ (p : Instruction). p ≡ page_word) words_static kept_item page_reference start o refl (refl, tt) t.0.single t.0.stands in
    let field : o.field ≡ 0 = ap (λ (p : Instruction). p.field) same in
    let at : 0 ≡ start = omega (arith, t.0.stands.field, field) in
    subst (λ (f : InputRelocation). P start o f) (sym t.1) (subst (λ (p : Instruction). P start p page_reference) (sym same) (subst (λ (n : ℕ). P n page_word page_reference) at h))
kept_page_only P h k start o first (inr q) = in_pair P page_reference k start o first (sequence_is (λ (p : Instruction). p ≡ address_pair_words) words_static kept_item page_reference start o first refl (refl, tt) q) q

pub kept_low_only : (P : ℕ → Instruction → InputRelocation → Type 0) → P 0 address_pair_words page_reference → (start : ℕ) (o : Instruction) (first : InputRelocation) → IsTemplate words_static kept_item low_reference start o first → P start o first
kept_low_only P k start o first (inl t) = absurd (t.0.free page_reference (low_reference ∷ []) 0 address_pair_words kept_sequence (0, omega arith, refl))
kept_low_only P k start o first (inr q) = in_pair P low_reference k start o first (sequence_is (λ (p : Instruction). p ≡ address_pair_words) words_static kept_item low_reference start o first refl (refl, tt) q) q

-- ---- the descriptor's call

past : (n offset k width : ℕ) (g f : Formula) → aarch64_formula n ≡ Some g → form_width g.form ≡ width → offset + width ≤ k → aarch64_formula n ≡ Some f → (k < offset) ⊎ (offset + form_width f.form ≤ k)
past n offset k width g f known wide h e =
    let one : Some g ≡ Some f = sym known ∙ e in
    let same : g ≡ f = cc in
    let there : form_width f.form ≡ width = sym (ap (λ (x : Formula). form_width x.form) same) ∙ wide in
    inr (omega (arith, there, h))

-- the bytes of the call itself are in no field
behind_fields : (k : ℕ) → 12 ≤ k → InNoField words_static descriptor_item k
behind_fields k h =
    All-from_recursion (λ (q : InputRelocation). (f : Formula) → aarch64_formula q.number ≡ Some f → (k < q.offset) ⊎ (q.offset + form_width f.form ≤ k)) (descriptor_page ∷ descriptor_load ∷ descriptor_low ∷ descriptor_call ∷ []) (
      (λ f e. past r_aarch64_tlsdesc_adr_page21 0 k 4 _ f descriptor_page_formula refl (omega (arith, h)) e),
      (
        (λ f e. past r_aarch64_tlsdesc_ld64_lo12 4 k 4 _ f descriptor_load_formula refl (omega (arith, h)) e),
        (
          (λ f e. past r_aarch64_tlsdesc_add_lo12 8 k 4 _ f descriptor_low_formula refl (omega (arith, h)) e),
          ((λ f e. past r_aarch64_tlsdesc_call 12 k 0 _ f descriptor_call_formula refl (omega (arith, h)) e), tt),
        ),
      ),
    )

of_call : (k : ℕ) → (k < 0) ⊎ (4 ≤ k) → (k < 4) ⊎ (8 ≤ k) → (k < 8) ⊎ (12 ≤ k) → 12 ≤ k
of_call k (inl a) b c = omega (arith, a)
of_call k (inr a) (inl b) c = omega (arith, a, b)
of_call k (inr a) (inr b) (inl c) = omega (arith, b, c)
of_call k (inr a) (inr b) (inr c) = c

descriptor_stands : IsInstruction words_static descriptor_item descriptor_page 0 descriptor_call_words
unfolding number read read_address read_access read_vector_access read_literal read_transfer read_condition
descriptor_stands = record {
  code = refl;
  known = (46, omega arith, refl);
  number = (0, omega arith, refl);
  field = refl;
  inside = omega arith;
  stands = refl;
  words = refl;
  counts = refl;
  alone = λ k h. subst (λ (j : ℕ). InNoField words_static descriptor_item j) (let e : k ≡ 0 + k = omega arith in e) (behind_fields k (of_call k h.beside h.apart.0 h.apart.1.0));
}

abbrev pub descriptor_rest : List InputRelocation
descriptor_rest = descriptor_load ∷ descriptor_low ∷ descriptor_call ∷ []

descriptor_sequence : IsSequence words_static descriptor_item descriptor_page descriptor_rest 0 descriptor_call_words
descriptor_sequence = record {
  stands = descriptor_stands;
  several = omega arith;
  index = 0;
  listed = refl;
  has = (
    record { listed = refl; field = refl; number = (0, omega arith, refl); names = (refl, refl) },
    (record { listed = refl; field = refl; number = (0, omega arith, refl); names = (refl, refl) }, (record { listed = refl; field = refl; number = (0, omega arith, refl); names = (refl, refl) }, tt)),
  );
  symbol = 1;
  named = refl;
  met = tt;
}

-- each of its relocations belongs to it
pub descriptor_template : (r : InputRelocation) → Contains (descriptor_page ∷ descriptor_rest) r → IsTemplate words_static descriptor_item r 0 descriptor_call_words descriptor_page
descriptor_template r c = inr (record { rest = descriptor_rest; sequence = descriptor_sequence; one = c })

-- the relocation of the load belongs to nothing else
first_is : (first : InputRelocation) (i : ℕ) → slice_get descriptor_item.relocations i ≡ Some first → first.number ≡ r_aarch64_tlsdesc_adr_page21 → first ≡ descriptor_page
first_is first zero a n = let one : Some descriptor_page ≡ Some first = a in cc
first_is first (suc zero) a n = absurd (let one : Some descriptor_load ≡ Some first = a in let same : descriptor_load ≡ first = cc in let other : r_aarch64_tlsdesc_ld64_lo12 ≡ r_aarch64_tlsdesc_adr_page21 = ap (λ (q : InputRelocation). q.number) same ∙ n in omega (arith, other))
first_is first (suc (suc zero)) a n = absurd (let one : Some descriptor_low ≡ Some first = a in let same : descriptor_low ≡ first = cc in let other : r_aarch64_tlsdesc_add_lo12 ≡ r_aarch64_tlsdesc_adr_page21 = ap (λ (q : InputRelocation). q.number) same ∙ n in omega (arith, other))
first_is first (suc (suc (suc zero))) a n = absurd (let one : Some descriptor_call ≡ Some first = a in let same : descriptor_call ≡ first = cc in let other : r_aarch64_tlsdesc_call ≡ r_aarch64_tlsdesc_adr_page21 = ap (λ (q : InputRelocation). q.number) same ∙ n in omega (arith, other))
first_is first (suc (suc (suc (suc i)))) a n = absurd (let none : None ≡ Some first = a in cc)

pub load_only : (P : ℕ → Instruction → InputRelocation → Type 0) → P 0 descriptor_call_words descriptor_page → (start : ℕ) (o : Instruction) (first : InputRelocation) → IsTemplate words_static descriptor_item descriptor_load start o first → P start o first
load_only P h start o first (inl t) = absurd (t.0.free descriptor_page descriptor_rest 0 descriptor_call_words descriptor_sequence (0, omega arith, refl))
load_only P h start o first (inr q) =
    let same : o ≡ descriptor_call_words = sequence_is (λ (p : Instruction). p ≡ descriptor_call_words) words_static descriptor_item descriptor_load start o first refl (refl, tt) q in
    let stands : IsInstruction words_static descriptor_item first start descriptor_call_words = subst (λ (p : Instruction). IsInstruction words_static descriptor_item first start p) same q.sequence.stands in
    let number : first.number ≡ r_aarch64_tlsdesc_adr_page21 = only_one r_aarch64_tlsdesc_adr_page21 first.number stands.number in
    let one = first_is first q.sequence.index q.sequence.listed number in
    let offset : first.offset ≡ 0 = ap (λ (r : InputRelocation). r.offset) one in
    let at : 0 ≡ start = omega (arith, offset, stands.field) in
    subst (λ (f : InputRelocation). P start o f) (sym one) (subst (λ (p : Instruction). P start p descriptor_page) (sym same) (subst (λ (k : ℕ). P k descriptor_call_words descriptor_page) at h))
