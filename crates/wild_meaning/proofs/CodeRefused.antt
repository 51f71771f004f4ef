-- Wrong code of the worked program without a dynamic linker is refused.
use Rattle.wild_meaning.proofs.Common.{◌≡◌, ℕ, ◌+◌, ◌-◌, ◌%◌, ◌^◌, inl, inr, true, false, List, [], ◌∷◌, refl, sym, ap, ◌∙◌, subst, arith, Option, Some, slice_range, option_map, number, r_x86_64_gotpc32_tlsdesc, Formula, formula, StubDistance, SlotDistance, AddressSlot, ThreadOffset, Descriptor, Plain, Signed, x86_64_formula, Symbol, has_flag, Memory, Holds, Number, Word, Deed, Set, Call, Jump, Reader, matches_cells, as_value, with_value, meaning_x86_64, effect_x86_64, IsKept, OfSection, InNoField, Gives, HasSlotAddress, ReadsOffsetSlots, ReferenceHolds, Instruction, Target, Described, size_of, instructions_of, IsInstruction, IsTemplate, DoesDemanded, Refuses, static_pie, static_pie_world, branch_code, load_code, described_code, thread_symbol, MemoryHas}
use Rattle.wild_records.specs.Abi.Relocation.{r_x86_64_plt32, r_x86_64_pc32, r_x86_64_rex_gotpcrelx}
use Rattle.wild_types.specs.declared.kind.Machine.TheVariants as machine
use Rattle.wild_loader.specs.declared.instruction.Deed.TheVariants.{Add, Subtract, Compare}
use Rattle.wild_loader.specs.CodeX86_64.{rex, with_slot, branch}
use Rattle.wild_meaning.specs.Slot.{has_slot_of, HasSlot}
use Rattle.wild_meaning.specs.Reference.{IsOffsetSlot}
use Rattle.wild_meaning.specs.Sequence.{AddressInSlot, of_field}
use Rattle.wild_meaning.specs.Template.{IsDescribed}
use Rattle.wild_meaning.specs.Worked.Static.{branch_item, branch_reference, load_item, load_reference, described_item, described_reference}
use Rattle.wild_meaning.specs.Worked.StaticRefusals.{another_branch, load_one_byte_off, descriptor_load, load_of_data}
use Rattle.wild_meaning.proofs.SymbolUnique.{denoted, defining_symbol_is}
use Rattle.wild_meaning.proofs.EffectLemmas.{meant}
use Rattle.wild_meaning.proofs.AmongLemmas.{Among}
use Rattle.wild_meaning.proofs.OneReference.{beside, effect_with, value_in, ReadsNumbers, IsNotDone, fills, same_bytes, single_only, single_refused, template_there}
use Rattle.wild_meaning.proofs.StaticRefused.{first_is, thread_is, thread_offset, holds_there, no_string}
use Rattle.wild_meaning.proofs.SymbolLemmas.{referent_stands, in_slot_denotes}
use Rattle.wild_meaning.proofs.StringLemmas.{branch_stands}

-- ---- formulas

pub plt_formula : x86_64_formula r_x86_64_plt32 ≡ Some (formula StubDistance (Plain 32 Signed))
unfolding x86_64_formula
plt_formula = refl

pub load_formula : x86_64_formula r_x86_64_rex_gotpcrelx ≡ Some (formula (SlotDistance AddressSlot) (Plain 32 Signed))
unfolding x86_64_formula
load_formula = refl

-- ---- a branch

abbrev pub call : Instruction
call = of_field (branch (0xe8 ∷ []) Number Call) 1 Target (r_x86_64_pc32 ∷ r_x86_64_plt32 ∷ [])

branch_kept : IsKept static_pie branch_item
branch_kept = OfSection branch_code (record { input = record { group = _; grouped = (0, omega arith, refl); file = _; filed = (0, omega arith, refl); listed = (0, omega arith, refl) }; loaded = tt; room = refl; has_data = refl; written = λ p at h. (let off : false ≡ true = h.only.bare in cc) }) refl

call_stands : IsInstruction static_pie branch_item branch_reference 0 call
call_stands = record {
  code = refl;
  known = (0, omega arith, refl);
  number = (1, omega arith, refl);
  field = refl;
  inside = omega arith;
  stands = refl;
  words = refl;
  counts = tt;
  alone = λ k h. subst (λ (j : ℕ). InNoField static_pie branch_item j) (let e : k ≡ 0 + k = omega arith in e) (beside static_pie branch_item branch_reference _ k refl plt_formula refl h.beside);
}

pub call_template : IsTemplate static_pie branch_item branch_reference 0 call branch_reference
call_template = template_there static_pie branch_item branch_reference call refl refl refl refl call_stands

pub call_demanded : (v : ℕ) → effect_x86_64 (as_value v) 0x41000 (0xe8 ∷ 0 ∷ 0 ∷ 0 ∷ 0 ∷ []) ≡ Some (record { deed = Call; width = 64; value = v % 2 ^ 64 })
unfolding meaning_x86_64
call_demanded v = refl

call_done : (read : Reader) → ReadsNumbers read → effect_x86_64 read 0x41000 another_branch ≡ Some (record { deed = Call; width = 64; value = 0x41210 })
unfolding meaning_x86_64 number
call_done read h = ap (λ (o : Option ℕ). option_map (with_value (record { deed = Call; width = 64; operand = Number 0x41210 })) o) (h 0x41210)

call_refused : (read : Reader) (m : Memory) → ReadsNumbers read → Holds m 0x41000 another_branch → DoesDemanded read static_pie static_pie_world m branch_item branch_reference 0 call → ⊥
call_refused read m numbers held d =
    let h = meant read static_pie static_pie_world m branch_item branch_reference 0 call d in
    let bytes : h.bytes ≡ another_branch = same_bytes m 0x41000 h.bytes another_branch h.whole h.held held in
    let done : Some (record { deed = Call; width = 64; value = 0x41210 }) ≡ Some h.effect = sym (call_done read numbers) ∙ subst (λ (bs : List ℕ). effect_x86_64 read 0x41000 bs ≡ Some h.effect) bytes h.does in
    let demanded : Some (record { deed = Call; width = 64; value = h.value % 2 ^ 64 }) ≡ Some h.effect = sym (call_demanded h.value) ∙ h.demanded in
    let same : 0x41210 ≡ h.value % 2 ^ 64 = value_in Call 64 0x41210 h.effect done ∙ sym (value_in Call 64 (h.value % 2 ^ 64) h.effect demanded) in
    let goal : h.demands.goal ≡ 0x41200 = denoted static_pie static_pie_world m 0 0x1200 h.demands.goal first_is (referent_stands StubDistance static_pie static_pie_world m branch_item branch_reference h.demands.goal refl (no_string StubDistance branch_reference) (branch_stands static_pie static_pie_world m branch_item branch_reference h.demands.goal (λ g. no_string g.formula.value branch_reference g.takes) h.demands.stands)) in
    omega (arith, same, goal, h.demands.is)

no_call : (m : Memory) (read : Reader) → ReadsNumbers read → Holds m 0x41000 another_branch → Among (fills branch_reference.number) (IsNotDone read static_pie static_pie_world m branch_item branch_reference) (instructions_of machine.X86_64)
no_call m read numbers held = (
  (λ start f s d. let at : start ≡ 0 = omega (arith, f) in call_refused read m numbers held (subst (λ (k : ℕ). DoesDemanded read static_pie static_pie_world m branch_item branch_reference k call) at d)),
  ((λ start f s d. let at : start ≡ 0 = omega (arith, f) in let none : false ≡ true = subst (λ (k : ℕ). matches_cells (branch (0xe9 ∷ []) Number Jump).cells (slice_range branch_item.bytes k (k + 5)) ≡ true) at s in absurd (cc)), tt),
)

pub wrong_branch : Refuses static_pie static_pie_world (MemoryHas 0x41000 another_branch)
wrong_branch image h x =
    single_refused static_pie static_pie_world h.memory branch_item branch_reference call refl refl call_template (λ read numbers. no_call h.memory read numbers x)
    (holds_there h.memory branch_item branch_reference _ 0 0x1200 (h.kept branch_item branch_kept) (0, omega arith, refl) (omega arith) plt_formula refl first_is)

-- ---- a load from a slot

abbrev of_slot : ℕ → (ℕ → Deed) → Instruction
of_slot opcode deed = of_field (with_slot opcode Word deed rex) 3 AddressInSlot (r_x86_64_rex_gotpcrelx ∷ [])

abbrev pub load : Instruction
load = of_slot 0x8b Set

load_kept : IsKept static_pie load_item
load_kept = OfSection load_code (record { input = record { group = _; grouped = (0, omega arith, refl); file = _; filed = (0, omega arith, refl); listed = (1, omega arith, refl) }; loaded = tt; room = refl; has_data = refl; written = λ p at h. (let off : false ≡ true = h.only.bare in cc) }) refl

load_stands : IsInstruction static_pie load_item load_reference 0 load
load_stands = record {
  code = refl;
  known = (8, omega arith, refl);
  number = (0, omega arith, refl);
  field = refl;
  inside = omega arith;
  stands = refl;
  words = refl;
  counts = refl;
  alone = λ k h. subst (λ (j : ℕ). InNoField static_pie load_item j) (let e : k ≡ 0 + k = omega arith in e) (beside static_pie load_item load_reference _ k refl load_formula refl h.beside);
}

pub load_template : IsTemplate static_pie load_item load_reference 0 load load_reference
load_template = template_there static_pie load_item load_reference load refl refl refl refl load_stands

pub load_demanded : (v : ℕ) → effect_x86_64 (as_value v) 0x41010 (0x48 ∷ 0x8b ∷ 0x05 ∷ 0 ∷ 0 ∷ 0 ∷ 0 ∷ []) ≡ Some (effect_with (Set 0) 64 (v % 2 ^ 64))
unfolding meaning_x86_64
load_demanded v = refl

load_done : (read : Reader) → ReadsNumbers read → effect_x86_64 read 0x41010 load_one_byte_off ≡ Some (effect_with (Set 0) 64 0x41201)
unfolding meaning_x86_64 number
load_done read h = ap (λ (o : Option ℕ). option_map (with_value (record { deed = Set 0; width = 64; operand = Number 0x41201 })) o) (h 0x41201)

load_refused : (read : Reader) (m : Memory) → ReadsNumbers read → Holds m 0x41010 load_one_byte_off → DoesDemanded read static_pie static_pie_world m load_item load_reference 0 load → ⊥
load_refused read m numbers held d =
    let h = meant read static_pie static_pie_world m load_item load_reference 0 load d in
    let bytes : h.bytes ≡ load_one_byte_off = same_bytes m 0x41010 h.bytes load_one_byte_off h.whole h.held held in
    let done : Some (effect_with (Set 0) 64 0x41201) ≡ Some h.effect = sym (load_done read numbers) ∙ subst (λ (bs : List ℕ). effect_x86_64 read 0x41010 bs ≡ Some h.effect) bytes h.does in
    let demanded : Some (effect_with (Set 0) 64 (h.value % 2 ^ 64)) ≡ Some h.effect = sym (load_demanded h.value) ∙ h.demanded in
    let same : 0x41201 ≡ h.value % 2 ^ 64 = value_in (Set 0) 64 0x41201 h.effect done ∙ sym (value_in (Set 0) 64 (h.value % 2 ^ 64) h.effect demanded) in
    let goal : h.value ≡ 0x41200 = denoted static_pie static_pie_world m 0 0x1200 h.value first_is (in_slot_denotes static_pie static_pie_world m 0 h.value h.demands) in
    omega (arith, same, goal)

-- another opcode does not stand there
no_opcode : (start : ℕ) (o : Instruction) → start ≡ 0 → matches_cells o.template.cells (slice_range load_item.bytes 0 (0 + size_of o)) ≡ false → matches_cells o.template.cells (slice_range load_item.bytes start (start + size_of o)) ≡ true → ⊥
no_opcode start o at never s =
    let there : matches_cells o.template.cells (slice_range load_item.bytes 0 (0 + size_of o)) ≡ true = subst (λ (k : ℕ). matches_cells o.template.cells (slice_range load_item.bytes k (k + size_of o)) ≡ true) at s in
    let none : false ≡ true = sym never ∙ there in
    cc

no_load : (m : Memory) (read : Reader) → ReadsNumbers read → Holds m 0x41010 load_one_byte_off → Among (fills load_reference.number) (IsNotDone read static_pie static_pie_world m load_item load_reference) (instructions_of machine.X86_64)
no_load m read numbers held = (
  (λ start f s d. let at : start ≡ 0 = omega (arith, f) in load_refused read m numbers held (subst (λ (k : ℕ). DoesDemanded read static_pie static_pie_world m load_item load_reference k load) at d)),
  (
    (λ start f s d. no_opcode start (of_slot 0x03 Add) (omega (arith, f)) refl s),
    ((λ start f s d. no_opcode start (of_slot 0x2b Subtract) (omega (arith, f)) refl s), ((λ start f s d. no_opcode start (of_slot 0x3b Compare) (omega (arith, f)) refl s), tt)),
  ),
)

pub wrong_load : Refuses static_pie static_pie_world (MemoryHas 0x41010 load_one_byte_off)
wrong_load image h x =
    single_refused static_pie static_pie_world h.memory load_item load_reference load refl refl load_template (λ read numbers. no_load h.memory read numbers x)
    (holds_there h.memory load_item load_reference _ 0 0x1200 (h.kept load_item load_kept) (0, omega arith, refl) (omega arith) load_formula refl first_is)

-- ---- a descriptor

pub descriptor_formula : x86_64_formula r_x86_64_gotpc32_tlsdesc ≡ Some (formula (SlotDistance Descriptor) (Plain 32 Signed))
unfolding x86_64_formula
descriptor_formula = refl

abbrev pub described : Instruction
described = of_field (with_slot 0x8d Number Set rex) 3 Described (r_x86_64_gotpc32_tlsdesc ∷ [])

described_kept : IsKept static_pie described_item
described_kept = OfSection described_code (record { input = record { group = _; grouped = (0, omega arith, refl); file = _; filed = (0, omega arith, refl); listed = (3, omega arith, refl) }; loaded = tt; room = refl; has_data = refl; written = λ p at h. (let off : false ≡ true = h.only.bare in cc) }) refl

described_stands : IsInstruction static_pie described_item described_reference 0 described
described_stands = record {
  code = refl;
  known = (22, omega arith, refl);
  number = (0, omega arith, refl);
  field = refl;
  inside = omega arith;
  stands = refl;
  words = refl;
  counts = refl;
  alone = λ k h. subst (λ (j : ℕ). InNoField static_pie described_item j) (let e : k ≡ 0 + k = omega arith in e) (beside static_pie described_item described_reference _ k refl descriptor_formula refl h.beside);
}

pub described_template : IsTemplate static_pie described_item described_reference 0 described described_reference
described_template = template_there static_pie described_item described_reference described refl refl refl refl described_stands

pub described_demanded : (v : ℕ) → effect_x86_64 (as_value v) 0x41040 (0x48 ∷ 0x8d ∷ 0x05 ∷ 0 ∷ 0 ∷ 0 ∷ 0 ∷ []) ≡ Some (effect_with (Set 0) 64 (v % 2 ^ 64))
unfolding meaning_x86_64
described_demanded v = refl

described_done : (read : Reader) → ReadsNumbers read → effect_x86_64 read 0x41040 descriptor_load ≡ Some (effect_with (Set 0) 64 0x42018)
unfolding meaning_x86_64 number
described_done read h = ap (λ (o : Option ℕ). option_map (with_value (record { deed = Set 0; width = 64; operand = Number 0x42018 })) o) (h 0x42018)

-- in the program's code the offset itself is asked
offset_demanded : (m : Memory) (v : ℕ) → IsDescribed static_pie static_pie_world m described_item described_reference v → v ≡ 2 ^ 64 - 8
offset_demanded m v (inl h) = thread_offset v h.1
offset_demanded m v (inr h) = absurd (h.0 (tt, refl))

described_refused : (read : Reader) (m : Memory) → ReadsNumbers read → Holds m 0x41040 descriptor_load → DoesDemanded read static_pie static_pie_world m described_item described_reference 0 described → ⊥
described_refused read m numbers held d =
    let h = meant read static_pie static_pie_world m described_item described_reference 0 described d in
    let bytes : h.bytes ≡ descriptor_load = same_bytes m 0x41040 h.bytes descriptor_load h.whole h.held held in
    let done : Some (effect_with (Set 0) 64 0x42018) ≡ Some h.effect = sym (described_done read numbers) ∙ subst (λ (bs : List ℕ). effect_x86_64 read 0x41040 bs ≡ Some h.effect) bytes h.does in
    let demanded : Some (effect_with (Set 0) 64 (h.value % 2 ^ 64)) ≡ Some h.effect = sym (described_demanded h.value) ∙ h.demanded in
    let same : 0x42018 ≡ h.value % 2 ^ 64 = value_in (Set 0) 64 0x42018 h.effect done ∙ sym (value_in (Set 0) 64 (h.value % 2 ^ 64) h.effect demanded) in
    let offset : h.value ≡ 2 ^ 64 - 8 = offset_demanded m h.value h.demands in
    omega (arith, same, offset)

no_described : (m : Memory) (read : Reader) → ReadsNumbers read → Holds m 0x41040 descriptor_load → Among (fills described_reference.number) (IsNotDone read static_pie static_pie_world m described_item described_reference) (instructions_of machine.X86_64)
no_described m read numbers held = ((λ start f s d. let at : start ≡ 0 = omega (arith, f) in described_refused read m numbers held (subst (λ (k : ℕ). DoesDemanded read static_pie static_pie_world m described_item described_reference k described) at d)), tt)

pub wrong_descriptor : Refuses static_pie static_pie_world (MemoryHas 0x41040 descriptor_load)
wrong_descriptor image h x =
    single_refused static_pie static_pie_world h.memory described_item described_reference described refl refl described_template (λ read numbers. no_described h.memory read numbers x)
    (holds_there h.memory described_item described_reference _ 2 0x3008 (h.kept described_item described_kept) (0, omega arith, refl) (omega arith) descriptor_formula refl thread_is)

-- ---- a word of the program

data_means : meaning_x86_64 0x41040 load_of_data ≡ Some (record { deed = Set 0; width = 64; operand = Word 0x41108 })
unfolding meaning_x86_64 number
data_means = refl

-- no slot of the symbol's offset was decided
no_offset_slot : (i p : ℕ) → i ≡ 2 → HasSlot ThreadOffset static_pie i p → ⊥
unfolding has_flag
no_offset_slot i p e h =
    let there : HasSlotAddress ThreadOffset static_pie 2 p = subst (λ (k : ℕ). HasSlotAddress ThreadOffset static_pie k p) e h in
    let same : there.symbol ≡ thread_symbol = defining_symbol_is static_pie 2 there.definition there.symbol thread_symbol refl there.defined there.listed in
    let both : true ≡ false = sym there.flagged ∙ ap (λ (s : Symbol). has_slot_of ThreadOffset s.flags) same in
    cc

-- so the code may read no word, nor does its field name a descriptor
data_refused : (m : Memory) → Holds m 0x41040 load_of_data → ReferenceHolds static_pie static_pie_world m described_item described_reference → ⊥
data_refused m held (inl h) = by h.formula h.known h.value h.gives
  where
    by : (f : Formula) → x86_64_formula r_x86_64_gotpc32_tlsdesc ≡ Some f → (x : ℕ) → Gives f.value static_pie static_pie_world m described_item described_reference x → ⊥
    by f known x gives =
        let both : Some f ≡ Some (formula (SlotDistance Descriptor) (Plain 32 Signed)) = sym known ∙ descriptor_formula in
        let same : f ≡ formula (SlotDistance Descriptor) (Plain 32 Signed) = cc in
        let given = subst (λ (k : Formula). Gives k.value static_pie static_pie_world m described_item described_reference x) same gives in
        given.2 (tt, refl)
data_refused m held (inr h) =
    let own =
    single_only (λ start o first. ReadsOffsetSlots machine.X86_64 static_pie static_pie_world m described_item first start o → IsOffsetSlot static_pie static_pie_world (Some 2) 0x41108) static_pie described_item described_reference h.start h.instruction h.first refl refl
    ((λ start f s each. let at : start ≡ 0 = omega (arith, f) in subst (λ (k : ℕ). ReadsOffsetSlots machine.X86_64 static_pie static_pie_world m described_item described_reference k described) at each load_of_data (record { deed = Set 0; width = 64; operand = Word 0x41108 }) 0x41108 refl held data_means refl), tt)
    h.template h.words in
    let both : Some 2 ≡ Some own.index = own.named in
    let same : own.index ≡ 2 = cc in
    no_offset_slot own.index own.slot same own.given

pub wrong_data_load : Refuses static_pie static_pie_world (MemoryHas 0x41040 load_of_data)
wrong_data_load image h x = data_refused h.memory x (holds_there h.memory described_item described_reference _ 2 0x3008 (h.kept described_item described_kept) (0, omega arith, refl) (omega arith) descriptor_formula refl thread_is)
