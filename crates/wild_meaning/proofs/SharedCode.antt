-- Code of the worked shared object that is given an offset where it asks for a descriptor is refused.
use Rattle.wild_meaning.proofs.Common.{◌≡◌, ℕ, ◌+◌, ◌-◌, ◌%◌, ◌^◌, inl, inr, true, false, List, [], ◌∷◌, refl, sym, ap, ◌∙◌, subst, arith, Option, Some, None, ◌==◌, if◌then◌else◌, option_map, cases_Bool, eqb-true, number, r_x86_64_gotpc32_tlsdesc, Descriptor, Memory, Holds, first_value, Number, Set, Reader, as_value, with_value, meaning_x86_64, effect_x86_64, IsKept, OfSection, InNoField, Instruction, Described, instructions_of, IsInstruction, IsTemplate, DoesDemanded, shared_layout, shared_world, shared_code}
use Rattle.wild_types.specs.declared.kind.Machine.TheVariants as machine
use Rattle.wild_loader.specs.CodeX86_64.{rex, with_slot}
use Rattle.wild_meaning.specs.Sequence.{of_field}
use Rattle.wild_meaning.specs.Template.{IsDescribed}
use Rattle.wild_meaning.specs.Worked.Shared.{code_item, shared_reference}
use Rattle.wild_meaning.specs.Worked.SharedRefusals.{WrongCodeOfLibraryIsRefused, offset_load}
use Rattle.wild_meaning.proofs.EffectLemmas.{meant}
use Rattle.wild_meaning.proofs.SlotPlaces.{slot_holds}
use Rattle.wild_meaning.proofs.Refused.{not_excepted, not_alone}
use Rattle.wild_meaning.proofs.AmongLemmas.{Among}
use Rattle.wild_meaning.proofs.OneReference.{beside, effect_with, value_in, ReadsNumbers, IsNotDone, fills, same_bytes, single_refused, template_there}
use Rattle.wild_meaning.proofs.SharedRefused.{thread_is, refers, descriptor_formula}

abbrev pub described : Instruction
described = of_field (with_slot 0x8d Number Set rex) 3 Described (r_x86_64_gotpc32_tlsdesc ∷ [])

code_kept : IsKept shared_layout code_item
code_kept = OfSection shared_code (record { input = record { group = _; grouped = (0, omega arith, refl); file = _; filed = (0, omega arith, refl); listed = (1, omega arith, refl) }; loaded = tt; room = refl; has_data = refl; written = λ p at h. (let off : false ≡ true = h.only.bare in cc) }) refl

described_stands : IsInstruction shared_layout code_item shared_reference 0 described
described_stands = record {
  code = refl;
  known = (22, omega arith, refl);
  number = (0, omega arith, refl);
  field = refl;
  inside = omega arith;
  stands = refl;
  words = refl;
  counts = refl;
  alone = λ k h. subst (λ (j : ℕ). InNoField shared_layout code_item j) (let e : k ≡ 0 + k = omega arith in e) (beside shared_layout code_item shared_reference _ k refl descriptor_formula refl h.beside);
}

pub described_template : IsTemplate shared_layout code_item shared_reference 0 described shared_reference
described_template = template_there shared_layout code_item shared_reference described refl refl refl refl described_stands

pub described_demanded : (v : ℕ) → effect_x86_64 (as_value v) 0x11080 (0x48 ∷ 0x8d ∷ 0x05 ∷ 0 ∷ 0 ∷ 0 ∷ 0 ∷ []) ≡ Some (effect_with (Set 0) 64 (v % 2 ^ 64))
unfolding meaning_x86_64
described_demanded v = refl

described_done : (read : Reader) → ReadsNumbers read → effect_x86_64 read 0x11080 offset_load ≡ Some (effect_with (Set 0) 64 (2 ^ 64 - 0x58))
unfolding meaning_x86_64 number
described_done read h = ap (λ (o : Option ℕ). option_map (with_value (record { deed = Set 0; width = 64; operand = Number (2 ^ 64 - 0x58) })) o) (h (2 ^ 64 - 0x58))

-- the one key of a list
one_key : (ps : List (ℕ × ℕ)) (key slot offset t : ℕ) → ps ≡ (slot, offset) ∷ [] → first_value ps key ≡ Some t → key ≡ slot
one_key ps key slot offset t e h = by key slot offset t (rw e at h)
  where
    by : (key slot offset t : ℕ) → (if slot == key then Some offset else None) ≡ Some t → key ≡ slot
    by key slot offset t h = elim (cases_Bool (slot == key)) [ inl x ↦ sym (eqb-true slot key x) | inr f ↦ absurd (let both : None ≡ Some t = rw f at h in cc) ]

-- in a library's code the descriptor's address is asked
descriptor_demanded : (m : Memory) (offset v : ℕ) → m.descriptors ≡ (0x12028, offset) ∷ [] → IsDescribed shared_layout shared_world m code_item shared_reference v → v ≡ 0x12028
descriptor_demanded m offset v noted (inl h) = absurd h.0.0
descriptor_demanded m offset v noted (inr h) =
    let slot = slot_holds Descriptor shared_layout shared_world m 2 h.1 h.2 in
    let at : h.1 ≡ 0x12028 = one_key m.descriptors h.1 0x12028 offset slot.0 noted slot.1 in
    omega (arith, at, h.3)

described_refused : (read : Reader) (m : Memory) (offset : ℕ) → ReadsNumbers read → Holds m 0x11080 offset_load → m.descriptors ≡ (0x12028, offset) ∷ [] → DoesDemanded read shared_layout shared_world m code_item shared_reference 0 described → ⊥
described_refused read m offset numbers held noted d =
    let h = meant read shared_layout shared_world m code_item shared_reference 0 described d in
    let bytes : h.bytes ≡ offset_load = same_bytes m 0x11080 h.bytes offset_load h.whole h.held held in
    let done : Some (effect_with (Set 0) 64 (2 ^ 64 - 0x58)) ≡ Some h.effect = sym (described_done read numbers) ∙ subst (λ (bs : List ℕ). effect_x86_64 read 0x11080 bs ≡ Some h.effect) bytes h.does in
    let demanded : Some (effect_with (Set 0) 64 (h.value % 2 ^ 64)) ≡ Some h.effect = sym (described_demanded h.value) ∙ h.demanded in
    let same : 2 ^ 64 - 0x58 ≡ h.value % 2 ^ 64 = value_in (Set 0) 64 (2 ^ 64 - 0x58) h.effect done ∙ sym (value_in (Set 0) 64 (h.value % 2 ^ 64) h.effect demanded) in
    let address : h.value ≡ 0x12028 = descriptor_demanded m offset h.value noted h.demands in
    omega (arith, same, address)

no_described : (m : Memory) (offset : ℕ) (read : Reader) → ReadsNumbers read → Holds m 0x11080 offset_load → m.descriptors ≡ (0x12028, offset) ∷ [] → Among (fills shared_reference.number) (IsNotDone read shared_layout shared_world m code_item shared_reference) (instructions_of machine.X86_64)
no_described m offset read numbers held noted = ((λ start f s d. let at : start ≡ 0 = omega (arith, f) in described_refused read m offset numbers held noted (subst (λ (k : ℕ). DoesDemanded read shared_layout shared_world m code_item shared_reference k described) at d)), tt)

pub wrong_code : WrongCodeOfLibraryIsRefused
wrong_code image h x =
    single_refused shared_layout shared_world h.memory code_item shared_reference described refl refl described_template (λ read numbers. no_described h.memory x.offset read numbers x.there x.noted)
    ((h.kept code_item code_kept).references shared_reference (record { listed = (0, omega arith, refl); refers = refers r_x86_64_gotpc32_tlsdesc (omega arith) }) (λ left. (let off : false ≡ true = left.0 in cc)) (λ e. absurd (not_excepted shared_layout code_item shared_reference 2 thread_is.symbol refl thread_is.is thread_is.moves e)) (λ e. not_alone shared_layout code_item shared_reference _ 2 thread_is.symbol descriptor_formula refl thread_is.is (λ o. absurd (let both : true ≡ false = sym o ∙ thread_is.own in cc)) e))
