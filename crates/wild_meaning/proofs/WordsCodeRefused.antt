-- Wrong code of the worked program of AArch64 is refused.
use Rattle.wild_meaning.proofs.Common.{◌≡◌, ℕ, ◌+◌, ◌%◌, ◌/◌, ◌^◌, inl, inr, true, false, List, [], ◌∷◌, length, refl, sym, ap, ◌∙◌, subst, arith, ◌-◌, Option, Some, None, option_map, w64, cast_unsigned, word, number, Slot, Formula, formula, SlotAddress, AddressSlot, ModulePair, OwnModulePair, ThreadOffset, Descriptor, StubDistance, PageDistance, Imm12Field, NoCheck, Bits, r_aarch64_ld64_got_lo12_nc, aarch64_formula, Resolution, Symbol, has_flag, InputRelocation, insert_bits, read, read_address, read_access, read_vector_access, read_literal, read_transfer, read_condition, Memory, Holds, Number, Word, Call, Jump, Set, Reader, with_value, step, Action, jumps, thunks-read, Item, IsKept, OfSection, HasSlotAddress, IsSlot, IsReferent, IsReferentOnAArch64, Gives, Instruction, descriptor_call_words, address_pair_words, IsTemplate, old_bytes, reads, reads_without_calls, DoesDemanded, ReadsOffsetSlots, ReferenceHolds, ItemHolds, Refuses, words_static, words_world, near_function, local_data, slot_code, slot_item, slot_low_reference, call_code, call_item, call_reference, past_code, past_item, past_reference, descriptor_code, descriptor_item, descriptor_page, descriptor_load, kept_code, kept_item, page_reference, low_reference, MemoryHas}
use Rattle.wild_records.specs.Abi.Relocation.{r_aarch64_tlsdesc_ld64_lo12}
use Rattle.wild_loader.specs.declared.memory.Machine.TheVariants as processors
use Rattle.wild_loader.specs.declared.instruction.Deed.TheVariants.{Load}
use Rattle.wild_loader.specs.InstructionAArch64.{meaning_aarch64, effect_aarch64, demand_aarch64}
use Rattle.wild_meaning.specs.Jump.{GoesTo}
use Rattle.wild_types.specs.FileThunks.{thunk_size}
use Rattle.wild_loader.proofs.HeldBytes.{held-rest}
use Rattle.wild_meaning.specs.Item.{IsReference}
use Rattle.wild_meaning.specs.Slot.{offset_from_first, HasSlot}
use Rattle.wild_meaning.specs.WordsAArch64.{effect_with as asked_of}
use Rattle.wild_meaning.specs.Template.{IsFieldBits, bits_of}
use Rattle.wild_meaning.specs.Reference.{IsOffsetSlot}
use Rattle.wild_meaning.specs.Worked.ImageRefusalsAArch64.{HasBoth, slot_behind, call_of_thunk, far_thunk, stored_thunk, next_call_of_thunk, right_thunk, half_call, low_half, load_of_word, address_past, WrongCodeOfWordsIsRefused}
use Rattle.wild_meaning.proofs.SymbolUnique.{denoted, value_of, defining_symbol_is, own_offset, somewhere, IsPlainOwn}
use Rattle.wild_meaning.proofs.EffectLemmas.{meant}
use Rattle.wild_meaning.proofs.OneReference.{effect_with, value_in, ReadsNumbers, same_bytes}
use Rattle.wild_meaning.proofs.InstructionsAArch64.{alone_only}
use Rattle.wild_meaning.proofs.WordsLinked.{own_alone, slot_low_asked, call_demanded, past_demanded}
use Rattle.wild_meaning.proofs.WordsRefused.{goes_there}
use Rattle.wild_meaning.proofs.WordsTemplates.{function_is, data_is, no_string, not_absent, slot_low_formula, slot_low_word, call_word, slot_low_alone, call_alone, slot_low_template, call_template, past_template, descriptor_load_formula, descriptor_template, load_only, kept_low_template, kept_low_only}
use Rattle.wild_meaning.proofs.StringLemmas.{referent_by, branch_stands}
use Rattle.wild_types.specs.declared.kind.Machine.TheVariants as machine

-- a reference of an own symbol, which is asked at its one base
holds_there : (m : Memory) (item : Item) (r : InputRelocation) (i raw : ℕ) → ItemHolds words_static words_world m item → IsReference item r → r.symbol ≡ Some i → IsPlainOwn words_static i raw → ReferenceHolds words_static words_world m item r
holds_there m item r i raw h listed named p = h.references r listed (λ left. (let off : false ≡ true = left.0 in cc)) (λ e. refl) (own_alone item r i raw named p)

-- in both forms the instruction that it belongs to does what it demands
abbrev NoneDoes : Memory → Item → InputRelocation → Type 0
NoneDoes m item r = (read : Reader) → ReadsNumbers read → (from : ℕ) (p : Instruction) (first : InputRelocation) → IsTemplate words_static item r from p first → DoesDemanded read words_static words_world m item first from p → ⊥

refused : (m : Memory) (item : Item) (r : InputRelocation) (start : ℕ) (o : Instruction) (first : InputRelocation) → IsTemplate words_static item r start o first → NoneDoes m item r → ReferenceHolds words_static words_world m item r → ⊥
refused m item r start o first t none (inl h) = none (reads words_world m) (λ n. refl) start o first t (h.does start o first t)
refused m item r start o first t none (inr h) = none (reads_without_calls words_world m) (λ n. refl) h.start h.instruction h.first h.template h.does

-- ---- a load from another slot

slot_kept : IsKept words_static slot_item
slot_kept = OfSection slot_code (record { input = record { group = _; grouped = (0, omega arith, refl); file = _; filed = (0, omega arith, refl); listed = (1, omega arith, refl) }; loaded = tt; room = refl; has_data = refl; written = λ p at h. (let off : false ≡ true = h.only.bare in cc) }) refl

-- the slot is the symbol's
slot_place : (s : Symbol) (d : Resolution) (slot first : ℕ) → s ≡ near_function → s.resolution ≡ Some d → d.got_address ≡ Some first → slot ≡ first + offset_from_first AddressSlot s.flags → slot ≡ 0x11080
unfolding has_flag
slot_place s d slot first e decided got place =
    let there : near_function.resolution ≡ Some d = subst (λ (q : Symbol). q.resolution ≡ Some d) e decided in
    let known : Some (Some 0x11080) ≡ Some d.got_address = ap (λ (o : Option Resolution). option_map (λ (r : Resolution). r.got_address) o) there in
    let one : Some 0x11080 ≡ d.got_address = cc in
    let both : Some 0x11080 ≡ Some first = one ∙ got in
    let same : 0x11080 ≡ first = cc in
    let behind : slot ≡ first + 0 = subst (λ (q : Symbol). slot ≡ first + offset_from_first AddressSlot q.flags) e place in
    omega (arith, same, behind)

slot_is : (m : Memory) (g : ℕ) → IsSlot AddressSlot words_static words_world m (Some 0) g → g ≡ 0x11080
slot_is m g h =
    let symbol = defining_symbol_is words_static 0 h.given.definition h.given.symbol near_function refl h.given.defined h.given.listed in
    let place : h.slot ≡ 0x11080 = slot_place h.given.symbol h.given.resolution h.slot h.given.first symbol h.given.decided h.given.given h.given.place in
    h.moves ∙ ap (λ (n : ℕ). (0 + n) % 2 ^ 64) place

abbrev low_behind : List ℕ
low_behind = 0 ∷ 0x44 ∷ 0x40 ∷ 0xf9 ∷ []

slot_low_done : (read : Reader) → ReadsNumbers read → effect_aarch64 read 0x11014 low_behind ≡ Some (effect_with (Load 0 0) 64 0x88)
unfolding word number read read_address read_access read_vector_access read_literal read_transfer read_condition
slot_low_done reader h = ap (λ (o : Option ℕ). option_map (with_value (record { deed = Load 0 0; width = 64; operand = Number 0x88 })) o) (h 0x88)

slot_low_bits : (m : Memory) (v : ℕ) → IsFieldBits words_static words_world m slot_item slot_low_reference v → v ≡ 0x10
slot_low_bits m v h = by h.formula h.known h.value h.gives h.bits
  where
    by : (f : Formula) → aarch64_formula r_aarch64_ld64_got_lo12_nc ≡ Some f → (x : ℕ) → Gives f.value words_static words_world m slot_item slot_low_reference x → v ≡ bits_of f.form x → v ≡ 0x10
    by f known x gives bits =
        let both : Some f ≡ Some (formula (SlotAddress AddressSlot) (Bits Imm12Field 11 3 NoCheck 8)) = sym known ∙ slot_low_formula in
        let same : f ≡ formula (SlotAddress AddressSlot) (Bits Imm12Field 11 3 NoCheck 8) = cc in
        let given = subst (λ (k : Formula). Gives k.value words_static words_world m slot_item slot_low_reference x) same gives in
        let there : v ≡ x / 2 ^ 3 % 2 ^ 9 = subst (λ (k : Formula). v ≡ bits_of k.form x) same bits in
        let slot = slot_is m given.0 given.1.0 in
        let value : x ≡ 0x11080 = given.2 ∙ ap (λ (n : ℕ). n % 2 ^ 64) slot in
        there ∙ ap (λ (n : ℕ). n / 2 ^ 3 % 2 ^ 9) value

slot_low_does_not : (m : Memory) (read : Reader) → ReadsNumbers read → Holds m 0x11014 low_behind → DoesDemanded read words_static words_world m slot_item slot_low_reference 4 slot_low_word → ⊥
slot_low_does_not m read numbers held d =
    let h = meant read words_static words_world m slot_item slot_low_reference 4 slot_low_word d in
    let bytes : h.bytes ≡ low_behind = same_bytes m 0x11014 h.bytes low_behind h.whole h.held held in
    let done : Some (effect_with (Load 0 0) 64 0x88) ≡ Some h.effect = sym (slot_low_done read numbers) ∙ subst (λ (bs : List ℕ). effect_aarch64 read 0x11014 bs ≡ Some h.effect) bytes h.does in
    let value : h.value ≡ 0x10 = slot_low_bits m h.value h.demands in
    let there : asked_of 0x10 0x11014 (old_bytes slot_item 4 slot_low_word) ≡ Some h.effect = subst (λ (v : ℕ). asked_of v 0x11014 (old_bytes slot_item 4 slot_low_word) ≡ Some h.effect) value h.demanded in
    let asked : Some (effect_with (Load 0 0) 64 0x80) ≡ Some h.effect = sym slot_low_asked ∙ there in
    let same : 0x88 ≡ 0x80 = value_in (Load 0 0) 64 0x88 h.effect done ∙ sym (value_in (Load 0 0) 64 0x80 h.effect asked) in
    omega (arith, same)

-- the last four of eight bytes
last_four : (m : Memory) → Holds m 0x11010 slot_behind → Holds m 0x11014 low_behind
last_four m h = held-rest m 0x11013 0x90 low_behind (held-rest m 0x11012 0 (0x90 ∷ low_behind) (held-rest m 0x11011 0 (0 ∷ 0x90 ∷ low_behind) (held-rest m 0x11010 0 (0 ∷ 0 ∷ 0x90 ∷ low_behind) h)))

wrong_slot : Refuses words_static words_world (MemoryHas 0x11010 slot_behind)
wrong_slot image h x =
    refused h.memory slot_item slot_low_reference 4 slot_low_word slot_low_reference slot_low_template
    (λ read numbers. alone_only (λ start o first. DoesDemanded read words_static words_world h.memory slot_item first start o → ⊥) words_static slot_item slot_low_reference slot_low_word refl slot_low_alone (slot_low_does_not h.memory read numbers (last_four h.memory x)))
    (holds_there h.memory slot_item slot_low_reference 0 0x11200 (h.kept slot_item slot_kept) (record { listed = (1, omega arith, refl); refers = λ e. omega arith }) refl function_is)

-- ---- branches by a thunk

-- where a branch to the function goes that goes by a thunk
goes_by : (m : Memory) (item : Item) (r : InputRelocation) (goal : ℕ) → r.symbol ≡ Some 0 → IsReferent words_static.machine StubDistance words_static words_world m item r goal → GoesTo words_static m ((goal + cast_unsigned w64 r.addend) % 2 ^ 64) ((0x11200 + cast_unsigned w64 r.addend) % 2 ^ 64)
goes_by m item r goal named h = by (subst (λ (o : Option ℕ). IsReferentOnAArch64 StubDistance words_static words_world m item r o goal) named (referent_by machine.AArch64 StubDistance words_static words_world m item r goal (no_string StubDistance r) h))
  where
    by : IsReferentOnAArch64 StubDistance words_static words_world m item r (Some 0) goal → GoesTo words_static m ((goal + cast_unsigned w64 r.addend) % 2 ^ 64) ((0x11200 + cast_unsigned w64 r.addend) % 2 ^ 64)
    by (inl a) = absurd (not_absent a.0.1)
    by (inr b) = subst (λ (s : ℕ). GoesTo words_static m ((goal + cast_unsigned w64 r.addend) % 2 ^ 64) ((s + cast_unsigned w64 r.addend) % 2 ^ 64)) (denoted words_static words_world m 0 0x11200 b.1.symbol function_is b.1.denoted) b.1.comes

-- code that is a jump does not come to another address
no_way : (m : Memory) (a t v : ℕ) → step m a ≡ Some (jumps 12 t) → (a ≡ v → ⊥) → (t ≡ v → ⊥) → GoesTo words_static m a v → ⊥
no_way m a t v known here there (inl e) = here e
no_way m a t v known here there (inr h) = there (sym (goes_there m a t v known h.jumps))

-- nor is code that reads its target in a word a thunk
no_thunk : (m : Memory) (a v : ℕ) (bytes : List ℕ) (other : Action) → Holds m a bytes → length bytes ≡ thunk_size → meaning_aarch64 a bytes ≡ Some other → (a ≡ v → ⊥) → (other ≡ record { deed = Jump; width = 64; operand = Number v } → ⊥) → GoesTo words_static m a v → ⊥
no_thunk m a v bytes other held long meant here there (inl e) = here e
no_thunk m a v bytes other held long meant here there (inr h) =
    let same : h.bytes ≡ bytes = same_bytes m a h.bytes bytes (h.whole ∙ sym long) h.held held in
    let both : Some other ≡ Some (record { deed = Jump; width = 64; operand = Number v }) = sym meant ∙ (ap (λ (bs : List ℕ). meaning_aarch64 a bs) (sym same) ∙ h.means) in
    there (let one : other ≡ record { deed = Jump; width = 64; operand = Number v } = cc in one)

call_done : (read : Reader) → ReadsNumbers read → effect_aarch64 read 0x11020 call_of_thunk ≡ Some (effect_with Call 64 0x11060)
unfolding word number read read_address read_access read_vector_access read_literal read_transfer read_condition
call_done reader h = ap (λ (o : Option ℕ). option_map (with_value (record { deed = Call; width = 64; operand = Number 0x11060 })) o) (h 0x11060)

past_done : (read : Reader) → ReadsNumbers read → effect_aarch64 read 0x11024 next_call_of_thunk ≡ Some (effect_with Call 64 0x11060)
unfolding word number read read_address read_access read_vector_access read_literal read_transfer read_condition
past_done reader h = ap (λ (o : Option ℕ). option_map (with_value (record { deed = Call; width = 64; operand = Number 0x11060 })) o) (h 0x11060)

-- a branch to the function that goes to a thunk, which does not lead there
thunk_refused : (m : Memory) (read : Reader) (item : Item) (r : InputRelocation) (a : ℕ) (bytes : List ℕ) → length bytes ≡ 4 → r.symbol ≡ Some 0 → words_world.base + item.address + 0 ≡ a → Holds m a bytes
    → ((v : ℕ) → demand_aarch64 v (words_world.base + item.address + 0) (old_bytes item 0 call_word) ≡ Some (effect_with Call 64 (v % 2 ^ 64))) → effect_aarch64 read (words_world.base + item.address + 0) bytes ≡ Some (effect_with Call 64 0x11060)
    → (GoesTo words_static m 0x11060 ((0x11200 + cast_unsigned w64 r.addend) % 2 ^ 64) → ⊥) → DoesDemanded read words_static words_world m item r 0 call_word → ⊥
thunk_refused m read item r a bytes long named at held asked done nowhere d =
    let h = meant read words_static words_world m item r 0 call_word d in
    let same_code : h.bytes ≡ bytes = same_bytes m a h.bytes bytes (h.whole ∙ sym long) (subst (λ (p : ℕ). Holds m p h.bytes) at h.held) held in
    let does : Some (effect_with Call 64 0x11060) ≡ Some h.effect = sym done ∙ subst (λ (bs : List ℕ). effect_aarch64 read (words_world.base + item.address + 0) bs ≡ Some h.effect) same_code h.does in
    let demanded : Some (effect_with Call 64 (h.value % 2 ^ 64)) ≡ Some h.effect = sym (asked h.value) ∙ h.demanded in
    let same : 0x11060 ≡ h.value % 2 ^ 64 = value_in Call 64 0x11060 h.effect does ∙ sym (value_in Call 64 (h.value % 2 ^ 64) h.effect demanded) in
    let is = h.demands.is in
    let to : (h.demands.goal + cast_unsigned w64 r.addend) % 2 ^ 64 ≡ 0x11060 = omega (arith, same, is) in
    let way = goes_by m item r h.demands.goal named (branch_stands words_static words_world m item r h.demands.goal (λ g. no_string g.formula.value r g.takes) h.demands.stands) in
    nowhere (subst (λ (n : ℕ). GoesTo words_static m n ((0x11200 + cast_unsigned w64 r.addend) % 2 ^ 64)) to way)

far_goes : (m : Memory) → m.machine ≡ processors.AArch64 → Holds m 0x11060 far_thunk → step m 0x11060 ≡ Some (jumps 12 0x12200)
unfolding word insert_bits
far_goes m x held = thunks-read m 0 0x11060 0x12200 x (record { above = omega arith; below = omega arith }) refl (omega arith) held

right_goes : (m : Memory) → m.machine ≡ processors.AArch64 → Holds m 0x11060 right_thunk → step m 0x11060 ≡ Some (jumps 12 0x11200)
unfolding word insert_bits
right_goes m x held = thunks-read m 0 0x11060 0x11200 x (record { above = omega arith; below = omega arith }) refl (omega arith) held

call_kept : IsKept words_static call_item
call_kept = OfSection call_code (record { input = record { group = _; grouped = (0, omega arith, refl); file = _; filed = (0, omega arith, refl); listed = (2, omega arith, refl) }; loaded = tt; room = refl; has_data = refl; written = λ p at h. (let off : false ≡ true = h.only.bare in cc) }) refl

past_kept : IsKept words_static past_item
past_kept = OfSection past_code (record { input = record { group = _; grouped = (0, omega arith, refl); file = _; filed = (0, omega arith, refl); listed = (3, omega arith, refl) }; loaded = tt; room = refl; has_data = refl; written = λ p at h. (let off : false ≡ true = h.only.bare in cc) }) refl

wrong_thunk : Refuses words_static words_world (HasBoth 0x11020 call_of_thunk 0x11060 far_thunk)
wrong_thunk image h x =
    refused h.memory call_item call_reference 0 call_word call_reference call_template
    (λ read numbers. alone_only (λ start o first. DoesDemanded read words_static words_world h.memory call_item first start o → ⊥) words_static call_item call_reference call_word refl call_alone
    (thunk_refused h.memory read call_item call_reference 0x11020 call_of_thunk refl refl refl x.one call_demanded (call_done read numbers) (no_way h.memory 0x11060 0x12200 0x11200 (far_goes h.memory h.machine x.other) (λ e. omega (arith, e)) (λ e. omega (arith, e)))))
    (holds_there h.memory call_item call_reference 0 0x11200 (h.kept call_item call_kept) (record { listed = (0, omega arith, refl); refers = λ e. omega arith }) refl function_is)

stored_means : meaning_aarch64 0x11060 stored_thunk ≡ Some (record { deed = Jump; width = 64; operand = Word 0x11080 })
unfolding word number read read_address read_access read_vector_access read_literal read_transfer read_condition
stored_means = refl

no_number : ◌≡◌ {A = Action} (record { deed = Jump; width = 64; operand = Word 0x11080 }) (record { deed = Jump; width = 64; operand = Number 0x11200 }) → ⊥
no_number e = (let both : Word 0x11080 ≡ Number 0x11200 = ap (λ (act : Action). act.operand) e in cc)

wrong_stored : Refuses words_static words_world (HasBoth 0x11020 call_of_thunk 0x11060 stored_thunk)
wrong_stored image h x =
    refused h.memory call_item call_reference 0 call_word call_reference call_template
    (λ read numbers. alone_only (λ start o first. DoesDemanded read words_static words_world h.memory call_item first start o → ⊥) words_static call_item call_reference call_word refl call_alone
    (thunk_refused h.memory read call_item call_reference 0x11020 call_of_thunk refl refl refl x.one call_demanded (call_done read numbers) (no_thunk h.memory 0x11060 0x11200 stored_thunk _ x.other refl stored_means (λ e. omega (arith, e)) no_number)))
    (holds_there h.memory call_item call_reference 0 0x11200 (h.kept call_item call_kept) (record { listed = (0, omega arith, refl); refers = λ e. omega arith }) refl function_is)

wrong_addend : Refuses words_static words_world (HasBoth 0x11024 next_call_of_thunk 0x11060 right_thunk)
wrong_addend image h x =
    refused h.memory past_item past_reference 0 call_word past_reference past_template
    (λ read numbers. alone_only (λ start o first. DoesDemanded read words_static words_world h.memory past_item first start o → ⊥) words_static past_item past_reference call_word refl call_alone
    (thunk_refused h.memory read past_item past_reference 0x11024 next_call_of_thunk refl refl refl x.one past_demanded (past_done read numbers) (no_way h.memory 0x11060 0x11200 0x11204 (right_goes h.memory h.machine x.other) (λ e. omega (arith, e)) (λ e. omega (arith, e)))))
    (holds_there h.memory past_item past_reference 0 0x11200 (h.kept past_item past_kept) (record { listed = (0, omega arith, refl); refers = λ e. omega arith }) refl function_is)

-- ---- a descriptor's call

descriptor_kept : IsKept words_static descriptor_item
descriptor_kept = OfSection descriptor_code (record { input = record { group = _; grouped = (0, omega arith, refl); file = _; filed = (0, omega arith, refl); listed = (4, omega arith, refl) }; loaded = tt; room = refl; has_data = refl; written = λ p at h. (let off : false ≡ true = h.only.bare in cc) }) refl

descriptor_asked : (v : ℕ) → demand_aarch64 v 0x11030 (old_bytes descriptor_item 0 descriptor_call_words) ≡ Some (effect_with (Set 0) 64 (v % 2 ^ 64))
unfolding word number read read_address read_access read_vector_access read_literal read_transfer read_condition
descriptor_asked v = refl

half_done : (read : Reader) → effect_aarch64 read 0x11030 half_call ≡ None
unfolding word number read read_address read_access read_vector_access read_literal read_transfer read_condition
half_done reader = refl

low_done : (read : Reader) → ReadsNumbers read → effect_aarch64 read 0x11030 low_half ≡ Some (effect_with (Set 0) 64 0x180000)
unfolding word number read read_address read_access read_vector_access read_literal read_transfer read_condition
low_done reader h = ap (λ (o : Option ℕ). option_map (with_value (record { deed = Set 0; width = 64; operand = Number 0x180000 })) o) (h 0x180000)

half_does_not : (m : Memory) (read : Reader) → Holds m 0x11030 half_call → DoesDemanded read words_static words_world m descriptor_item descriptor_page 0 descriptor_call_words → ⊥
half_does_not m read held d =
    let h = meant read words_static words_world m descriptor_item descriptor_page 0 descriptor_call_words d in
    let bytes : h.bytes ≡ half_call = same_bytes m 0x11030 h.bytes half_call h.whole h.held held in
    let none : None ≡ Some h.effect = sym (half_done read) ∙ subst (λ (bs : List ℕ). effect_aarch64 read 0x11030 bs ≡ Some h.effect) bytes h.does in
    cc

low_does_not : (m : Memory) (read : Reader) → ReadsNumbers read → Holds m 0x11030 low_half → DoesDemanded read words_static words_world m descriptor_item descriptor_page 0 descriptor_call_words → ⊥
low_does_not m read numbers held d =
    let h = meant read words_static words_world m descriptor_item descriptor_page 0 descriptor_call_words d in
    let bytes : h.bytes ≡ low_half = same_bytes m 0x11030 h.bytes low_half h.whole h.held held in
    let done : Some (effect_with (Set 0) 64 0x180000) ≡ Some h.effect = sym (low_done read numbers) ∙ subst (λ (bs : List ℕ). effect_aarch64 read 0x11030 bs ≡ Some h.effect) bytes h.does in
    let asked : Some (effect_with (Set 0) 64 (h.value % 2 ^ 64)) ≡ Some h.effect = sym (descriptor_asked h.value) ∙ h.demanded in
    let same : 0x180000 ≡ h.value % 2 ^ 64 = value_in (Set 0) 64 0x180000 h.effect done ∙ sym (value_in (Set 0) 64 (h.value % 2 ^ 64) h.effect asked) in
    let offset : h.value ≡ (16 + 0x30008 + (2 ^ 64 - 0x30000)) % 2 ^ 64 = own_offset words_static words_world 1 0x30008 16 h.value data_is (omega arith) (somewhere words_static 1 0 local_data refl refl) refl h.demands in
    omega (arith, same, offset)

load_reference : IsReference descriptor_item descriptor_load
load_reference = record { listed = (1, omega arith, refl); refers = λ e. omega arith }

wrong_half : Refuses words_static words_world (MemoryHas 0x11030 half_call)
wrong_half image h x =
    refused h.memory descriptor_item descriptor_load 0 descriptor_call_words descriptor_page (descriptor_template descriptor_load (1, omega arith, refl))
    (λ read numbers. load_only (λ start o first. DoesDemanded read words_static words_world h.memory descriptor_item first start o → ⊥) (half_does_not h.memory read x))
    (holds_there h.memory descriptor_item descriptor_load 1 0x30008 (h.kept descriptor_item descriptor_kept) load_reference refl data_is)

wrong_low : Refuses words_static words_world (MemoryHas 0x11030 low_half)
wrong_low image h x =
    refused h.memory descriptor_item descriptor_load 0 descriptor_call_words descriptor_page (descriptor_template descriptor_load (1, omega arith, refl))
    (λ read numbers. load_only (λ start o first. DoesDemanded read words_static words_world h.memory descriptor_item first start o → ⊥) (low_does_not h.memory read numbers x))
    (holds_there h.memory descriptor_item descriptor_load 1 0x30008 (h.kept descriptor_item descriptor_kept) load_reference refl data_is)

not_decided : (sort : Slot) (p : ℕ) → HasSlotAddress sort words_static 1 p → ⊥
not_decided sort p h = by h.symbol h.resolution h.first (defining_symbol_is words_static 1 h.definition h.symbol local_data refl h.defined h.listed) h.decided h.given
  where
    by : (s : Symbol) (d : Resolution) (first : ℕ) → s ≡ local_data → s.resolution ≡ Some d → d.got_address ≡ Some first → ⊥
    by s d first e decided got =
        let there : local_data.resolution ≡ Some d = subst (λ (q : Symbol). q.resolution ≡ Some d) e decided in
        let known : Some None ≡ Some d.got_address = ap (λ (o : Option Resolution). option_map (λ (r : Resolution). r.got_address) o) there in
        let one : None ≡ d.got_address = cc in
        let none : None ≡ Some first = one ∙ got in
        cc

-- no slot of the thread-local symbol was decided, and none of the output's own
no_slot : (sort : Slot) (p : ℕ) → HasSlot sort words_static 1 p → ⊥
no_slot AddressSlot p h = not_decided AddressSlot p h
no_slot ModulePair p h = not_decided ModulePair p h
no_slot OwnModulePair p h = let none : None ≡ Some p = h in cc
no_slot ThreadOffset p h = not_decided ThreadOffset p h
no_slot Descriptor p h = not_decided Descriptor p h

word_means : meaning_aarch64 0x11030 load_of_word ≡ Some (record { deed = Set 0; width = 64; operand = Word 0x11080 })
unfolding word number read read_address read_access read_vector_access read_literal read_transfer read_condition
word_means = refl

-- so neither does its field name one, nor may the code read a word
word_refused : (m : Memory) → Holds m 0x11030 load_of_word → ReferenceHolds words_static words_world m descriptor_item descriptor_load → ⊥
word_refused m held (inl h) = by h.formula h.known h.value h.gives
  where
    by : (f : Formula) → aarch64_formula r_aarch64_tlsdesc_ld64_lo12 ≡ Some f → (x : ℕ) → Gives f.value words_static words_world m descriptor_item descriptor_load x → ⊥
    by f known x gives =
        let both : Some f ≡ Some (formula (SlotAddress Descriptor) (Bits Imm12Field 11 3 NoCheck 8)) = sym known ∙ descriptor_load_formula in
        let same : f ≡ formula (SlotAddress Descriptor) (Bits Imm12Field 11 3 NoCheck 8) = cc in
        let given = subst (λ (k : Formula). Gives k.value words_static words_world m descriptor_item descriptor_load x) same gives in
        no_slot Descriptor given.1.0.slot given.1.0.given
word_refused m held (inr h) =
    let words = load_only (λ start o first. ReadsOffsetSlots words_static.machine words_static words_world m descriptor_item first start o → IsOffsetSlot words_static words_world (Some 1) 0x11080) (λ each. each load_of_word (record { deed = Set 0; width = 64; operand = Word 0x11080 }) 0x11080 refl held word_means refl) h.start h.instruction h.first h.template h.words in
    let both : Some 1 ≡ Some words.index = words.named in
    let same : words.index ≡ 1 = cc in
    no_slot ThreadOffset words.slot (subst (λ (i : ℕ). HasSlot ThreadOffset words_static i words.slot) same words.given)

wrong_word : Refuses words_static words_world (MemoryHas 0x11030 load_of_word)
wrong_word image h x = word_refused h.memory x (holds_there h.memory descriptor_item descriptor_load 1 0x30008 (h.kept descriptor_item descriptor_kept) load_reference refl data_is)

-- ---- an address in two instructions

kept : IsKept words_static kept_item
kept = OfSection kept_code (record { input = record { group = _; grouped = (0, omega arith, refl); file = _; filed = (0, omega arith, refl); listed = (5, omega arith, refl) }; loaded = tt; room = refl; has_data = refl; written = λ p at h. (let off : false ≡ true = h.only.bare in cc) }) refl

-- S is the function's address
function_at : (m : Memory) (a : ℕ) → IsReferent words_static.machine PageDistance words_static words_world m kept_item page_reference a → a ≡ 0x11200
function_at m a h = by (referent_by machine.AArch64 PageDistance words_static words_world m kept_item page_reference a (no_string PageDistance page_reference) h)
  where
    by : IsReferentOnAArch64 PageDistance words_static words_world m kept_item page_reference (Some 0) a → a ≡ 0x11200
    by (inl x) = absurd (not_absent x.0.1)
    by (inr (_, inl stub)) = denoted words_static words_world m 0 0x11200 a function_is stub.3
    by (inr (_, inr value)) = value_of words_static words_world 0 0x11200 a function_is value.1

address_asked : (v : ℕ) → demand_aarch64 v 0x11040 (old_bytes kept_item 0 address_pair_words) ≡ Some (effect_with (Set 0) 64 (v % 2 ^ 64))
unfolding word number read read_address read_access read_vector_access read_literal read_transfer read_condition
address_asked v = refl

address_done : (read : Reader) → ReadsNumbers read → effect_aarch64 read 0x11040 address_past ≡ Some (effect_with (Set 0) 64 0x11204)
unfolding word number read read_address read_access read_vector_access read_literal read_transfer read_condition
address_done reader h = ap (λ (o : Option ℕ). option_map (with_value (record { deed = Set 0; width = 64; operand = Number 0x11204 })) o) (h 0x11204)

address_does_not : (m : Memory) (read : Reader) → ReadsNumbers read → Holds m 0x11040 address_past → DoesDemanded read words_static words_world m kept_item page_reference 0 address_pair_words → ⊥
address_does_not m read numbers held d =
    let h = meant read words_static words_world m kept_item page_reference 0 address_pair_words d in
    let bytes : h.bytes ≡ address_past = same_bytes m 0x11040 h.bytes address_past h.whole h.held held in
    let done : Some (effect_with (Set 0) 64 0x11204) ≡ Some h.effect = sym (address_done read numbers) ∙ subst (λ (bs : List ℕ). effect_aarch64 read 0x11040 bs ≡ Some h.effect) bytes h.does in
    let asked : Some (effect_with (Set 0) 64 (h.value % 2 ^ 64)) ≡ Some h.effect = sym (address_asked h.value) ∙ h.demanded in
    let same : 0x11204 ≡ h.value % 2 ^ 64 = value_in (Set 0) 64 0x11204 h.effect done ∙ sym (value_in (Set 0) 64 (h.value % 2 ^ 64) h.effect asked) in
    let value : h.value ≡ 0x11200 = h.demands.sum ∙ ap (λ (n : ℕ). (n + 0) % 2 ^ 64) (function_at m h.demands.symbol h.demands.denoted) in
    omega (arith, same, value)

wrong_address : Refuses words_static words_world (MemoryHas 0x11040 address_past)
wrong_address image h x =
    refused h.memory kept_item low_reference 0 address_pair_words page_reference kept_low_template
    (λ read numbers. kept_low_only (λ start o first. DoesDemanded read words_static words_world h.memory kept_item first start o → ⊥) (address_does_not h.memory read numbers x))
    (holds_there h.memory kept_item low_reference 0 0x11200 (h.kept kept_item kept) (record { listed = (1, omega arith, refl); refers = λ e. omega arith }) refl function_is)

pub wrong_words_of_images : WrongCodeOfWordsIsRefused
wrong_words_of_images = record { slot = wrong_slot; thunk = wrong_thunk; stored = wrong_stored; addend = wrong_addend; half = wrong_half; low = wrong_low; word = wrong_word; address = wrong_address }
