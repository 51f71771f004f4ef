-- Wrong pairs and descriptors of the worked shared object are refused.
use Rattle.wild_meaning.proofs.Common.{◌≡◌, ℕ, ◌+◌, ◌-◌, ◌^◌, ◌<◌, ◌⊎◌, inl, inr, List, [], ◌∷◌, refl, sym, ap, ◌∙◌, arith, ◌==◌, if◌then◌else◌, Some, None, Ok, cases_Bool, eqb-true, pos, r_x86_64_tlsgd, r_x86_64_tlsld, r_x86_64_gotpc32_tlsdesc, ModulePair, OwnModulePair, Descriptor, Memory, number_in, distance_of, first_value, reference, shared_layout, shared_item, shared_world, own_thread, Refused, own_offset}
use Rattle.wild_meaning.specs.Slot.{IsPair}
use Rattle.wild_meaning.specs.Worked.Refusals.{NamesWrongModule, NamesWrongDescriptor}
use Rattle.wild_meaning.specs.Worked.SharedRefusals.{WrongModulesAreRefused, WrongDescriptorsAreRefused}
use Rattle.wild_meaning.proofs.SymbolUnique.{own_offset as own_offset_is, other_offset as other_offset_is, somewhere}
use Rattle.wild_meaning.proofs.Read.{signed_of, word_below, same_word}
use Rattle.wild_meaning.proofs.SlotPlaces.{slot_holds}
use Rattle.wild_meaning.proofs.SharedRefused.{kept, own_there, other_there, thread_is, other_is, pair_formula, own_pair_formula, descriptor_formula, no_address}

-- the modules of the world, with their distances
which : (o d : ℕ) → distance_of shared_world o ≡ Ok d → ((o ≡ 2) × (d ≡ 2 ^ 64 - 0x60)) ⊎ (((o ≡ 3) × (d ≡ 2 ^ 64 - 0x1000)) ⊎ ((o ≡ 4) × (d ≡ 2 ^ 64 - 0x2000)))
which o d h =
    elim (cases_Bool (2 == o)) [
      | inl t ↦ inl (sym (eqb-true 2 o t), (let both : Ok (2 ^ 64 - 0x60) ≡ Ok d = rw t at h in cc))
      | inr f ↦ (let g = rw f at h in elim (cases_Bool (3 == o)) [
        | inl t ↦ inr (inl (sym (eqb-true 3 o t), (let both : Ok (2 ^ 64 - 0x1000) ≡ Ok d = rw t at g in cc)))
        | inr f ↦ (let k = rw f at g in elim (cases_Bool (4 == o)) [
          | inl t ↦ inr (inr (sym (eqb-true 4 o t), (let both : Ok (2 ^ 64 - 0x2000) ≡ Ok d = rw t at k in cc)))
          | inr f ↦ absurd (let n = rw f at k in cc)
        ])
      ])
    ]

-- a pair at a place, with an offset that is known, has one module
one_module : (m : Memory) (g slot owner offset t right far : ℕ) → g ≡ slot → (p : IsPair shared_world m g t) → number_in m slot 8 ≡ Some owner → number_in m (slot + 8) 8 ≡ Some offset → (p.owner ≡ owner) × (p.offset ≡ offset)
one_module m g slot owner offset t right far at p first second = (same_word m g slot p.owner owner at p.first first, same_word m (g + 8) (slot + 8) p.offset offset (ap (λ (k : ℕ). k + 8) at) p.second second)

own_module : Refused (NamesWrongModule 0x11020 0xff8 0x12018 2 8)
own_module image h x =
    let r = reference 32 r_x86_64_tlsgd 2 (pos 0) in
    let v = own_there h.memory r _ 2 0x3008 (h.kept shared_item kept) (4, omega arith, refl) (omega arith) pair_formula refl thread_is in
    let is : v.value ≡ 0xff8 = signed_of shared_world h.memory shared_item r v.value 0xff8 v.field x.field in
    let slot = slot_holds ModulePair shared_layout shared_world h.memory 2 v.gives.0 v.gives.1 in
    let below : v.gives.0 < 2 ^ 64 = word_below h.memory v.gives.0 slot.1.owner slot.1.first in
    let at : v.gives.0 ≡ 0x12018 = omega (arith, is, below, v.gives.2) in
    let words = one_module h.memory v.gives.0 0x12018 x.owner 8 slot.0 2 0 at slot.1 x.first x.second in
    let offset : slot.0 ≡ own_offset = own_offset_is shared_layout shared_world 2 0x3008 (2 ^ 64 - 0x60) slot.0 thread_is (omega arith) (somewhere shared_layout 2 0 own_thread refl refl) refl slot.2 in
    elim (which slot.1.owner slot.1.distance slot.1.known) [
      | inl e ↦ x.wrong (sym words.0 ∙ e.0)
      | inr e ↦ elim e [ inl f ↦ omega (arith, words.1, offset, slot.1.sum, f.1) | inr f ↦ omega (arith, words.1, offset, slot.1.sum, f.1) ]
    ]

other_module : Refused (NamesWrongModule 0x11048 0xff8 0x12040 4 0x20)
other_module image h x =
    let r = reference 72 r_x86_64_tlsgd 3 (pos 0) in
    let v = other_there h.memory r _ 3 _ (h.kept shared_item kept) (11, omega arith, refl) (omega arith) pair_formula refl other_is no_address in
    let is : v.value ≡ 0xff8 = signed_of shared_world h.memory shared_item r v.value 0xff8 v.field x.field in
    let slot = slot_holds ModulePair shared_layout shared_world h.memory 3 v.gives.0 v.gives.1 in
    let below : v.gives.0 < 2 ^ 64 = word_below h.memory v.gives.0 slot.1.owner slot.1.first in
    let at : v.gives.0 ≡ 0x12040 = omega (arith, is, below, v.gives.2) in
    let words = one_module h.memory v.gives.0 0x12040 x.owner 0x20 slot.0 4 0 at slot.1 x.first x.second in
    let offset : slot.0 ≡ 2 ^ 64 - 0x1fe0 = other_offset_is shared_layout shared_world 3 (2 ^ 64 - 0x2000) slot.0 _ other_is refl slot.2 in
    elim (which slot.1.owner slot.1.distance slot.1.known) [
      | inl e ↦ omega (arith, words.1, offset, slot.1.sum, e.1)
      | inr e ↦ elim e [ inl f ↦ omega (arith, words.1, offset, slot.1.sum, f.1) | inr f ↦ x.wrong (sym words.0 ∙ f.0) ]
    ]

begin_module : Refused (NamesWrongModule 0x1102c 0x1024 0x12050 2 0)
begin_module image h x =
    let r = reference 44 r_x86_64_tlsld 2 (pos 0) in
    let v = own_there h.memory r _ 2 0x3008 (h.kept shared_item kept) (7, omega arith, refl) (omega arith) own_pair_formula refl thread_is in
    let is : v.value ≡ 0x1024 = signed_of shared_world h.memory shared_item r v.value 0x1024 v.field x.field in
    let slot = slot_holds OwnModulePair shared_layout shared_world h.memory 2 v.gives.0 v.gives.1 in
    let below : v.gives.0 < 2 ^ 64 = word_below h.memory v.gives.0 slot.pair.owner slot.pair.first in
    let at : v.gives.0 ≡ 0x12050 = omega (arith, is, below, v.gives.2) in
    let words = one_module h.memory v.gives.0 0x12050 x.owner 0 slot.begin 2 0 at slot.pair x.first x.second in
    let both : Ok (2 ^ 64 - 0x60) ≡ Ok slot.begin = slot.counted in
    let begin : 2 ^ 64 - 0x60 ≡ slot.begin = cc in
    elim (which slot.pair.owner slot.pair.distance slot.pair.known) [
      | inl e ↦ x.wrong (sym words.0 ∙ e.0)
      | inr e ↦ elim e [ inl f ↦ omega (arith, words.1, begin, slot.pair.sum, f.1) | inr f ↦ omega (arith, words.1, begin, slot.pair.sum, f.1) ]
    ]

pub wrong_modules : WrongModulesAreRefused
wrong_modules = record { own = own_module; other = other_module; begin = begin_module }

-- ---- descriptors

-- the one pair of a list
one_value : (ps : List (ℕ × ℕ)) (key slot offset t : ℕ) → ps ≡ (slot, offset) ∷ [] → first_value ps key ≡ Some t → t ≡ offset
one_value ps key slot offset t e h = by key slot offset t (rw e at h)
  where
    by : (key slot offset t : ℕ) → (if slot == key then Some offset else None) ≡ Some t → t ≡ offset
    by key slot offset t h = elim (cases_Bool (slot == key)) [ inl x ↦ (let both : Some offset ≡ Some t = rw x at h in cc) | inr f ↦ absurd (let both : None ≡ Some t = rw f at h in cc) ]

no_value : (ps : List (ℕ × ℕ)) (key t : ℕ) → ps ≡ [] → first_value ps key ≡ Some t → ⊥
no_value ps key t e h = let both : None ≡ Some t = rw e at h in cc

descriptor_there : Refused (NamesWrongDescriptor 0x11028 0x1000 0x12028 own_offset)
descriptor_there image h x =
    let r = reference 40 r_x86_64_gotpc32_tlsdesc 2 (pos 0) in
    let v = own_there h.memory r _ 2 0x3008 (h.kept shared_item kept) (6, omega arith, refl) (omega arith) descriptor_formula refl thread_is in
    let slot = slot_holds Descriptor shared_layout shared_world h.memory 2 v.gives.0 v.gives.1 in
    let offset : slot.0 ≡ own_offset = own_offset_is shared_layout shared_world 2 0x3008 (2 ^ 64 - 0x60) slot.0 thread_is (omega arith) (somewhere shared_layout 2 0 own_thread refl refl) refl slot.2 in
    x.wrong (sym (one_value h.memory.descriptors v.gives.0 0x12028 x.offset slot.0 x.there slot.1) ∙ offset)

no_descriptor : Refused (λ m. m.descriptors ≡ [])
no_descriptor image h x =
    let r = reference 40 r_x86_64_gotpc32_tlsdesc 2 (pos 0) in
    let v = own_there h.memory r _ 2 0x3008 (h.kept shared_item kept) (6, omega arith, refl) (omega arith) descriptor_formula refl thread_is in
    let slot = slot_holds Descriptor shared_layout shared_world h.memory 2 v.gives.0 v.gives.1 in
    no_value h.memory.descriptors v.gives.0 slot.0 x slot.1

pub wrong_descriptors : WrongDescriptorsAreRefused
wrong_descriptors = record { another = descriptor_there; none = no_descriptor }
