-- The descriptor of a thread-local symbol in memory: a loader noted the symbol's offset from the thread pointer for it.
use Rattle.wild_references.proofs.Common.{◌≡◌, ℕ, ◌+◌, ◌^◌, ◌<◌, inl, inr, Bool, true, false, List, [], ◌∷◌, ◌++◌, Option, Some, None, refl, sym, ap, ◌∙◌, arith, subst, ⊤, ◌&&◌, ◌||◌, not, if◌then◌else◌, Descriptor, DtpMod, SlotItem, Resolution, ValueFlags, Layout, KeepsAll, has_flag, interposable, dynamic, copy_relocation, export_dynamic, got_tls_offset, got_tls_module, got_tls_descriptor, is_executable, is_static_executable, setting_of, general, named, items_if, thread_items, minus, has_thread_slot, after_word, after_pair, first_value, Memory, World, HasWord, may_be_replaced, word_below, IsPlaced}
use Rattle.wild_reloc.specs.declared.dynamic.DynamicRelocationKind.TheVariants.{TlsDesc}
use Rattle.wild_reloc.specs.declared.expression.SlotSort.TheVariants as sorts
use Rattle.wild_slot.specs.declared.slot.SlotFault.TheVariants.{NoDynamicSymbol, TlsOutOfSegment, StaticTlsDesc}
use Rattle.wild_slot.specs.declared.slot.SlotItem.TheVariants.{Word, Stub, Fault}
use Rattle.wild_slot.specs.declared.slot.Setting.{Setting}
use Rattle.wild_slot.specs.Slots.{number, is_replaceable, module_item, module_offset, module_offset_item, described, descriptor_item, offset_item, module_items, descriptor_items}
use Rattle.wild_slot.specs.Storage.{is_outside}
use Rattle.wild_meaning.specs.Thread as judge
use Rattle.wild_references.proofs.AnsweredValues.{has_answer, answered_offset}
use Rattle.wild_references.proofs.EntryWords.{descriptor_filled, own_descriptor_filled}
use Rattle.wild_references.proofs.FirstSlots.{thread_held}
use Rattle.wild_references.proofs.OutputKinds.{library_is}
use Rattle.wild_references.proofs.SlotContents.{ItemsHold}
use Rattle.wild_references.proofs.SlotTerms.{SlotStands, SlotsStand, by_slot}
use Rattle.wild_references.proofs.Symbols.{IsResolvedBy, resolved_raw}
use Rattle.wild_references.proofs.ThreadSlots.{whose_own, index_some, library_same, less_below, looked_same, offset_first}
use Rattle.wild_references.proofs.ThreadValues.{placed_thread}

-- a descriptor in memory
pub record HasDescriptor (l : Layout) (w : World) (m : Memory) (i at : ℕ) : Type 0 where
  pub word : ℕ
  pub there : HasWord m (w.base + at) word
  pub offset : ℕ
  pub noted : first_value m.descriptors (w.base + at) ≡ Some offset
  pub is : judge.HasThreadOffset l w i offset

-- ---- the descriptor

-- of a symbol that a loader looks up
looked_up : (l : Layout) (w : World) (m : Memory) (i at d : ℕ) (r : Resolution) (rest : List SlotItem) → IsPlaced l w m → IsResolvedBy l i r → r.dynamic_symbol_index ≡ Some d → ItemsHold w m at (general TlsDesc d 0 ∷ rest) → HasDescriptor l w m i at
looked_up l w m i at d r rest p by e h =
    let x = h.0 in
    let o = descriptor_filled w m (w.base + at) d x.0 (index_some l w m i d r p by e) x.2 in
    let a = o.2 in
    let is = answered_offset l w i r.raw_value o.3 a.answer p.legal.symbols (has_answer l w i d r by e a) (resolved_raw l i r by) o.4 in
    record { word = x.0; there = x.1; offset = o.0; noted = o.1; is = subst (λ (n : ℕ). judge.HasThreadOffset l w i n) (sym (looked_same o.3 a.answer.offset o.0 o.5)) is }

-- one that no other module may replace is the own module's
own_one : (l : Layout) (f : ValueFlags) → is_replaceable l.kind f ≡ false → may_be_replaced l.kind f ≡ false
own_one l f h = ap (λ (b : Bool). (has_flag f dynamic && not (has_flag f copy_relocation)) || (b && (has_flag f export_dynamic && interposable f))) (library_is l.kind) ∙ h

own_held : (l : Layout) (w : World) (m : Memory) (i at : ℕ) (r : Resolution) (rest : List SlotItem) → IsPlaced l w m → IsResolvedBy l i r → is_replaceable l.kind r.flags ≡ false → ItemsHold w m at (general TlsDesc 0 (minus r.raw_value l.tls.start) ∷ rest) → HasDescriptor l w m i at
own_held l w m i at r rest p d whose h =
    let own = whose_own l w m i r p d (own_one l r.flags whose) in
    let x = h.0 in
    let o = own_descriptor_filled w m (w.base + at) (minus r.raw_value l.tls.start) x.0 (less_below r.raw_value l.tls.start) x.2 in
    let place = placed_thread l w i r.raw_value o.2 o.3 (resolved_raw l i r d) in
    record { word = x.0; there = x.1; offset = o.0; noted = o.1; is = inr (own, inl (subst (λ (n : ℕ). judge.IsThreadPlace l w i n) (sym (library_same o.2 r.raw_value l.tls.start o.0 o.4)) place)) }

descriptor_held : (l : Layout) (w : World) (m : Memory) (i at : ℕ) (r : Resolution) (rest : List SlotItem) → IsPlaced l w m → IsResolvedBy l i r → ItemsHold w m at (descriptor_item (setting_of l) r ∷ rest) → HasDescriptor l w m i at
descriptor_held l w m i at r rest p d h = by_index r.dynamic_symbol_index refl h
  where
    by_static : (n : ℕ) → r.dynamic_symbol_index ≡ Some n → (b : Bool) → ItemsHold w m at ((if b then Fault StaticTlsDesc else general TlsDesc n 0) ∷ rest) → HasDescriptor l w m i at
    by_static n e true h = absurd h
    by_static n e false h = looked_up l w m i at n r rest p d e h

    by_tests : (replaced outside static : Bool) → is_replaceable l.kind r.flags ≡ replaced
        → ItemsHold w m at ((if replaced then Fault NoDynamicSymbol else if outside then Fault (TlsOutOfSegment r.raw_value) else if static then Fault StaticTlsDesc else general TlsDesc 0 (minus r.raw_value l.tls.start)) ∷ rest) → HasDescriptor l w m i at
    by_tests true outside static e h = absurd h
    by_tests false true static e h = absurd h
    by_tests false false true e h = absurd h
    by_tests false false false e h = own_held l w m i at r rest p d e h

    by_index : (o : Option ℕ) → r.dynamic_symbol_index ≡ o → ItemsHold w m at (described (setting_of l) r.flags r.raw_value o ∷ rest) → HasDescriptor l w m i at
    by_index None e h = by_tests (is_replaceable l.kind r.flags) (is_outside l.tls r.raw_value) (is_static_executable l.kind) refl h
    by_index (Some n) e h = by_static n e (is_static_executable l.kind) h

-- ---- among the slots of the symbol

-- a stub is no word of a slot
abbrev IsNoStub : SlotItem → Type 0
IsNoStub Stub = ⊥
IsNoStub other = ⊤

behind_item : (w : World) (m : Memory) (at : ℕ) (x : SlotItem) (xs : List SlotItem) → IsNoStub x → ItemsHold w m at (x ∷ xs) → ItemsHold w m (at + 8) xs
behind_item w m at (Word v) xs some h = h.1
behind_item w m at Stub xs some h = absurd some
behind_item w m at (Fault f) xs some h = absurd h

module_no_stub : (s : Setting) (r : Resolution) → IsNoStub (module_item s r)
module_no_stub s r = by_tests (is_executable s.kind && not (has_flag r.flags dynamic)) (interposable r.flags) r.dynamic_symbol_index
  where
    by_tests : (program open_flag : Bool) (o : Option ℕ) → IsNoStub (if program then number 1 else if open_flag then named o (λ d. general DtpMod d 0) else general DtpMod 0 0)
    by_tests true b o = tt
    by_tests false true None = tt
    by_tests false true (Some d) = tt
    by_tests false false o = tt

offset_no_stub : (s : Setting) (raw : ℕ) (o : Option ℕ) → IsNoStub (module_offset s raw o)
offset_no_stub s raw None = tt
offset_no_stub s raw (Some d) = tt

-- what stands behind a pair, where there is one
behind_module : (l : Layout) (w : World) (m : Memory) (at : ℕ) (r : Resolution) (pair : Bool) → has_flag r.flags got_tls_module ≡ pair → ItemsHold w m at (module_items (setting_of l) r ++ descriptor_items (setting_of l) r) → ItemsHold w m (if pair then at + 16 else at) (descriptor_items (setting_of l) r)
behind_module l w m at r false e h =
    let s = setting_of l in
    subst (λ (b : Bool). ItemsHold w m at (items_if b (module_item s r ∷ module_offset_item s r ∷ []) ++ descriptor_items s r)) e h
behind_module l w m at r true e h =
    let s = setting_of l in
    let both = subst (λ (b : Bool). ItemsHold w m at (items_if b (module_item s r ∷ module_offset_item s r ∷ []) ++ descriptor_items s r)) e h in
    let second = behind_item w m at (module_item s r) (module_offset_item s r ∷ descriptor_items s r) (module_no_stub s r) both in
    let third = behind_item w m (at + 8) (module_offset_item s r) (descriptor_items s r) (offset_no_stub s r.raw_value (if interposable r.flags then r.dynamic_symbol_index else None)) second in
    let same : at + 8 + 8 ≡ at + 16 = omega arith in
    subst (λ (n : ℕ). ItemsHold w m n (descriptor_items s r)) same third

-- and behind the offset
behind_offset : (l : Layout) (w : World) (m : Memory) (i at : ℕ) (r : Resolution) (offset : Bool) → IsPlaced l w m → IsResolvedBy l i r → has_flag r.flags got_tls_offset ≡ offset → ItemsHold w m at (thread_items (setting_of l) r) → ItemsHold w m (if offset then at + 8 else at) (module_items (setting_of l) r ++ descriptor_items (setting_of l) r)
behind_offset l w m i at r true p d e h = (offset_first l w m i at r p d e h).behind
behind_offset l w m i at r false p d e h =
    let s = setting_of l in
    let more = module_items s r ++ descriptor_items s r in
    subst (λ (b : Bool). ItemsHold w m at (items_if b (offset_item s r ∷ []) ++ more)) e h

described_at : (l : Layout) (w : World) (m : Memory) (i at : ℕ) (r : Resolution) → IsPlaced l w m → IsResolvedBy l i r → has_flag r.flags got_tls_descriptor ≡ true → ItemsHold w m at (descriptor_items (setting_of l) r) → HasDescriptor l w m i at
described_at l w m i at r p d asked h =
    let s = setting_of l in
    descriptor_held l w m i at r (number 0 ∷ []) p d (subst (λ (b : Bool). ItemsHold w m at (items_if b (descriptor_item s r ∷ number 0 ∷ []))) asked h)

-- ---- what the writer takes

descriptor_at : (l : Layout) (w : World) (m : Memory) (i at slot : ℕ) → HasDescriptor l w m i at → (w.base + at < 2 ^ 64 → at ≡ slot) → SlotStands Descriptor l w m i slot
descriptor_at l w m i at slot h same =
    let low = word_below m (w.base + at) h.word h.there in
    subst (λ (n : ℕ). SlotStands Descriptor l w m i n) (same low) (record { holds = (h.offset, h.noted, h.is); below = low })

place_same : (base at : ℕ) (offset pair : Bool) → base + (if pair then (if offset then at + 8 else at) + 16 else (if offset then at + 8 else at)) < 2 ^ 64 → (if pair then (if offset then at + 8 else at) + 16 else (if offset then at + 8 else at)) ≡ after_pair pair (after_word offset at)
place_same base at false false low = refl
place_same base at true false low = omega (arith, low)
place_same base at false true low = omega (arith, low)
place_same base at true true low = omega (arith, low)

-- a descriptor is a thread-local slot
pub thread_of : (f : ValueFlags) → has_flag f got_tls_descriptor ≡ true → has_thread_slot f ≡ true
thread_of f h = last_of (has_flag f got_tls_offset) (has_flag f got_tls_module) (has_flag f got_tls_descriptor) h
  where
    last_of : (a b c : Bool) → c ≡ true → (a || (b || c)) ≡ true
    last_of true b c h = refl
    last_of false true c h = refl
    last_of false false c h = h

descriptor_stands : (l : Layout) (w : World) (m : Memory) (i at : ℕ) (r : Resolution) → IsPlaced l w m → KeepsAll l → IsResolvedBy l i r → r.got_address ≡ Some at → has_flag r.flags got_tls_descriptor ≡ true → SlotStands Descriptor l w m i (after_pair (has_flag r.flags got_tls_module) (after_word (has_flag r.flags got_tls_offset) at))
descriptor_stands l w m i at r p all d e asked =
    let offset = has_flag r.flags got_tls_offset in
    let pair = has_flag r.flags got_tls_module in
    let second = behind_offset l w m i at r offset p d refl (thread_held l w m i at r p all d e (thread_of r.flags asked)) in
    let last = behind_module l w m (if offset then at + 8 else at) r pair refl second in
    let there = if pair then (if offset then at + 8 else at) + 16 else (if offset then at + 8 else at) in
    descriptor_at l w m i there (after_pair pair (after_word offset at)) (described_at l w m i there r p d asked last) (λ low. place_same w.base at offset pair low)

pub descriptors_stand : (l : Layout) (w : World) (m : Memory) → IsPlaced l w m → KeepsAll l → SlotsStand sorts.TlsDesc l w m
descriptors_stand l w m p all = λ i slot h. by_slot sorts.TlsDesc l i slot (λ (n : ℕ). SlotStands Descriptor l w m i n) h (λ r at d e among. by_flag i slot r at d e (has_flag r.flags got_tls_descriptor) refl among)
  where
    by_flag : (i slot : ℕ) (r : Resolution) (at : ℕ) → IsResolvedBy l i r → r.got_address ≡ Some at → (b : Bool) → has_flag r.flags got_tls_descriptor ≡ b → (if b then Some (after_pair (has_flag r.flags got_tls_module) (after_word (has_flag r.flags got_tls_offset) at)) else None) ≡ Some slot → SlotStands Descriptor l w m i slot
    by_flag i slot r at d e true asked h =
        let same : after_pair (has_flag r.flags got_tls_module) (after_word (has_flag r.flags got_tls_offset) at) ≡ slot = cc in
        subst (λ (n : ℕ). SlotStands Descriptor l w m i n) same (descriptor_stands l w m i at r p all d e asked)
    by_flag i slot r at d e false asked h = cc
