-- Which words the slots of a symbol have: those of thread-local data, or one for its address and what stands behind it.
use Rattle.wild_slots.proofs.Common.{◌≡◌, ℕ, inl, inr, ◌⊎◌, Bool, true, false, List, [], ◌∷◌, ◌++◌, Some, None, All, refl, sym, subst, Option, not, ◌&&◌, ◌==◌, if◌then◌else◌, and_parts, All-nil, All-cons, All-append, Resolution, Setting, SlotWord, Number, Address, InRelrGot, General, Plt, SlotItem, Word, Stub, Fault, is_position_independent, has_flag, ifunc, has_thread_slot, slot, items_at, with_items, no_slot, add_item, thread_items, plain_item, stub_items, address_items}
use Rattle.wild_words.proofs.Basics.{of_if}
use Rattle.wild_reloc.specs.declared.dynamic.DynamicRelocationKind.{DynamicRelocationKind}
use Rattle.wild_reloc.specs.declared.dynamic.DynamicRelocationKind.TheVariants.{GotEntry, JumpSlot, DtpMod, DtpOff, TpOff, TlsDesc, Irelative}
use Rattle.wild_slot.specs.declared.slot.SlotEntry.{SlotEntry}
use Rattle.wild_types.specs.Kinds.{is_executable, is_static_executable}
use Rattle.wild_types.specs.Flags.{interposable, has_link_time_address, dynamic, got_tls_offset, got_tls_module, got_tls_descriptor, canonical_plt, ifunc_got_for_address, canonical_plt_got_for_address}
use Rattle.wild_types.specs.SymbolSlots.{has_dynamic_symbol}
use Rattle.wild_slot.specs.Storage.{is_outside}
use Rattle.wild_slot.specs.Slots.{is_replaceable, offset_item, module_item, module_offset, module_offset_item, described, descriptor_item, offset_items, module_items, descriptor_items, stub_address, ifunc_address_items, canonical_address_items, number}
use Rattle.wild_needs.proofs.SlotBlockLemmas.{behind_plain}
use Rattle.wild_slots.specs.Entries.{NamesSymbols, NamesModules}
use Rattle.wild_slots.proofs.ItemLemmas.{ItemHas, More-items, All-words, of_named, of_where, of_one, of_stub}

-- ---- what a word may be

-- the entry names the symbol of the resolution
pub record IsNamed (r : Resolution) (e : SlotEntry) : Type 0 where
  pub index : r.dynamic_symbol_index ≡ Some e.symbol
  pub kind : NamesSymbols e.kind
  pub nothing : e.addend ≡ 0

-- the entry of a resolver
pub record IsIndirect (r : Resolution) (e : SlotEntry) : Type 0 where
  pub indirect : has_flag r.flags ifunc ≡ true
  pub is : e ≡ record { kind = Irelative; symbol = 0; addend = r.raw_value }

abbrev pub IsEntry : Resolution → SlotEntry → Type 0
IsEntry r e = IsNamed r e ⊎ (IsIndirect r e ⊎ (NamesModules e.kind × (e.symbol ≡ 0)))

-- a word of thread-local data, or a second one
abbrev pub IsOther : Setting → Resolution → SlotWord → Type 0
IsOther s r (Number n) = Unit {0}
IsOther s r (Address a) = is_position_independent s.kind ≡ true
IsOther s r (InRelrGot a) = ⊥
IsOther s r (General e) = IsEntry r e
IsOther s r (Plt e) = ⊥

-- the word of an address
abbrev pub IsFirst : Setting → Resolution → SlotWord → Type 0
IsFirst s r (Number n) = Unit {0}
IsFirst s r (Address a) = is_position_independent s.kind ≡ true
IsFirst s r (InRelrGot a) = is_position_independent s.kind ≡ true
IsFirst s r (General e) = IsEntry r e
IsFirst s r (Plt e) = IsEntry r e

-- ---- items of thread-local data

-- an entry for the index of the symbol, and one for the output's own module
names : (r : Resolution) (kind : DynamicRelocationKind) (d : ℕ) → NamesSymbols kind → r.dynamic_symbol_index ≡ Some d → IsEntry r (record { kind = kind; symbol = d; addend = 0 })
names r kind d k e = inl (record { index = e; kind = k; nothing = refl })

names_none : (r : Resolution) (kind : DynamicRelocationKind) (a : ℕ) → NamesModules kind → IsEntry r (record { kind = kind; symbol = 0; addend = a })
names_none r kind a k = inr (inr (k, refl))

offset_other : (s : Setting) (r : Resolution) → ItemHas (IsOther s r) (offset_item s r)
offset_other s r =
    let P : SlotItem → Type 0 = ItemHas (IsOther s r) in
    of_if P (has_dynamic_symbol r.flags) _ _ (λ t. of_named (IsOther s r) r.dynamic_symbol_index _ (λ d e. names r TpOff d tt e)) (λ f.
    of_if P (r.raw_value == 0) _ _ (λ t. tt) (λ g.
    of_if P (is_outside s.tls r.raw_value) _ _ (λ t. tt) (λ h.
    of_if P (is_executable s.kind) _ _ (λ t. tt) (λ i. names_none r TpOff _ tt))))

module_other : (s : Setting) (r : Resolution) → ItemHas (IsOther s r) (module_item s r)
module_other s r =
    let P : SlotItem → Type 0 = ItemHas (IsOther s r) in
    of_if P (is_executable s.kind && not (has_flag r.flags dynamic)) _ _ (λ t. tt) (λ f.
    of_if P (interposable r.flags) _ _ (λ t. of_named (IsOther s r) r.dynamic_symbol_index _ (λ d e. names r DtpMod d tt e)) (λ g. names_none r DtpMod 0 tt))

module_offset_other : (s : Setting) (r : Resolution) → ItemHas (IsOther s r) (module_offset_item s r)
module_offset_other s r = by_index (interposable r.flags) r.dynamic_symbol_index refl
  where
    by_index : (b : Bool) (o : Option ℕ) → r.dynamic_symbol_index ≡ o → ItemHas (IsOther s r) (module_offset s r.raw_value (if b then o else None))
    by_index false o e = tt
    by_index true None e = tt
    by_index true (Some d) e = names r DtpOff d tt e

descriptor_other : (s : Setting) (r : Resolution) → ItemHas (IsOther s r) (descriptor_item s r)
descriptor_other s r = by_index r.dynamic_symbol_index refl
  where
    by_index : (o : Option ℕ) → r.dynamic_symbol_index ≡ o → ItemHas (IsOther s r) (described s r.flags r.raw_value o)
    by_index (Some d) e = of_if (ItemHas (IsOther s r)) (is_static_executable s.kind) _ _ (λ t. tt) (λ f. names r TlsDesc d tt e)
    by_index None e =
        of_if (ItemHas (IsOther s r)) (is_replaceable s.kind r.flags) _ _ (λ t. tt) (λ f.
        of_if (ItemHas (IsOther s r)) (is_outside s.tls r.raw_value) _ _ (λ t. tt) (λ g.
        of_if (ItemHas (IsOther s r)) (is_static_executable s.kind) _ _ (λ t. tt) (λ h. names_none r TlsDesc _ tt)))

pub threads_other : (s : Setting) (r : Resolution) → All (ItemHas (IsOther s r)) (thread_items s r)
threads_other s r =
    let W = IsOther s r in
    All-append (ItemHas W) (offset_items s r) (module_items s r ++ descriptor_items s r)
    (of_where W (has_flag r.flags got_tls_offset) (offset_item s r ∷ []) (λ t. of_one W (offset_item s r) (offset_other s r)))
    (All-append (ItemHas W) (module_items s r) (descriptor_items s r)
    (of_where W (has_flag r.flags got_tls_module) (module_item s r ∷ module_offset_item s r ∷ []) (λ t. All-cons (ItemHas W) (module_item s r) (module_offset_item s r ∷ []) (module_other s r) (of_one W (module_offset_item s r) (module_offset_other s r))))
    (of_where W (has_flag r.flags got_tls_descriptor) (descriptor_item s r ∷ number 0 ∷ []) (λ t. All-cons (ItemHas W) (descriptor_item s r) (number 0 ∷ []) (descriptor_other s r) (of_one W (number 0) tt))))

-- ---- items of an address

first_item : (s : Setting) (r : Resolution) → ItemHas (IsFirst s r) (plain_item s r)
first_item s r =
    let P : SlotItem → Type 0 = ItemHas (IsFirst s r) in
    of_if P (has_flag r.flags canonical_plt) _ _ (λ t. of_named (IsFirst s r) r.dynamic_symbol_index _ (λ d e. names r JumpSlot d tt e)) (λ f.
    of_if P (has_dynamic_symbol r.flags) _ _ (λ t. of_named (IsFirst s r) r.dynamic_symbol_index _ (λ d e. names r GotEntry d tt e)) (λ g.
    of_if P (has_flag r.flags ifunc) _ _ (λ t. inr (inl (record { indirect = t; is = refl }))) (λ h.
    of_if P (is_position_independent s.kind && has_link_time_address r.flags) _ _ (λ t. moves s.relr (and_parts _ _ t).0) (λ i. tt))))
  where
    moves : (b : Bool) → is_position_independent s.kind ≡ true → ItemHas (IsFirst s r) (Word (if b then InRelrGot r.raw_value else Address r.raw_value))
    moves true h = h
    moves false h = h

stub_other : (s : Setting) (r : Resolution) (o : Option ℕ) → ItemHas (IsOther s r) (stub_address s o)
stub_other s r None = tt
stub_other s r (Some stub) = of_if (ItemHas (IsOther s r)) (is_position_independent s.kind) _ _ (λ t. t) (λ f. tt)

behind_other : (s : Setting) (far : Option ℕ) (r : Resolution) → All (ItemHas (IsOther s r)) (behind_plain s far r)
behind_other s far r =
    let W = IsOther s r in
    All-append (ItemHas W) (stub_items far r.plt_address) (ifunc_address_items s r ++ canonical_address_items s r)
    (of_stub W far r.plt_address)
    (All-append (ItemHas W) (ifunc_address_items s r) (canonical_address_items s r)
    (of_where W (has_flag r.flags ifunc_got_for_address) (stub_address s r.plt_address ∷ []) (λ t. of_one W (stub_address s r.plt_address) (stub_other s r r.plt_address)))
    (of_where W (has_flag r.flags canonical_plt_got_for_address) _ (λ t. of_one W _ (of_named W r.dynamic_symbol_index _ (λ d e. names r GotEntry d tt e)))))

-- ---- the words of a symbol

-- the word of an address, and those behind it
pub record IsLed (s : Setting) (far : Option ℕ) (r : Resolution) (ws : List SlotWord) : Type 0 where
  pub first : SlotWord
  pub rest : List SlotWord
  pub slot : has_thread_slot r.flags ≡ false
  pub plain : plain_item s r ≡ Word first
  pub is : ws ≡ first ∷ rest
  pub leads : IsFirst s r first
  pub others : All (IsOther s r) rest

abbrev pub Shape : Setting → Option ℕ → Resolution → List SlotWord → Type 0
Shape s far r ws = All (IsOther s r) ws ⊎ IsLed s far r ws

led : (s : Setting) (far : Option ℕ) (r : Resolution) (x : SlotItem) (xs : List SlotItem) → has_thread_slot r.flags ≡ false → plain_item s r ≡ x → ItemHas (IsFirst s r) x → All (ItemHas (IsOther s r)) xs → Shape s far r (with_items no_slot (x ∷ xs)).words
led s far r (Word w) xs t e h a =
    let m = More-items (IsOther s r) (add_item no_slot (Word w)) xs a in
    inr (record { first = w; rest = m.more; slot = t; plain = e; is = m.is; leads = h; others = m.each })
led s far r Stub xs t e h a =
    let m = More-items (IsOther s r) (add_item no_slot Stub) xs a in
    inl (subst (All (IsOther s r)) (sym m.is) m.each)
led s far r (Fault f) xs t e h a =
    let m = More-items (IsOther s r) (add_item no_slot (Fault f)) xs a in
    inl (subst (All (IsOther s r)) (sym m.is) m.each)

pub shape : (s : Setting) (far : Option ℕ) (r : Resolution) → Shape s far r (slot s far r).words
unfolding slot
shape s far r = by_place r.got_address
  where
    by_slot : (b : Bool) → has_thread_slot r.flags ≡ b → Shape s far r (with_items no_slot (if b then thread_items s r else address_items s far r)).words
    by_slot true t = inl (All-words (IsOther s r) (thread_items s r) (threads_other s r))
    by_slot false t = led s far r (plain_item s r) (behind_plain s far r) t refl (first_item s r) (behind_other s far r)

    by_place : (o : Option ℕ) → Shape s far r (with_items no_slot (items_at s far r o)).words
    by_place None = inl (All-nil (IsOther s r))
    by_place (Some got) = by_slot (has_thread_slot r.flags) refl
