-- The numbers in words of slots have 64 bits.
use Rattle.wild_loaded.proofs.Common.{◌≡◌, ℕ, ◌^◌, ◌<◌, [], ◌∷◌, refl, arith, Option, Some, None, All, not, ◌==◌, ◌&&◌, if◌then◌else◌, All-nil, All-cons, All-append, of_if, DtpMod, SlotWord, Number, Address, InRelrGot, General, Plt, Setting, Resolution, Symbol, Layout, has_flag, ifunc, is_executable, is_position_independent, minus, slot, setting_of, items_at, slots_of, resolved_slots, storage_at, storage_words, distance_if_too_far, SymbolNumbers}
use Rattle.wild_types.specs.Flags.{interposable, has_link_time_address, dynamic, got_tls_offset, got_tls_module, got_tls_descriptor, canonical_plt, ifunc_got_for_address, canonical_plt_got_for_address}
use Rattle.wild_types.specs.Kinds.{is_static_executable}
use Rattle.wild_slot.specs.Storage.{is_outside}
use Rattle.wild_types.specs.SymbolSlots.{has_dynamic_symbol, has_thread_slot}
use Rattle.wild_slot.specs.Slots.{slot_items, number, offset_item, module_item, module_offset, module_offset_item, described, descriptor_item, offset_items, module_items, descriptor_items, plain_item, stub_items, stub_address, ifunc_address_items, canonical_address_items, thread_items, address_items, is_replaceable, storage_pair}
use Rattle.wild_layout.specs.Numbers.{ResolutionNumbers}
use Rattle.wild_slots.proofs.ItemLemmas.{ItemHas, All-words, of_named, of_where, of_one, of_stub}

-- what stands in the word, or what a loader makes it of
abbrev pub WordFits : SlotWord → Type 0
WordFits (Number n) = n < 2 ^ 64
WordFits (Address a) = a < 2 ^ 64
WordFits (InRelrGot a) = a < 2 ^ 64
WordFits (General e) = e.addend < 2 ^ 64
WordFits (Plt e) = e.addend < 2 ^ 64

-- ---- thread-local slots

offset_fits : (s : Setting) (r : Resolution) → ItemHas WordFits (offset_item s r)
offset_fits s r =
    of_if (ItemHas WordFits) (has_dynamic_symbol r.flags) _ _ (λ t. of_named WordFits r.dynamic_symbol_index _ (λ d e. omega arith))
    (λ f. of_if (ItemHas WordFits) (r.raw_value == 0) _ _ (λ t. omega arith)
    (λ g. of_if (ItemHas WordFits) (is_outside s.tls r.raw_value) _ _ (λ t. tt)
    (λ h. of_if (ItemHas WordFits) (is_executable s.kind) _ _ (λ t. omega arith) (λ k. omega arith))))

zero_fits : ItemHas WordFits (number 0)
zero_fits = omega arith

one_fits : ItemHas WordFits (number 1)
one_fits = omega arith

module_fits : (s : Setting) (r : Resolution) → ItemHas WordFits (module_item s r)
module_fits s r =
    of_if (ItemHas WordFits) (is_executable s.kind && not (has_flag r.flags dynamic)) (number 1) _ (λ t. one_fits)
    (λ f. of_if (ItemHas WordFits) (interposable r.flags) _ _ (λ t. of_named WordFits r.dynamic_symbol_index _ (λ d e. omega arith)) (λ g. omega arith))

pair_fits : (s : Setting) (r : Resolution) → ItemHas WordFits (module_offset_item s r)
pair_fits s r = by_index (if interposable r.flags then r.dynamic_symbol_index else None)
  where
    by_index : (o : Option ℕ) → ItemHas WordFits (module_offset s r.raw_value o)
    by_index (Some d) = omega arith
    by_index None = omega arith

descriptor_fits : (s : Setting) (r : Resolution) → ItemHas WordFits (descriptor_item s r)
descriptor_fits s r = by_index r.dynamic_symbol_index
  where
    by_index : (o : Option ℕ) → ItemHas WordFits (described s r.flags r.raw_value o)
    by_index (Some d) = of_if (ItemHas WordFits) (is_static_executable s.kind) _ _ (λ t. tt) (λ f. omega arith)
    by_index None =
        of_if (ItemHas WordFits) (is_replaceable s.kind r.flags) _ _ (λ t. tt)
        (λ f. of_if (ItemHas WordFits) (is_outside s.tls r.raw_value) _ _ (λ t. tt)
        (λ g. of_if (ItemHas WordFits) (is_static_executable s.kind) _ _ (λ t. tt) (λ h. omega arith)))

thread_fits : (s : Setting) (r : Resolution) → All (ItemHas WordFits) (thread_items s r)
thread_fits s r =
    All-append (ItemHas WordFits) (offset_items s r) _ (of_where WordFits (has_flag r.flags got_tls_offset) _ (λ t. of_one WordFits (offset_item s r) (offset_fits s r)))
    (All-append (ItemHas WordFits) (module_items s r) (descriptor_items s r)
    (of_where WordFits (has_flag r.flags got_tls_module) _ (λ t. All-cons (ItemHas WordFits) (module_item s r) (module_offset_item s r ∷ []) (module_fits s r) (of_one WordFits (module_offset_item s r) (pair_fits s r))))
    (of_where WordFits (has_flag r.flags got_tls_descriptor) _ (λ t. All-cons (ItemHas WordFits) (descriptor_item s r) (number 0 ∷ []) (descriptor_fits s r) (of_one WordFits (number 0) zero_fits))))

-- ---- the slot of an address

plain_fits : (s : Setting) (r : Resolution) → ResolutionNumbers r → ItemHas WordFits (plain_item s r)
plain_fits s r n =
    of_if (ItemHas WordFits) (has_flag r.flags canonical_plt) _ _ (λ t. of_named WordFits r.dynamic_symbol_index _ (λ d e. omega arith))
    (λ f. of_if (ItemHas WordFits) (has_dynamic_symbol r.flags) _ _ (λ t. of_named WordFits r.dynamic_symbol_index _ (λ d e. omega arith))
    (λ g. of_if (ItemHas WordFits) (has_flag r.flags ifunc) _ _ (λ t. n.value)
    (λ h. of_if (ItemHas WordFits) (is_position_independent s.kind && has_link_time_address r.flags) _ _ (λ t. of_if WordFits s.relr _ _ (λ a. n.value) (λ b. n.value)) (λ k. n.value))))

stub_fits : (s : Setting) (r : Resolution) → ResolutionNumbers r → ItemHas WordFits (stub_address s r.plt_address)
stub_fits s r n = by_stub r.plt_address n.stub
  where
    by_stub : (o : Option ℕ) → ((a : ℕ) → o ≡ Some a → a < 2 ^ 64) → ItemHas WordFits (stub_address s o)
    by_stub None h = tt
    by_stub (Some a) h = of_if (ItemHas WordFits) (is_position_independent s.kind) _ _ (λ t. h a refl) (λ f. h a refl)

address_fits : (s : Setting) (far : Option ℕ) (r : Resolution) → ResolutionNumbers r → All (ItemHas WordFits) (address_items s far r)
address_fits s far r n =
    All-cons (ItemHas WordFits) (plain_item s r) _ (plain_fits s r n)
    (All-append (ItemHas WordFits) (stub_items far r.plt_address) _ (of_stub WordFits far r.plt_address)
    (All-append (ItemHas WordFits) (ifunc_address_items s r) (canonical_address_items s r)
    (of_where WordFits (has_flag r.flags ifunc_got_for_address) _ (λ t. of_one WordFits (stub_address s r.plt_address) (stub_fits s r n)))
    (of_where WordFits (has_flag r.flags canonical_plt_got_for_address) _ (λ t. of_one WordFits _ (of_named WordFits r.dynamic_symbol_index _ (λ d e. omega arith))))))

items_fit : (s : Setting) (far : Option ℕ) (r : Resolution) → ResolutionNumbers r → All (ItemHas WordFits) (slot_items s far r)
items_fit s far r n = by_place r.got_address
  where
    by_place : (o : Option ℕ) → All (ItemHas WordFits) (items_at s far r o)
    by_place None = All-nil (ItemHas WordFits)
    by_place (Some at) = of_if (All (ItemHas WordFits)) (has_thread_slot r.flags) _ _ (λ t. thread_fits s r) (λ f. address_fits s far r n)

slot_fits : (s : Setting) (far : Option ℕ) (r : Resolution) → ResolutionNumbers r → All WordFits (slot s far r).words
unfolding slot
slot_fits s far r n = All-words WordFits (slot_items s far r) (items_fit s far r n)

-- the words of a symbol
pub words_fit : (l : Layout) (s : Symbol) → SymbolNumbers s → All WordFits (slots_of l s).words
unfolding slots_of
words_fit l s n = by_resolution s.resolution n
  where
    by_resolution : (o : Option Resolution) → ((r : Resolution) → o ≡ Some r → ResolutionNumbers r) → All WordFits (resolved_slots l o).words
    by_resolution None h = All-nil WordFits
    by_resolution (Some r) h = slot_fits (setting_of l) (distance_if_too_far l r) r (h r refl)

abbrev pub own_module : SlotWord
own_module = General (record { kind = DtpMod; symbol = 0; addend = 0 })

-- the pair of the output's own thread-local data
pub storage_fits : (l : Layout) → All WordFits (storage_words l)
storage_fits l = by_place l.tlsld
  where
    pair : (s : Setting) → All WordFits (storage_pair s)
    pair s =
        of_if (All WordFits) (is_executable s.kind) (Number 1 ∷ Number (minus s.thread_pointer s.tls.start) ∷ []) (own_module ∷ Number 0 ∷ [])
        (λ t. All-cons WordFits (Number 1) (Number (minus s.thread_pointer s.tls.start) ∷ []) (omega arith) (All-cons WordFits (Number (minus s.thread_pointer s.tls.start)) [] (omega arith) (All-nil WordFits)))
        (λ f. All-cons WordFits own_module (Number 0 ∷ []) (omega arith) (All-cons WordFits (Number 0) [] (omega arith) (All-nil WordFits)))

    by_place : (o : Option ℕ) → All WordFits (storage_at (setting_of l) o)
    by_place None = All-nil WordFits
    by_place (Some at) = pair (setting_of l)
