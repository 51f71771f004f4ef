-- The first slot of an address has the symbol's value.
use Rattle.wild_references.proofs.Common.{◌≡◌, ℕ, ◌+◌, ◌%◌, ◌^◌, ◌<◌, ◌⊎◌, inl, inr, Bool, true, false, List, ◌∷◌, ◌++◌, Option, Some, None, refl, sym, ap, ◌∙◌, arith, subst, ◌&&◌, ◌||◌, not, if◌then◌else◌, GotEntry, Irelative, OutputKind, SlotItem, SlotWord, General, Resolution, Symbol, ValueFlags, Layout, has_flag, interposable, has_link_time_address, absolute, dynamic, ifunc, non_interposable, copy_relocation, export_dynamic, KeepsAll, is_position_independent, canonical, setting_of, named, general, stub_items, ifunc_address_items, canonical_address_items, thread_items, distance_if_too_far, resolved_got, has_dynamic_symbol, has_thread_slot, IsLoadedWord, HasWords, Memory, World, HasWord, IsValue, HasValue, IsReplaceable, is_library, may_be_replaced, with_base, IsPlaced}
use Rattle.wild_reloc.specs.declared.dynamic.DynamicRelocationKind.{DynamicRelocationKind}
use Rattle.wild_reloc.specs.declared.dynamic.DynamicRelocationKind.TheVariants.{JumpSlot}
use Rattle.wild_slot.specs.declared.slot.SlotEntry.{SlotEntry}
use Rattle.wild_slot.specs.declared.slot.Setting.{Setting}
use Rattle.wild_slot.specs.declared.slot.SlotItem.TheVariants.{Word}
use Rattle.wild_slot.specs.declared.slot.SlotWord.TheVariants.{Number, Address, InRelrGot, Plt}
use Rattle.wild_types.specs.Flags.{canonical_plt}
use Rattle.wild_slot.specs.Slots.{plt, number, plain_item, slot_items, items_at, address_items, slot}
use Rattle.wild_slot.specs.SymbolWords.{resolved_slots, slots_of}
use Rattle.wild_geometry.specs.Slots.{IsFilledBy, HasSymbolSlots}
use Rattle.wild_references.proofs.AnsweredValues.{has_answer, answered_value}
use Rattle.wild_references.proofs.EntryWords.{address_filled, chosen_filled}
use Rattle.wild_references.proofs.Symbols.{IsResolvedBy, replaceable_by, resolved_raw, resolved_flag}
use Rattle.wild_references.proofs.SlotFlags.{symbol_fits}
use Rattle.wild_references.proofs.SlotContents.{ItemsHold, items_hold}
use Rattle.wild_geometry.specs.EntryKinds.{loaded_kind, address_kind}

-- ---- the slots of a symbol in memory, where all is written

-- its words, item by item
pub symbol_held : (l : Layout) (w : World) (m : Memory) (at : ℕ) (s : Symbol) (r : Resolution) → HasSymbolSlots l w m s at → s.resolution ≡ Some r → ItemsHold w m at (slot_items (setting_of l) (distance_if_too_far l r) r)
unfolding slots_of slot
symbol_held l w m at s r h e =
    let same : slots_of l s ≡ slot (setting_of l) (distance_if_too_far l r) r = ap (resolved_slots l) e in
    items_hold w m at (slot_items (setting_of l) (distance_if_too_far l r) r) (sym (ap (λ c. c.fault) same) ∙ h.whole) (subst (λ c. HasWords w m at c.words) same h.words)

pub slots_held : (l : Layout) (w : World) (m : Memory) (i at : ℕ) (r : Resolution) → IsPlaced l w m → KeepsAll l → IsResolvedBy l i r → r.got_address ≡ Some at → ItemsHold w m at (slot_items (setting_of l) (distance_if_too_far l r) r)
slots_held l w m i at r p all d e = symbol_held l w m at d.symbol r ((p.slots all).symbols (canonical l i) at d.symbol d.listed (ap resolved_got d.decided ∙ e)) d.decided

-- those of a thread-local symbol, or of an address
items_by : (w : World) (m : Memory) (at : ℕ) (xs ys : List SlotItem) (thread b : Bool) → thread ≡ b → ItemsHold w m at (if thread then xs else ys) → ItemsHold w m at (if b then xs else ys)
items_by w m at xs ys thread b e h = subst (λ (c : Bool). ItemsHold w m at (if c then xs else ys)) e h

pub as_address : (l : Layout) (w : World) (m : Memory) (at : ℕ) (r : Resolution) → r.got_address ≡ Some at → has_thread_slot r.flags ≡ false → ItemsHold w m at (slot_items (setting_of l) (distance_if_too_far l r) r) → ItemsHold w m at (address_items (setting_of l) (distance_if_too_far l r) r)
as_address l w m at r e plain held =
    let far = distance_if_too_far l r in
    let h = subst (λ (o : Option ℕ). ItemsHold w m at (items_at (setting_of l) far r o)) e held in
    items_by w m at (thread_items (setting_of l) r) (address_items (setting_of l) far r) (has_thread_slot r.flags) false plain h

pub address_held : (l : Layout) (w : World) (m : Memory) (i at : ℕ) (r : Resolution) → IsPlaced l w m → KeepsAll l → IsResolvedBy l i r → r.got_address ≡ Some at → has_thread_slot r.flags ≡ false → ItemsHold w m at (address_items (setting_of l) (distance_if_too_far l r) r)
address_held l w m i at r p all d e plain = as_address l w m at r e plain (slots_held l w m i at r p all d e)

pub thread_held : (l : Layout) (w : World) (m : Memory) (i at : ℕ) (r : Resolution) → IsPlaced l w m → KeepsAll l → IsResolvedBy l i r → r.got_address ≡ Some at → has_thread_slot r.flags ≡ true → ItemsHold w m at (thread_items (setting_of l) r)
thread_held l w m i at r p all d e thread =
    let far = distance_if_too_far l r in
    let h = subst (λ (o : Option ℕ). ItemsHold w m at (items_at (setting_of l) far r o)) e (slots_held l w m i at r p all d e) in
    items_by w m at (thread_items (setting_of l) r) (address_items (setting_of l) far r) (has_thread_slot r.flags) true thread h

-- ---- the word of an address

-- no loader looks the symbol up, so that it is the output's own
pub own_flags : (kind : OutputKind) (f : ValueFlags) → has_dynamic_symbol f ≡ false → may_be_replaced kind f ≡ false
own_flags kind f h = by_tests (has_flag f dynamic) (has_flag f copy_relocation) (is_library kind) (has_flag f export_dynamic) (has_flag f non_interposable) h
  where
    by_tests : (a copied library exported fixed : Bool) → (a || (exported && not fixed)) ≡ false → ((a && not copied) || (library && (exported && not fixed))) ≡ false
    by_tests true copied library exported fixed h = cc
    by_tests false copied false exported fixed h = refl
    by_tests false copied true exported fixed h = h

pub not_dynamic : (f : ValueFlags) → has_dynamic_symbol f ≡ false → has_flag f dynamic ≡ false
not_dynamic f h = by_tests (has_flag f dynamic) (has_flag f export_dynamic && interposable f) h
  where
    by_tests : (a b : Bool) → (a || b) ≡ false → a ≡ false
    by_tests true b h = cc
    by_tests false b h = refl

-- by what is asked of the output's own symbol: whether a resolver chooses it, whether it moves, and whether words are packed
abbrev pub word_by : (chosen moving relr : Bool) → ℕ → SlotWord
word_by true moving relr raw = Plt (record { kind = Irelative; symbol = 0; addend = raw })
word_by false true true raw = InRelrGot raw
word_by false true false raw = Address raw
word_by false false relr raw = Number raw

abbrev pub own_item : Setting → Resolution → SlotItem
own_item s r =
    if has_flag r.flags ifunc then plt Irelative 0 r.raw_value
    else if is_position_independent s.kind && has_link_time_address r.flags then Word (if s.relr then InRelrGot r.raw_value else Address r.raw_value)
    else number r.raw_value

pub own_is : (s : Setting) (r : Resolution) → own_item s r ≡ Word (word_by (has_flag r.flags ifunc) (is_position_independent s.kind && has_link_time_address r.flags) s.relr r.raw_value)
own_is s r = by_tests (has_flag r.flags ifunc) (is_position_independent s.kind && has_link_time_address r.flags) s.relr r.raw_value
  where
    by_tests : (chosen moving relr : Bool) (raw : ℕ) → (if chosen then plt Irelative 0 raw else if moving then Word (if relr then InRelrGot raw else Address raw) else number raw) ≡ Word (word_by chosen moving relr raw)
    by_tests true moving relr raw = refl
    by_tests false true true raw = refl
    by_tests false true false raw = refl
    by_tests false false relr raw = refl

address_is : (still : Bool) (base raw x : ℕ) → x ≡ (raw + base) % 2 ^ 64 → still ≡ false → x ≡ with_base still base raw
address_is false base raw x h e = h ∙ omega arith
address_is true base raw x h e = cc

number_is : (still : Bool) (base raw x : ℕ) → x ≡ raw → (base ≡ 0) ⊎ (still ≡ true) → raw < 2 ^ 64 → x ≡ with_base still base raw
number_is true base raw x h e low = h
number_is false base raw x h (inl z) low = omega (arith, h, z, low)
number_is false base raw x h (inr t) low = cc

-- it is the symbol's value, once it is loaded
word_is : (w : World) (m : Memory) (place : ℕ) (chosen moving relr still : Bool) (raw x : ℕ) → IsLoadedWord w m place (word_by chosen moving relr raw) x → (moving ≡ true → still ≡ false) → (moving ≡ false → (w.base ≡ 0) ⊎ (still ≡ true)) → raw < 2 ^ 64 → IsValue w chosen still raw x
word_is w m place true moving relr still raw x h moves stays low = chosen_filled w m place raw x low h
word_is w m place false true true still raw x h moves stays low = address_is still w.base raw x h (moves refl)
word_is w m place false true false still raw x h moves stays low = address_is still w.base raw x h (moves refl)
word_is w m place false false relr still raw x h moves stays low = number_is still w.base raw x h (stays refl) low

-- ---- the value

-- the first slot of an address in memory, and what stands behind it
pub record HasFirst (l : Layout) (w : World) (m : Memory) (i at : ℕ) (rest : List SlotItem) : Type 0 where
  pub value : ℕ
  pub there : HasWord m (w.base + at) value
  pub is : HasValue l w i value
  pub behind : ItemsHold w m (at + 8) rest

-- the tests of what moves, of an own symbol
tests_moving : (pi still : Bool) (f : ValueFlags) → has_flag f absolute ≡ still → has_flag f dynamic ≡ false → (pi && has_link_time_address f) ≡ true → still ≡ false
tests_moving pi still f e d h = by_tests pi (has_flag f absolute) (has_flag f dynamic) still e h
  where
    by_tests : (a b c still : Bool) → b ≡ still → (a && (not b && not c)) ≡ true → still ≡ false
    by_tests true false c still e h = sym e
    by_tests true true c still e h = cc
    by_tests false b c still e h = cc

tests_still : (pi still : Bool) (f : ValueFlags) → has_flag f absolute ≡ still → has_flag f dynamic ≡ false → (pi && has_link_time_address f) ≡ false → (pi ≡ false) ⊎ (still ≡ true)
tests_still pi still f e d h = by_tests pi (has_flag f absolute) (has_flag f dynamic) still e d h
  where
    by_tests : (a b c still : Bool) → b ≡ still → c ≡ false → (a && (not b && not c)) ≡ false → (a ≡ false) ⊎ (still ≡ true)
    by_tests false b c still e d h = inl refl
    by_tests true true c still e d h = inr (sym e)
    by_tests true false false still e d h = cc
    by_tests true false true still e d h = cc

-- the items behind the first
abbrev pub items_behind : Layout → Resolution → List SlotItem
items_behind l r = stub_items (distance_if_too_far l r) r.plt_address ++ (ifunc_address_items (setting_of l) r ++ canonical_address_items (setting_of l) r)

-- the word of an entry that names the symbol
pub named_held : (l : Layout) (w : World) (m : Memory) (i at : ℕ) (r : Resolution) (rest : List SlotItem) (kind : DynamicRelocationKind) (word : SlotEntry → SlotWord) → IsPlaced l w m → IsResolvedBy l i r → loaded_kind m.machine kind ≡ address_kind m.machine
    → ((e : SlotEntry) (x : ℕ) → IsLoadedWord w m (w.base + at) (word e) x → IsFilledBy w m (w.base + at) e x) → ItemsHold w m at (named r.dynamic_symbol_index (λ d. Word (word (record { kind = kind; symbol = d; addend = 0 }))) ∷ rest) → HasFirst l w m i at rest
named_held l w m i at r rest kind word p by is filled h = by_index r.dynamic_symbol_index refl h
  where
    by_index : (o : Option ℕ) → r.dynamic_symbol_index ≡ o → ItemsHold w m at (named o (λ d. Word (word (record { kind = kind; symbol = d; addend = 0 }))) ∷ rest) → HasFirst l w m i at rest
    by_index None e h = absurd h
    by_index (Some d) e h =
        let x = h.0 in
        let a = address_filled w m (w.base + at) d x.0 kind p.legal.symbols.each is (filled (record { kind = kind; symbol = d; addend = 0 }) x.0 x.2) in
        record { value = x.0; there = x.1; is = subst (λ (n : ℕ). HasValue l w i n) (sym a.1) (answered_value l w i a.0.answer p.legal.symbols (has_answer l w i d r by e a.0)); behind = h.1 }

own_held : (l : Layout) (w : World) (m : Memory) (i at : ℕ) (r : Resolution) (rest : List SlotItem) → IsPlaced l w m → IsResolvedBy l i r → has_dynamic_symbol r.flags ≡ false → ItemsHold w m at (own_item (setting_of l) r ∷ rest) → HasFirst l w m i at rest
own_held l w m i at r rest p d looked held =
    let s = d.symbol in
    let fits = symbol_fits l i s p.symbols d.listed in
    let flags : r.flags ≡ s.flags = fits.flags r d.decided in
    let dyn = not_dynamic r.flags looked in
    let own : may_be_replaced l.kind s.flags ≡ false = ap (λ (f : ValueFlags). may_be_replaced l.kind f) (sym flags) ∙ own_flags l.kind r.flags looked in
    let still = has_flag s.flags absolute in
    let fixed : has_flag r.flags absolute ≡ still = ap (λ (f : ValueFlags). has_flag f absolute) flags in
    let pi = is_position_independent l.kind in
    let h = subst (λ (x : SlotItem). ItemsHold w m at (x ∷ rest)) (own_is (setting_of l) r) held in
    let x = h.0 in
    let stays : (pi && has_link_time_address r.flags) ≡ false → (w.base ≡ 0) ⊎ (still ≡ true) = λ f. (elim (tests_still pi still r.flags fixed dyn f) [ inl n ↦ inl (p.still n) | inr t ↦ inr t ]) in
    let is = word_is w m (w.base + at) (has_flag r.flags ifunc) (pi && has_link_time_address r.flags) l.options.relr still r.raw_value x.0 x.2 (λ t. tests_moving pi still r.flags fixed dyn t) stays (fits.number r d.decided) in
    record {
      value = x.0;
      there = x.1;
      is = inr (
        subst (λ (b : Bool). IsReplaceable l i b) own (replaceable_by l i r d),
        record {
          raw = r.raw_value;
          given = resolved_raw l i r d;
          indirect = has_flag s.flags ifunc;
          resolved = resolved_flag l i ifunc r d;
          still = still;
          absolute = resolved_flag l i absolute r d;
          is = subst (λ (f : ValueFlags). IsValue w (has_flag f ifunc) still r.raw_value x.0) flags is;
        },
      );
      behind = h.1;
    }

first_is : (l : Layout) (w : World) (m : Memory) (i at : ℕ) (r : Resolution) (rest : List SlotItem) → IsPlaced l w m → IsResolvedBy l i r → ItemsHold w m at (plain_item (setting_of l) r ∷ rest) → HasFirst l w m i at rest
first_is l w m i at r rest p d h = by_tests (has_flag r.flags canonical_plt) (has_dynamic_symbol r.flags) refl h
  where
    by_tests : (canonical looked : Bool) → has_dynamic_symbol r.flags ≡ looked → ItemsHold w m at ((if canonical then named r.dynamic_symbol_index (λ d. plt JumpSlot d 0) else if looked then named r.dynamic_symbol_index (λ d. general GotEntry d 0) else own_item (setting_of l) r) ∷ rest) → HasFirst l w m i at rest
    by_tests true looked e h = named_held l w m i at r rest JumpSlot (λ e. Plt e) p d refl (λ e x f. f) h
    by_tests false true e h = named_held l w m i at r rest GotEntry (λ e. General e) p d refl (λ e x f. f) h
    by_tests false false e h = own_held l w m i at r rest p d e h

pub first_held : (l : Layout) (w : World) (m : Memory) (i at : ℕ) (r : Resolution) → IsPlaced l w m → KeepsAll l → IsResolvedBy l i r → r.got_address ≡ Some at → has_thread_slot r.flags ≡ false → HasFirst l w m i at (items_behind l r)
first_held l w m i at r p all d e plain = first_is l w m i at r (items_behind l r) p d (address_held l w m i at r p all d e plain)
