-- A slot that the writer knows of, in memory, is the slot that an expression names.
use Rattle.wild_references.proofs.Common.{◌≡◌, ℕ, ◌+◌, ◌%◌, ◌^◌, ◌<◌, Bool, true, false, refl, sym, ap, ◌∙◌, arith, subst, ◌&&◌, ◌||◌, not, if◌then◌else◌, Option, Some, None, Ok, option_and_then, Resolution, Symbol, ValueFlags, Layout, has_flag, got_tls_offset, got_tls_module, got_tls_descriptor, canonical, HasItsFlags, resolved_got, got_of, has_thread_slot, AddressSlot, ModulePair, ThreadOffset, Descriptor, slot_sort, SlotSort, resolution_of, after_word, after_pair, holds_at, Memory, World, IsSlot}
use Rattle.wild_types.specs.declared.fault.Missing.TheVariants as missing
use Rattle.wild_types.specs.FilePlaces.{bool_eq}
use Rattle.wild_types.specs.Flags.{got_slot}
use Rattle.wild_types.specs.ResolvedFlags.{HaveTheirFlags}
use Rattle.wild_plan_rules.specs.SlotFlags.{slot_agrees}
use Rattle.wild_layout.specs.SlotOrder.{EachAgrees}
use Rattle.wild_reloc.specs.Formula.{Slot}
use Rattle.wild_reloc.specs.declared.expression.SlotSort.TheVariants as sorts
use Rattle.wild_layout.specs.SlotValues.{has_second_slot, slot_from_first, slot_in_resolution, slot_address, slot_of}
use Rattle.wild_meaning.specs.Slot.{HoldsSlot, has_slot_of, offset_from_first, HasSlotAddress, HasSlot, IsSlotOf}
use Rattle.wild_references.proofs.Symbols.{IsResolvedBy, resolved}
use Rattle.wild_references.proofs.WrittenFields.{given_some}

-- ---- what the writer knows

-- where the writer takes a slot that stands behind a symbol's first
pub by_slot : (sort : SlotSort) (l : Layout) (i slot : ℕ) (P : ℕ → Type 0) → slot_in_resolution sort (resolution_of l i) ≡ Some slot → ((r : Resolution) (at : ℕ) → IsResolvedBy l i r → r.got_address ≡ Some at → slot_from_first sort r.flags at ≡ Some slot → P slot) → P slot
by_slot sort l i slot P h by = by_resolution (resolution_of l i) refl h
  where
    by_place : (r : Resolution) (o : Option ℕ) → resolution_of l i ≡ Some r → r.got_address ≡ o → option_and_then (slot_from_first sort r.flags) o ≡ Some slot → P slot
    by_place r None e f h = cc
    by_place r (Some at) e f h = by r at (resolved l i r e) f h

    by_resolution : (o : Option Resolution) → resolution_of l i ≡ o → slot_in_resolution sort o ≡ Some slot → P slot
    by_resolution None e h = cc
    by_resolution (Some r) e h = by_place r r.got_address e refl h

-- ---- the places

-- the address is, modulo 2^64, that of the slot that the reader takes
pub record IsSameSlot (sort : Slot) (l : Layout) (i at : ℕ) : Type 0 where
  pub slot : ℕ
  pub given : HasSlot sort l i slot
  pub same : (base : ℕ) → (base + at) % 2 ^ 64 ≡ (base + slot) % 2 ^ 64

-- the writer takes for the slot of a sort the one that the reader takes
abbrev pub SlotsAgree : SlotSort → Layout → Type 0
SlotsAgree sort l = (i at : ℕ) → slot_of l sort i ≡ Some at → IsSameSlot (slot_sort sort) l i at

-- so far behind the first slot, where the symbol's flags ask for it
decided_slot : (sort : Slot) (l : Layout) (i at : ℕ) (r : Resolution) → HaveTheirFlags l → IsResolvedBy l i r → r.got_address ≡ Some at → has_slot_of sort r.flags ≡ true → HasSlotAddress sort l i (at + offset_from_first sort r.flags)
decided_slot sort l i at r own d e asked =
    let flags : r.flags ≡ d.symbol.flags = holds_at HasItsFlags l.symbols (canonical l i) d.symbol d.listed own r d.decided in
    record {
      definition = canonical l i;
      defined = d.defined;
      symbol = d.symbol;
      listed = d.listed;
      flagged = sym (ap (λ (f : ValueFlags). has_slot_of sort f) flags) ∙ asked;
      resolution = r;
      decided = d.decided;
      first = at;
      given = e;
      place = ap (λ (f : ValueFlags). at + offset_from_first sort f) flags;
    }

word_same : (b : Bool) (base at : ℕ) → (base + after_word b at) % 2 ^ 64 ≡ (base + (at + (if b then 8 else 0))) % 2 ^ 64
word_same true base at = omega arith
word_same false base at = omega arith

pair_same : (offset pair : Bool) (base at : ℕ) → (base + after_pair pair (after_word offset at)) % 2 ^ 64 ≡ (base + (at + ((if offset then 8 else 0) + (if pair then 16 else 0)))) % 2 ^ 64
pair_same true true base at = omega arith
pair_same true false base at = omega arith
pair_same false true base at = omega arith
pair_same false false base at = omega arith

-- a slot of a symbol without a thread-local one is that of its address
address_flag : (s : Symbol) (at : ℕ) → slot_agrees s ≡ true → got_of s ≡ Some at → has_thread_slot s.flags ≡ false → has_flag s.flags got_slot ≡ true
address_flag s at h e plain = by (has_flag s.flags got_slot) (rw (e, plain) at h)
  where
    by : (b : Bool) → (bool_eq true (b || false) && (not b || not false)) ≡ true → b ≡ true
    by true h = refl
    by false h = cc

address_asked : (l : Layout) (i at : ℕ) (r : Resolution) → HaveTheirFlags l → EachAgrees l → IsResolvedBy l i r → r.got_address ≡ Some at → has_thread_slot r.flags ≡ false → has_flag r.flags got_slot ≡ true
address_asked l i at r own agrees d e plain =
    let flags : r.flags ≡ d.symbol.flags = holds_at HasItsFlags l.symbols (canonical l i) d.symbol d.listed own r d.decided in
    let here : has_thread_slot d.symbol.flags ≡ false = subst (λ (f : ValueFlags). has_thread_slot f ≡ false) flags plain in
    ap (λ (f : ValueFlags). has_flag f got_slot) flags ∙ address_flag d.symbol at (agrees.defined i d.symbol d.listed).sorts (ap resolved_got d.decided ∙ e) here

pub address_slots : (l : Layout) → HaveTheirFlags l → EachAgrees l → SlotsAgree sorts.Address l
address_slots l own agrees = λ i slot h. by_slot sorts.Address l i slot (λ (n : ℕ). IsSameSlot AddressSlot l i n) h (λ r at d e among. by_flag i slot r at d e (has_thread_slot r.flags) refl among)
  where
    by_flag : (i slot : ℕ) (r : Resolution) (at : ℕ) → IsResolvedBy l i r → r.got_address ≡ Some at → (b : Bool) → has_thread_slot r.flags ≡ b → (if b then None else Some (after_word (has_second_slot r.flags) at)) ≡ Some slot → IsSameSlot AddressSlot l i slot
    by_flag i slot r at d e true f h = cc
    by_flag i slot r at d e false f h =
        let is : after_word (has_second_slot r.flags) at ≡ slot = cc in
        subst (λ (n : ℕ). IsSameSlot AddressSlot l i n) is (record { slot = at + offset_from_first AddressSlot r.flags; given = decided_slot AddressSlot l i at r own d e (address_asked l i at r own agrees d e f); same = λ base. word_same (has_second_slot r.flags) base at })

pub offset_slots : (l : Layout) → HaveTheirFlags l → SlotsAgree sorts.TpOff l
offset_slots l own = λ i slot h. by_slot sorts.TpOff l i slot (λ (n : ℕ). IsSameSlot ThreadOffset l i n) h (λ r at d e among. by_flag i slot r at d e (has_flag r.flags got_tls_offset) refl among)
  where
    by_flag : (i slot : ℕ) (r : Resolution) (at : ℕ) → IsResolvedBy l i r → r.got_address ≡ Some at → (b : Bool) → has_flag r.flags got_tls_offset ≡ b → (if b then Some at else None) ≡ Some slot → IsSameSlot ThreadOffset l i slot
    by_flag i slot r at d e true f h =
        let is : at ≡ slot = cc in
        subst (λ (n : ℕ). IsSameSlot ThreadOffset l i n) is (record { slot = at + offset_from_first ThreadOffset r.flags; given = decided_slot ThreadOffset l i at r own d e f; same = λ base. word_same false base at })
    by_flag i slot r at d e false f h = cc

pub pair_slots : (l : Layout) → HaveTheirFlags l → SlotsAgree sorts.TlsGd l
pair_slots l own = λ i slot h. by_slot sorts.TlsGd l i slot (λ (n : ℕ). IsSameSlot ModulePair l i n) h (λ r at d e among. by_flag i slot r at d e (has_flag r.flags got_tls_module) refl among)
  where
    by_flag : (i slot : ℕ) (r : Resolution) (at : ℕ) → IsResolvedBy l i r → r.got_address ≡ Some at → (b : Bool) → has_flag r.flags got_tls_module ≡ b → (if b then Some (after_word (has_flag r.flags got_tls_offset) at) else None) ≡ Some slot → IsSameSlot ModulePair l i slot
    by_flag i slot r at d e true f h =
        let is : after_word (has_flag r.flags got_tls_offset) at ≡ slot = cc in
        subst (λ (n : ℕ). IsSameSlot ModulePair l i n) is (record { slot = at + offset_from_first ModulePair r.flags; given = decided_slot ModulePair l i at r own d e f; same = λ base. word_same (has_flag r.flags got_tls_offset) base at })
    by_flag i slot r at d e false f h = cc

pub descriptor_slots : (l : Layout) → HaveTheirFlags l → SlotsAgree sorts.TlsDesc l
descriptor_slots l own = λ i slot h. by_slot sorts.TlsDesc l i slot (λ (n : ℕ). IsSameSlot Descriptor l i n) h (λ r at d e among. by_flag i slot r at d e (has_flag r.flags got_tls_descriptor) refl among)
  where
    by_flag : (i slot : ℕ) (r : Resolution) (at : ℕ) → IsResolvedBy l i r → r.got_address ≡ Some at → (b : Bool) → has_flag r.flags got_tls_descriptor ≡ b → (if b then Some (after_pair (has_flag r.flags got_tls_module) (after_word (has_flag r.flags got_tls_offset) at)) else None) ≡ Some slot → IsSameSlot Descriptor l i slot
    by_flag i slot r at d e true f h =
        let offset = has_flag r.flags got_tls_offset in
        let pair = has_flag r.flags got_tls_module in
        let is : after_pair pair (after_word offset at) ≡ slot = cc in
        subst (λ (n : ℕ). IsSameSlot Descriptor l i n) is (record { slot = at + offset_from_first Descriptor r.flags; given = decided_slot Descriptor l i at r own d e f; same = λ base. pair_same offset pair base at })
    by_flag i slot r at d e false f h = cc

-- the pair of the output's own module is no symbol's
pub own_pair_slot : (l : Layout) → SlotsAgree sorts.TlsLd l
own_pair_slot l = λ i at h. record { slot = at; given = h; same = λ base. refl }

-- ---- memory

-- a slot in memory, whose address does not wrap
pub record SlotStands (sort : Slot) (l : Layout) (w : World) (m : Memory) (i at : ℕ) : Type 0 where
  pub holds : HoldsSlot sort l w m i (w.base + at)
  pub below : w.base + at < 2 ^ 64

-- each slot of a sort that the writer takes stands in memory
abbrev pub SlotsStand : SlotSort → Layout → World → Memory → Type 0
SlotsStand sort l w m = (i at : ℕ) → slot_of l sort i ≡ Some at → SlotStands (slot_sort sort) l w m i at

-- so the writer's G is the reader's
pub slot_given : (sort : SlotSort) (l : Layout) (w : World) (m : Memory) (symbol : Option ℕ) (i term : ℕ) → SlotsAgree sort l → SlotsStand sort l w m → symbol ≡ Some i → slot_address l sort symbol ≡ Ok term → IsSlot (slot_sort sort) l w m symbol ((w.base + term) % 2 ^ 64)
slot_given sort l w m symbol i term agree stands named given =
    let here : slot_address l sort (Some i) ≡ Ok term = subst (λ (o : Option ℕ). slot_address l sort o ≡ Ok term) named given in
    let known = given_some missing.Slot i (slot_of l sort i) term here in
    let slot = stands i term known in
    let place = agree i term known in
    let low = slot.below in
    let same : (w.base + term) % 2 ^ 64 ≡ w.base + term = omega (arith, low) in
    let is : IsSlotOf (slot_sort sort) l w m i ((w.base + term) % 2 ^ 64) = record { slot = place.slot; given = place.given; moves = place.same w.base; holds = subst (λ (g : ℕ). HoldsSlot (slot_sort sort) l w m i g) (sym same) slot.holds } in
    subst (λ (o : Option ℕ). IsSlot (slot_sort sort) l w m o ((w.base + term) % 2 ^ 64)) (sym named) is
