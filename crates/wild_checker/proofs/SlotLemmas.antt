-- Slots and stubs that are found to hold a symbol's value are the symbol's.
use Rattle.wild_checker.proofs.Common.{◌≡◌, ℕ, ◌+◌, ◌-◌, ◌%◌, ◌^◌, ◌<◌, ◌⊎◌, inl, inr, Bool, true, false, ◌&&◌, nat_lt, refl, sym, ap, ◌∙◌, arith, subst, Option, Some, None, Ok, if◌then◌else◌, ◌==◌, ◌||◌, not, slice_get, slice_index, option_map, option_and_then, eqb-true, and_parts, or_cases, not-true, word, length-word, File, Machine, Layout, Resolution, Symbol, has_flag, absolute, ifunc, canonical, Memory, World, Word, Holds, HasValue, HasRaw, HasFlag, canonical_is, own_definition, Term, number_term, based, Follows, term_at, value_of, based_is, StubLaws, Loaded, has_bytes, raw_in, loaded_term, thread_term, may_be_zero, stub_term, is_at_stub}
use Rattle.wild_words.specs.Words.{number}
use Rattle.wild_words.proofs.WordLemmas.{number-word}
use Rattle.wild_reloc.specs.declared.expression.SlotSort.{SlotSort}
use Rattle.wild_reloc.specs.declared.expression.SlotSort.TheVariants as sorts
use Rattle.wild_reloc.specs.Expression.{slot_sort}
use Rattle.wild_reloc.specs.Formula.{Slot, OwnModulePair}
use Rattle.wild_types.specs.declared.kind.Machine.TheVariants as machine
use Rattle.wild_types.specs.Flags.{undefined_weak, plt_stub, ifunc_got_for_address}
use Rattle.wild_types.specs.SymbolSlots.{got_of, plt_of, resolved_got, resolved_plt}
use Rattle.wild_loader.specs.declared.memory.Machine.{Machine as Processor}
use Rattle.wild_loader.specs.declared.memory.Machine.TheVariants as processor
use Rattle.wild_loader.specs.Changes.{distance_of}
use Rattle.wild_loader.specs.Memory.{number_in}
use Rattle.wild_loader.proofs.HeldBytes.{number-held}
use Rattle.wild_loader.proofs.MappedSegments.{byte_below}
use Rattle.wild_meaning.specs.Denotes.{HasStub, stub_size, IsStub, IsAddressOf}
use Rattle.wild_meaning.specs.Jump.{JumpsBy}
use Rattle.wild_meaning.specs.LinkedImage.{processor_of}
use Rattle.wild_meaning.specs.ReferentAArch64.{IsUndefinedWeak}
use Rattle.wild_meaning.specs.Slot.{IsSlotOf, IsOwnPair, IsInAddressSlot, HoldsSlot, HasSlotAddress, HasSlot as HasSlotPlace, has_slot_of, offset_from_first}
use Rattle.wild_terms.specs.Outline.{own_module}
use Rattle.wild_terms.specs.Symbolic.{descriptor_at}
use Rattle.wild_terms.proofs.ValueLemmas.{own_module_is, same_terms}
use Rattle.wild_slot.specs.MachineStub.{stub_in}
use Rattle.wild_references.proofs.StubCode.{HasPlaces, stub_below, stub_code}
use Rattle.wild_checker.specs.Symbols.{is_equal}
use Rattle.wild_checker.specs.Threads.{module_term, offset_term, begin_offset}
use Rattle.wild_checker.specs.Slots.{is_known, are_same, holds_value, holds_pair, holds_slot, slot_place, slot_by, symbol_slot, own_pair_by, slot_term, is_for, has_places, is_stub, is_strong, stub_by, holds_stub}
use Rattle.wild_checker.proofs.ByteLemmas.{bytes_held}
use Rattle.wild_checker.proofs.ValueLemmas.{Known, mapped, raw_is, one_symbol, loaded_value}
use Rattle.wild_checker.proofs.ThreadLemmas.{thread_is, zero_is, pair_is, begin_is}

some_is : {X : Type 0} (x y : X) → (let o : Option X = Some x in o) ≡ Some y → x ≡ y
some_is x y h = cc

-- the term that memory has is the one that is looked for
pub the_term : (o : Option Term) (x : Term) → is_known o x ≡ true → o ≡ Some x
the_term None x h = cc
the_term (Some y) x h = ap (λ (z : Term). Some z) (same_terms y x h)

-- ---- words

-- memory has a number in a word below the last address
pub record IsWordAt (w : World) (m : Memory) (a v : ℕ) : Type 0 where
  pub low : w.base + a < 2 ^ 64
  pub number : number_in m (w.base + a) 8 ≡ Some v

word_number : (m : Memory) (a v : ℕ) → v < 2 ^ 64 → Holds m a (word 8 v) → number_in m a 8 ≡ Some v
word_number m a v low held =
    let e = number-held m a (word 8 v) held in
    subst (λ (n : ℕ). number_in m a n ≡ Some (number (word 8 v))) (length-word 8 v) e ∙ ap (λ (n : ℕ). Some n) (number-word 8 v (omega (arith, low)))

word_at : (w : World) (m : Memory) (a v : ℕ) → v < 2 ^ 64 → Holds m (w.base + a) (word 8 v) → IsWordAt w m a v
word_at w m a v low held =
    let long = length-word 8 v in
    let below = byte_below m (w.base + a + 0) (slice_index (word 8 v) 0) (held 0 (omega (arith, long))) in
    record { low = omega (arith, below); number = word_number m (w.base + a) v low held }

-- the word is the symbol's value
pub record HoldsValue (k : Loaded) (w : World) (m : Memory) (i a : ℕ) : Type 0 where
  pub value : ℕ
  pub is : HasValue k.layout w i value
  pub word : IsWordAt w m a value

holds : (k : Loaded) (f : File) (w : World) (m : Memory) (i a : ℕ) (d : Symbol) → Known k f w → Follows w k.memory m → slice_get k.layout.symbols (canonical k.layout i) ≡ Some d → holds_value k f i d a ≡ true → HoldsValue k w m i a
holds k f w m i a d n follows there h =
    let both = and_parts (nat_lt a (2 ^ 64)) (are_same (term_at k.memory a 8) (loaded_term k f i d)) h in
    by (loaded_term k f i d) refl both.1
  where
    by : (o : Option Term) → loaded_term k f i d ≡ o → are_same (term_at k.memory a 8) o ≡ true → HoldsValue k w m i a
    by None e h = cc
    by (Some t) e h =
        let held = follows.terms a 8 t (omega arith) (the_term (term_at k.memory a 8) t h) in
        let low : value_of w t < 2 ^ 64 = omega arith in
        record { value = value_of w t; is = loaded_value k f w i d t n there e; word = word_at w m a (value_of w t) low held }

-- a word of memory has the value of a term that is found there
found_word : (k : Loaded) (w : World) (m : Memory) (a : ℕ) (t : Term) → Follows w k.memory m → is_known (term_at k.memory a 8) t ≡ true → IsWordAt w m a (value_of w t)
found_word k w m a t follows h =
    let low : value_of w t < 2 ^ 64 = omega arith in
    word_at w m a (value_of w t) low (follows.terms a 8 t (omega arith) (the_term (term_at k.memory a 8) t h))

-- the same for a term that may be known
record IsSame (o : Option Term) (x : Option Term) : Type 0 where
  term : Term
  is : x ≡ Some term
  known : is_known o term ≡ true

is_same : (o x : Option Term) → are_same o x ≡ true → IsSame o x
is_same o None h = cc
is_same o (Some t) h = record { term = t; is = refl; known = h }

-- ---- stubs

below_is : (b a : ℕ) → b + a < 2 ^ 64 → (b + a) % 2 ^ 64 ≡ b + a
below_is b a low = omega (arith, low)

record HasStubCode (k : Loaded) (f : File) (i : ℕ) (t : Term) : Type 0 where
  definition : Symbol
  there : slice_get k.layout.symbols (canonical k.layout i) ≡ Some definition
  resolution : Resolution
  decided : definition.resolution ≡ Some resolution
  stub : ℕ
  slot : ℕ
  stubbed : resolution.plt_address ≡ Some stub
  first : resolution.got_address ≡ Some slot
  strong : is_strong k.layout.machine definition ≡ true
  code : is_stub k stub slot ≡ true
  holds : holds_value k f i definition slot ≡ true
  is : based k.outline stub ≡ t

has_stub : (k : Loaded) (f : File) (i : ℕ) (t : Term) → stub_term k f i ≡ Some t → HasStubCode k f i t
has_stub k f i t h = by (slice_get k.layout.symbols (canonical k.layout i)) refl h
  where
    by_test : (d : Symbol) → slice_get k.layout.symbols (canonical k.layout i) ≡ Some d → (r : Resolution) → d.resolution ≡ Some r → (p g : ℕ) → r.plt_address ≡ Some p → r.got_address ≡ Some g → (b : Bool) → (is_strong k.layout.machine d && (is_stub k p g && holds_value k f i d g)) ≡ b → (if b then Some (based k.outline p) else None) ≡ Some t → HasStubCode k f i t
    by_test d there r e p g stubbed first false test h = cc
    by_test d there r e p g stubbed first true test h =
        let strong = and_parts (is_strong k.layout.machine d) (is_stub k p g && holds_value k f i d g) test in
        let both = and_parts (is_stub k p g) (holds_value k f i d g) strong.1 in
        record { definition = d; there = there; resolution = r; decided = e; stub = p; slot = g; stubbed = stubbed; first = first; strong = strong.0; code = both.0; holds = both.1; is = some_is (based k.outline p) t h }

    by_slot : (d : Symbol) → slice_get k.layout.symbols (canonical k.layout i) ≡ Some d → (r : Resolution) → d.resolution ≡ Some r → (p : ℕ) → r.plt_address ≡ Some p → (o : Option ℕ) → r.got_address ≡ o → stub_by k f i d (Some p) o ≡ Some t → HasStubCode k f i t
    by_slot d there r e p stubbed None first h = cc
    by_slot d there r e p stubbed (Some g) first h = by_test d there r e p g stubbed first (is_strong k.layout.machine d && (is_stub k p g && holds_value k f i d g)) refl h

    by_stub : (d : Symbol) → slice_get k.layout.symbols (canonical k.layout i) ≡ Some d → (r : Resolution) → d.resolution ≡ Some r → (o : Option ℕ) → r.plt_address ≡ o → stub_by k f i d o r.got_address ≡ Some t → HasStubCode k f i t
    by_stub d there r e None stubbed h = cc
    by_stub d there r e (Some p) stubbed h = by_slot d there r e p stubbed r.got_address refl h

    by_resolution : (d : Symbol) → slice_get k.layout.symbols (canonical k.layout i) ≡ Some d → (x : Option Resolution) → d.resolution ≡ x → stub_by k f i d (resolved_plt x) (resolved_got x) ≡ Some t → HasStubCode k f i t
    by_resolution d there None e h = cc
    by_resolution d there (Some r) e h = by_stub d there r e r.plt_address refl h

    by : (o : Option Symbol) → slice_get k.layout.symbols (canonical k.layout i) ≡ o → option_and_then (λ d. stub_by k f i d (plt_of d) (got_of d)) o ≡ Some t → HasStubCode k f i t
    by None there h = cc
    by (Some d) there h = by_resolution d there d.resolution refl h

alike : (k : Machine) (q : Processor) → is_for k q ≡ true → q ≡ processor_of k
alike machine.X86_64 processor.X86_64 h = refl
alike machine.X86_64 processor.AArch64 h = cc
alike machine.AArch64 processor.X86_64 h = cc
alike machine.AArch64 processor.AArch64 h = refl

places : (x : Machine) (k : Loaded) (w : World) (g : ℕ) → (k.layout.page_size % 4096 ≡ 0 → w.base % 4096 ≡ 0) → has_places x k.layout g ≡ true → HasPlaces x w.base g
places machine.X86_64 k w g pages h = tt
places machine.AArch64 k w g pages h =
    let both = and_parts (k.layout.page_size % 4096 == 0) (g % 8 == 0) h in
    (pages (eqb-true (k.layout.page_size % 4096) 0 both.0), eqb-true (g % 8) 0 both.1)

-- the definition of a symbol is no undefined weak one of AArch64 without a stub
not_weak : (x : Machine) (l : Layout) (i : ℕ) (d : Symbol) → slice_get l.symbols (canonical l i) ≡ Some d → is_strong x d ≡ true → x ≡ machine.AArch64 → IsUndefinedWeak l i → ⊥
not_weak machine.X86_64 l i d there h on u = cc
not_weak machine.AArch64 l i d there h on u = elim (or_cases (not (has_flag d.flags undefined_weak)) (has_flag d.flags plt_stub) h) [
  | inl strong ↦
      (let e : has_flag d.flags undefined_weak ≡ true = subst (λ (x : Symbol). has_flag x.flags undefined_weak ≡ true) (one_symbol l i u.weak.definition d u.weak.symbol there (canonical_is l i u.weak.definition u.weak.defined) u.weak.listed) u.weak.flagged in
      let off = not-true (has_flag d.flags undefined_weak) strong in
      let both : true ≡ false = sym e ∙ off in
      cc)
  | inr stub ↦
      (let e : has_flag d.flags plt_stub ≡ false = subst (λ (x : Symbol). has_flag x.flags plt_stub ≡ false) (one_symbol l i u.stubless.definition d u.stubless.symbol there (canonical_is l i u.stubless.definition u.stubless.defined) u.stubless.listed) u.stubless.flagged in
      let both : true ≡ false = sym stub ∙ e in
      cc)
]

-- the stub is the symbol's
pub record IsStubOf (k : Loaded) (w : World) (m : Memory) (i a : ℕ) : Type 0 where
  pub strong : k.layout.machine ≡ machine.AArch64 → IsUndefinedWeak k.layout i → ⊥
  pub stub : IsStub k.layout w m i a

-- what is known of code and of bases
pub record CodeLaws (k : Loaded) (w : World) : Type 0 where
  pub stubs : StubLaws
  pub pages : k.layout.page_size % 4096 ≡ 0 → w.base % 4096 ≡ 0

pub stub_is : (k : Loaded) (f : File) (w : World) (m : Memory) (i : ℕ) (t : Term) → CodeLaws k w → Known k f w → Follows w k.memory m → stub_term k f i ≡ Some t → IsStubOf k w m i (value_of w t)
stub_is k f w m i t laws n follows h =
    let s = has_stub k f i t h in
    let l = k.layout in
    let v = holds k f w m i s.slot s.definition n follows s.there s.holds in
    let a = and_parts (is_for l.machine k.memory.memory.machine) (has_places l.machine l s.slot && ((stub_in l s.slot s.stub).reaches && has_bytes k.memory s.stub (stub_in l s.slot s.stub).bytes)) s.code in
    let b = and_parts (has_places l.machine l s.slot) ((stub_in l s.slot s.stub).reaches && has_bytes k.memory s.stub (stub_in l s.slot s.stub).bytes) a.1 in
    let c = and_parts ((stub_in l s.slot s.stub).reaches) (has_bytes k.memory s.stub (stub_in l s.slot s.stub).bytes) b.1 in
    let held = bytes_held w m k.memory s.stub (stub_in l s.slot s.stub).bytes follows c.1 in
    let low = stub_below l m w.base s.slot s.stub held in
    let moves : value_of w t ≡ (w.base + s.stub) % 2 ^ 64 = ap (value_of w) (sym s.is) ∙ based_is k.outline w s.stub n.world in
    let place : value_of w t ≡ w.base + s.stub = moves ∙ below_is w.base s.stub low in
    let code = stub_code laws.stubs l m w.base s.slot s.stub v.value (places l.machine k w s.slot laws.pages b.0) (follows.machine ∙ alike l.machine k.memory.memory.machine a.0) c.0 held v.word.number in
    record {
      strong = not_weak l.machine l i s.definition s.there s.strong;
      stub = record {
        stub = s.stub;
        given = record { definition = canonical l i; defined = own_definition l i s.definition s.there; symbol = s.definition; listed = s.there; resolution = s.resolution; decided = s.decided; stub = s.stubbed };
        moves = moves;
        value = v.value;
        is = v.is;
        slot = s.slot;
        first = s.first;
        word = v.word.number;
        code = subst (λ (x : ℕ). JumpsBy l m x stub_size (Word ((w.base + s.slot) % 2 ^ 64)) v.value) (sym place) code;
      };
    }

-- the output uses the stub as the symbol's address
pub record IsAtStub (k : Loaded) (i : ℕ) : Type 0 where
  pub stands : (p : ℕ) → HasStub k.layout i p → HasFlag k.layout i ifunc true ⊎ HasRaw k.layout i p
  pub moves : HasFlag k.layout i absolute false

pub at_stub : (k : Loaded) (f : File) (w : World) (i : ℕ) (d : Symbol) → Known k f w → slice_get k.layout.symbols (canonical k.layout i) ≡ Some d → is_at_stub k f i d ≡ true → IsAtStub k i
at_stub k f w i d n there h =
    let both = and_parts (not (has_flag d.flags absolute)) (has_flag d.flags ifunc || is_equal (raw_in k f i d.resolution) (plt_of d)) h in
    let l = k.layout in
    let defined = own_definition l i d there in
    record {
      stands = λ p s. elim (or_cases (has_flag d.flags ifunc) (is_equal (raw_in k f i d.resolution) (plt_of d)) both.1) [
        | inl e ↦ inl (record { definition = canonical l i; defined = defined; symbol = d; listed = there; flagged = e })
        | inr e ↦ inr (by p s (raw_in k f i d.resolution) (plt_of d) refl refl e)
      ];
      moves = record { definition = canonical l i; defined = defined; symbol = d; listed = there; flagged = not-true (has_flag d.flags absolute) both.0 };
    }
  where
    -- the symbol's stub is its definition's
    stub_of : (p : ℕ) → HasStub k.layout i p → plt_of d ≡ Some p
    stub_of p s =
        let same = one_symbol k.layout i s.definition d s.symbol there (canonical_is k.layout i s.definition s.defined) s.listed in
        subst (λ (x : Symbol). plt_of x ≡ Some p) same (ap resolved_plt s.decided ∙ s.stub)

    by : (p : ℕ) → HasStub k.layout i p → (x y : Option ℕ) → raw_in k f i d.resolution ≡ x → plt_of d ≡ y → is_equal x y ≡ true → HasRaw k.layout i p
    by p s None y e g h = cc
    by p s (Some a) None e g h = cc
    by p s (Some a) (Some b) e g h =
        let same : b ≡ p = some_is b p (sym g ∙ stub_of p s) in
        n.raw k.layout i p (raw_is k f w i p d n there (e ∙ ap (λ (x : ℕ). Some x) (eqb-true a b h ∙ same)))

-- so the stub's address is S
pub stub_address : (k : Loaded) (f : File) (w : World) (m : Memory) (i a : ℕ) → IsAtStub k i → IsStubOf k w m i a → IsAddressOf k.layout w m i a
stub_address k f w m i a x s = inr (s.stub.stub, record { stub = s.stub.given; stands = x.stands s.stub.stub s.stub.given; moves = x.moves }, s.stub.moves, s.stub)

-- ---- what slots hold

-- memory holds at an address below the last what a slot of that sort holds for symbol i
record IsHeld (sort : SlotSort) (k : Loaded) (w : World) (m : Memory) (i a : ℕ) : Type 0 where
  low : w.base + a < 2 ^ 64
  holds : HoldsSlot (slot_sort sort) k.layout w m i (w.base + a)

-- two words
record HasPair (k : Loaded) (w : World) (m : Memory) (a : ℕ) (x y : Option Term) : Type 0 where
  owner : Term
  is_owner : x ≡ Some owner
  offset : Term
  is_offset : y ≡ Some offset
  first : IsWordAt w m a (value_of w owner)
  second : number_in m (w.base + a + 8) 8 ≡ Some (value_of w offset)

has_pair : (k : Loaded) (w : World) (m : Memory) (a : ℕ) (x y : Option Term) → Follows w k.memory m → holds_pair k a x y ≡ true → HasPair k w m a x y
has_pair k w m a x y follows h =
    let both = and_parts (nat_lt a (2 ^ 64 - 8)) (are_same (term_at k.memory a 8) x && are_same (term_at k.memory (a + 8) 8) y) h in
    let words = and_parts (are_same (term_at k.memory a 8) x) (are_same (term_at k.memory (a + 8) 8) y) both.1 in
    let p = is_same (term_at k.memory a 8) x words.0 in
    let q = is_same (term_at k.memory (a + 8) 8) y words.1 in
    let second = found_word k w m (a + 8) q.term follows q.known in
    let e : w.base + (a + 8) ≡ w.base + a + 8 = omega arith in
    record {
      owner = p.term;
      is_owner = p.is;
      offset = q.term;
      is_offset = q.is;
      first = found_word k w m a p.term follows p.known;
      second = subst (λ (n : ℕ). number_in m n 8 ≡ Some (value_of w q.term)) e second.number;
    }

-- a slot with a stub's address
stub_held : (k : Loaded) (f : File) (w : World) (m : Memory) (i a : ℕ) (d : Symbol) → Known k f w → CodeLaws k w → Follows w k.memory m → slice_get k.layout.symbols (canonical k.layout i) ≡ Some d → holds_stub k f i d a ≡ true → IsHeld sorts.Address k w m i a
stub_held k f w m i a d n law follows there h =
    let both = and_parts (is_at_stub k f i d || has_flag d.flags ifunc_got_for_address) (are_same (term_at k.memory a 8) (stub_term k f i)) h in
    let p = is_same (term_at k.memory a 8) (stub_term k f i) both.1 in
    let v = found_word k w m a p.term follows p.known in
    let s = stub_is k f w m i p.term law n follows p.is in
    let there_is : IsInAddressSlot k.layout w m i (value_of w p.term) = elim (or_cases (is_at_stub k f i d) (has_flag d.flags ifunc_got_for_address) both.0) [
      | inl e ↦ inl (stub_address k f w m i (value_of w p.term) (at_stub k f w i d n there e) s)
      | inr e ↦ inr (record { definition = canonical k.layout i; defined = own_definition k.layout i d there; symbol = d; listed = there; flagged = e }, s.stub)
    ] in
    record { low = v.low; holds = (value_of w p.term, v.number, there_is) }

held : (sort : SlotSort) (k : Loaded) (f : File) (w : World) (m : Memory) (i a : ℕ) (d : Symbol) → Known k f w → CodeLaws k w → Follows w k.memory m → slice_get k.layout.symbols (canonical k.layout i) ≡ Some d → holds_slot k f i d sort a ≡ true → IsHeld sort k w m i a
held sorts.Address k f w m i a d n law follows there h =
    elim (or_cases (holds_value k f i d a) (holds_stub k f i d a) h) [
      | inl v ↦ (let v = holds k f w m i a d n follows there v in record { low = v.word.low; holds = (v.value, v.word.number, inl (inl v.is)) })
      | inr v ↦ stub_held k f w m i a d n law follows there v
    ]
held sorts.TlsGd k f w m i a d n law follows there h =
    let p = has_pair k w m a (module_term k d) (offset_term k f i d) follows h in
    let q = pair_is k f w i d p.owner p.offset n there p.is_owner p.is_offset in
    record { low = p.first.low; holds = ((q.distance + value_of w p.offset) % 2 ^ 64, record { owner = value_of w p.owner; first = p.first.number; offset = value_of w p.offset; second = p.second; distance = q.distance; known = q.known; sum = refl }, q.has) }
held sorts.TlsLd k f w m i a d n law follows there h = cc
held sorts.TpOff k f w m i a d n law follows there h =
    elim (or_cases (are_same (term_at k.memory a 8) (thread_term k f i d)) (may_be_zero k f i d && is_known (term_at k.memory a 8) (number_term 0)) h) [
      | inl s ↦
          (let p = is_same (term_at k.memory a 8) (thread_term k f i d) s in
          let v = found_word k w m a p.term follows p.known in
          record { low = v.low; holds = (value_of w p.term, v.number, thread_is k f w i d p.term n there p.is) })
      | inr z ↦
          (let p = and_parts (may_be_zero k f i d) (is_known (term_at k.memory a 8) (number_term 0)) z in
          let v = found_word k w m a (number_term 0) follows p.1 in
          record { low = v.low; holds = (0, v.number, zero_is k f w i d n there p.0) })
    ]
held sorts.TlsDesc k f w m i a d n law follows there h =
    let p = is_same (descriptor_at k.memory a) (thread_term k f i d) h in
    let noted = the_term (descriptor_at k.memory a) p.term p.known in
    record { low = follows.places a p.term noted; holds = (value_of w p.term, follows.descriptors a p.term noted, thread_is k f w i d p.term n there p.is) }

-- ---- slots

record HasSlot (sort : SlotSort) (k : Loaded) (f : File) (i : ℕ) (t : Term) : Type 0 where
  definition : Symbol
  there : slice_get k.layout.symbols (canonical k.layout i) ≡ Some definition
  slot : ℕ
  given : HasSlotAddress (slot_sort sort) k.layout i slot
  holds : holds_slot k f i definition sort slot ≡ true
  is : based k.outline slot ≡ t

has_slot : (sort : SlotSort) (k : Loaded) (f : File) (i : ℕ) (t : Term) → symbol_slot k f sort i ≡ Some t → HasSlot sort k f i t
has_slot sort k f i t h = by (slice_get k.layout.symbols (canonical k.layout i)) refl h
  where
    s : Slot
    s = slot_sort sort

    by_test : (d : Symbol) → slice_get k.layout.symbols (canonical k.layout i) ≡ Some d → (a : ℕ) → HasSlotAddress s k.layout i a → (b : Bool) → (nat_lt a (2 ^ 64) && holds_slot k f i d sort a) ≡ b → (if b then Some (based k.outline a) else None) ≡ Some t → HasSlot sort k f i t
    by_test d there a given false e h = cc
    by_test d there a given true e h = record { definition = d; there = there; slot = a; given = given; holds = (and_parts (nat_lt a (2 ^ 64)) (holds_slot k f i d sort a) e).1; is = some_is (based k.outline a) t h }

    by_first : (d : Symbol) → slice_get k.layout.symbols (canonical k.layout i) ≡ Some d → has_slot_of s d.flags ≡ true → (r : Resolution) → d.resolution ≡ Some r → (o : Option ℕ) → r.got_address ≡ o → slot_by k f i d sort (option_map (λ first. first + offset_from_first s d.flags) o) ≡ Some t → HasSlot sort k f i t
    by_first d there flag r e None g h = cc
    by_first d there flag r e (Some first) g h =
        let a = first + offset_from_first s d.flags in
        by_test d there a (record { definition = canonical k.layout i; defined = own_definition k.layout i d there; symbol = d; listed = there; flagged = flag; resolution = r; decided = e; first = first; given = g; place = refl }) (nat_lt a (2 ^ 64) && holds_slot k f i d sort a) refl h

    by_resolution : (d : Symbol) → slice_get k.layout.symbols (canonical k.layout i) ≡ Some d → has_slot_of s d.flags ≡ true → (x : Option Resolution) → d.resolution ≡ x → slot_by k f i d sort (option_map (λ first. first + offset_from_first s d.flags) (resolved_got x)) ≡ Some t → HasSlot sort k f i t
    by_resolution d there flag None e h = cc
    by_resolution d there flag (Some r) e h = by_first d there flag r e r.got_address refl h

    by_flag : (d : Symbol) → slice_get k.layout.symbols (canonical k.layout i) ≡ Some d → (b : Bool) → has_slot_of s d.flags ≡ b → slot_by k f i d sort (if b then option_map (λ first. first + offset_from_first s d.flags) (got_of d) else None) ≡ Some t → HasSlot sort k f i t
    by_flag d there false e h = cc
    by_flag d there true e h = by_resolution d there e d.resolution refl h

    by : (o : Option Symbol) → slice_get k.layout.symbols (canonical k.layout i) ≡ o → option_and_then (λ d. slot_by k f i d sort (slot_place sort d)) o ≡ Some t → HasSlot sort k f i t
    by None there h = cc
    by (Some d) there h = by_flag d there (has_slot_of s d.flags) refl h

-- a term is the loaded address of a slot
record IsAt (k : Loaded) (w : World) (a : ℕ) (t : Term) : Type 0 where
  moves : value_of w t ≡ (w.base + a) % 2 ^ 64
  place : value_of w t ≡ w.base + a

is_at : (k : Loaded) (f : File) (w : World) (a : ℕ) (t : Term) → Known k f w → w.base + a < 2 ^ 64 → based k.outline a ≡ t → IsAt k w a t
is_at k f w a t n low is =
    let moves : value_of w t ≡ (w.base + a) % 2 ^ 64 = ap (value_of w) (sym is) ∙ based_is k.outline w a n.world in
    record { moves = moves; place = moves ∙ below_is w.base a low }

-- a slot of the symbol's own
own_slot : (sort : SlotSort) (k : Loaded) (f : File) (w : World) (m : Memory) (i : ℕ) (t : Term) → Known k f w → CodeLaws k w → Follows w k.memory m → ((p : ℕ) → HasSlotAddress (slot_sort sort) k.layout i p → HasSlotPlace (slot_sort sort) k.layout i p) → symbol_slot k f sort i ≡ Some t → IsSlotOf (slot_sort sort) k.layout w m i (value_of w t)
own_slot sort k f w m i t n law follows given h =
    let s = has_slot sort k f i t h in
    let v = held sort k f w m i s.slot s.definition n law follows s.there s.holds in
    let p = is_at k f w s.slot t n v.low s.is in
    record { slot = s.slot; given = given s.slot s.given; moves = p.moves; holds = subst (HoldsSlot (slot_sort sort) k.layout w m i) (sym p.place) v.holds }

-- the pair of the own module
own_pair : (k : Loaded) (f : File) (w : World) (m : Memory) (i : ℕ) (t : Term) → Known k f w → Follows w k.memory m → own_pair_by k k.layout.tlsld ≡ Some t → IsSlotOf OwnModulePair k.layout w m i (value_of w t)
own_pair k f w m i t n follows h = by k.layout.tlsld refl h
  where
    by_test : (a : ℕ) → k.layout.tlsld ≡ Some a → (b : Bool) → holds_pair k a (Some (own_module k.outline)) (option_map number_term (begin_offset k)) ≡ b → (if b then Some (based k.outline a) else None) ≡ Some t → IsSlotOf OwnModulePair k.layout w m i (value_of w t)
    by_test a e false test h = cc
    by_test a e true test h =
        let p = has_pair k w m a (Some (own_module k.outline)) (option_map number_term (begin_offset k)) follows test in
        let o = mapped number_term (begin_offset k) p.offset p.is_offset in
        let b = begin_is k f w o.from n o.is in
        let owner : w.own_module ≡ value_of w p.owner = own_module_is k.outline w n.world ∙ ap (value_of w) (some_is (own_module k.outline) p.owner p.is_owner) in
        let offset : value_of w (number_term o.from) ≡ value_of w p.offset = ap (value_of w) o.made in
        let q = is_at k f w a t n p.first.low (some_is (based k.outline a) t h) in
        let pair : IsOwnPair k.layout w m (w.base + a) = record {
          begin = (b.distance + value_of w (number_term o.from)) % 2 ^ 64;
          counted = b.base;
          pair = record { owner = value_of w p.owner; first = p.first.number; offset = value_of w p.offset; second = p.second; distance = b.distance; known = subst (λ (x : ℕ). distance_of w x ≡ Ok b.distance) owner b.known; sum = ap (λ (x : ℕ). (b.distance + x) % 2 ^ 64) offset };
        } in
        record { slot = a; given = e; moves = q.moves; holds = subst (IsOwnPair k.layout w m) (sym q.place) pair }

    by : (x : Option ℕ) → k.layout.tlsld ≡ x → own_pair_by k x ≡ Some t → IsSlotOf OwnModulePair k.layout w m i (value_of w t)
    by None e h = cc
    by (Some a) e h = by_test a e (holds_pair k a (Some (own_module k.outline)) (option_map number_term (begin_offset k))) refl h

-- the slot is the symbol's
pub slot_is : (sort : SlotSort) (k : Loaded) (f : File) (w : World) (m : Memory) (i : ℕ) (t : Term) → Known k f w → CodeLaws k w → Follows w k.memory m → slot_term k f sort i ≡ Some t → IsSlotOf (slot_sort sort) k.layout w m i (value_of w t)
slot_is sorts.Address k f w m i t n law follows h = own_slot sorts.Address k f w m i t n law follows (λ p g. g) h
slot_is sorts.TlsGd k f w m i t n law follows h = own_slot sorts.TlsGd k f w m i t n law follows (λ p g. g) h
slot_is sorts.TlsLd k f w m i t n law follows h = own_pair k f w m i t n follows h
slot_is sorts.TpOff k f w m i t n law follows h = own_slot sorts.TpOff k f w m i t n law follows (λ p g. g) h
slot_is sorts.TlsDesc k f w m i t n law follows h = own_slot sorts.TlsDesc k f w m i t n law follows (λ p g. g) h
