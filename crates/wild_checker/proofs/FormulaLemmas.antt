-- The term of a reference has the value of its formula.
use Rattle.wild_checker.proofs.Common.{◌≡◌, ℕ, ◌+◌, ◌-◌, ◌/◌, ◌%◌, ◌^◌, ◌<◌, ◌⊎◌, ◌&&◌, inl, inr, Bool, true, false, refl, sym, ap, ◌∙◌, arith, subst, Option, Some, None, if◌then◌else◌, ◌==◌, not, slice_get, option_map, option_and_then, eq-eqb, eqb-true, and_parts, and_from, not-true, RelocationKindInfo, RelocationSize, ByteSize, BitMasking, expression_of, field_width, Value, Formula, SlotDistance, File, InputRelocation, InputSection, Machine, OutputKind, Layout, Symbol, has_flag, Item, canonical, Memory, World, StubLaws, HasValue, HasFlag, may_be_replaced, place_at, form_width, canonical_is, own_definition, Outline, Atom, Term, Follows, number_term, sum, difference, based, value_of, IsWorldOf, based_is, sums_are, differences_are, Loaded, IndexedAnswer, stub_term, is_at_stub, index_of, known_answer}
use Rattle.wild_records.specs.Abi.Section.{shf_write, shf_execinstr}
use Rattle.wild_reloc.specs.declared.expression.SlotSort.{SlotSort}
use Rattle.wild_reloc.specs.declared.expression.SlotSort.TheVariants as sorts
use Rattle.wild_reloc.specs.declared.expression.Subtrahend.{Subtrahend}
use Rattle.wild_reloc.specs.declared.expression.Subtrahend.TheVariants as subtrahend
use Rattle.wild_reloc.specs.declared.expression.Term as expression
use Rattle.wild_reloc.specs.declared.expression.Term.TheVariants as terms
use Rattle.wild_reloc.specs.declared.info.Width.TheVariants.{Zero, One, Two, Four, Eight}
use Rattle.wild_reloc.specs.Agreement.{sized}
use Rattle.wild_reloc.specs.declared.instruction.BitMask.{BitMask}
use Rattle.wild_reloc.specs.Expression.{subtrahend_of, slot_sort, expressed}
use Rattle.wild_reloc.specs.Field.{size_width}
use Rattle.wild_reloc.specs.Formula.{AddressSlot, ModulePair, OwnModulePair, ThreadOffset, Descriptor, SlotAddress, SlotPageDistance, SlotFromTablePage, PointerOffset, ModuleOffset, Size, SymbolAddress, SymbolPart, Distance, PageDistance, FromTable, StubDistance, StubFromTable, TableDistance, SlotFromTable}
use Rattle.wild_types.specs.declared.kind.Machine.TheVariants as machine
use Rattle.wild_types.specs.declared.kind.OutputKind.TheVariants as output
use Rattle.wild_types.specs.Flags.{non_interposable}
use Rattle.wild_types.specs.Lookups.{place_of}
use Rattle.wild_meaning.specs.Value.{HasSize, IsReplaceable}
use Rattle.wild_meaning.specs.Denotes.{IsAddressOf, Denotes}
use Rattle.wild_meaning.specs.ReferentAArch64.{RepresentsOnAArch64}
use Rattle.wild_meaning.specs.Slot.{IsSlot}
use Rattle.wild_meaning.specs.Strings.{NamesStrings}
use Rattle.wild_meaning.specs.Formula.{KnowsOffsets, HasOffsetMode, NamesSlot, IsExtent, IsOffset, Gives, IsSum, IsTarget, IsReferent, IsReferentOnAArch64, UsesOwnPlace, IsSymbolAddress, TakesAddress, TakesOffset, table_at, page_of}
use Rattle.wild_meaning.specs.Reference.{HasStubAddress, UsesOwnDefinition}
use Rattle.wild_meaning.proofs.SymbolLemmas.{referent_is}
use Rattle.wild_terms.specs.declared.term.Atom.TheVariants as atoms
use Rattle.wild_terms.specs.Terms.{same_atom}
use Rattle.wild_terms.specs.Outline.{size_of}
use Rattle.wild_terms.specs.Values.{atom_value}
use Rattle.wild_terms.proofs.ValueLemmas.{size_is}
use Rattle.wild_checker.specs.Search.{or_else}
use Rattle.wild_checker.specs.Symbols.{answer_term, own_term, names_no_strings}
use Rattle.wild_checker.specs.Threads.{pointer_term, relative_term}
use Rattle.wild_checker.specs.References.{plain_referent, is_x86_64, address_by as address_by_term, address_referent, referent_term, stub_referent, branch_term, slot_referent, named_slot, knows_offsets, has_offset_mode, slot_less, size_by, size_term, addend_of, place_term, table_term, distance_term, page_by, page_term, page_distance, less, term_less, value_by_parts, is_eight, is_nothing, is_symbol, is_word, foreign_by, foreign_term, word_term, value_term}
use Rattle.wild_checker.proofs.SlotLemmas.{IsStubOf, IsAtStub, CodeLaws, slot_is, stub_is, at_stub, stub_address}
use Rattle.wild_checker.proofs.ValueLemmas.{Known, HasReferent, has_referent, referent, mapped, answered_for, is_replaceable, not_replaceable, not_replaced_by, no_strings, own_term_value, foreign_value, one_symbol}
use Rattle.wild_checker.proofs.ThreadLemmas.{pointer_is, relative_is}

some_is : {X : Type 0} (x y : X) → (let o : Option X = Some x in o) ≡ Some y → x ≡ y
some_is x y h = cc

-- ---- P and GOT

-- where the section is placed as its item, and the field is loaded
pub record IsPlaced (k : Loaded) (w : World) (item : Item) (s : InputSection) (r : InputRelocation) : Type 0 where
  pub address : item.address ≡ s.address
  pub flags : item.flags ≡ s.flags
  pub low : place_at w item r.offset < 2 ^ 64
  pub pages : k.layout.page_size % 4096 ≡ 0 → w.base % 4096 ≡ 0
  pub stubs : StubLaws

abbrev plus_of : Term → ℕ
plus_of t = t.plus

based_below : (o : Outline) (n : ℕ) → n < 2 ^ 64 → (based o n).plus < 2 ^ 64
based_below o n low = by o.movable
  where
    by : (b : Bool) → plus_of (if b then record { atom = atoms.Base; plus = n } else number_term n) < 2 ^ 64
    by true = low
    by false = low

place_is : (k : Loaded) (w : World) (item : Item) (s : InputSection) (r : InputRelocation) → IsWorldOf k.outline w → IsPlaced k w item s r → value_of w (place_term k s r) ≡ place_at w item r.offset
place_is k w item s r world p =
    let low = p.low in
    let same = p.address in
    based_is k.outline w (place_of s.address r) world ∙ omega (arith, low, same)

table_is : (k : Loaded) (w : World) → IsWorldOf k.outline w → value_of w (table_term k) ≡ table_at k.layout w
table_is k w world = based_is k.outline w k.layout.got_base world

-- ---- differences

record IsNumber (w : World) (x : Term) (n : ℕ) : Type 0 where
  is : value_of w x ≡ n
  below : x.plus < 2 ^ 64

distance_is : (w : World) (x y z : Term) → y.plus < 2 ^ 64 → distance_term x y ≡ Some z → IsNumber w z ((value_of w x + (2 ^ 64 - value_of w y)) % 2 ^ 64)
distance_is w x y z low h = by (difference x y) refl h
  where
    by : (o : Option ℕ) → difference x y ≡ o → option_map number_term o ≡ Some z → IsNumber w z ((value_of w x + (2 ^ 64 - value_of w y)) % 2 ^ 64)
    by None e h = cc
    by (Some d) e h =
        let same = some_is (number_term d) z h in
        let is = differences_are w x y d low e in
        let below : d < 2 ^ 64 = omega (arith, is) in
        subst (λ (u : Term). IsNumber w u ((value_of w x + (2 ^ 64 - value_of w y)) % 2 ^ 64)) same (record { is = omega (arith, is, below); below = below })

-- ---- pages

page_sum : (b n : ℕ) → b % 4096 ≡ 0 → (b + (n - n % 4096)) % 2 ^ 64 ≡ page_of ((b + n) % 2 ^ 64)
page_sum b n e = omega (arith, e)

abbrev base_page : ℕ → Term
base_page n = record { atom = atoms.Base; plus = n - n % 4096 }

page_value : (l : Layout) (w : World) (a : Atom) (n : ℕ) (y : Term) → (l.page_size % 4096 ≡ 0 → w.base % 4096 ≡ 0) → n < 2 ^ 64 → page_by l a n ≡ Some y → IsNumber w y (page_of ((atom_value w a + n) % 2 ^ 64))
page_value l w atoms.Zero n y pages low h =
    let below : n - n % 4096 < 2 ^ 64 = omega (arith, low) in
    subst (λ (t : Term). IsNumber w t (page_of ((0 + n) % 2 ^ 64))) (some_is (number_term (n - n % 4096)) y h) (record { is = page_sum 0 n refl; below = below })
page_value l w atoms.Base n y pages low h = by (l.page_size % 4096 == 0) refl h
  where
    by : (b : Bool) → (l.page_size % 4096 == 0) ≡ b → (if b then Some (base_page n) else None) ≡ Some y → IsNumber w y (page_of ((w.base + n) % 2 ^ 64))
    by false e h = cc
    by true e h =
        let below : n - n % 4096 < 2 ^ 64 = omega (arith, low) in
        subst (λ (t : Term). IsNumber w t (page_of ((w.base + n) % 2 ^ 64))) (some_is (base_page n) y h) (record { is = page_sum w.base n (pages (eqb-true (l.page_size % 4096) 0 e)); below = below })
page_value l w other n y pages low h = cc

page_is : (l : Layout) (w : World) (x y : Term) → (l.page_size % 4096 ≡ 0 → w.base % 4096 ≡ 0) → x.plus < 2 ^ 64 → page_term l x ≡ Some y → IsNumber w y (page_of (value_of w x))
page_is l w x y pages low h = page_value l w x.atom x.plus y pages low h

page_distance_is : (l : Layout) (w : World) (x y z : Term) → (l.page_size % 4096 ≡ 0 → w.base % 4096 ≡ 0) → x.plus < 2 ^ 64 → y.plus < 2 ^ 64 → page_distance l x y ≡ Some z → IsNumber w z ((page_of (value_of w x) + (2 ^ 64 - page_of (value_of w y))) % 2 ^ 64)
page_distance_is l w x y z pages low-x low-y h = by_first (page_term l x) refl h
  where
    by_second : (a : Term) → page_term l x ≡ Some a → (o : Option Term) → page_term l y ≡ o → option_and_then (λ b. distance_term a b) o ≡ Some z → IsNumber w z ((page_of (value_of w x) + (2 ^ 64 - page_of (value_of w y))) % 2 ^ 64)
    by_second a e None f h = cc
    by_second a e (Some b) f h =
        let first = page_is l w x a pages low-x e in
        let second = page_is l w y b pages low-y f in
        subst (λ (n : ℕ). IsNumber w z ((n + (2 ^ 64 - page_of (value_of w y))) % 2 ^ 64)) first.is (subst (λ (n : ℕ). IsNumber w z ((value_of w a + (2 ^ 64 - n)) % 2 ^ 64)) second.is (distance_is w a b z second.below h))

    by_first : (o : Option Term) → page_term l x ≡ o → option_and_then (λ a. option_and_then (λ b. distance_term a b) (page_term l y)) o ≡ Some z → IsNumber w z ((page_of (value_of w x) + (2 ^ 64 - page_of (value_of w y))) % 2 ^ 64)
    by_first None e h = cc
    by_first (Some a) e h = by_second a e (page_term l y) refl h

-- ---- numbers of terms are numbers of the machine

distance_below : (x y z : Term) → distance_term x y ≡ Some z → z.plus < 2 ^ 64
distance_below x y z h = by (same_atom x.atom y.atom) h
  where
    by : (b : Bool) → option_map number_term (if b then Some ((x.plus + (2 ^ 64 - y.plus)) % 2 ^ 64) else None) ≡ Some z → z.plus < 2 ^ 64
    by false h = cc
    by true h = subst (λ (t : Term). t.plus < 2 ^ 64) (some_is (number_term ((x.plus + (2 ^ 64 - y.plus)) % 2 ^ 64)) z h) (reduced (x.plus + (2 ^ 64 - y.plus)))
      where
        reduced : (n : ℕ) → n % 2 ^ 64 < 2 ^ 64
        reduced n = omega arith

page_distance_below : (l : Layout) (x y z : Term) → page_distance l x y ≡ Some z → z.plus < 2 ^ 64
page_distance_below l x y z h = by_first (page_term l x) h
  where
    by_second : (a : Term) (o : Option Term) → option_and_then (λ b. distance_term a b) o ≡ Some z → z.plus < 2 ^ 64
    by_second a None h = cc
    by_second a (Some b) h = distance_below a b z h

    by_first : (o : Option Term) → option_and_then (λ a. option_and_then (λ b. distance_term a b) (page_term l y)) o ≡ Some z → z.plus < 2 ^ 64
    by_first None h = cc
    by_first (Some a) h = by_second a (page_term l y) h

less_below : (k : Loaded) (s : InputSection) (r : InputRelocation) (u : Subtrahend) (x z : Term) → x.plus < 2 ^ 64 → less k s r u x ≡ Some z → z.plus < 2 ^ 64
less_below k s r subtrahend.Nothing x z low h = subst (λ (t : Term). t.plus < 2 ^ 64) (some_is x z h) low
less_below k s r subtrahend.Place x z low h = distance_below x (place_term k s r) z h
less_below k s r subtrahend.GotBase x z low h = distance_below x (table_term k) z h
less_below k s r subtrahend.PageOfPlace x z low h = page_distance_below k.layout x (place_term k s r) z h
less_below k s r subtrahend.PageOfGot x z low h = by (page_term k.layout (table_term k)) h
  where
    by : (o : Option Term) → option_and_then (λ page. distance_term x page) o ≡ Some z → z.plus < 2 ^ 64
    by None h = cc
    by (Some page) h = distance_below x page z h

parts_below : (k : Loaded) (f : File) (s : InputSection) (r : InputRelocation) (z : Term) (t : expression.Term) (u : Subtrahend) → value_by_parts k f s r t u ≡ Some z → z.plus < 2 ^ 64
parts_below k f s r z t u h = by (term_less k f s r t u) h
  where
    by : (o : Option Term) → option_and_then (λ (x : Term). less k s r u (sum x (addend_of r))) o ≡ Some z → z.plus < 2 ^ 64
    by None h = cc
    by (Some x) h = less_below k s r u (sum x (addend_of r)) z (reduced (x.plus + addend_of r)) h
      where
        reduced : (n : ℕ) → n % 2 ^ 64 < 2 ^ 64
        reduced n = omega arith

pub term_below : (k : Loaded) (f : File) (s : InputSection) (r : InputRelocation) (row : RelocationKindInfo) (z : Term) → (value_term k f s r row ≡ Some z) ⊎ (word_term k s r row ≡ Some z) → z.plus < 2 ^ 64
term_below k f s r row z (inl h) = parts_below k f s r z (expression_of row.kind).term (subtrahend_of row.kind row.mask) h
term_below k f s r row z (inr h) = by_word (is_word s row) h
  where
    reduced : (n : ℕ) → n % 2 ^ 64 < 2 ^ 64
    reduced n = omega arith

    by_answer : (o : Option Term) → option_map (λ x. sum x (addend_of r)) o ≡ Some z → z.plus < 2 ^ 64
    by_answer None h = cc
    by_answer (Some x) h = subst (λ (t : Term). t.plus < 2 ^ 64) (some_is (sum x (addend_of r)) z h) (reduced (x.plus + addend_of r))

    by_word : (b : Bool) → (if b then option_map (λ x. sum x (addend_of r)) (foreign_term k r.symbol) else None) ≡ Some z → z.plus < 2 ^ 64
    by_word false h = cc
    by_word true h = by_answer (foreign_term k r.symbol) h

-- ---- the value

-- the value of the formula; the reference does not depend on the output's own definition of a symbol that another module may define
pub record IsDecided (k : Loaded) (w : World) (m : Memory) (item : Item) (r : InputRelocation) (v : Value) (width : ℕ) (x : Term) : Type 0 where
  pub gives : Gives v k.layout w m item r (value_of w x)
  pub own : (f : Formula) → f.value ≡ v → form_width f.form ≡ width → (i : ℕ) → r.symbol ≡ Some i → UsesOwnDefinition k.layout item i f → IsReplaceable k.layout i true → ⊥

-- what L is: S, or on x86-64 the symbol's stub
pub data IsBranch (k : Loaded) (f : File) (w : World) (m : Memory) (r : InputRelocation) (t : Term) : Type 0 where
  BySymbol : HasReferent k f r t → IsBranch k f w m r t
  ByStub : (i : ℕ) → r.symbol ≡ Some i → IsStubOf k w m i (value_of w t) → IsBranch k f w m r t

knows_by : (m : Machine) (kind : OutputKind) (l : Layout) → KnowsOffsets m kind l → knows_offsets m kind l.options.relax ≡ true
knows_by machine.X86_64 (output.StaticExecutable x) l h = refl
knows_by machine.X86_64 (output.DynamicExecutable x) l h = h
knows_by machine.X86_64 output.SharedObject l h = absurd h
knows_by machine.X86_64 output.PartialObject l h = absurd h
knows_by machine.AArch64 kind l h = absurd h

-- references to descriptors in the section's code do not hold offsets
pub no_offsets : (k : Loaded) (item : Item) (s : InputSection) → item.flags ≡ s.flags → has_offset_mode k.layout s ≡ false → HasOffsetMode k.layout item → ⊥
no_offsets k item s flags h mode =
    let knows = knows_by k.layout.machine k.layout.kind k.layout mode.0 in
    let code : s.flags / shf_execinstr % 2 ≡ 1 = ap (λ (n : ℕ). n / shf_execinstr % 2) (sym flags) ∙ mode.1 in
    let test = eq-eqb (s.flags / shf_execinstr % 2) 1 code in
    let on : has_offset_mode k.layout s ≡ true = and_from (knows_offsets k.layout.machine k.layout.kind k.layout.options.relax) (s.flags / shf_execinstr % 2 == 1) knows test in
    let both : true ≡ false = sym on ∙ h in
    cc

pub takes_by : (l : Layout) (item : Item) (i : ℕ) (f : Formula) → UsesOwnDefinition l item i f → TakesOffset f.value ⊎ TakesAddress f.value
takes_by l item i f (inl h) = inl h
takes_by l item i f (inr h) = inr h.0

module _ (k : Loaded) (f : File) (w : World) (m : Memory) (item : Item) (s : InputSection) (r : InputRelocation) (width : ℕ) (known : Known k f w) (follows : Follows w k.memory m) (placed : IsPlaced k w item s r) where
  -- S; if another module may define the symbol, S is the symbol's stub
  record Refers (t : Term) : Type 0 where
    is : (v : Value) → TakesAddress v → IsReferent k.layout.machine v k.layout w m item r (value_of w t)
    own : (i : ℕ) → r.symbol ≡ Some i → IsReplaceable k.layout i true → HasStubAddress k.layout i

  sum_is : (v : Value) (t : Term) → TakesAddress v → Refers t → IsSum v k.layout w m item r (value_of w (sum t (addend_of r)))
  sum_is v t takes h = record { symbol = value_of w t; denoted = h.is v takes; sum = sums_are w t (addend_of r) }

  code : CodeLaws k w
  code = record { stubs = placed.stubs; pages = placed.pages }

  sum_below : (t : Term) → (sum t (addend_of r)).plus < 2 ^ 64
  sum_below t = omega arith

  place_below : (place_term k s r).plus < 2 ^ 64
  place_below = based_below k.outline (place_of s.address r) (omega arith)

  table_below : (table_term k).plus < 2 ^ 64
  table_below = based_below k.outline k.layout.got_base known.numbers.got

  by_place : (t x : Term) → distance_term (sum t (addend_of r)) (place_term k s r) ≡ Some x → IsNumber w x ((value_of w (sum t (addend_of r)) + (2 ^ 64 - place_at w item r.offset)) % 2 ^ 64)
  by_place t x h = subst (λ (n : ℕ). IsNumber w x ((value_of w (sum t (addend_of r)) + (2 ^ 64 - n)) % 2 ^ 64)) (place_is k w item s r known.world placed) (distance_is w (sum t (addend_of r)) (place_term k s r) x place_below h)

  by_table : (t x : Term) → distance_term (sum t (addend_of r)) (table_term k) ≡ Some x → IsNumber w x ((value_of w (sum t (addend_of r)) + (2 ^ 64 - table_at k.layout w)) % 2 ^ 64)
  by_table t x h = subst (λ (n : ℕ). IsNumber w x ((value_of w (sum t (addend_of r)) + (2 ^ 64 - n)) % 2 ^ 64)) (table_is k w known.world) (distance_is w (sum t (addend_of r)) (table_term k) x table_below h)

  by_page : (t x : Term) → page_distance k.layout (sum t (addend_of r)) (place_term k s r) ≡ Some x → IsNumber w x ((page_of (value_of w (sum t (addend_of r))) + (2 ^ 64 - page_of (place_at w item r.offset))) % 2 ^ 64)
  by_page t x h = subst (λ (n : ℕ). IsNumber w x ((page_of (value_of w (sum t (addend_of r))) + (2 ^ 64 - page_of n)) % 2 ^ 64)) (place_is k w item s r known.world placed) (page_distance_is k.layout w (sum t (addend_of r)) (place_term k s r) x placed.pages (sum_below t) place_below h)

  none_own : (v : Value) (t : Term) → (TakesOffset v → ⊥) → Refers t → (g : Formula) → g.value ≡ v → form_width g.form ≡ width → (i : ℕ) → r.symbol ≡ Some i → UsesOwnDefinition k.layout item i g → IsReplaceable k.layout i true → ⊥
  none_own v t none h g is wide i named (inl takes) x = none (subst TakesOffset is takes)
  none_own v t none h g is wide i named (inr takes) x = takes.2 (h.own i named x)

  added : (a b c x : ℕ) → x ≡ ((a + b) % 2 ^ 64 + c) % 2 ^ 64 → x ≡ (a + b + c) % 2 ^ 64
  added a b c x e = omega (arith, e)

  -- L + A, less a number
  stub_number : (t x : Term) (n : ℕ) → IsNumber w x ((value_of w (sum t (addend_of r)) + n) % 2 ^ 64) → value_of w x ≡ (value_of w t + addend_of r + n) % 2 ^ 64
  stub_number t x n h = added (value_of w t) (addend_of r) n (value_of w x) (h.is ∙ ap (λ (y : ℕ). (y + n) % 2 ^ 64) (sums_are w t (addend_of r)))

  address_by : (z : RelocationSize) (t : Term) → Refers t → IsDecided k w m item r (sized z SymbolAddress) width (sum t (addend_of r))
  address_by (ByteSize n) t h = record { gives = sum_is SymbolAddress t tt h; own = none_own SymbolAddress t (λ q. q) h }
  address_by (BitMasking b) t h = record { gives = sum_is SymbolPart t tt h; own = none_own SymbolPart t (λ q. q) h }

  distance_by : (z : RelocationSize) (t x : Term) → Refers t → distance_term (sum t (addend_of r)) (place_term k s r) ≡ Some x → IsDecided k w m item r (sized z Distance) width x
  distance_by (ByteSize n) t x h e = (let b = by_place t x e in record { gives = (value_of w (sum t (addend_of r)), sum_is Distance t tt h, b.is); own = none_own Distance t (λ q. q) h })
  distance_by (BitMasking n) t x h e = (let b = by_place t x e in record { gives = (value_of w (sum t (addend_of r)), sum_is Distance t tt h, b.is); own = none_own Distance t (λ q. q) h })

  table_by : (z : RelocationSize) (t x : Term) → Refers t → distance_term (sum t (addend_of r)) (table_term k) ≡ Some x → IsDecided k w m item r (sized z FromTable) width x
  table_by (ByteSize n) t x h e = (let b = by_table t x e in record { gives = (value_of w (sum t (addend_of r)), sum_is FromTable t tt h, b.is); own = none_own FromTable t (λ q. q) h })
  table_by (BitMasking n) t x h e = (let b = by_table t x e in record { gives = (value_of w (sum t (addend_of r)), sum_is FromTable t tt h, b.is); own = none_own FromTable t (λ q. q) h })

  page_by_size : (z : RelocationSize) (t x : Term) → Refers t → page_distance k.layout (sum t (addend_of r)) (place_term k s r) ≡ Some x → IsDecided k w m item r (sized z PageDistance) width x
  page_by_size (ByteSize n) t x h e = (let b = by_page t x e in record { gives = (value_of w (sum t (addend_of r)), sum_is PageDistance t tt h, b.is); own = none_own PageDistance t (λ q. q) h })
  page_by_size (BitMasking n) t x h e = (let b = by_page t x e in record { gives = (value_of w (sum t (addend_of r)), sum_is PageDistance t tt h, b.is); own = none_own PageDistance t (λ q. q) h })

  no_address : (v : Value) → (TakesOffset v → ⊥) → (TakesAddress v → ⊥) → (g : Formula) → g.value ≡ v → form_width g.form ≡ width → (i : ℕ) → r.symbol ≡ Some i → UsesOwnDefinition k.layout item i g → IsReplaceable k.layout i true → ⊥
  no_address v none-offset none-address g is wide i named takes y = by (takes_by k.layout item i g takes)
    where
      by : TakesOffset g.value ⊎ TakesAddress g.value → ⊥
      by (inl x) = none-offset (subst TakesOffset is x)
      by (inr x) = none-address (subst TakesAddress is x)

  -- the symbol's value
  by_value : (t : Term) → HasReferent k f r t → Refers t
  by_value t h = record { is = λ v takes. referent k f v w m item r t known h; own = λ i named x. absurd (not_replaceable k f r t i h named x) }

  -- an address that the output uses for a symbol, on x86-64
  by_address : (i : ℕ) (t : Term) → r.symbol ≡ Some i → names_no_strings k f i ≡ true → k.layout.machine ≡ machine.X86_64 → IsAddressOf k.layout w m i (value_of w t) → (v : Value) → TakesAddress v → IsReferent k.layout.machine v k.layout w m item r (value_of w t)
  by_address i t named strings on address v takes = referent_is v k.layout w m item r (value_of w t) on (λ s. no_strings k f w r i known named strings s.1) (subst (λ (o : Option ℕ). IsSymbolAddress k.layout w m o (value_of w t)) (sym named) address)

  -- the same on AArch64 for a stub
  stub_represents : (i a : ℕ) → IsAtStub k i → IsStubOf k w m i a → (v : Value) → TakesAddress v → RepresentsOnAArch64 v k.layout w m r i a
  stub_represents i a x s SymbolAddress takes = stub_address k f w m i a x s
  stub_represents i a x s FromTable takes = stub_address k f w m i a x s
  stub_represents i a x s Distance takes = inl (stub_address k f w m i a x s)
  stub_represents i a x s SymbolPart takes = inl (s.stub.stub, record { stub = s.stub.given; stands = x.stands s.stub.stub s.stub.given; moves = x.moves }, s.stub.moves, inr s.stub)
  stub_represents i a x s PageDistance takes = inl (s.stub.stub, record { stub = s.stub.given; stands = x.stands s.stub.stub s.stub.given; moves = x.moves }, s.stub.moves, inr s.stub)
  stub_represents i a x s other takes = absurd takes

  by_stub : (i : ℕ) (t : Term) → r.symbol ≡ Some i → names_no_strings k f i ≡ true → IsAtStub k i → IsStubOf k w m i (value_of w t) → (v : Value) → TakesAddress v → IsReferent k.layout.machine v k.layout w m item r (value_of w t)
  by_stub i t named strings x s v takes = by k.layout.machine refl
    where
      by : (y : Machine) → k.layout.machine ≡ y → IsReferent k.layout.machine v k.layout w m item r (value_of w t)
      by machine.X86_64 on = by_address i t named strings on (stub_address k f w m i (value_of w t) x s) v takes
      by machine.AArch64 on =
          let own : UsesOwnPlace v k.layout i → ⊥ = λ u. s.strong on u.1 in
          let there : IsReferentOnAArch64 v k.layout w m item r (Some i) (value_of w t) = inr (own, stub_represents i (value_of w t) x s v takes) in
          subst (λ (y : Machine). IsReferent y v k.layout w m item r (value_of w t)) (sym on) (inr ((λ q. no_strings k f w r i known named strings q.1), subst (λ (o : Option ℕ). IsReferentOnAArch64 v k.layout w m item r o (value_of w t)) (sym named) there))

  own_address : (i : ℕ) (t : Term) → r.symbol ≡ Some i → names_no_strings k f i ≡ true → (d : Symbol) → slice_get k.layout.symbols (canonical k.layout i) ≡ Some d → (b : Bool) → is_at_stub k f i d ≡ b → (if b then stub_term k f i else (if is_x86_64 k.layout.machine && not (may_be_replaced k.layout.kind d.flags) then own_term k f i d else None)) ≡ Some t → Refers t
  own_address i t named strings d there true e h =
      let s = stub_is k f w m i t code known follows h in
      let x = at_stub k f w i d known there e in
      let stub : HasStubAddress k.layout i = record { stub = s.stub.stub; there = s.stub.given; stands = x.stands s.stub.stub s.stub.given; moves = x.moves } in
      record {
        is = by_stub i t named strings x s;
        own = λ j e y. (let both : Some i ≡ Some j = sym named ∙ e in subst (HasStubAddress k.layout) (some_is i j both) stub);
      }
  own_address i t named strings d there false e h = by_own (is_x86_64 k.layout.machine && not (may_be_replaced k.layout.kind d.flags)) refl h
    where
      on_x86_64 : (x : Machine) → is_x86_64 x ≡ true → x ≡ machine.X86_64
      on_x86_64 machine.X86_64 h = refl
      on_x86_64 machine.AArch64 h = cc

      by_own : (b : Bool) → (is_x86_64 k.layout.machine && not (may_be_replaced k.layout.kind d.flags)) ≡ b → (if b then own_term k f i d else None) ≡ Some t → Refers t
      by_own false test h = cc
      by_own true test h =
          let both = and_parts (is_x86_64 k.layout.machine) (not (may_be_replaced k.layout.kind d.flags)) test in
          let own = not-true (may_be_replaced k.layout.kind d.flags) both.1 in
          record {
            is = by_address i t named strings (on_x86_64 k.layout.machine both.0) (inl (own_term_value k f w i d t known there own h));
            own = λ j e y. absurd (not_replaced_by k i d there own (let same : Some j ≡ Some i = sym e ∙ named in subst (λ (z : ℕ). IsReplaceable k.layout z true) (some_is j i same) y));
          }

  named_address : (i : ℕ) (t : Term) → r.symbol ≡ Some i → names_no_strings k f i ≡ true → (o : Option Symbol) → slice_get k.layout.symbols (canonical k.layout i) ≡ o → address_by_term k f i o ≡ Some t → Refers t
  named_address i t named strings None there h = cc
  named_address i t named strings (Some d) there h = own_address i t named strings d there (is_at_stub k f i d) refl h

  has_refers : (t : Term) → referent_term k f r.symbol ≡ Some t → Refers t
  has_refers t h = by (plain_referent k f r.symbol) refl h
    where
      by_strings : (i : ℕ) → r.symbol ≡ Some i → (b : Bool) → names_no_strings k f i ≡ b → (if b then address_by_term k f i (slice_get k.layout.symbols (canonical k.layout i)) else None) ≡ Some t → Refers t
      by_strings i named false is h = cc
      by_strings i named true is h = named_address i t named is (slice_get k.layout.symbols (canonical k.layout i)) refl h

      by_symbol : (o : Option ℕ) → r.symbol ≡ o → address_referent k f o ≡ Some t → Refers t
      by_symbol None named h = cc
      by_symbol (Some i) named h = by_strings i named (names_no_strings k f i) refl h

      by : (o : Option Term) → plain_referent k f r.symbol ≡ o → or_else o (address_referent k f r.symbol) ≡ Some t → Refers t
      by None e h = by_symbol r.symbol refl h
      by (Some x) e h = by_value t (has_referent k f r t (e ∙ h))

  -- L
  branch_is : (v : Value) (t : Term) → (v ≡ StubDistance) ⊎ ((v ≡ StubFromTable) × (k.layout.machine ≡ machine.X86_64)) → IsBranch k f w m r t → IsReferent k.layout.machine v k.layout w m item r (value_of w t)
  branch_is v t one (BySymbol h) = referent k f v w m item r t known h
  branch_is v t one (ByStub i named s) = by k.layout.machine refl one
    where
      there : Denotes k.layout w m i (value_of w t)
      there = inr s.stub

      target : IsTarget k.layout w m r.symbol (value_of w t)
      target = subst (λ (o : Option ℕ). IsTarget k.layout w m o (value_of w t)) (sym named) there

      by : (x : Machine) → k.layout.machine ≡ x → (v ≡ StubDistance) ⊎ ((v ≡ StubFromTable) × (k.layout.machine ≡ machine.X86_64)) → IsReferent k.layout.machine v k.layout w m item r (value_of w t)
      by machine.X86_64 on (inl e) = subst (λ (y : Value). IsReferent k.layout.machine y k.layout w m item r (value_of w t)) (sym e) (subst (λ (x : Machine). IsReferent x StubDistance k.layout w m item r (value_of w t)) (sym on) (inr ((λ q. q.0), target)))
      by machine.X86_64 on (inr e) = subst (λ (y : Value). IsReferent k.layout.machine y k.layout w m item r (value_of w t)) (sym e.0) (subst (λ (x : Machine). IsReferent x StubFromTable k.layout w m item r (value_of w t)) (sym on) (inr ((λ q. q.0), target)))
      by machine.AArch64 on (inl e) =
          let own : UsesOwnPlace StubDistance k.layout i → ⊥ = λ u. s.strong on u.1 in
          let branch : IsReferentOnAArch64 StubDistance k.layout w m item r (Some i) (value_of w t) = inr (own, record { symbol = value_of w t; denoted = there; comes = inl refl }) in
          subst (λ (y : Value). IsReferent k.layout.machine y k.layout w m item r (value_of w t)) (sym e) (subst (λ (x : Machine). IsReferent x StubDistance k.layout w m item r (value_of w t)) (sym on) (inr ((λ q. q.0), subst (λ (o : Option ℕ). IsReferentOnAArch64 StubDistance k.layout w m item r o (value_of w t)) (sym named) branch)))
      by machine.AArch64 on (inr e) = (let both : machine.AArch64 ≡ machine.X86_64 = sym on ∙ e.1 in cc)

  has_branch : (t : Term) → branch_term k f r ≡ Some t → IsBranch k f w m r t
  has_branch t h = by (plain_referent k f r.symbol) refl h
    where
      by_symbol : (o : Option ℕ) → r.symbol ≡ o → stub_referent k f o ≡ Some t → IsBranch k f w m r t
      by_symbol None e h = cc
      by_symbol (Some i) e h = ByStub i e (stub_is k f w m i t code known follows h)

      by : (o : Option Term) → plain_referent k f r.symbol ≡ o → or_else o (stub_referent k f r.symbol) ≡ Some t → IsBranch k f w m r t
      by None e h = by_symbol r.symbol refl h
      by (Some x) e h = BySymbol (has_referent k f r t (e ∙ h))

  -- the value in a field of any size is the same but for S + A
  either : (z : RelocationSize) (v : Value) (x : Term) → ((bits : BitMask) → sized (BitMasking bits) v ≡ v) → IsDecided k w m item r v width x → IsDecided k w m item r (sized z v) width x
  either (ByteSize n) v x same d = d
  either (BitMasking bits) v x same d = subst (λ (y : Value). IsDecided k w m item r y width x) (sym (same bits)) d

  stub_by : (z : RelocationSize) (t x : Term) → IsBranch k f w m r t → distance_term (sum t (addend_of r)) (place_term k s r) ≡ Some x → IsDecided k w m item r (sized z StubDistance) width x
  stub_by (ByteSize n) t x h e = (let b = by_place t x e in record { gives = (value_of w t, branch_is StubDistance t (inl refl) h, stub_number t x (2 ^ 64 - place_at w item r.offset) b); own = no_address StubDistance (λ q. q) (λ q. q) })
  stub_by (BitMasking n) t x h e = (let b = by_place t x e in record { gives = (value_of w t, branch_is StubDistance t (inl refl) h, stub_number t x (2 ^ 64 - place_at w item r.offset) b); own = no_address StubDistance (λ q. q) (λ q. q) })

  stub_table_by : (z : RelocationSize) (t x : Term) → (if is_x86_64 k.layout.machine then branch_term k f r else plain_referent k f r.symbol) ≡ Some t → distance_term (sum t (addend_of r)) (table_term k) ≡ Some x → IsDecided k w m item r (sized z StubFromTable) width x
  stub_table_by z t x h e = either z StubFromTable x (λ b. refl) (record { gives = (value_of w t, there k.layout.machine refl h, stub_number t x (2 ^ 64 - table_at k.layout w) (by_table t x e)); own = no_address StubFromTable (λ q. q) (λ q. q) })
    where
      there : (y : Machine) → k.layout.machine ≡ y → (if is_x86_64 y then branch_term k f r else plain_referent k f r.symbol) ≡ Some t → IsReferent k.layout.machine StubFromTable k.layout w m item r (value_of w t)
      there machine.X86_64 on h = branch_is StubFromTable t (inr (refl, on)) (has_branch t h)
      there machine.AArch64 on h = referent k f StubFromTable w m item r t known (has_referent k f r t h)

  -- G
  slot_here : (sort : SlotSort) (t : Term) → slot_referent k f sort r.symbol ≡ Some t → IsSlot (slot_sort sort) k.layout w m r.symbol (value_of w t)
  slot_here sort t h = by r.symbol refl h
    where
      by : (o : Option ℕ) → r.symbol ≡ o → slot_referent k f sort o ≡ Some t → IsSlot (slot_sort sort) k.layout w m r.symbol (value_of w t)
      by None e h = cc
      by (Some i) e h = subst (λ (o : Option ℕ). IsSlot (slot_sort sort) k.layout w m o (value_of w t)) (sym e) (slot_is sort k f w m i t known code follows h)

  -- G, where A is 0
  record IsNamedSlot (sort : SlotSort) (t : Term) : Type 0 where
    slot : NamesSlot (slot_sort sort) k.layout w m r (value_of w t)
    zero : addend_of r ≡ 0

  named_here : (sort : SlotSort) (t : Term) → named_slot k f r sort ≡ Some t → IsNamedSlot sort t
  named_here sort t h = by (addend_of r == 0) refl h
    where
      by : (b : Bool) → (addend_of r == 0) ≡ b → (if b then slot_referent k f sort r.symbol else None) ≡ Some t → IsNamedSlot sort t
      by false e h = cc
      by true e h = record { slot = (slot_here sort t h, eqb-true (addend_of r) 0 e); zero = eqb-true (addend_of r) 0 e }

  -- a sum with an addend of 0
  unchanged : (t : Term) → addend_of r ≡ 0 → value_of w (sum t (addend_of r)) ≡ value_of w t
  unchanged t zero = sums_are w t (addend_of r) ∙ ap (λ (n : ℕ). (value_of w t + n) % 2 ^ 64) zero ∙ small (atom_value w t.atom + t.plus)
    where
      small : (n : ℕ) → (n % 2 ^ 64 + 0) % 2 ^ 64 ≡ n % 2 ^ 64
      small n = omega arith

  slot_number : (t x : Term) → distance_term (sum t (addend_of r)) (place_term k s r) ≡ Some x → value_of w x ≡ (value_of w t + addend_of r + (2 ^ 64 - place_at w item r.offset)) % 2 ^ 64
  slot_number t x e = stub_number t x (2 ^ 64 - place_at w item r.offset) (by_place t x e)

  slot_by_place : (sort : SlotSort) (t x : Term) → slot_less k f s r sort subtrahend.Place ≡ Some t → distance_term (sum t (addend_of r)) (place_term k s r) ≡ Some x → IsDecided k w m item r (SlotDistance (slot_sort sort)) width x
  slot_by_place sorts.Address t x h e = record { gives = (value_of w t, slot_here sorts.Address t h, slot_number t x e); own = no_address (SlotDistance AddressSlot) (λ q. q) (λ q. q) }
  slot_by_place sorts.TlsGd t x h e = record { gives = (value_of w t, slot_here sorts.TlsGd t h, slot_number t x e); own = no_address (SlotDistance ModulePair) (λ q. q) (λ q. q) }
  slot_by_place sorts.TlsLd t x h e = record { gives = (value_of w t, slot_here sorts.TlsLd t h, slot_number t x e); own = no_address (SlotDistance OwnModulePair) (λ q. q) (λ q. q) }
  slot_by_place sorts.TpOff t x h e = record { gives = (value_of w t, slot_here sorts.TpOff t h, slot_number t x e); own = no_address (SlotDistance ThreadOffset) (λ q. q) (λ q. q) }
  slot_by_place sorts.TlsDesc t x h e = by (has_offset_mode k.layout s) refl h
    where
      by : (b : Bool) → has_offset_mode k.layout s ≡ b → (if b then None else slot_referent k f sorts.TlsDesc r.symbol) ≡ Some t → IsDecided k w m item r (SlotDistance Descriptor) width x
      by true f h = cc
      by false f h = record { gives = (value_of w t, slot_here sorts.TlsDesc t h, no_offsets k item s placed.flags f, slot_number t x e); own = no_address (SlotDistance Descriptor) (λ q. q) (λ q. q) }

  slot_by_table : (t x : Term) → slot_referent k f sorts.Address r.symbol ≡ Some t → distance_term (sum t (addend_of r)) (table_term k) ≡ Some x → IsDecided k w m item r SlotFromTable width x
  slot_by_table t x h e = record { gives = (value_of w t, slot_here sorts.Address t h, stub_number t x (2 ^ 64 - table_at k.layout w) (by_table t x e)); own = no_address SlotFromTable (λ q. q) (λ q. q) }

  slot_address : (sort : SlotSort) (t : Term) → named_slot k f r sort ≡ Some t → IsDecided k w m item r (SlotAddress (slot_sort sort)) width (sum t (addend_of r))
  slot_address sort t h =
      let n = named_here sort t h in
      record { gives = (value_of w t, n.slot, unchanged t n.zero ∙ small (atom_value w t.atom + t.plus)); own = no_address (SlotAddress (slot_sort sort)) (λ q. q) (λ q. q) }
    where
      small : (n : ℕ) → n % 2 ^ 64 ≡ n % 2 ^ 64 % 2 ^ 64
      small n = omega arith

  slot_by_page : (sort : SlotSort) (t x : Term) → named_slot k f r sort ≡ Some t → page_distance k.layout (sum t (addend_of r)) (place_term k s r) ≡ Some x → IsDecided k w m item r (SlotPageDistance (slot_sort sort)) width x
  slot_by_page sort t x h e =
      let n = named_here sort t h in
      let b = by_page t x e in
      record { gives = (value_of w t, n.slot, b.is ∙ ap (λ (y : ℕ). (page_of y + (2 ^ 64 - page_of (place_at w item r.offset))) % 2 ^ 64) (unchanged t n.zero)); own = no_address (SlotPageDistance (slot_sort sort)) (λ q. q) (λ q. q) }

  slot_by_table_page : (t x : Term) → named_slot k f r sorts.Address ≡ Some t → option_and_then (λ page. distance_term (sum t (addend_of r)) page) (page_term k.layout (table_term k)) ≡ Some x → IsDecided k w m item r SlotFromTablePage width x
  slot_by_table_page t x h e = by (page_term k.layout (table_term k)) refl e
    where
      n : IsNamedSlot sorts.Address t
      n = named_here sorts.Address t h

      by : (o : Option Term) → page_term k.layout (table_term k) ≡ o → option_and_then (λ page. distance_term (sum t (addend_of r)) page) o ≡ Some x → IsDecided k w m item r SlotFromTablePage width x
      by None g e = cc
      by (Some page) g e =
          let p = page_is k.layout w (table_term k) page placed.pages table_below g in
          let d = distance_is w (sum t (addend_of r)) page x p.below e in
          let is : value_of w x ≡ (value_of w t + (2 ^ 64 - page_of (table_at k.layout w))) % 2 ^ 64 = d.is ∙ ap (λ (y : ℕ). (y + (2 ^ 64 - value_of w page)) % 2 ^ 64) (unchanged t n.zero) ∙ ap (λ (y : ℕ). (value_of w t + (2 ^ 64 - y)) % 2 ^ 64) (p.is ∙ ap page_of (table_is k w known.world)) in
          record { gives = (value_of w t, n.slot, is); own = no_address SlotFromTablePage (λ q. q) (λ q. q) }

  -- Z + A
  extent_is : (t : Term) → size_term k r.symbol ≡ Some t → (z : ℕ) × IsExtent k.layout w r.symbol z × (z % 2 ^ 64 ≡ value_of w t)
  extent_is t h = by r.symbol refl h
    where
      low : (n : ℕ) → n % 2 ^ 64 ≡ (0 + n) % 2 ^ 64
      low n = omega arith

      small : (n : ℕ) → n % 2 ^ 64 % 2 ^ 64 ≡ n % 2 ^ 64
      small n = omega arith

      by_own : (i : ℕ) → r.symbol ≡ Some i → (d : Symbol) → slice_get k.layout.symbols (canonical k.layout i) ≡ Some d → (b : Bool) → may_be_replaced k.layout.kind d.flags ≡ b → (if b then option_map (λ a. size_of a.index a.answer) (known_answer k.outline (index_of d.resolution)) else Some (number_term d.size)) ≡ Some t → (z : ℕ) × HasSize k.layout w i z × (z % 2 ^ 64 ≡ value_of w t)
      by_own i e d there false own h =
          let same : number_term d.size ≡ t = some_is (number_term d.size) t h in
          (d.size, inr (is_replaceable k i d false there own, record { definition = canonical k.layout i; defined = own_definition k.layout i d there; symbol = d; listed = there; size = refl }), low d.size ∙ ap (value_of w) same)
      by_own i e d there true own h =
          let c = mapped (λ (a : IndexedAnswer). size_of a.index a.answer) (known_answer k.outline (index_of d.resolution)) t h in
          let a = answered_for k w i d c.from known.world there c.is in
          let is : a.known.answer.size ≡ value_of w t = size_is w c.from.index c.from.answer a.known ∙ ap (value_of w) c.made in
          (a.known.answer.size, inl (is_replaceable k i d true there own, a.known.answer, a.given, refl), ap (λ (n : ℕ). n % 2 ^ 64) is ∙ small (atom_value w t.atom + t.plus))

      by_definition : (i : ℕ) → r.symbol ≡ Some i → (o : Option Symbol) → slice_get k.layout.symbols (canonical k.layout i) ≡ o → size_by k o ≡ Some t → (z : ℕ) × HasSize k.layout w i z × (z % 2 ^ 64 ≡ value_of w t)
      by_definition i e None there h = cc
      by_definition i e (Some d) there h = by_own i e d there (may_be_replaced k.layout.kind d.flags) refl h

      by : (o : Option ℕ) → r.symbol ≡ o → size_term k o ≡ Some t → (z : ℕ) × IsExtent k.layout w r.symbol z × (z % 2 ^ 64 ≡ value_of w t)
      by None e h = cc
      by (Some i) e h = subst (λ (o : Option ℕ). (z : ℕ) × IsExtent k.layout w o z × (z % 2 ^ 64 ≡ value_of w t)) (sym e) (by_definition i e (slice_get k.layout.symbols (canonical k.layout i)) refl h)

  size_by_symbol : (t : Term) → size_term k r.symbol ≡ Some t → IsDecided k w m item r Size width (sum t (addend_of r))
  size_by_symbol t h =
      let z = extent_is t h in
      let is : value_of w (sum t (addend_of r)) ≡ (z.0 + addend_of r) % 2 ^ 64 = sums_are w t (addend_of r) ∙ ap (λ (n : ℕ). (n + addend_of r) % 2 ^ 64) (sym z.2) ∙ whole z.0 (addend_of r) in
      record { gives = (z.0, z.1, inl is); own = no_address Size (λ q. q) (λ q. q) }
    where
      whole : (z a : ℕ) → (z % 2 ^ 64 + a) % 2 ^ 64 ≡ (z + a) % 2 ^ 64
      whole z a = omega arith

  -- offsets in thread-local data
  not_other : (v : Value) (i : ℕ) → r.symbol ≡ Some i → (IsReplaceable k.layout i true → ⊥) → (g : Formula) → g.value ≡ v → form_width g.form ≡ width → (j : ℕ) → r.symbol ≡ Some j → UsesOwnDefinition k.layout item j g → IsReplaceable k.layout j true → ⊥
  not_other v i e none g is wide j named takes x = (let both : Some j ≡ Some i = sym named ∙ e in none (subst (λ (y : ℕ). IsReplaceable k.layout y true) (some_is j i both) x))

  pointer_by_symbol : (t : Term) → pointer_term k f r.symbol ≡ Some t → IsDecided k w m item r PointerOffset width (sum t (addend_of r))
  pointer_by_symbol t h = by r.symbol refl h
    where
      by : (o : Option ℕ) → r.symbol ≡ o → pointer_term k f o ≡ Some t → IsDecided k w m item r PointerOffset width (sum t (addend_of r))
      by None e h = cc
      by (Some i) e h =
          let p = pointer_is k f w i t known h in
          record { gives = (value_of w t, subst (λ (o : Option ℕ). IsOffset k.layout w o (value_of w t)) (sym e) p.has, sums_are w t (addend_of r)); own = not_other PointerOffset i e (not_replaced_by k i p.definition p.there p.own) }

  relative_by_symbol : (t : Term) → relative_term k f r.symbol ≡ Some t → IsDecided k w m item r ModuleOffset width (sum t (addend_of r))
  relative_by_symbol t h = by r.symbol refl h
    where
      by : (o : Option ℕ) → r.symbol ≡ o → relative_term k f o ≡ Some t → IsDecided k w m item r ModuleOffset width (sum t (addend_of r))
      by None e h = cc
      by (Some i) e h =
          let p = relative_is k f w i t known h in
          record { gives = (p.pointer, p.begin, subst (λ (o : Option ℕ). IsOffset k.layout w o p.pointer) (sym e) p.has, p.base, sums_are w t (addend_of r) ∙ p.is (addend_of r)); own = not_other ModuleOffset i e (not_replaced_by k i p.definition p.there p.own) }

  -- GOT + A - P
  got_by : (z : RelocationSize) (x : Term) → distance_term (sum (table_term k) (addend_of r)) (place_term k s r) ≡ Some x → IsDecided k w m item r (sized z TableDistance) width x
  got_by z x e = by_size z
    where
      b : IsNumber w x ((value_of w (sum (table_term k) (addend_of r)) + (2 ^ 64 - place_at w item r.offset)) % 2 ^ 64)
      b = by_place (table_term k) x e

      number : value_of w x ≡ (table_at k.layout w + addend_of r + (2 ^ 64 - place_at w item r.offset)) % 2 ^ 64
      number = stub_number (table_term k) x (2 ^ 64 - place_at w item r.offset) b ∙ ap (λ (n : ℕ). (n + addend_of r + (2 ^ 64 - place_at w item r.offset)) % 2 ^ 64) (table_is k w known.world)

      by_size : (z : RelocationSize) → IsDecided k w m item r (sized z TableDistance) width x
      by_size (ByteSize n) = record { gives = number; own = no_address TableDistance (λ q. q) (λ q. q) }
      by_size (BitMasking n) = record { gives = number; own = no_address TableDistance (λ q. q) (λ q. q) }

  named_nothing : (sort : SlotSort) (t : Term) → slot_less k f s r sort subtrahend.Nothing ≡ Some t → named_slot k f r sort ≡ Some t
  named_nothing sorts.Address t h = h
  named_nothing sorts.TlsGd t h = h
  named_nothing sorts.TlsLd t h = h
  named_nothing sorts.TpOff t h = h
  named_nothing sorts.TlsDesc t h = h

  named_page : (sort : SlotSort) (t : Term) → slot_less k f s r sort subtrahend.PageOfPlace ≡ Some t → named_slot k f r sort ≡ Some t
  named_page sorts.Address t h = h
  named_page sorts.TlsGd t h = h
  named_page sorts.TlsLd t h = h
  named_page sorts.TpOff t h = h
  named_page sorts.TlsDesc t h = h

  -- the term that is known, and what is made of it
  record HasParts (x : Term) (t : expression.Term) (u : Subtrahend) : Type 0 where
    term : Term
    is : term_less k f s r t u ≡ Some term
    made : less k s r u (sum term (addend_of r)) ≡ Some x

  has_parts : (x : Term) (t : expression.Term) (u : Subtrahend) → value_by_parts k f s r t u ≡ Some x → HasParts x t u
  has_parts x t u h = by (term_less k f s r t u) refl h
    where
      by : (o : Option Term) → term_less k f s r t u ≡ o → option_and_then (λ (y : Term). less k s r u (sum y (addend_of r))) o ≡ Some x → HasParts x t u
      by None e h = cc
      by (Some y) e h = record { term = y; is = e; made = h }

  decided_by : (z : RelocationSize) (x : Term) (t : expression.Term) (u : Subtrahend) → HasParts x t u → IsDecided k w m item r (sized z (expressed t u)) width x
  decided_by z x terms.Symbol subtrahend.Nothing p = subst (IsDecided k w m item r (sized z SymbolAddress) width) (some_is (sum p.term (addend_of r)) x p.made) (address_by z p.term (has_refers p.term p.is))
  decided_by z x terms.Symbol subtrahend.Place p = distance_by z p.term x (has_refers p.term p.is) p.made
  decided_by z x terms.Symbol subtrahend.GotBase p = table_by z p.term x (has_refers p.term p.is) p.made
  decided_by z x terms.Symbol subtrahend.PageOfPlace p = page_by_size z p.term x (has_refers p.term p.is) p.made
  decided_by z x terms.Symbol subtrahend.PageOfGot p = (let e = p.is in cc)
  decided_by z x terms.Stub subtrahend.Place p = stub_by z p.term x (has_branch p.term p.is) p.made
  decided_by z x terms.Stub subtrahend.GotBase p = stub_table_by z p.term x p.is p.made
  decided_by z x terms.Stub subtrahend.Nothing p = (let e = p.is in cc)
  decided_by z x terms.Stub subtrahend.PageOfPlace p = (let e = p.is in cc)
  decided_by z x terms.Stub subtrahend.PageOfGot p = (let e = p.is in cc)
  decided_by z x terms.GotBase subtrahend.Place p =
      (let same = some_is (table_term k) p.term p.is in
      got_by z x (subst (λ (y : Term). distance_term (sum y (addend_of r)) (place_term k s r) ≡ Some x) (sym same) p.made))
  decided_by z x terms.GotBase subtrahend.Nothing p = (let e = p.is in cc)
  decided_by z x terms.GotBase subtrahend.GotBase p = (let e = p.is in cc)
  decided_by z x terms.GotBase subtrahend.PageOfPlace p = (let e = p.is in cc)
  decided_by z x terms.GotBase subtrahend.PageOfGot p = (let e = p.is in cc)
  decided_by z x terms.Nothing u p = (let e = p.is in cc)
  decided_by z x (terms.Slot sort) subtrahend.Place p = either z (SlotDistance (slot_sort sort)) x (λ b. refl) (slot_by_place sort p.term x p.is p.made)
  decided_by z x (terms.Slot sorts.Address) subtrahend.GotBase p = either z SlotFromTable x (λ b. refl) (slot_by_table p.term x p.is p.made)
  decided_by z x (terms.Slot sorts.TlsGd) subtrahend.GotBase p = (let e = p.is in cc)
  decided_by z x (terms.Slot sorts.TlsLd) subtrahend.GotBase p = (let e = p.is in cc)
  decided_by z x (terms.Slot sorts.TpOff) subtrahend.GotBase p = (let e = p.is in cc)
  decided_by z x (terms.Slot sorts.TlsDesc) subtrahend.GotBase p = (let e = p.is in cc)
  decided_by z x (terms.Slot sorts.Address) subtrahend.PageOfGot p = either z SlotFromTablePage x (λ b. refl) (slot_by_table_page p.term x p.is p.made)
  decided_by z x (terms.Slot sorts.TlsGd) subtrahend.PageOfGot p = (let e = p.is in cc)
  decided_by z x (terms.Slot sorts.TlsLd) subtrahend.PageOfGot p = (let e = p.is in cc)
  decided_by z x (terms.Slot sorts.TpOff) subtrahend.PageOfGot p = (let e = p.is in cc)
  decided_by z x (terms.Slot sorts.TlsDesc) subtrahend.PageOfGot p = (let e = p.is in cc)
  decided_by z x (terms.Slot sort) subtrahend.Nothing p = either z (SlotAddress (slot_sort sort)) x (λ b. refl) (subst (IsDecided k w m item r (SlotAddress (slot_sort sort)) width) (some_is (sum p.term (addend_of r)) x p.made) (slot_address sort p.term (named_nothing sort p.term p.is)))
  decided_by z x (terms.Slot sort) subtrahend.PageOfPlace p = either z (SlotPageDistance (slot_sort sort)) x (λ b. refl) (slot_by_page sort p.term x (named_page sort p.term p.is) p.made)
  decided_by z x terms.Size subtrahend.Nothing p = either z Size x (λ b. refl) (subst (IsDecided k w m item r Size width) (some_is (sum p.term (addend_of r)) x p.made) (size_by_symbol p.term p.is))
  decided_by z x terms.PointerOffset subtrahend.Nothing p = either z PointerOffset x (λ b. refl) (subst (IsDecided k w m item r PointerOffset width) (some_is (sum p.term (addend_of r)) x p.made) (pointer_by_symbol p.term p.is))
  decided_by z x terms.ModuleOffset subtrahend.Nothing p = either z ModuleOffset x (λ b. refl) (subst (IsDecided k w m item r ModuleOffset width) (some_is (sum p.term (addend_of r)) x p.made) (relative_by_symbol p.term p.is))
  decided_by z x terms.Size subtrahend.Place p = (let e = p.is in cc)
  decided_by z x terms.Size subtrahend.GotBase p = (let e = p.is in cc)
  decided_by z x terms.Size subtrahend.PageOfPlace p = (let e = p.is in cc)
  decided_by z x terms.Size subtrahend.PageOfGot p = (let e = p.is in cc)
  decided_by z x terms.PointerOffset subtrahend.Place p = (let e = p.is in cc)
  decided_by z x terms.PointerOffset subtrahend.GotBase p = (let e = p.is in cc)
  decided_by z x terms.PointerOffset subtrahend.PageOfPlace p = (let e = p.is in cc)
  decided_by z x terms.PointerOffset subtrahend.PageOfGot p = (let e = p.is in cc)
  decided_by z x terms.ModuleOffset subtrahend.Place p = (let e = p.is in cc)
  decided_by z x terms.ModuleOffset subtrahend.GotBase p = (let e = p.is in cc)
  decided_by z x terms.ModuleOffset subtrahend.PageOfPlace p = (let e = p.is in cc)
  decided_by z x terms.ModuleOffset subtrahend.PageOfGot p = (let e = p.is in cc)

  -- ---- words that a loader fills

  record IsForeign (t : Term) : Type 0 where
    symbol : ℕ
    named : r.symbol ≡ Some symbol
    definition : Symbol
    there : slice_get k.layout.symbols (canonical k.layout symbol) ≡ Some definition
    replaced : may_be_replaced k.layout.kind definition.flags ≡ true
    interposable : has_flag definition.flags non_interposable ≡ false
    is : answer_term k.outline (index_of definition.resolution) ≡ Some t

  is_foreign : (t : Term) → foreign_term k r.symbol ≡ Some t → IsForeign t
  is_foreign t h = by r.symbol refl h
    where
      by_test : (i : ℕ) → r.symbol ≡ Some i → (d : Symbol) → slice_get k.layout.symbols (canonical k.layout i) ≡ Some d → (b : Bool) → (may_be_replaced k.layout.kind d.flags && not (has_flag d.flags non_interposable)) ≡ b → (if b then answer_term k.outline (index_of d.resolution) else None) ≡ Some t → IsForeign t
      by_test i e d there false test h = cc
      by_test i e d there true test h =
          let both = and_parts (may_be_replaced k.layout.kind d.flags) (not (has_flag d.flags non_interposable)) test in
          record { symbol = i; named = e; definition = d; there = there; replaced = both.0; interposable = not-true (has_flag d.flags non_interposable) both.1; is = h }

      by_definition : (i : ℕ) → r.symbol ≡ Some i → (o : Option Symbol) → slice_get k.layout.symbols (canonical k.layout i) ≡ o → foreign_by k o ≡ Some t → IsForeign t
      by_definition i e None there h = cc
      by_definition i e (Some d) there h = by_test i e d there (may_be_replaced k.layout.kind d.flags && not (has_flag d.flags non_interposable)) refl h

      by : (o : Option ℕ) → r.symbol ≡ o → foreign_term k o ≡ Some t → IsForeign t
      by None e h = cc
      by (Some i) e h = by_definition i e (slice_get k.layout.symbols (canonical k.layout i)) refl h

  foreign_referent : (t : Term) → IsForeign t → IsReferent k.layout.machine SymbolAddress k.layout w m item r (value_of w t)
  foreign_referent t h = by k.layout.machine refl
    where
      value : HasValue k.layout w h.symbol (value_of w t)
      value = foreign_value k w h.symbol h.definition t known.world h.there h.replaced h.is

      none : NamesStrings k.layout r → ⊥
      none s =
          let same : s.symbol ≡ h.symbol = (let both : Some s.symbol ≡ Some h.symbol = sym s.named ∙ h.named in some_is s.symbol h.symbol both) in
          let own = s.has.plain.own in
          let listed = subst (λ (x : ℕ). canonical k.layout x ≡ own.definition) same (canonical_is k.layout s.symbol own.definition own.defined) in
          let one = one_symbol k.layout h.symbol own.definition h.definition own.symbol h.there listed own.listed in
          let on : has_flag h.definition.flags non_interposable ≡ true = subst (λ (x : Symbol). has_flag x.flags non_interposable ≡ true) one own.flagged in
          let off = h.interposable in
          let both : true ≡ false = sym on ∙ off in
          cc

      by : (x : Machine) → k.layout.machine ≡ x → IsReferent k.layout.machine SymbolAddress k.layout w m item r (value_of w t)
      by machine.X86_64 on = referent_is SymbolAddress k.layout w m item r (value_of w t) on (λ s. none s.1) (subst (λ (o : Option ℕ). IsSymbolAddress k.layout w m o (value_of w t)) (sym h.named) (inl value))
      by machine.AArch64 on =
          subst (λ (x : Machine). IsReferent x SymbolAddress k.layout w m item r (value_of w t)) (sym on)
          (inr ((λ s. none s.1), subst (λ (o : Option ℕ). IsReferentOnAArch64 SymbolAddress k.layout w m item r o (value_of w t)) (sym h.named) (inr ((λ u. u.0), inl value))))

  eight_by : (z : RelocationSize) → is_eight z ≡ true → z ≡ ByteSize Eight
  eight_by (ByteSize Zero) h = cc
  eight_by (ByteSize One) h = cc
  eight_by (ByteSize Two) h = cc
  eight_by (ByteSize Four) h = cc
  eight_by (ByteSize Eight) h = refl
  eight_by (BitMasking b) h = cc

  symbol_by : (t : expression.Term) → is_symbol t ≡ true → t ≡ terms.Symbol
  symbol_by terms.Symbol h = refl
  symbol_by other h = cc

  nothing_by : (u : Subtrahend) → is_nothing u ≡ true → u ≡ subtrahend.Nothing
  nothing_by subtrahend.Nothing h = refl
  nothing_by other h = cc

  foreign_decided : (t : Term) → width ≡ 8 → s.flags / shf_write % 2 ≡ 1 → IsForeign t → IsDecided k w m item r SymbolAddress width (sum t (addend_of r))
  foreign_decided t eight writable h = record {
    gives = record { symbol = value_of w t; denoted = foreign_referent t h; sum = sums_are w t (addend_of r) };
    own = no_own;
  }
    where
      no_own : (g : Formula) → g.value ≡ SymbolAddress → form_width g.form ≡ width → (i : ℕ) → r.symbol ≡ Some i → UsesOwnDefinition k.layout item i g → IsReplaceable k.layout i true → ⊥
      no_own g is wide i named (inl takes) x = subst TakesOffset is takes
      no_own g is wide i named (inr takes) x =
          let same : h.symbol ≡ i = (let both : Some h.symbol ≡ Some i = sym h.named ∙ named in some_is h.symbol i both) in
          let flag : HasFlag k.layout h.symbol non_interposable false = record { definition = canonical k.layout h.symbol; defined = own_definition k.layout h.symbol h.definition h.there; symbol = h.definition; listed = h.there; flagged = h.interposable } in
          takes.1 (record {
            writable = ap (λ (n : ℕ). n / shf_write % 2) placed.flags ∙ writable;
            interposable = subst (λ (y : ℕ). HasFlag k.layout y non_interposable false) same flag;
            value = is;
            wide = wide ∙ eight;
          })

  -- ---- both

  pub decided : (row : RelocationKindInfo) (x : Term) → width ≡ field_width row → (value_term k f s r row ≡ Some x) ⊎ (word_term k s r row ≡ Some x) → IsDecided k w m item r (sized row.size (expressed (expression_of row.kind).term (subtrahend_of row.kind row.mask))) width x
  decided row x wide (inl h) = decided_by row.size x (expression_of row.kind).term (subtrahend_of row.kind row.mask) (has_parts x (expression_of row.kind).term (subtrahend_of row.kind row.mask) h)
  decided row x wide (inr h) = by_word (is_word s row) refl h
    where
      by_answer : (is_word s row) ≡ true → (o : Option Term) → foreign_term k r.symbol ≡ o → option_map (λ y. sum y (addend_of r)) o ≡ Some x → IsDecided k w m item r (sized row.size (expressed (expression_of row.kind).term (subtrahend_of row.kind row.mask))) width x
      by_answer test None e h = cc
      by_answer test (Some y) e h =
          let a = and_parts (s.flags / shf_write % 2 == 1) (is_eight row.size && (is_symbol (expression_of row.kind).term && is_nothing (subtrahend_of row.kind row.mask))) test in
          let b = and_parts (is_eight row.size) (is_symbol (expression_of row.kind).term && is_nothing (subtrahend_of row.kind row.mask)) a.1 in
          let c = and_parts (is_symbol (expression_of row.kind).term) (is_nothing (subtrahend_of row.kind row.mask)) b.1 in
          let size = eight_by row.size b.0 in
          let term = symbol_by (expression_of row.kind).term c.0 in
          let less = nothing_by (subtrahend_of row.kind row.mask) c.1 in
          let eight : width ≡ 8 = wide ∙ ap size_width size in
          let is : SymbolAddress ≡ sized row.size (expressed (expression_of row.kind).term (subtrahend_of row.kind row.mask)) = sym (ap (λ (z : RelocationSize). sized z (expressed (expression_of row.kind).term (subtrahend_of row.kind row.mask))) size ∙ ap (λ (y : expression.Term). sized (ByteSize Eight) (expressed y (subtrahend_of row.kind row.mask))) term ∙ ap (λ (y : Subtrahend). sized (ByteSize Eight) (expressed terms.Symbol y)) less) in
          subst (λ (v : Value). IsDecided k w m item r v width x) is (subst (IsDecided k w m item r SymbolAddress width) (some_is (sum y (addend_of r)) x h) (foreign_decided y eight (eqb-true (s.flags / shf_write % 2) 1 a.0) (is_foreign y e)))

      by_word : (b : Bool) → is_word s row ≡ b → (if b then option_map (λ y. sum y (addend_of r)) (foreign_term k r.symbol) else None) ≡ Some x → IsDecided k w m item r (sized row.size (expressed (expression_of row.kind).term (subtrahend_of row.kind row.mask))) width x
      by_word false e h = cc
      by_word true e h = by_answer e (foreign_term k r.symbol) refl h
