-- The term of a symbol has the symbol's value.
use Rattle.wild_checker.proofs.Common.{◌≡◌, ℕ, ◌+◌, ◌%◌, ◌^◌, ◌<◌, ◌⊎◌, inl, inr, Bool, true, false, ◌&&◌, nat_le, nat_lt, refl, sym, ap, ◌∙◌, arith, subst, Option, Some, None, Ok, All, Contains, unwrap_or, if◌then◌else◌, ◌==◌, not, slice_get, option_map, option_and_then, eq-eqb, and_parts, or_cases, not-true, Value, File, Group, InputRelocation, InputSection, Machine, Layout, Resolution, Symbol, has_flag, ifunc, absolute, Item, canonical, Memory, World, first_value, HasValue, HasRaw, HasFlag, may_be_replaced, canonical_is, own_definition, first_filtered, Outline, Term, number_term, value_of, IsWorldOf, based_is, IndexedAnswer, Loaded, raw_in, index_of, known_answer, loaded_term}
use Rattle.wild_words.proofs.ListLemmas.{holds_at}
use Rattle.wild_records.specs.Abi.Symbol.{stt_section}
use Rattle.wild_reloc.specs.Formula.{SymbolPart, Distance, PageDistance, StubDistance}
use Rattle.wild_types.specs.declared.kind.Machine.TheVariants as machine
use Rattle.wild_types.specs.declared.symbol.Place.{Place}
use Rattle.wild_types.specs.declared.symbol.Place.TheVariants as at
use Rattle.wild_types.specs.Addresses.{raw_value, resolved_or, placed_value, address_at, address_in_file, address_in_section}
use Rattle.wild_types.specs.Flags.{undefined_weak}
use Rattle.wild_types.specs.Lookups.{has_address, files_of, file_of}
use Rattle.wild_types.specs.SymbolSlots.{plt_of, resolved_plt}
use Rattle.wild_layout.specs.Numbers.{NumbersFit, SymbolNumbers}
use Rattle.wild_loader.specs.declared.fault.LoadFault.TheVariants as faults
use Rattle.wild_loader.specs.Changes.{answer_at as resolver_answer}
use Rattle.wild_loader.specs.Outcome.{known}
use Rattle.wild_meaning.specs.Value.{HasAnswer, IsReplaceable, IsResolved, IsUnresolved, IsLocatedAt, with_base}
use Rattle.wild_meaning.specs.World.{IsKnownModule, HasResolver}
use Rattle.wild_meaning.specs.Denotes.{IsAddressStub}
use Rattle.wild_meaning.specs.Strings.{NamesStrings}
use Rattle.wild_meaning.specs.ReferentAArch64.{RepresentsOnAArch64}
use Rattle.wild_meaning.specs.Formula.{IsReferent, IsReferentOnAArch64, IsSymbolAddress, UsesOwnPlace}
use Rattle.wild_meaning.proofs.SymbolLemmas.{referent_is}
use Rattle.wild_terms.specs.Outline.{address_of}
use Rattle.wild_terms.specs.declared.term.Atom.TheVariants.{Resolver}
use Rattle.wild_terms.specs.Terms.{atom_term}
use Rattle.wild_terms.specs.Values.{IsAnswered}
use Rattle.wild_terms.proofs.ValueLemmas.{address_is}
use Rattle.wild_references.specs.PlainLaws.{RawValuesAreAddresses}
use Rattle.wild_checker.specs.Symbols.{are_ordered, in_file, address_by_place, address_of_symbol, value_by, is_equal, represents, is_plain, defined_term, symbol_term, answer_at, answer_term, resolver_term, own_term, is_merge, has_no_strings, is_no_merged, names_none, names_no_strings}
use Rattle.wild_checker.specs.References.{plain_referent}
use Rattle.wild_checker.proofs.FileLemmas.{own_file}

some_is : {X : Type 0} (x y : X) → (let o : Option X = Some x in o) ≡ Some y → x ≡ y
some_is x y h = cc

-- what is known of a file's place, of the layout's numbers and of the world
pub record Known (k : Loaded) (f : File) (w : World) : Type 0 where
  pub group : Group
  pub grouped : Contains k.layout.groups group
  pub filed : Contains group.files f
  pub ordered : k.ordered ≡ are_ordered k.layout
  pub numbers : NumbersFit k.layout
  pub world : IsWorldOf k.outline w
  pub own : IsKnownModule w w.own_module
  pub resolvers : All (HasResolver w) k.layout.symbols
  pub raw : RawValuesAreAddresses

-- the file is the symbol's own
file_is : (k : Loaded) (f : File) (w : World) (i : ℕ) → Known k f w → in_file k f i ≡ true → file_of (files_of k.layout.groups) i ≡ Some f
file_is k f w i n h =
    let both = and_parts k.ordered (nat_le f.first_symbol i && nat_lt i (f.first_symbol + f.symbol_count)) h in
    own_file k.layout n.group f i (sym n.ordered ∙ both.0) n.grouped n.filed both.1

-- ---- addresses

placed_is : (l : Layout) (f : File) (i value a : ℕ) (p : Place) → file_of (files_of l.groups) i ≡ Some f → address_by_place l f value p ≡ Some a → address_at l i value p ≡ Some a
placed_is l f i value a at.Undefined own h = cc
placed_is l f i value a at.Absolute own h = cc
placed_is l f i value a at.Common own h = cc
placed_is l f i value a (at.Output n) own h = cc
placed_is l f i value a (at.Section n) own h = ap (address_in_file l n value) own ∙ h

symbol_is : (l : Layout) (f : File) (i a : ℕ) (o : Option Symbol) → file_of (files_of l.groups) i ≡ Some f → address_of_symbol l f o ≡ Some a → option_and_then (λ (s : Symbol). address_at l i s.value s.place) o ≡ Some a
symbol_is l f i a None own h = cc
symbol_is l f i a (Some s) own h = placed_is l f i s.value a s.place own h

resolved_by : (d : Symbol) (r : Option Resolution) → d.resolution ≡ r → (l : Layout) (i : ℕ) → slice_get l.symbols (canonical l i) ≡ Some d → raw_value l i ≡ resolved_or (option_map (λ r. r.raw_value) r) (placed_value l i)
unfolding raw_value
resolved_by d r e l i there = rw (there, e) refl

pub raw_is : (k : Loaded) (f : File) (w : World) (i a : ℕ) (d : Symbol) → Known k f w → slice_get k.layout.symbols (canonical k.layout i) ≡ Some d → raw_in k f i d.resolution ≡ Some a → raw_value k.layout i ≡ Some a
raw_is k f w i a d n there h = by d.resolution refl h
  where
    by_file : d.resolution ≡ None → (b : Bool) → in_file k f i ≡ b → (if b then address_of_symbol k.layout f (slice_get k.layout.symbols i) else None) ≡ Some a → raw_value k.layout i ≡ Some a
    by_file e false is h = cc
    by_file e true is h = resolved_by d None e k.layout i there ∙ symbol_is k.layout f i a (slice_get k.layout.symbols i) (file_is k f w i n is) h

    by : (r : Option Resolution) → d.resolution ≡ r → raw_in k f i r ≡ Some a → raw_value k.layout i ≡ Some a
    by None e h = by_file e (in_file k f i) refl h
    by (Some r) e h = resolved_by d (Some r) e k.layout i there ∙ h

-- an address is a number of the machine
section_below : (l : Layout) (value a : ℕ) (o : Option InputSection) → address_in_section l value o ≡ Some a → a < 2 ^ 64
section_below l value a None h = cc
section_below l value a (Some s) h = by (has_address l s) h
  where
    by : (b : Bool) → (if b then Some ((s.address + value) % 2 ^ 64) else None) ≡ Some a → a < 2 ^ 64
    by false h = cc
    by true h = let same : (s.address + value) % 2 ^ 64 ≡ a = cc in omega (arith, same)

place_below : (l : Layout) (f : File) (value a : ℕ) (p : Place) → address_by_place l f value p ≡ Some a → a < 2 ^ 64
place_below l f value a at.Undefined h = cc
place_below l f value a at.Absolute h = cc
place_below l f value a at.Common h = cc
place_below l f value a (at.Output n) h = cc
place_below l f value a (at.Section n) h = section_below l value a (slice_get f.sections n) h

symbol_below : (l : Layout) (f : File) (a : ℕ) (o : Option Symbol) → address_of_symbol l f o ≡ Some a → a < 2 ^ 64
symbol_below l f a None h = cc
symbol_below l f a (Some s) h = place_below l f s.value a s.place h

raw_below : (k : Loaded) (f : File) (w : World) (i a : ℕ) (d : Symbol) → Known k f w → slice_get k.layout.symbols (canonical k.layout i) ≡ Some d → raw_in k f i d.resolution ≡ Some a → a < 2 ^ 64
raw_below k f w i a d n there h = by d.resolution refl h
  where
    by_file : (b : Bool) → (if b then address_of_symbol k.layout f (slice_get k.layout.symbols i) else None) ≡ Some a → a < 2 ^ 64
    by_file false h = cc
    by_file true h = symbol_below k.layout f a (slice_get k.layout.symbols i) h

    by : (r : Option Resolution) → d.resolution ≡ r → raw_in k f i r ≡ Some a → a < 2 ^ 64
    by None e h = by_file (in_file k f i) h
    by (Some r) e h =
        let low = (holds_at SymbolNumbers k.layout.symbols (canonical k.layout i) d there n.numbers.symbols r e).value in
        let same : r.raw_value ≡ a = cc in
        omega (arith, low, same)

-- ---- the value of a symbol

value_is : (k : Loaded) (w : World) (b : Bool) (a : ℕ) → IsWorldOf k.outline w → a < 2 ^ 64 → value_of w (value_by b k.outline a) ≡ with_base b w.base a
value_is k w true a world low = omega (arith, low)
value_is k w false a world low = based_is k.outline w a world

-- what is decided of symbol i, whose definition is d
pub record IsPlain (k : Loaded) (f : File) (i : ℕ) : Type 0 where
  pub definition : Symbol
  pub there : slice_get k.layout.symbols (canonical k.layout i) ≡ Some definition
  pub plain : is_plain k f i definition ≡ true

pub record HasTerm (k : Loaded) (f : File) (i : ℕ) (t : Term) : Type 0 where
  pub of : IsPlain k f i
  pub raw : ℕ
  pub given : raw_in k f i of.definition.resolution ≡ Some raw
  pub is : value_by (has_flag of.definition.flags absolute) k.outline raw ≡ t

has_term : (k : Loaded) (f : File) (i : ℕ) (t : Term) → symbol_term k f i ≡ Some t → HasTerm k f i t
has_term k f i t h = by (slice_get k.layout.symbols (canonical k.layout i)) refl h
  where
    by_raw : (d : Symbol) → slice_get k.layout.symbols (canonical k.layout i) ≡ Some d → is_plain k f i d ≡ true → (o : Option ℕ) → raw_in k f i d.resolution ≡ o → option_map (value_by (has_flag d.flags absolute) k.outline) o ≡ Some t → HasTerm k f i t
    by_raw d there plain None e h = cc
    by_raw d there plain (Some a) e h = record { of = record { definition = d; there = there; plain = plain }; raw = a; given = e; is = some_is (value_by (has_flag d.flags absolute) k.outline a) t h }

    by_plain : (d : Symbol) → slice_get k.layout.symbols (canonical k.layout i) ≡ Some d → (b : Bool) → is_plain k f i d ≡ b → (if b then option_map (value_by (has_flag d.flags absolute) k.outline) (raw_in k f i d.resolution) else None) ≡ Some t → HasTerm k f i t
    by_plain d there false e h = cc
    by_plain d there true e h = by_raw d there e (raw_in k f i d.resolution) refl h

    by : (o : Option Symbol) → slice_get k.layout.symbols (canonical k.layout i) ≡ o → defined_term k f i o ≡ Some t → HasTerm k f i t
    by None there h = cc
    by (Some d) there h = by_plain d there (is_plain k f i d) refl h

record PlainParts (k : Loaded) (f : File) (i : ℕ) (d : Symbol) : Type 0 where
  own : may_be_replaced k.layout.kind d.flags ≡ false
  direct : has_flag d.flags ifunc ≡ false
  alone : represents k.layout.machine d (raw_in k f i d.resolution) ≡ true

plain_parts : (k : Loaded) (f : File) (i : ℕ) (d : Symbol) → is_plain k f i d ≡ true → PlainParts k f i d
plain_parts k f i d h =
    let r = represents k.layout.machine d (raw_in k f i d.resolution) in
    let a = and_parts (not (may_be_replaced k.layout.kind d.flags)) (not (has_flag d.flags ifunc) && r) h in
    let b = and_parts (not (has_flag d.flags ifunc)) r a.1 in
    record { own = not-true (may_be_replaced k.layout.kind d.flags) a.0; direct = not-true (has_flag d.flags ifunc) b.0; alone = b.1 }

-- the output's own value of a symbol
own_value : (k : Loaded) (f : File) (w : World) (i a : ℕ) (d : Symbol) → Known k f w → slice_get k.layout.symbols (canonical k.layout i) ≡ Some d → may_be_replaced k.layout.kind d.flags ≡ false → has_flag d.flags ifunc ≡ false → raw_in k f i d.resolution ≡ Some a → HasValue k.layout w i (value_of w (value_by (has_flag d.flags absolute) k.outline a))
own_value k f w i a d n there own direct given =
    let l = k.layout in
    let defined = own_definition l i d there in
    let still = has_flag d.flags absolute in
    inr (
      record { definition = canonical l i; defined = defined; symbol = d; listed = there; told = own },
      record {
        raw = a;
        given = n.raw l i a (raw_is k f w i a d n there given);
        indirect = false;
        resolved = record { definition = canonical l i; defined = defined; symbol = d; listed = there; flagged = direct };
        still = still;
        absolute = record { definition = canonical l i; defined = defined; symbol = d; listed = there; flagged = refl };
        is = value_is k w still a n.world (raw_below k f w i a d n there given);
      },
    )

-- the term has the symbol's value
pub has_value : (k : Loaded) (f : File) (w : World) (i : ℕ) (t : Term) → Known k f w → HasTerm k f i t → HasValue k.layout w i (value_of w t)
has_value k f w i t n h =
    let p = plain_parts k f i h.of.definition h.of.plain in
    subst (λ (x : Term). HasValue k.layout w i (value_of w x)) h.is (own_value k f w i h.raw h.of.definition n h.of.there p.own p.direct h.given)

-- ---- symbols that another module may define

-- the term of a value that is there
pub record Mapped {X Y : Type 0} (f : X → Y) (o : Option X) (y : Y) : Type 0 where
  pub from : X
  pub is : o ≡ Some from
  pub made : f from ≡ y

pub mapped : {X Y : Type 0} (f : X → Y) (o : Option X) (y : Y) → option_map f o ≡ Some y → Mapped f o y
mapped f None y h = cc
mapped f (Some x) y h = record { from = x; is = refl; made = some_is (f x) y h }

-- the index of a symbol whose answer is known
record HasIndex (o : Outline) (d : Symbol) (a : IndexedAnswer) : Type 0 where
  resolution : Resolution
  decided : d.resolution ≡ Some resolution
  told : resolution.dynamic_symbol_index ≡ Some a.index
  known : slice_get o.symbols a.index ≡ Some a.answer

has_index : (o : Outline) (d : Symbol) (a : IndexedAnswer) → known_answer o (index_of d.resolution) ≡ Some a → HasIndex o d a
has_index o d a h = by d.resolution refl h
  where
    by_test : (r : Resolution) → d.resolution ≡ Some r → (i : ℕ) → r.dynamic_symbol_index ≡ Some i → (b : Bool) → (if b then option_map (answer_at i) (slice_get o.symbols i) else None) ≡ Some a → HasIndex o d a
    by_test r e i f false h = cc
    by_test r e i f true h =
        let x = mapped (answer_at i) (slice_get o.symbols i) a h in
        subst (HasIndex o d) x.made (record { resolution = r; decided = e; told = f; known = x.is })

    by_index : (r : Resolution) → d.resolution ≡ Some r → (x : Option ℕ) → r.dynamic_symbol_index ≡ x → known_answer o x ≡ Some a → HasIndex o d a
    by_index r e None f h = cc
    by_index r e (Some i) f h = by_test r e i f (nat_lt i (2 ^ 32)) h

    by : (x : Option Resolution) → d.resolution ≡ x → known_answer o (index_of x) ≡ Some a → HasIndex o d a
    by None e h = cc
    by (Some r) e h = by_index r e r.dynamic_symbol_index refl h

-- the world's answer for symbol i agrees with what is known of it
pub record IsAnsweredFor (k : Loaded) (w : World) (i : ℕ) (a : IndexedAnswer) : Type 0 where
  pub known : IsAnswered w a.index a.answer
  pub given : HasAnswer k.layout w i known.answer

pub answered_for : (k : Loaded) (w : World) (i : ℕ) (d : Symbol) (a : IndexedAnswer) → IsWorldOf k.outline w → slice_get k.layout.symbols (canonical k.layout i) ≡ Some d → known_answer k.outline (index_of d.resolution) ≡ Some a → IsAnsweredFor k w i a
answered_for k w i d a world there h =
    let x = has_index k.outline d a h in
    let n = world.answered a.index a.answer x.known in
    record {
      known = n;
      given = record { definition = canonical k.layout i; defined = own_definition k.layout i d there; symbol = d; listed = there; resolution = x.resolution; decided = x.decided; index = a.index; told = x.told; given = n.given };
    }

pub is_replaceable : (k : Loaded) (i : ℕ) (d : Symbol) (b : Bool) → slice_get k.layout.symbols (canonical k.layout i) ≡ Some d → may_be_replaced k.layout.kind d.flags ≡ b → IsReplaceable k.layout i b
is_replaceable k i d b there e = record { definition = canonical k.layout i; defined = own_definition k.layout i d there; symbol = d; listed = there; told = e }

pub foreign_value : (k : Loaded) (w : World) (i : ℕ) (d : Symbol) (t : Term) → IsWorldOf k.outline w → slice_get k.layout.symbols (canonical k.layout i) ≡ Some d → may_be_replaced k.layout.kind d.flags ≡ true → answer_term k.outline (index_of d.resolution) ≡ Some t → HasValue k.layout w i (value_of w t)
foreign_value k w i d t world there replaced h =
    let m = mapped (λ (a : IndexedAnswer). address_of a.index a.answer) (known_answer k.outline (index_of d.resolution)) t h in
    let a = answered_for k w i d m.from world there m.is in
    inl (is_replaceable k i d true there replaced, a.known.answer, a.given, sym (address_is w m.from.index m.from.answer a.known ∙ ap (value_of w) m.made))

-- the answer of an IFUNC's resolver
resolver_value : (k : Loaded) (f : File) (w : World) (i : ℕ) (d : Symbol) (t : Term) → Known k f w → slice_get k.layout.symbols (canonical k.layout i) ≡ Some d → may_be_replaced k.layout.kind d.flags ≡ false → has_flag d.flags ifunc ≡ true → resolver_term d.resolution ≡ Some t → HasValue k.layout w i (value_of w t)
resolver_value k f w i d t n there own indirect h = by d.resolution refl h
  where
    l : Layout
    l = k.layout

    low_is : (a : ℕ) (o : Option ℕ) → o ≡ Some a → a < 2 ^ 64 → (unwrap_or o 0 + 0) % 2 ^ 64 ≡ a
    low_is a o e low = ap (λ (x : Option ℕ). (unwrap_or x 0 + 0) % 2 ^ 64) e ∙ small a low
      where
        small : (a : ℕ) → a < 2 ^ 64 → (a + 0) % 2 ^ 64 ≡ a
        small a low = omega (arith, low)

    by : (x : Option Resolution) → d.resolution ≡ x → resolver_term x ≡ Some t → HasValue l w i (value_of w t)
    by None e h = cc
    by (Some r) e h =
        let once = holds_at (HasResolver w) l.symbols (canonical l i) d there n.resolvers indirect r e in
        let place = (w.base + r.raw_value) % 2 ^ 64 in
        let first : first_value w.resolvers place ≡ Some once.answer = first_filtered w.resolvers place once.answer once.pair in
        let value : value_of w (atom_term (Resolver r.raw_value)) ≡ once.answer = low_is once.answer (first_value w.resolvers place) first once.fits in
        let given : resolver_answer w place ≡ Ok once.answer = ap (λ (o : Option ℕ). known o (faults.NoAnswer place)) first in
        let raw : raw_in k f i d.resolution ≡ Some r.raw_value = ap (raw_in k f i) e in
        let defined = own_definition l i d there in
        let is : HasValue l w i once.answer = inr (
          is_replaceable k i d false there own,
          record {
            raw = r.raw_value;
            given = n.raw l i r.raw_value (raw_is k f w i r.raw_value d n there raw);
            indirect = true;
            resolved = record { definition = canonical l i; defined = defined; symbol = d; listed = there; flagged = indirect };
            still = has_flag d.flags absolute;
            absolute = record { definition = canonical l i; defined = defined; symbol = d; listed = there; flagged = refl };
            is = given;
          },
        ) in
        subst (HasValue l w i) (sym value ∙ ap (value_of w) (some_is (atom_term (Resolver r.raw_value)) t h)) is

-- the term of a symbol by the output's own definition
pub own_term_value : (k : Loaded) (f : File) (w : World) (i : ℕ) (d : Symbol) (t : Term) → Known k f w → slice_get k.layout.symbols (canonical k.layout i) ≡ Some d → may_be_replaced k.layout.kind d.flags ≡ false → own_term k f i d ≡ Some t → HasValue k.layout w i (value_of w t)
own_term_value k f w i d t n there own h = by (has_flag d.flags ifunc) refl h
  where
    by : (b : Bool) → has_flag d.flags ifunc ≡ b → (if b then resolver_term d.resolution else option_map (value_by (has_flag d.flags absolute) k.outline) (raw_in k f i d.resolution)) ≡ Some t → HasValue k.layout w i (value_of w t)
    by true e h = resolver_value k f w i d t n there own e h
    by false e h =
        let m = mapped (value_by (has_flag d.flags absolute) k.outline) (raw_in k f i d.resolution) t h in
        subst (λ (x : Term). HasValue k.layout w i (value_of w x)) m.made (own_value k f w i m.from d n there own e m.is)

-- the term of any symbol has its value
pub loaded_value : (k : Loaded) (f : File) (w : World) (i : ℕ) (d : Symbol) (t : Term) → Known k f w → slice_get k.layout.symbols (canonical k.layout i) ≡ Some d → loaded_term k f i d ≡ Some t → HasValue k.layout w i (value_of w t)
loaded_value k f w i d t n there h = by (may_be_replaced k.layout.kind d.flags) refl h
  where
    by : (b : Bool) → may_be_replaced k.layout.kind d.flags ≡ b → (if b then answer_term k.outline (index_of d.resolution) else own_term k f i d) ≡ Some t → HasValue k.layout w i (value_of w t)
    by true e h = foreign_value k w i d t n.world there e h
    by false e h = own_term_value k f w i d t n there e h

-- ---- the definition is one

pub one_symbol : (l : Layout) (i c : ℕ) (d s : Symbol) → slice_get l.symbols (canonical l i) ≡ Some d → canonical l i ≡ c → slice_get l.symbols c ≡ Some s → s ≡ d
one_symbol l i c d s there same listed =
    let both : Some s ≡ Some d = sym listed ∙ ap (λ (n : ℕ). slice_get l.symbols n) (sym same) ∙ there in
    some_is s d both

-- no other module may define it
pub not_replaced_by : (k : Loaded) (i : ℕ) (d : Symbol) → slice_get k.layout.symbols (canonical k.layout i) ≡ Some d → may_be_replaced k.layout.kind d.flags ≡ false → IsReplaceable k.layout i true → ⊥
not_replaced_by k i d there own r =
    let same = one_symbol k.layout i r.definition d r.symbol there (canonical_is k.layout i r.definition r.defined) r.listed in
    let off : may_be_replaced k.layout.kind r.symbol.flags ≡ false = subst (λ (s : Symbol). may_be_replaced k.layout.kind s.flags ≡ false) (sym same) own in
    let both : true ≡ false = sym r.told ∙ off in
    cc

pub not_replaced : (k : Loaded) (f : File) (i : ℕ) → IsPlain k f i → IsReplaceable k.layout i true → ⊥
not_replaced k f i h r = not_replaced_by k i h.definition h.there (plain_parts k f i h.definition h.plain).own r

-- ---- merged strings

no_section : (f : File) (place : Place) (index : ℕ) (s : InputSection) → place ≡ at.Section index → slice_get f.sections index ≡ Some s → is_no_merged f place ≡ true → is_merge s.slot ≡ false
no_section f place index s e found h =
    let a : has_no_strings (slice_get f.sections index) ≡ true = subst (λ (p : Place). is_no_merged f p ≡ true) e h in
    let b : not (is_merge s.slot) ≡ true = subst (λ (o : Option InputSection). has_no_strings o ≡ true) found a in
    not-true (is_merge s.slot) b

pub no_strings : (k : Loaded) (f : File) (w : World) (r : InputRelocation) (i : ℕ) → Known k f w → r.symbol ≡ Some i → names_no_strings k f i ≡ true → NamesStrings k.layout r → ⊥
no_strings k f w r i n named h s =
    let same : s.symbol ≡ i = (let both : Some s.symbol ≡ Some i = sym s.named ∙ named in some_is s.symbol i both) in
    let listed : slice_get k.layout.symbols i ≡ Some s.has.symbol = subst (λ (x : ℕ). slice_get k.layout.symbols x ≡ Some s.has.symbol) same s.has.listed in
    let test : names_none k f i (Some s.has.symbol) ≡ true = subst (λ (o : Option Symbol). names_none k f i o ≡ true) listed h in
    elim (or_cases (not (s.has.symbol.info % 16 == stt_section)) (in_file k f i && is_no_merged f s.has.symbol.place) test) [
      | inl other ↦
          (let e : (s.has.symbol.info % 16 == stt_section) ≡ true = eq-eqb (s.has.symbol.info % 16) stt_section s.has.of_section in
          let t = not-true (s.has.symbol.info % 16 == stt_section) other in
          let both : true ≡ false = sym e ∙ t in
          cc)
      | inr here ↦
          (let both = and_parts (in_file k f i) (is_no_merged f s.has.symbol.place) here in
          let own : file_of (files_of k.layout.groups) i ≡ Some s.has.file = subst (λ (x : ℕ). file_of (files_of k.layout.groups) x ≡ Some s.has.file) same s.has.own in
          let files : Some s.has.file ≡ Some f = sym own ∙ file_is k f w i n both.0 in
          let file = some_is s.has.file f files in
          let found : slice_get f.sections s.has.index ≡ Some s.has.section = subst (λ (x : File). slice_get x.sections s.has.index ≡ Some s.has.section) file s.has.found in
          let off = no_section f s.has.symbol.place s.has.index s.has.section s.has.stands found both.1 in
          let on : is_merge s.has.section.slot ≡ true = ap is_merge s.has.merged in
          let twice : true ≡ false = sym on ∙ off in
          cc)
    ]

-- ---- S and L

-- a reference whose term is known
pub data HasReferent (k : Loaded) (f : File) (r : InputRelocation) (t : Term) : Type 0 where
  Nameless : r.symbol ≡ None → t ≡ number_term 0 → HasReferent k f r t
  Named : (i : ℕ) → r.symbol ≡ Some i → names_no_strings k f i ≡ true → HasTerm k f i t → HasReferent k f r t

pub has_referent : (k : Loaded) (f : File) (r : InputRelocation) (t : Term) → plain_referent k f r.symbol ≡ Some t → HasReferent k f r t
has_referent k f r t h = by r.symbol refl h
  where
    by_strings : (i : ℕ) → r.symbol ≡ Some i → (b : Bool) → names_no_strings k f i ≡ b → (if b then symbol_term k f i else None) ≡ Some t → HasReferent k f r t
    by_strings i e false is h = cc
    by_strings i e true is h = Named i e is (has_term k f i t h)

    by : (o : Option ℕ) → r.symbol ≡ o → plain_referent k f o ≡ Some t → HasReferent k f r t
    by None e h = Nameless e (sym (some_is (number_term 0) t h))
    by (Some i) e h = by_strings i e (names_no_strings k f i) refl h

-- its stub does not represent it
no_stub : (k : Loaded) (f : File) (w : World) (i p : ℕ) (d : Symbol) → slice_get k.layout.symbols (canonical k.layout i) ≡ Some d → has_flag d.flags ifunc ≡ false → is_equal (raw_in k f i d.resolution) (plt_of d) ≡ false → IsAddressStub k.layout i p → ⊥
no_stub k f w i p d there direct apart s = by s.stands
  where
    l : Layout
    l = k.layout

    flag : HasFlag l i ifunc true → ⊥
    flag x =
        let e : has_flag d.flags ifunc ≡ true = subst (λ (y : Symbol). has_flag y.flags ifunc ≡ true) (one_symbol l i x.definition d x.symbol there (canonical_is l i x.definition x.defined) x.listed) x.flagged in
        let both : true ≡ false = sym e ∙ direct in
        cc

    -- the stub is of the definition's resolution
    resolved : d.resolution ≡ Some s.stub.resolution
    resolved = subst (λ (y : Symbol). y.resolution ≡ Some s.stub.resolution) (one_symbol l i s.stub.definition d s.stub.symbol there (canonical_is l i s.stub.definition s.stub.defined) s.stub.listed) s.stub.decided

    raw : HasRaw l i p → p ≡ s.stub.resolution.raw_value
    raw x = by_given x.given
      where
        by_given : IsResolved l x.definition p ⊎ (IsUnresolved l x.definition × IsLocatedAt l i p) → p ≡ s.stub.resolution.raw_value
        by_given (inl y) =
            let same = one_symbol l i x.definition d y.symbol there (canonical_is l i x.definition x.defined) y.listed in
            let both : Some y.resolution ≡ Some s.stub.resolution = sym y.decided ∙ ap (λ (z : Symbol). z.resolution) same ∙ resolved in
            y.value ∙ ap (λ (z : Resolution). z.raw_value) (some_is y.resolution s.stub.resolution both)
        by_given (inr y) =
            let listed : slice_get l.symbols x.definition ≡ Some d = ap (λ (m : ℕ). slice_get l.symbols m) (sym (canonical_is l i x.definition x.defined)) ∙ there in
            let both : Some s.stub.resolution ≡ None = sym resolved ∙ y.0 d listed in
            cc

    equal : (a b : ℕ) → b ≡ a → is_equal (Some a) (Some b) ≡ false → ⊥
    equal a b e h = (let t : (a == b) ≡ true = eq-eqb a b (sym e) in let both : true ≡ false = sym t ∙ h in cc)

    place : HasRaw l i p → ⊥
    place x =
        let stub : plt_of d ≡ Some p = ap resolved_plt resolved ∙ s.stub.stub in
        let address : raw_in k f i d.resolution ≡ Some s.stub.resolution.raw_value = ap (raw_in k f i) resolved in
        equal s.stub.resolution.raw_value p (raw x) (subst (λ (o : Option ℕ). is_equal (Some s.stub.resolution.raw_value) o ≡ false) stub (subst (λ (o : Option ℕ). is_equal o (plt_of d) ≡ false) address apart))

    by : HasFlag l i ifunc true ⊎ HasRaw l i p → ⊥
    by (inl x) = flag x
    by (inr x) = place x

record DefinedOnAArch64 (d : Symbol) (raw : Option ℕ) : Type 0 where
  strong : has_flag d.flags undefined_weak ≡ false
  apart : is_equal raw (plt_of d) ≡ false

defined_on_aarch64 : (d : Symbol) (raw : Option ℕ) → represents machine.AArch64 d raw ≡ true → DefinedOnAArch64 d raw
defined_on_aarch64 d raw h =
    let both = and_parts (not (has_flag d.flags undefined_weak)) (not (is_equal raw (plt_of d))) h in
    record { strong = not-true (has_flag d.flags undefined_weak) both.0; apart = not-true (is_equal raw (plt_of d)) both.1 }

represents_by : (v : Value) (l : Layout) (w : World) (m : Memory) (r : InputRelocation) (i a : ℕ) → ((p : ℕ) → IsAddressStub l i p → ⊥) → HasValue l w i a → RepresentsOnAArch64 v l w m r i a
represents_by SymbolPart l w m r i a none h = inr (none, h)
represents_by PageDistance l w m r i a none h = inr (none, h)
represents_by StubDistance l w m r i a none h = record { symbol = a; denoted = inl h; comes = inl refl }
represents_by Distance l w m r i a none h = inl (inl h)
represents_by other l w m r i a none h = inl h

on_aarch64 : (k : Loaded) (f : File) (v : Value) (w : World) (m : Memory) (item : Item) (r : InputRelocation) (t : Term) → Known k f w → k.layout.machine ≡ machine.AArch64 → HasReferent k f r t → IsReferentOnAArch64 v k.layout w m item r r.symbol (value_of w t)
on_aarch64 k f v w m item r t n on (Nameless e z) =
    let zero : value_of w t ≡ 0 = ap (value_of w) z in
    subst (λ (o : Option ℕ). IsReferentOnAArch64 v k.layout w m item r o (value_of w t)) (sym e) zero
on_aarch64 k f v w m item r t n on (Named i e strings h) =
    let d = h.of.definition in
    let p = plain_parts k f i d h.of.plain in
    let raw = raw_in k f i d.resolution in
    let q = defined_on_aarch64 d raw (subst (λ (x : Machine). represents x d raw ≡ true) on p.alone) in
    let other : UsesOwnPlace v k.layout i → ⊥ = λ u. not_weak u.1.weak q.strong in
    subst (λ (o : Option ℕ). IsReferentOnAArch64 v k.layout w m item r o (value_of w t)) (sym e)
    (inr (other, represents_by v k.layout w m r i (value_of w t) (λ s is. no_stub k f w i s d h.of.there p.direct q.apart is) (has_value k f w i t n h)))
  where
    not_weak : HasFlag k.layout i undefined_weak true → has_flag h.of.definition.flags undefined_weak ≡ false → ⊥
    not_weak x off =
        let same = one_symbol k.layout i x.definition h.of.definition x.symbol h.of.there (canonical_is k.layout i x.definition x.defined) x.listed in
        let on : has_flag h.of.definition.flags undefined_weak ≡ true = subst (λ (s : Symbol). has_flag s.flags undefined_weak ≡ true) same x.flagged in
        let both : true ≡ false = sym on ∙ off in
        cc

on_x86_64 : (k : Loaded) (f : File) (w : World) (m : Memory) (r : InputRelocation) (t : Term) → Known k f w → HasReferent k f r t → IsSymbolAddress k.layout w m r.symbol (value_of w t)
on_x86_64 k f w m r t n (Nameless e z) =
    let zero : value_of w t ≡ 0 = ap (value_of w) z in
    subst (λ (o : Option ℕ). IsSymbolAddress k.layout w m o (value_of w t)) (sym e) zero
on_x86_64 k f w m r t n (Named i e strings h) = subst (λ (o : Option ℕ). IsSymbolAddress k.layout w m o (value_of w t)) (sym e) (inl (has_value k f w i t n h))

nothing_named : (k : Loaded) (f : File) (w : World) (r : InputRelocation) (t : Term) → Known k f w → HasReferent k f r t → NamesStrings k.layout r → ⊥
nothing_named k f w r t n (Nameless e z) s = (let both : Some s.symbol ≡ None = sym s.named ∙ e in cc)
nothing_named k f w r t n (Named i e strings h) s = no_strings k f w r i n e strings s

-- it is S, or L
pub referent : (k : Loaded) (f : File) (v : Value) (w : World) (m : Memory) (item : Item) (r : InputRelocation) (t : Term) → Known k f w → HasReferent k f r t → IsReferent k.layout.machine v k.layout w m item r (value_of w t)
referent k f v w m item r t n h = by k.layout.machine refl
  where
    by : (x : Machine) → k.layout.machine ≡ x → IsReferent k.layout.machine v k.layout w m item r (value_of w t)
    by machine.X86_64 on = referent_is v k.layout w m item r (value_of w t) on (λ s. nothing_named k f w r t n h s.1) (on_x86_64 k f w m r t n h)
    by machine.AArch64 on = subst (λ (x : Machine). IsReferent x v k.layout w m item r (value_of w t)) (sym on) (inr ((λ s. nothing_named k f w r t n h s.1), on_aarch64 k f v w m item r t n on h))

pub not_replaceable : (k : Loaded) (f : File) (r : InputRelocation) (t : Term) (i : ℕ) → HasReferent k f r t → r.symbol ≡ Some i → IsReplaceable k.layout i true → ⊥
not_replaceable k f r t i (Nameless e z) named x = (let both : Some i ≡ None = sym named ∙ e in cc)
not_replaceable k f r t i (Named j e strings h) named x = (let both : Some j ≡ Some i = sym e ∙ named in let same = some_is j i both in not_replaced k f j h.of (subst (λ (y : ℕ). IsReplaceable k.layout y true) (sym same) x))
