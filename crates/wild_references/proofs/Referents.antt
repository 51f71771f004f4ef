-- What S and L are in a reference, on either machine.
use Rattle.wild_references.proofs.Common.{◌≡◌, ℕ, ◌+◌, ◌%◌, ◌^◌, ◌⊎◌, inl, inr, Bool, true, false, Option, Some, None, refl, sym, ap, ◌∙◌, arith, subst, List, ◌<◌, Ok, not, ◌&&◌, if◌then◌else◌, All, cases_Bool, and_parts, not-true, slice_get_inside, Machine, InputRelocation, Layout, has_flag, absolute, undefined_weak, plt_stub, place_of, flags_at, is_listed, sized, expression_of, paged, subtrahend_of, expressed, Value, SymbolAddress, SymbolPart, Distance, PageDistance, FromTable, Term, Subtrahend, PageMask, RelocationSize, ByteSize, BitMasking, RelocationKindInfo, NamesSymbol, DefinitionNames, address_of, is_undefined_weak_without_stub, subtracts_place, adds_symbol, weak_resolves_to_place, undefined_weak_target, term_by, World, Memory, Item, place_at, IsAbsolute, IsReplaceable, HasFlag, HasOwnValue, with_base, IsUndefinedWeak, IsOneAddress, IsSymbolAddress, IsPlaceRelative, IsReferentOnAArch64, IsReferent, TakesAddress, TakesOffset, TakesString, HasStubAddress, flag_is, IsPlaced, is_expressed, value_by_row, IsDirect, HasTerm, IsFollowed, merged_strings, address_for, NamesStrings, w64, cast_unsigned, MergedString}
use Rattle.wild_types.specs.declared.kind.Machine.TheVariants as machine
use Rattle.wild_reloc.specs.BarredTypes.{branches_aarch64}
use Rattle.wild_reloc.specs.declared.expression.Term.TheVariants as term
use Rattle.wild_reloc.specs.declared.expression.Subtrahend.TheVariants as subtrahend
use Rattle.wild_reloc.specs.declared.info.PageMask.TheVariants as masks
use Rattle.wild_meaning.specs.ReferentAArch64.{own_place, RepresentsOnAArch64}
use Rattle.wild_meaning.proofs.SymbolLemmas.{one_is_address, on_x86_64}
use Rattle.wild_meaning.specs.Formula.{UsesOwnPlace, IsReferentOnX86_64, IsOwnTarget, IsOwnReferentOnAArch64, IsOwnReferent}
use Rattle.wild_references.specs.Terms.{page_mask, is_mask, is_table}
use Rattle.wild_references.proofs.StubCode.{StubLaws}
use Rattle.wild_references.proofs.Symbols.{flag_at}
use Rattle.wild_references.proofs.Targets.{Follows, StubIsWritten, addressed, one_addressed, linked}
use Rattle.wild_references.proofs.MergedStrings.{names_none, plain_address, string_found, string_named, strings_move, absent_none, replaceable_none, IsFor, OfStrings, OfSymbol, address_is_for}

-- ---- masks

-- an expression that no page is taken by has no mask
pub no_mask : (k : Machine) (t : Term) (less : Subtrahend) (mask : Option PageMask) → is_expressed k t less mask ≡ true → page_mask t less ≡ None → mask ≡ None
no_mask machine.X86_64 t less None e none = refl
no_mask machine.X86_64 t less (Some mask) e none = cc
no_mask machine.AArch64 t less None e none = refl
no_mask machine.AArch64 t less (Some mask) e none = (let f : is_mask None mask ≡ true = subst (λ (o : Option PageMask). is_mask o mask ≡ true) none e in absurd (never mask f))
  where
    never : (mask : PageMask) → is_mask None mask ≡ true → ⊥
    never mask f = cc

-- a mask is the expression's, and AArch64's
pub with_mask : (k : Machine) (t : Term) (less : Subtrahend) (mask : PageMask) → is_expressed k t less (Some mask) ≡ true → (k ≡ machine.AArch64) × (is_mask (page_mask t less) mask ≡ true)
with_mask machine.X86_64 t less mask e = cc
with_mask machine.AArch64 t less mask e = (refl, e)

-- what is less the table itself is x86-64's
pub of_table : (k : Machine) (t : Term) → is_expressed k t subtrahend.GotBase None ≡ true → k ≡ machine.X86_64
of_table machine.X86_64 t e = refl
of_table machine.AArch64 t e = cc

-- ---- values as a field has them

abbrev pub is_address : Value → Bool
is_address SymbolAddress = true
is_address other = false

pub sized_is : (z : RelocationSize) (v : Value) → is_address v ≡ false → sized z v ≡ v
sized_is (ByteSize n) v e = refl
sized_is (BitMasking bits) SymbolAddress e = cc
sized_is (BitMasking bits) other e = refl

-- ---- a symbol that is not there

pub absent : (l : Layout) (w : World) (m : Memory) (r : InputRelocation) (i : ℕ) → IsPlaced l w m → NamesSymbol l r → r.symbol ≡ Some i → is_undefined_weak_without_stub l (Some i) ≡ true → IsUndefinedWeak l i
absent l w m r i p listed named h =
    let z = slice_get_inside l.symbols i (listed i named) in
    let parts = and_parts (has_flag (flags_at l i) undefined_weak) (not (has_flag (flags_at l i) plt_stub)) h in
    record {
      weak = subst (λ (b : Bool). HasFlag l i undefined_weak b) parts.0 (flag_at l i undefined_weak z.0 p.symbols.named z.1);
      stubless = subst (λ (b : Bool). HasFlag l i plt_stub b) (not-true _ parts.1) (flag_at l i plt_stub z.0 p.symbols.named z.1);
    }

pub present : (l : Layout) (i : ℕ) → is_undefined_weak_without_stub l (Some i) ≡ false → IsUndefinedWeak l i → ⊥
present l i h a = by_flags (has_flag (flags_at l i) undefined_weak) (has_flag (flags_at l i) plt_stub) (flag_is l i undefined_weak true a.weak) (flag_is l i plt_stub false a.stubless) h
  where
    by_flags : (weak stub : Bool) → weak ≡ true → stub ≡ false → (weak && not stub) ≡ false → ⊥
    by_flags true false e f h = cc
    by_flags true true e f h = cc
    by_flags false stub e f h = cc

-- when the writer takes the place itself
pub record IsOwn (k : Machine) (l : Layout) (r : InputRelocation) (info : RelocationKindInfo) : Type 0 where
  pub on : k ≡ machine.AArch64
  pub symbol : adds_symbol (expression_of info.kind).term ≡ true
  pub place : subtracts_place (subtrahend_of info.kind info.mask) ≡ true
  pub absent : is_undefined_weak_without_stub l r.symbol ≡ true

pub own_parts : (k : Machine) (l : Layout) (r : InputRelocation) (info : RelocationKindInfo) → weak_resolves_to_place k l r info ≡ true → IsOwn k l r info
own_parts machine.X86_64 l r info h = cc
own_parts machine.AArch64 l r info h =
    let a = and_parts (adds_symbol (expression_of info.kind).term && subtracts_place (subtrahend_of info.kind info.mask)) (is_undefined_weak_without_stub l r.symbol) h in
    let b = and_parts (adds_symbol (expression_of info.kind).term) (subtracts_place (subtrahend_of info.kind info.mask)) a.0 in
    record { on = refl; symbol = b.0; place = b.1; absent = a.1 }

-- and that it does not, where it takes a place from a symbol
pub not_own : (k : Machine) (l : Layout) (r : InputRelocation) (info : RelocationKindInfo) → weak_resolves_to_place k l r info ≡ false → k ≡ machine.AArch64 → adds_symbol (expression_of info.kind).term ≡ true → subtracts_place (subtrahend_of info.kind info.mask) ≡ true → is_undefined_weak_without_stub l r.symbol ≡ false
not_own machine.X86_64 l r info h on symbol place = cc
not_own machine.AArch64 l r info h on symbol place = by_tests (adds_symbol (expression_of info.kind).term) (subtracts_place (subtrahend_of info.kind info.mask)) (is_undefined_weak_without_stub l r.symbol) symbol place h
  where
    by_tests : (a b c : Bool) → a ≡ true → b ≡ true → (a && b && c) ≡ false → c ≡ false
    by_tests true true false e f h = refl
    by_tests true true true e f h = cc
    by_tests true false c e f h = cc
    by_tests false b c e f h = cc

pub named_absent : (l : Layout) (o : Option ℕ) → is_undefined_weak_without_stub l o ≡ true → (i : ℕ) × (o ≡ Some i) × (is_undefined_weak_without_stub l (Some i) ≡ true)
named_absent l None h = cc
named_absent l (Some i) h = (i, refl, h)

-- the place in memory is that of the layout, moved
place_sum : (base p d at : ℕ) → at ≡ base + p → (at + d) % 2 ^ 64 ≡ (base + (p + d) % 2 ^ 64) % 2 ^ 64
place_sum base p d at e = omega (arith, e)

pub own_at : (w : World) (s : Item) (r : InputRelocation) → place_at w s r.offset ≡ w.base + place_of s.address r → own_place w s r ≡ (w.base + undefined_weak_target r.number (place_of s.address r)) % 2 ^ 64
own_at w s r e = place_sum w.base (place_of s.address r) (if is_listed r.number branches_aarch64 then 4 else 0) (place_at w s r.offset) e

-- ---- by machine

pub own_referent : (v : Value) (l : Layout) (w : World) (m : Memory) (s : Item) (r : InputRelocation) (i : ℕ) → l.machine ≡ machine.AArch64 → r.symbol ≡ Some i → UsesOwnPlace v l i → IsReferent l.machine v l w m s r (own_place w s r)
own_referent v l w m s r i on named takes =
    subst (λ (k : Machine). IsReferent k v l w m s r (own_place w s r)) (sym on) (inr ((λ t. absent_none l r i named takes.1 t.1), subst (λ (o : Option ℕ). IsReferentOnAArch64 v l w m s r o (own_place w s r)) (sym named) (inl (takes, refl))))

pub referent : (v : Value) (l : Layout) (w : World) (m : Memory) (s : Item) (r : InputRelocation) (a : ℕ) → (TakesString v l r → ⊥) → (l.machine ≡ machine.X86_64 → IsReferentOnX86_64 v l w m r.symbol a) → (r.symbol ≡ None → a ≡ 0) → ((i : ℕ) → r.symbol ≡ Some i → l.machine ≡ machine.AArch64 → (UsesOwnPlace v l i → ⊥) × RepresentsOnAArch64 v l w m r i a) → IsReferent l.machine v l w m s r a
referent v l w m s r a none target zero stands = by_machine l.machine refl
  where
    by_symbol : (o : Option ℕ) → r.symbol ≡ o → l.machine ≡ machine.AArch64 → IsReferentOnAArch64 v l w m s r o a
    by_symbol None e on = zero e
    by_symbol (Some i) e on = inr (stands i e on)

    by_machine : (k : Machine) → l.machine ≡ k → IsReferent k v l w m s r a
    by_machine machine.X86_64 e = inr (none, target e)
    by_machine machine.AArch64 e = inr (none, by_symbol r.symbol refl e)

-- the same with the output's own symbol
pub own_place_referent : (v : Value) (l : Layout) (w : World) (s : Item) (r : InputRelocation) (i : ℕ) → l.machine ≡ machine.AArch64 → r.symbol ≡ Some i → UsesOwnPlace v l i → IsOwnReferent l.machine v l w s r (own_place w s r)
own_place_referent v l w s r i on named takes =
    subst (λ (k : Machine). IsOwnReferent k v l w s r (own_place w s r)) (sym on) (subst (λ (o : Option ℕ). IsOwnReferentOnAArch64 v l w s r o (own_place w s r)) (sym named) (inl (takes, refl)))

pub own_symbol_referent : (v : Value) (l : Layout) (w : World) (s : Item) (r : InputRelocation) (i a : ℕ) → r.symbol ≡ Some i → (l.machine ≡ machine.AArch64 → UsesOwnPlace v l i → ⊥) → HasOwnValue l w i a → IsOwnReferent l.machine v l w s r a
own_symbol_referent v l w s r i a named none value = by_machine l.machine refl
  where
    target : IsOwnTarget l w r.symbol a
    target = subst (λ (o : Option ℕ). IsOwnTarget l w o a) (sym named) value

    by_machine : (k : Machine) → l.machine ≡ k → IsOwnReferent k v l w s r a
    by_machine machine.X86_64 e = target
    by_machine machine.AArch64 e = subst (λ (o : Option ℕ). IsOwnReferentOnAArch64 v l w s r o a) (sym named) (inr (none e, value))

-- ---- S

stands_as : (v : Value) (l : Layout) (w : World) (m : Memory) (r : InputRelocation) (i a : ℕ) → TakesAddress v → IsOneAddress l w m i a → RepresentsOnAArch64 v l w m r i a
stands_as SymbolAddress l w m r i a takes h = one_is_address l w m i a h
stands_as SymbolPart l w m r i a takes h = h
stands_as Distance l w m r i a takes h = inl (one_is_address l w m i a h)
stands_as PageDistance l w m r i a takes h = h
stands_as FromTable l w m r i a takes h = one_is_address l w m i a h
stands_as other l w m r i a takes h = absurd takes

-- what A is added to in memory, for the writer's term a: it moves with the base, or is an absolute symbol
pub record Refers (v : Value) (l : Layout) (w : World) (m : Memory) (s : Item) (r : InputRelocation) (a : ℕ) : Type 0 where
  pub still : Bool
  pub referent : IsReferent l.machine v l w m s r (with_base still w.base a)
  pub flag : (IsPlaceRelative v → ⊥) → (i : ℕ) → r.symbol ≡ Some i → has_flag (flags_at l i) absolute ≡ still
  pub absolute : (i : ℕ) → r.symbol ≡ Some i → still ≡ true → IsAbsolute l i

pub record OwnRefers (v : Value) (l : Layout) (w : World) (s : Item) (r : InputRelocation) (a : ℕ) : Type 0 where
  pub still : Bool
  pub referent : IsOwnReferent l.machine v l w s r (with_base still w.base a)
  pub flag : (IsPlaceRelative v → ⊥) → (i : ℕ) → r.symbol ≡ Some i → has_flag (flags_at l i) absolute ≡ still
  pub absolute : (i : ℕ) → r.symbol ≡ Some i → still ≡ true → IsAbsolute l i

-- an expression of a symbol that takes a place: what it is less
relative_by : (less : Subtrahend) (z : RelocationSize) → subtracts_place less ≡ true → IsPlaceRelative (sized z (expressed term.Symbol less))
relative_by subtrahend.Place z e = subst IsPlaceRelative (sym (sized_is z Distance refl)) tt
relative_by subtrahend.PageOfPlace z e = subst IsPlaceRelative (sym (sized_is z PageDistance refl)) tt
relative_by subtrahend.Nothing z e = cc
relative_by subtrahend.GotBase z e = cc
relative_by subtrahend.PageOfGot z e = cc

-- and one that does not
no_relative : (z : RelocationSize) → IsPlaceRelative (sized z SymbolAddress) → ⊥
no_relative (ByteSize n) h = h
no_relative (BitMasking bits) h = h

-- of AArch64, where the writer takes no place
not_place : (less : Subtrahend) (z : RelocationSize) → subtracts_place less ≡ false → is_table less ≡ false → IsPlaceRelative (sized z (expressed term.Symbol less)) → ⊥
not_place subtrahend.Nothing z e none h = no_relative z h
not_place subtrahend.PageOfGot (ByteSize n) e none h = h
not_place subtrahend.PageOfGot (BitMasking bits) e none h = h
not_place subtrahend.GotBase z e none h = cc
not_place subtrahend.Place z e none h = cc
not_place subtrahend.PageOfPlace z e none h = cc

-- on AArch64 nothing is less the table itself
no_table : (k : Machine) (t : Term) (less : Subtrahend) (mask : Option PageMask) → k ≡ machine.AArch64 → is_expressed k t less mask ≡ true → is_table (paged mask less) ≡ false
no_table machine.X86_64 t less mask e h = cc
no_table machine.AArch64 t less None e h = not-true _ h
no_table machine.AArch64 t less (Some masks.GotBase) e h = refl
no_table machine.AArch64 t less (Some masks.SymbolPlusAddendAndPosition) e h = refl
no_table machine.AArch64 t less (Some masks.GotEntryAndPosition) e h = refl

pub symbol_value : (info : RelocationKindInfo) → (expression_of info.kind).term ≡ term.Symbol → value_by_row info ≡ sized info.size (expressed term.Symbol (subtrahend_of info.kind info.mask))
symbol_value info e = ap (λ (t : Term). sized info.size (expressed t (subtrahend_of info.kind info.mask))) e

-- where the writer takes no place, the judge takes none
no_own_place : (l : Layout) (w : World) (m : Memory) (s : Item) (r : InputRelocation) (info : RelocationKindInfo) (x i : ℕ) → HasTerm l w m s r info x → (expression_of info.kind).term ≡ term.Symbol → r.symbol ≡ Some i → weak_resolves_to_place l.machine l r info ≡ false → l.machine ≡ machine.AArch64 → UsesOwnPlace (value_by_row info) l i → ⊥
no_own_place l w m s r info x i h symbol named e on own =
    elim (cases_Bool (subtracts_place (subtrahend_of info.kind info.mask))) [
      | inl p ↦ present l i (subst (λ (o : Option ℕ). is_undefined_weak_without_stub l o ≡ false) named (not_own l.machine l r info e on (ap adds_symbol symbol) p)) own.1
      | inr n ↦ not_place (subtrahend_of info.kind info.mask) info.size n (no_table l.machine (expression_of info.kind).term (expression_of info.kind).subtrahend info.mask on h.expressed) (subst IsPlaceRelative (symbol_value info symbol) own.0)
    ]

-- an expression that takes the symbol's address, and no offset, is right whichever module has it
pub follows : (l : Layout) (r : InputRelocation) (v : Value) → TakesAddress v → IsFollowed l r v → (i : ℕ) → r.symbol ≡ Some i → Follows l i
follows l r v takes f i named = by_case (f i named)
  where
    by_case : IsReplaceable l i false ⊎ (((TakesOffset v → ⊥) × (TakesAddress v → ⊥)) ⊎ ((TakesOffset v → ⊥) × HasStubAddress l i)) → Follows l i
    by_case (inl own) = inl own
    by_case (inr (inl other)) = absurd (other.1 takes)
    by_case (inr (inr stubbed)) = inr stubbed.1

-- what the writer takes for S
pub symbol_term : (l : Layout) (r : InputRelocation) (info : RelocationKindInfo) → (expression_of info.kind).term ≡ term.Symbol → term_by l r (expression_of info.kind).term ≡ address_for l r
symbol_term l r info e = ap (λ (t : Term). term_by l r t) e

-- of strings that were merged
string_refers : (v : Value) (l : Layout) (w : World) (m : Memory) (s : Item) (r : InputRelocation) (i a : ℕ) (strings : List MergedString) → All (DefinitionNames l) l.symbols → TakesAddress v → r.symbol ≡ Some i → merged_strings l i ≡ Some strings → cast_unsigned w64 r.addend < 2 ^ 64 → address_for l r ≡ Ok a → Refers v l w m s r a
string_refers v l w m s r i a strings named takes symbol is small given =
    let found = string_found l w r i a strings named symbol is small given in
    record {
      still = false;
      referent = inl ((takes, string_named l w r ((w.base + a) % 2 ^ 64) found), found);
      flag = λ none j e. strings_move l w r ((w.base + a) % 2 ^ 64) found j e;
      absolute = λ j e t. cc;
    }

pub refers : StubLaws → (l : Layout) (w : World) (m : Memory) (s : Item) (r : InputRelocation) (info : RelocationKindInfo) (x : ℕ) → (h : HasTerm l w m s r info x) → (expression_of info.kind).term ≡ term.Symbol → TakesAddress (value_by_row info) → IsFollowed l r (value_by_row info) → Refers (value_by_row info) l w m s r h.term
refers law l w m s r info x h symbol takes f = by_own (weak_resolves_to_place l.machine l r info) refl h.given
  where
    v : Value
    v = value_by_row info

    stands : (i : ℕ) → r.symbol ≡ Some i → StubIsWritten l i
    stands i named = elim h.present [ inl all ↦ inl all | inr direct ↦ inr (subst (λ (t : Term). IsDirect l r info t) symbol direct takes i named) ]

    by_for : weak_resolves_to_place l.machine l r info ≡ false → address_for l r ≡ Ok h.term → IsFor l r h.term → Refers v l w m s r h.term
    by_for e there (OfStrings i strings named is some) = string_refers v l w m s r i h.term strings h.placed.symbols.named takes named is (h.addend some) there
    by_for e there (OfSymbol none given) =
        let t = addressed law l w m r.symbol h.term h.placed stands (follows l r v takes f) given in
        let target = with_base t.still w.base h.term in
        let one : (i : ℕ) → r.symbol ≡ Some i → IsOneAddress l w m i target = λ i named.
        one_addressed l w m i h.term t.still h.placed (follows l r v takes f i named) (subst (λ (o : Option ℕ). address_of l o ≡ Ok h.term) named given) (t.flag i named) (subst (λ (o : Option ℕ). IsSymbolAddress l w m o target) named t.denoted) in
        record {
          still = t.still;
          referent = referent v l w m s r target (λ t. names_none l r none t.1) (λ x. on_x86_64 v l w m r.symbol target t.denoted) (λ e. subst (λ (o : Option ℕ). IsSymbolAddress l w m o target) e t.denoted) (λ i named on. (no_own_place l w m s r info x i h symbol named e on, stands_as v l w m r i target takes (one i named)));
          flag = λ none i named. t.flag i named;
          absolute = t.absolute;
        }

    by_own : (b : Bool) → weak_resolves_to_place l.machine l r info ≡ b → (if b then Ok (undefined_weak_target r.number (place_of s.address r)) else term_by l r (expression_of info.kind).term) ≡ Ok h.term → Refers v l w m s r h.term
    by_own true e g =
        let o = own_parts l.machine l r info e in
        let n = named_absent l r.symbol o.absent in
        let a = absent l w m r n.0 h.placed h.listed n.1 n.2 in
        let relative = subst IsPlaceRelative (sym (symbol_value info symbol)) (relative_by (subtrahend_of info.kind info.mask) info.size o.place) in
        let term : undefined_weak_target r.number (place_of s.address r) ≡ h.term = cc in
        let at = own_at w s r h.place ∙ ap (λ (n : ℕ). (w.base + n) % 2 ^ 64) term in
        record {
          still = false;
          referent = subst (λ (n : ℕ). IsReferent l.machine v l w m s r n) at (own_referent v l w m s r n.0 o.on n.1 (relative, a));
          flag = λ none i e. absurd (none relative);
          absolute = λ i e t. cc;
        }
    by_own false e g = (let given : address_for l r ≡ Ok h.term = sym (symbol_term l r info symbol) ∙ g in by_for e given (address_is_for l r h.term given))

-- with the output's own symbol
pub own_refers : (l : Layout) (w : World) (m : Memory) (s : Item) (r : InputRelocation) (info : RelocationKindInfo) (x i : ℕ) → (h : HasTerm l w m s r info x) → (expression_of info.kind).term ≡ term.Symbol → r.symbol ≡ Some i → IsReplaceable l i true → (HasStubAddress l i → ⊥) → OwnRefers (value_by_row info) l w s r h.term
own_refers l w m s r info x i h symbol named whose alone = by_own (weak_resolves_to_place l.machine l r info) refl h.given
  where
    v : Value
    v = value_by_row info

    by_own : (b : Bool) → weak_resolves_to_place l.machine l r info ≡ b → (if b then Ok (undefined_weak_target r.number (place_of s.address r)) else term_by l r (expression_of info.kind).term) ≡ Ok h.term → OwnRefers v l w s r h.term
    by_own true e g =
        let o = own_parts l.machine l r info e in
        let n = named_absent l r.symbol o.absent in
        let a = absent l w m r n.0 h.placed h.listed n.1 n.2 in
        let relative = subst IsPlaceRelative (sym (symbol_value info symbol)) (relative_by (subtrahend_of info.kind info.mask) info.size o.place) in
        let term : undefined_weak_target r.number (place_of s.address r) ≡ h.term = cc in
        let at = own_at w s r h.place ∙ ap (λ (n : ℕ). (w.base + n) % 2 ^ 64) term in
        record {
          still = false;
          referent = subst (λ (n : ℕ). IsOwnReferent l.machine v l w s r n) at (own_place_referent v l w s r n.0 o.on n.1 (relative, a));
          flag = λ none j e. absurd (none relative);
          absolute = λ j e t. cc;
        }
    by_own false e g =
        let given : address_of l (Some i) ≡ Ok h.term = subst (λ (o : Option ℕ). address_of l o ≡ Ok h.term) named (sym (plain_address l r (replaceable_none l r i h.placed.symbols.named named whose)) ∙ (sym (symbol_term l r info symbol) ∙ g)) in
        let t = linked l w m i h.term h.placed alone given in
        let one : (j : ℕ) → r.symbol ≡ Some j → i ≡ j = λ j e. (let both : Some i ≡ Some j = sym named ∙ e in cc) in
        record {
          still = t.still;
          referent = own_symbol_referent v l w s r i (with_base t.still w.base h.term) named (no_own_place l w m s r info x i h symbol named e) t.value;
          flag = λ none j e. subst (λ (k : ℕ). has_flag (flags_at l k) absolute ≡ t.still) (one j e) t.flag;
          absolute = λ j e still. subst (λ (k : ℕ). IsAbsolute l k) (one j e) (t.absolute still);
        }

-- of an expression that is S + A itself no place is taken
pub address_referent : (l : Layout) (w : World) (m : Memory) (s : Item) (r : InputRelocation) (a : ℕ) → (NamesStrings l r → ⊥) → IsSymbolAddress l w m r.symbol a → IsReferent l.machine SymbolAddress l w m s r a
address_referent l w m s r a none t = referent SymbolAddress l w m s r a (λ u. none u.1) (λ x. t) (λ e. subst (λ (o : Option ℕ). IsSymbolAddress l w m o a) e t) (λ i named on. (λ own. own.0, subst (λ (o : Option ℕ). IsSymbolAddress l w m o a) named t))

pub own_address_referent : (l : Layout) (w : World) (s : Item) (r : InputRelocation) (i a : ℕ) → r.symbol ≡ Some i → HasOwnValue l w i a → IsOwnReferent l.machine SymbolAddress l w s r a
own_address_referent l w s r i a named value = own_symbol_referent SymbolAddress l w s r i a named (λ on own. own.0) value
