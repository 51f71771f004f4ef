-- Which references take the output's own symbol, whatever another module has for it.
use Rattle.wild_references.proofs.Common.{◌≡◌, ℕ, ◌<◌, ◌⊎◌, inl, inr, Bool, true, false, Some, length, refl, sym, ap, ◌∙◌, subst, not, ◌&&◌, ◌==◌, Option, None, eq-eqb, slice_get_within, canonical_is, slice_get_inside, InputRelocation, Layout, Treatment, has_dynamic_entry, has_flag, non_interposable, writable, allocated, canonical, row_of, flags_at, needs_symbolic, treatment, plain_value, sized, value_of, field_width, Formula, Form, NoField, Plain, Full, Bits, Value, SymbolAddress, SymbolPart, Distance, PageDistance, FromTable, ModuleOffset, PointerOffset, Size, RelocationKind, RelocationKindInfo, RelocationSize, ByteSize, BitMasking, PageMask, Term, Subtrahend, NamesSymbol, expression_of, paged, subtrahend_of, expressed, writes, Memory, World, formula_of, form_width, TakesAddress, TakesOffset, Item, HasStubAddress, UsesOwnDefinition, UsesOwnSymbolOnly, IsSet, HasFlag, IsReplaceable, may_be_replaced, known_extent, known_indirect, known_symbolic, flag_is, IsPlaced, IsFollowed}
use Rattle.wild_records.specs.Abi.Section.{shf_write}
use Rattle.wild_slot.specs.declared.treatment.Treatment.TheVariants as treatments
use Rattle.wild_reloc.specs.declared.info.RelocationKind.TheVariants as kinds
use Rattle.wild_reloc.specs.declared.info.PageMask.TheVariants as masks
use Rattle.wild_reloc.specs.declared.expression.Term.TheVariants as term
use Rattle.wild_reloc.specs.declared.expression.Subtrahend.TheVariants as lesser
use Rattle.wild_slot.proofs.TreatmentLemmas.{treated_says}
use Rattle.wild_meaning.specs.Reference.{IsFilledByLoader, BranchesThroughStub}
use Rattle.wild_meaning.proofs.BitLemmas.{write_bit, bit_write}
use Rattle.wild_references.proofs.EntryKinds.{address_by, chosen_own}
use Rattle.wild_references.proofs.KnownRows.{IsSeen, RowFits}
use Rattle.wild_references.proofs.LowForms.{is_low}
use Rattle.wild_references.proofs.Referents.{sized_is}
use Rattle.wild_references.proofs.StubAddresses.{stubbed_or_not}
use Rattle.wild_references.proofs.Symbols.{replaceable_is, replaceable_at, flag_at}
use Rattle.wild_references.proofs.MovingSymbols.{address_kept}
use Rattle.wild_references.proofs.WrittenFields.{IsLeftField}

-- ---- fields that a loader could fill

-- such a field is left to an entry
left_asked : (l : Layout) (s : Item) (row : RelocationKindInfo) (i : ℕ) → allocated s.flags ≡ true → IsSet s.flags shf_write → field_width row ≡ 8 → HasFlag l i non_interposable false → needs_symbolic l s.flags row i ≡ true
left_asked l s row i room write width open_one =
    by_tests (allocated s.flags) (writable s.flags) (field_width row == 8) (has_flag (flags_at l i) non_interposable) room (write_bit s.flags write) (eq-eqb (field_width row) 8 width) (flag_is l i non_interposable false open_one)
  where
    by_tests : (a b wide fixed : Bool) → a ≡ true → b ≡ true → wide ≡ true → fixed ≡ false → (a && b && wide && not fixed) ≡ true
    by_tests true true true false e f g h = refl
    by_tests true true true true e f g h = cc
    by_tests true true false fixed e f g h = cc
    by_tests true false wide fixed e f g h = cc
    by_tests false b wide fixed e f g h = cc

-- what one that is left says
pub record IsOpen (l : Layout) (s : Item) (i : ℕ) : Type 0 where
  pub writable : writable s.flags ≡ true
  pub interposable : has_flag (flags_at l i) non_interposable ≡ false

pub left_open : (l : Layout) (s : Item) (row : RelocationKindInfo) (i : ℕ) → needs_symbolic l s.flags row i ≡ true → IsOpen l s i
left_open l s row i h = by_tests (allocated s.flags) (writable s.flags) (field_width row == 8) (has_flag (flags_at l i) non_interposable) refl refl h
  where
    by_tests : (a b wide fixed : Bool) → writable s.flags ≡ b → has_flag (flags_at l i) non_interposable ≡ fixed → (a && b && wide && not fixed) ≡ true → IsOpen l s i
    by_tests true true true false e f h = record { writable = e; interposable = f }
    by_tests true true true true e f h = cc
    by_tests true true false fixed e f h = cc
    by_tests true false wide fixed e f h = cc
    by_tests false b wide fixed e f h = cc

-- the only known kind that is S + A
address_kind : (k : RelocationKind) → writes (expression_of k).class ≡ true → plain_value k ≡ SymbolAddress → k ≡ kinds.Absolute
address_kind kinds.Absolute v e = refl
address_kind kinds.Relative v e = cc
address_kind kinds.GotBaseRelative v e = cc
address_kind kinds.SymRelGotBase v e = cc
address_kind kinds.DtpOff v e = cc
address_kind kinds.TpOff v e = cc
address_kind kinds.SymbolSize v e = cc
address_kind kinds.PltRelative v e = cc
address_kind kinds.PltRelGotBase v e = cc
address_kind kinds.GotRelative v e = cc
address_kind kinds.GotRelGotBase v e = cc
address_kind kinds.GotTpOff v e = cc
address_kind kinds.TlsGd v e = cc
address_kind kinds.TlsLd v e = cc
address_kind kinds.TlsDesc v e = cc
address_kind other v e = cc

-- as its field has it
sized_back : (z : RelocationSize) (v : Value) → sized z v ≡ SymbolAddress → v ≡ SymbolAddress
sized_back (ByteSize n) v h = h
sized_back (BitMasking bits) SymbolAddress h = refl
sized_back (BitMasking bits) other h = h

-- no page is S + A
never_place : (t : Term) → expressed t lesser.PageOfPlace ≡ SymbolAddress → ⊥
never_place term.Symbol h = cc
never_place term.Stub h = cc
never_place (term.Slot sort) h = cc
never_place term.GotBase h = cc
never_place term.Size h = cc
never_place term.PointerOffset h = cc
never_place term.ModuleOffset h = cc
never_place term.Nothing h = cc

no_page : (t : Term) (mask : PageMask) (less : Subtrahend) → expressed t (paged (Some mask) less) ≡ SymbolAddress → ⊥
no_page t masks.GotBase less h = by_term t h
  where
    by_term : (t : Term) → expressed t lesser.PageOfGot ≡ SymbolAddress → ⊥
    by_term term.Symbol h = cc
    by_term term.Stub h = cc
    by_term (term.Slot sort) h = cc
    by_term term.GotBase h = cc
    by_term term.Size h = cc
    by_term term.PointerOffset h = cc
    by_term term.ModuleOffset h = cc
    by_term term.Nothing h = cc
no_page t masks.SymbolPlusAddendAndPosition less h = never_place t h
no_page t masks.GotEntryAndPosition less h = never_place t h

address_row : (k : RelocationKind) (mask : Option PageMask) (z : RelocationSize) → writes (expression_of k).class ≡ true → value_of k mask z ≡ SymbolAddress → k ≡ kinds.Absolute
address_row k None z v e = address_kind k v (sized_back z (plain_value k) e)
address_row k (Some mask) z v e = absurd (no_page (expression_of k).term mask (expression_of k).subtrahend (sized_back z (expressed (expression_of k).term (subtrahend_of k (Some mask))) e))

-- the bits below a page are in no field of eight bytes
not_wide : (form : Form) → is_low form ≡ true → form_width form ≡ 8 → ⊥
not_wide NoField h w = cc
not_wide (Plain bits reading) h w = cc
not_wide Full h w = cc
not_wide (Bits field high low check unit) h w = cc

-- the definition of a symbol with a flag is one of the layout's symbols
defined_within : (l : Layout) (i : ℕ) {flag : ℕ} {b : Bool} → HasFlag l i flag b → canonical l i < length l.symbols
defined_within l i h = rw (canonical_is l i h.definition h.defined) (slice_get_within l.symbols h.definition h.symbol h.listed)

-- so that a field that is written, or moves, is none
pub not_left : (l : Layout) (s : Item) (r : InputRelocation) (row : RelocationKindInfo) (i : ℕ) (t : Treatment) (fits : RowFits l.machine r.number row) → allocated s.flags ≡ true → treatment l s.flags r ≡ t → (treatments.Unsupported ≡ t → ⊥) → (treatments.Recompile ≡ t → ⊥) → (treatments.Symbolic i ≡ t → ⊥) → row_of l.machine r.number ≡ Some row → r.symbol ≡ Some i → IsFilledByLoader l s i fits.formula → ⊥
not_left l s r row i t fits room is some no_recompile no_entry known named left =
    let kind = kind_by fits left fits.seen in
    let treated = address_by l s r row i t (defined_within l i left.interposable) is some known kind named in
    let kept = address_kept l s r.number row i t treated no_recompile no_entry in
    let asked = left_asked l s row i room left.writable (fits.width ∙ left.wide) left.interposable in
    let e : true ≡ false = sym asked ∙ kept in
    cc
  where
    kind_by : (f : RowFits l.machine r.number row) → IsFilledByLoader l s i f.formula → IsSeen l.machine row.kind f.formula.form → row.kind ≡ kinds.Absolute
    kind_by f left (inl whole) = address_row row.kind row.mask row.size whole (f.value ∙ left.value)
    kind_by f left (inr part) = absurd (not_wide f.formula.form part.low left.wide)

-- ---- what an expression takes

takes_cases : (v : Value) → TakesOffset v ⊎ (((TakesOffset v → ⊥) × TakesAddress v) ⊎ ((TakesOffset v → ⊥) × (TakesAddress v → ⊥)))
takes_cases PointerOffset = inl tt
takes_cases ModuleOffset = inl tt
takes_cases SymbolAddress = inr (inl (λ o. o, tt))
takes_cases SymbolPart = inr (inl (λ o. o, tt))
takes_cases Distance = inr (inl (λ o. o, tt))
takes_cases PageDistance = inr (inl (λ o. o, tt))
takes_cases FromTable = inr (inl (λ o. o, tt))
takes_cases other = inr (inr (λ o. o, λ a. a))

-- one that is not the own symbol's alone is right whichever module has the symbol
pub followed : (l : Layout) (w : World) (m : Memory) (s : Item) (r : InputRelocation) (f : Formula) → IsPlaced l w m → NamesSymbol l r → formula_of l.machine r.number ≡ Some f → ((i : ℕ) → r.symbol ≡ Some i → IsFilledByLoader l s i f → ⊥) → ((i : ℕ) → r.symbol ≡ Some i → IsReplaceable l i true → BranchesThroughStub l s r → ⊥) → (UsesOwnSymbolOnly l s r → ⊥) → IsFollowed l r f.value
followed l w m s r f p listed known kept direct alone = λ i named.
    let z = slice_get_inside l.symbols i (listed i named) in
    by_whose i named (may_be_replaced l.kind (flags_at l i)) (replaceable_at l i z.0 p.symbols.named z.1)
  where
    linked : (i : ℕ) → r.symbol ≡ Some i → IsReplaceable l i true → UsesOwnDefinition l s i f → UsesOwnSymbolOnly l s r
    linked i named whose takes = record { symbol = i; named = named; replaceable = whose; formula = f; known = known; takes = takes; direct = direct i named whose }

    by_address : (i : ℕ) → r.symbol ≡ Some i → IsReplaceable l i true → (TakesOffset f.value → ⊥) → TakesAddress f.value → HasStubAddress l i ⊎ (HasStubAddress l i → ⊥) → IsReplaceable l i false ⊎ (((TakesOffset f.value → ⊥) × (TakesAddress f.value → ⊥)) ⊎ ((TakesOffset f.value → ⊥) × HasStubAddress l i))
    by_address i named whose offset address (inl stubbed) = inr (inr (offset, stubbed))
    by_address i named whose offset address (inr bare) = absurd (alone (linked i named whose (inr (address, kept i named, bare))))

    by_takes : (i : ℕ) → r.symbol ≡ Some i → IsReplaceable l i true → TakesOffset f.value ⊎ (((TakesOffset f.value → ⊥) × TakesAddress f.value) ⊎ ((TakesOffset f.value → ⊥) × (TakesAddress f.value → ⊥))) → IsReplaceable l i false ⊎ (((TakesOffset f.value → ⊥) × (TakesAddress f.value → ⊥)) ⊎ ((TakesOffset f.value → ⊥) × HasStubAddress l i))
    by_takes i named whose (inl offset) = absurd (alone (linked i named whose (inl offset)))
    by_takes i named whose (inr (inl t)) = by_address i named whose t.0 t.1 (stubbed_or_not l i)
    by_takes i named whose (inr (inr t)) = inr (inl t)

    by_whose : (i : ℕ) → r.symbol ≡ Some i → (b : Bool) → IsReplaceable l i b → IsReplaceable l i false ⊎ (((TakesOffset f.value → ⊥) × (TakesAddress f.value → ⊥)) ⊎ ((TakesOffset f.value → ⊥) × HasStubAddress l i))
    by_whose i named false whose = inl whose
    by_whose i named true whose = by_takes i named whose (takes_cases f.value)

-- ---- fields that are left to entries

same_formula : (l : Layout) (r : InputRelocation) (f g : Formula) → formula_of l.machine r.number ≡ Some f → formula_of l.machine r.number ≡ Some g → f ≡ g
same_formula l r f g a b = let e : Some f ≡ Some g = sym a ∙ b in cc

-- what a reference takes that is the own symbol's alone, by the formula that is known
pub taken : (l : Layout) (s : Item) (r : InputRelocation) (f : Formula) → formula_of l.machine r.number ≡ Some f → (a : UsesOwnSymbolOnly l s r) → UsesOwnDefinition l s a.symbol f
taken l s r f known a = subst (λ (g : Formula). UsesOwnDefinition l s a.symbol g) (same_formula l r a.formula f a.known known) a.takes

-- an expression that takes neither is none of these
pub takes_none : (l : Layout) (s : Item) (r : InputRelocation) (f : Formula) → formula_of l.machine r.number ≡ Some f → (TakesOffset f.value → ⊥) → (TakesAddress f.value → ⊥) → UsesOwnSymbolOnly l s r → ⊥
takes_none l s r f known offset address a = by_takes (taken l s r f known a)
  where
    by_takes : UsesOwnDefinition l s a.symbol f → ⊥
    by_takes (inl o) = offset o
    by_takes (inr t) = address t.0

itself_by : (l : Layout) (s : Item) (i : ℕ) (f : Formula) (v : Value) → f.value ≡ v → (TakesOffset v → ⊥) → UsesOwnDefinition l s i f → TakesAddress v × (IsFilledByLoader l s i f → ⊥)
itself_by l s i f v e no_offset (inl offset) = absurd (no_offset (subst TakesOffset e offset))
itself_by l s i f v e no_offset (inr t) = (subst TakesAddress e t.0, t.1)

-- none of these is: the field of an address is one that a loader fills, and a size is no address
pub left_follows : (l : Layout) (w : World) (m : Memory) (s : Item) (i : ℕ) (r : InputRelocation) → IsPlaced l w m → NamesSymbol l r → (f : IsLeftField l s i r) → formula_of l.machine r.number ≡ Some f.fits.formula → UsesOwnSymbolOnly l s r → ⊥
left_follows l w m s index r p listed f known a = by_treatment f.left.treated f.left.left f.left.is
  where
    takes : UsesOwnDefinition l s a.symbol f.fits.formula
    takes = taken l s r f.fits.formula known a

    row : RelocationKindInfo
    row = f.left.field.row

    one_row : (x : RelocationKindInfo) → row_of l.machine r.number ≡ Some x → x ≡ row
    one_row x e = let g : Some x ≡ Some row = sym e ∙ f.left.field.known in cc

    one_symbol : (i : ℕ) → r.symbol ≡ Some i → i ≡ a.symbol
    one_symbol i e = let g : Some i ≡ Some a.symbol = sym e ∙ a.named in cc

    by_symbolic : (i : ℕ) → treatment l s.flags r ≡ treatments.Symbolic i → row.kind ≡ kinds.Absolute → field_width row ≡ 8 → r.symbol ≡ Some i → ⊥
    by_symbolic i is kind width named =
        let value : f.fits.formula.value ≡ SymbolAddress = (f.fits.full kind width).0 in
        let t = itself_by l s a.symbol f.fits.formula SymbolAddress value (λ o. o) takes in
        let left = (treated_says l s.flags r row (treatments.Symbolic i) f.left.field.known is).1 in
        let open_one = left_open l s row i left in
        let z = slice_get_inside l.symbols i (listed i named) in
        let flag = subst (λ (b : Bool). HasFlag l i non_interposable b) open_one.interposable (flag_at l i non_interposable z.0 p.symbols.named z.1) in
        t.1 (record { writable = bit_write s.flags open_one.writable; interposable = subst (λ (k : ℕ). HasFlag l k non_interposable false) (one_symbol i named) flag; value = value; wide = sym f.fits.width ∙ width })

    by_resolver : (i : ℕ) → treatment l s.flags r ≡ treatments.Indirect i → row.kind ≡ kinds.Absolute → field_width row ≡ 8 → r.symbol ≡ Some i → ⊥
    by_resolver i is kind width named =
        let own = chosen_own l w m s row i p (listed i named) width (treated_says l s.flags r row (treatments.Indirect i) f.left.field.known is).1 in
        let none = replaceable_is l i false own.own in
        let some = replaceable_is l a.symbol true a.replaceable in
        let e : false ≡ true = sym none ∙ (ap (λ (k : ℕ). may_be_replaced l.kind (flags_at l k)) (one_symbol i named) ∙ some) in
        cc

    by_treatment : (t : Treatment) → has_dynamic_entry t ≡ true → treatment l s.flags r ≡ t → ⊥
    by_treatment (treatments.Symbolic i) left is =
        let k = known_symbolic l s.flags r i is in
        let e = one_row k.0 k.1 in
        by_symbolic i is (subst (λ (x : RelocationKindInfo). x.kind ≡ kinds.Absolute) e k.2.kind) (subst (λ (x : RelocationKindInfo). field_width x ≡ 8) e k.2.width) k.2.named
    by_treatment (treatments.Indirect i) left is =
        let k = known_indirect l s.flags r i is in
        let e = one_row k.0 k.1 in
        by_resolver i is (subst (λ (x : RelocationKindInfo). x.kind ≡ kinds.Absolute) e k.2.kind) (subst (λ (x : RelocationKindInfo). field_width x ≡ 8) e k.2.width) k.2.named
    by_treatment (treatments.Extent x i) left is =
        let k = known_extent l s.flags r x i is in
        let kind : row.kind ≡ kinds.SymbolSize = subst (λ (y : RelocationKindInfo). y.kind ≡ kinds.SymbolSize) (one_row x k.0) k.1.kind in
        (itself_by l s a.symbol f.fits.formula Size (sym f.fits.value ∙ (ap (λ (x : RelocationKind). value_of x row.mask row.size) kind ∙ sized_is row.size Size refl)) (λ o. o) takes).0
    by_treatment other left is = cc
