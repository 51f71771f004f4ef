-- What an image for debuggers alone leaves out: fields that a loader fills, and expressions that go by a slot or a stub.
use Rattle.wild_references.proofs.Common.{◌≡◌, ℕ, ◌⊎◌, inl, inr, Bool, true, false, refl, sym, ap, ◌∙◌, arith, subst, Option, Some, None, Ok, ◌&&◌, ◌||◌, not, if◌then◌else◌, and_parts, slice_get_inside, holds_at, OutputKind, InputRelocation, Layout, ValueFlags, KeepsAll, Item, has_flag, absolute, dynamic, ifunc, non_interposable, is_position_independent, is_shared_object, place_of, allocated, writable, row_of, Treatment, flags_at, treatment, kind_treatment, has_dynamic_entry, sized, value_of, expression_of, subtrahend_of, expressed, slot_sort, field_width, Size, StubDistance, StubFromTable, SlotAddress, SlotDistance, SlotPageDistance, SlotSort, Subtrahend, Term, RelocationKind, RelocationKindInfo, RelocationSize, NamesSymbol, stub_of, stub_address, weak_resolves_to_place, undefined_weak_target, term_by, field_has, known_extent, known_indirect, known_symbolic, Memory, World, HasFlag, TakesAddress, IsSlotValue, TakesStub, IsOmitted, flag_is, is_expressed, value_by_row, IsDirect}
use Rattle.wild_types.specs.declared.fault.Missing.TheVariants as missing
use Rattle.wild_types.specs.declared.kind.OutputKind.TheVariants as output
use Rattle.wild_slot.specs.declared.treatment.Treatment.TheVariants as treatments
use Rattle.wild_slot.proofs.TreatmentLemmas.{treated_says}
use Rattle.wild_reloc.specs.Formula.{SlotFromTable, SlotFromTablePage}
use Rattle.wild_reloc.specs.declared.expression.Subtrahend.TheVariants as subtrahend
use Rattle.wild_reloc.specs.declared.expression.Term.TheVariants as term
use Rattle.wild_reloc.specs.declared.info.RelocationKind.TheVariants as kinds
use Rattle.wild_meaning.specs.Section.{IsForDebuggers}
use Rattle.wild_meaning.specs.Reference.{NamesAbsolute, MayBeElsewhere, TakesEntry}
use Rattle.wild_meaning.proofs.BitLemmas.{bit_write}
use Rattle.wild_references.proofs.OwnSymbolReferences.{left_open}
use Rattle.wild_references.proofs.DirectBranches.{own_directly}
use Rattle.wild_references.proofs.EntryKinds.{chosen_own}
use Rattle.wild_references.proofs.Fields.{IsItemLoaded, field_within}
use Rattle.wild_references.proofs.KnownRows.{IsStubType, distance_types, offset_type}
use Rattle.wild_references.proofs.Referents.{no_mask, sized_is}
use Rattle.wild_references.proofs.SlotFlags.{symbol_fits, listed_at, resolver_not_absolute}
use Rattle.wild_references.proofs.SymbolStubs.{stub_there}
use Rattle.wild_references.proofs.Symbols.{flag_at, flags_are}
use Rattle.wild_references.proofs.MovingSymbols.{treated_by, symbol_named}
use Rattle.wild_references.proofs.ValueKinds.{value_is}
use Rattle.wild_references.proofs.WrittenFields.{IsValue, IsAddress, IsLeftField, given_some}

-- ---- the image has all, or is for debuggers alone

pub all_or_bare : (l : Layout) → KeepsAll l ⊎ IsForDebuggers l
all_or_bare l = by l.options.only_keep_debug
  where
    by : (b : Bool) → (b ≡ false) ⊎ (b ≡ true)
    by true = inr refl
    by false = inl refl

-- what is not for debuggers alone has all
pub keeps_all : (l : Layout) → (IsForDebuggers l → ⊥) → KeepsAll l
keeps_all l none = elim (all_or_bare l) [ inl all ↦ all | inr bare ↦ absurd (none bare) ]

-- ---- fields that a loader fills

not_absolute : (pi still : Bool) → (pi && not still) ≡ true → still ≡ true → ⊥
not_absolute true true h e = cc
not_absolute true false h e = cc
not_absolute false still h e = cc

-- an address that moves
pub moved_taken : (l : Layout) (w : World) (m : Memory) (s : Item) (i : ℕ) (r : InputRelocation) → IsItemLoaded l w m s → IsAddress l s i r → TakesEntry l s r
moved_taken l w m s i r h a = record {
  formula = a.fits.formula;
  known = a.fits.known;
  filled = inr (inl (
    h.placed.movable (and_parts (is_position_independent l.kind) (not (has_flag (flags_at l a.moved.by.number) absolute)) a.moved.by.moves).0,
    (a.fits.full a.moved.by.kind a.moved.by.width).0,
    sym a.fits.width ∙ a.moved.by.width,
    still,
  ));
}
  where
    still : NamesAbsolute l r → ⊥
    still n =
        let one : n.symbol ≡ a.moved.by.number = (let e : Some n.symbol ≡ Some a.moved.by.number = sym n.named ∙ a.moved.by.named in cc) in
        not_absolute (is_position_independent l.kind) (has_flag (flags_at l a.moved.by.number) absolute) a.moved.by.moves (flag_is l a.moved.by.number absolute true (subst (λ (k : ℕ). HasFlag l k absolute true) one n.absolute))

-- a size of another module's symbol
sized_elsewhere : (k : OutputKind) (l : Layout) (i : ℕ) (a fixed d : Bool) → HasFlag l i non_interposable fixed → HasFlag l i dynamic d → (a && not fixed && (d || is_shared_object k)) ≡ true → MayBeElsewhere k l i
sized_elsewhere output.SharedObject l i true false d f g h = f
sized_elsewhere output.SharedObject l i true true d f g h = cc
sized_elsewhere output.SharedObject l i false fixed d f g h = cc
sized_elsewhere (output.StaticExecutable any) l i true false true f g h = (f, g)
sized_elsewhere (output.StaticExecutable any) l i true false false f g h = cc
sized_elsewhere (output.StaticExecutable any) l i true true d f g h = cc
sized_elsewhere (output.StaticExecutable any) l i false fixed d f g h = cc
sized_elsewhere (output.DynamicExecutable any) l i true false true f g h = (f, g)
sized_elsewhere (output.DynamicExecutable any) l i true false false f g h = cc
sized_elsewhere (output.DynamicExecutable any) l i true true d f g h = cc
sized_elsewhere (output.DynamicExecutable any) l i false fixed d f g h = cc
sized_elsewhere output.PartialObject l i true false true f g h = (f, g)
sized_elsewhere output.PartialObject l i true false false f g h = cc
sized_elsewhere output.PartialObject l i true true d f g h = cc
sized_elsewhere output.PartialObject l i false fixed d f g h = cc

third_of : (a b c d : Bool) → (a && b && c && d) ≡ true → c ≡ true
third_of true true true d h = refl
third_of true true false d h = cc
third_of true false c d h = cc
third_of false b c d h = cc

-- what is left to an entry
pub left_taken : (l : Layout) (w : World) (m : Memory) (s : Item) (i : ℕ) (r : InputRelocation) → IsItemLoaded l w m s → IsLeftField l s i r → TakesEntry l s r
left_taken l w m s index r h f = by_treatment f.left.treated f.left.left f.left.is
  where
    row : RelocationKindInfo
    row = f.left.field.row

    one_row : (x : RelocationKindInfo) → row_of l.machine r.number ≡ Some x → x ≡ row
    one_row x e = let g : Some x ≡ Some row = sym e ∙ f.left.field.known in cc

    names : NamesSymbol l r
    names = holds_at (NamesSymbol l) s.relocations index r f.plain.has.listed h.symbols

    flag : (i bit : ℕ) → r.symbol ≡ Some i → HasFlag l i bit (has_flag (flags_at l i) bit)
    flag i bit named = (let z = slice_get_inside l.symbols i (names i named) in flag_at l i bit z.0 h.placed.symbols.named z.1)

    by_symbolic : (i : ℕ) → treatment l s.flags r ≡ treatments.Symbolic i → row.kind ≡ kinds.Absolute → field_width row ≡ 8 → r.symbol ≡ Some i → TakesEntry l s r
    by_symbolic i is kind width named =
        let open_one = left_open l s row i (treated_says l s.flags r row (treatments.Symbolic i) f.left.field.known is).1 in
        record {
          formula = f.fits.formula;
          known = f.fits.known;
          filled = inl (
            i,
            named,
            record { writable = bit_write s.flags open_one.writable; interposable = subst (λ (b : Bool). HasFlag l i non_interposable b) open_one.interposable (flag i non_interposable named); value = (f.fits.full kind width).0; wide = sym f.fits.width ∙ width },
          );
        }

    by_resolver : (i : ℕ) → treatment l s.flags r ≡ treatments.Indirect i → row.kind ≡ kinds.Absolute → field_width row ≡ 8 → r.symbol ≡ Some i → TakesEntry l s r
    by_resolver i is kind width named =
        let says = (treated_says l s.flags r row (treatments.Indirect i) f.left.field.known is).1 in
        let chosen = (chosen_own l w m s row i h.placed (names i named) width says).chosen in
        let fits = symbol_fits l i chosen.symbol h.placed.symbols (listed_at l i chosen.definition chosen.symbol chosen.defined chosen.listed) in
        let moves : has_flag (flags_at l i) absolute ≡ false = ap (λ (x : ValueFlags). has_flag x absolute) (flags_are l i chosen.definition chosen.symbol chosen.defined chosen.listed) ∙ resolver_not_absolute chosen.symbol fits.moves chosen.flagged in
        record {
          formula = f.fits.formula;
          known = f.fits.known;
          filled = inr (inl (
            h.placed.movable (third_of (allocated s.flags) (writable s.flags) (is_position_independent l.kind) (has_flag (flags_at l i) ifunc) says.chosen),
            (f.fits.full kind width).0,
            sym f.fits.width ∙ width,
            (λ n. (
                let one : n.symbol ≡ i = (let e : Some n.symbol ≡ Some i = sym n.named ∙ named in cc) in
                let still : has_flag (flags_at l i) absolute ≡ true = flag_is l i absolute true (subst (λ (k : ℕ). HasFlag l k absolute true) one n.absolute) in
                let both : true ≡ false = sym still ∙ moves in
                cc
                )),
          ));
        }

    by_treatment : (t : Treatment) → has_dynamic_entry t ≡ true → treatment l s.flags r ≡ t → TakesEntry l s r
    by_treatment (treatments.Symbolic i) left is =
        let k = known_symbolic l s.flags r i is in
        let e = one_row k.0 k.1 in
        by_symbolic i is (subst (λ (x : RelocationKindInfo). x.kind ≡ kinds.Absolute) e k.2.kind) (subst (λ (x : RelocationKindInfo). field_width x ≡ 8) e k.2.width) k.2.named
    by_treatment (treatments.Indirect i) left is =
        let k = known_indirect l s.flags r i is in
        let e = one_row k.0 k.1 in
        by_resolver i is (subst (λ (x : RelocationKindInfo). x.kind ≡ kinds.Absolute) e k.2.kind) (subst (λ (x : RelocationKindInfo). field_width x ≡ 8) e k.2.width) k.2.named
    by_treatment (treatments.Extent x i) left is =
        let k = known_extent l s.flags r x i is in
        let kind : row.kind ≡ kinds.SymbolSize = subst (λ (y : RelocationKindInfo). y.kind ≡ kinds.SymbolSize) (one_row x k.0) k.1.kind in
        let size : f.fits.formula.value ≡ Size = sym f.fits.value ∙ (ap (λ (y : RelocationKind). value_of y row.mask row.size) kind ∙ sized_is row.size Size refl) in
        record {
          formula = f.fits.formula;
          known = f.fits.known;
          filled = inr (inr (i, k.1.named, size, sized_elsewhere l.kind l i (allocated s.flags) (has_flag (flags_at l i) non_interposable) (has_flag (flags_at l i) dynamic) (flag i non_interposable k.1.named) (flag i dynamic k.1.named) k.1.sized));
        }
    by_treatment other left is = cc

-- ---- expressions that go by a slot or a stub

slot_named : (z : RelocationSize) (sort : SlotSort) (u : Subtrahend) → IsSlotValue (sized z (expressed (term.Slot sort) u))
slot_named z sort subtrahend.Nothing = subst IsSlotValue (sym (sized_is z (SlotAddress (slot_sort sort)) refl)) tt
slot_named z sort subtrahend.Place = subst IsSlotValue (sym (sized_is z (SlotDistance (slot_sort sort)) refl)) tt
slot_named z sort subtrahend.GotBase = subst IsSlotValue (sym (sized_is z SlotFromTable refl)) tt
slot_named z sort subtrahend.PageOfPlace = subst IsSlotValue (sym (sized_is z (SlotPageDistance (slot_sort sort)) refl)) tt
slot_named z sort subtrahend.PageOfGot = subst IsSlotValue (sym (sized_is z SlotFromTablePage refl)) tt

stub_kind : (k : RelocationKind) → (expression_of k).term ≡ term.Stub → (k ≡ kinds.PltRelative) ⊎ (k ≡ kinds.PltRelGotBase)
stub_kind kinds.PltRelative e = inl refl
stub_kind kinds.PltRelGotBase e = inr refl
stub_kind other e = cc

-- the expression of a row with L, and the relocation's type
record IsStubRow (l : Layout) (s : Item) (r : InputRelocation) (row : RelocationKindInfo) : Type 0 where
  takes : TakesStub (value_by_row row)
  type : IsStubType l.machine r.number
  symbol : ℕ
  named : r.symbol ≡ Some symbol

stub_row : (l : Layout) (s : Item) (r : InputRelocation) (row : RelocationKindInfo) → row_of l.machine r.number ≡ Some row → treatment l s.flags r ≡ treatments.Value row → is_expressed l.machine (expression_of row.kind).term (expression_of row.kind).subtrahend row.mask ≡ true → (row.kind ≡ kinds.PltRelative) ⊎ (row.kind ≡ kinds.PltRelGotBase) → IsStubRow l s r row
stub_row l s r row known treated fits (inl kind) =
    let mask = no_mask l.machine term.Stub subtrahend.Place row.mask (subst (λ (k : RelocationKind). is_expressed l.machine (expression_of k).term (expression_of k).subtrahend row.mask ≡ true) kind fits) refl in
    let is : value_by_row row ≡ StubDistance = value_is row kinds.PltRelative None kind mask ∙ sized_is row.size StubDistance refl in
    let by : kind_treatment l s.flags r.number r.symbol row kinds.PltRelative ≡ treatments.Value row = subst (λ (k : RelocationKind). kind_treatment l s.flags r.number r.symbol row k ≡ treatments.Value row) kind (treated_by l s r row (treatments.Value row) known treated (λ e. cc)) in
    let i = symbol_named r.symbol (λ i. treatments.Value row) row by in
    record { takes = subst TakesStub (sym is) tt; type = distance_types l.machine r.number row known kind; symbol = i.0; named = i.1 }
stub_row l s r row known treated fits (inr kind) =
    let mask = no_mask l.machine term.Stub subtrahend.GotBase row.mask (subst (λ (k : RelocationKind). is_expressed l.machine (expression_of k).term (expression_of k).subtrahend row.mask ≡ true) kind fits) refl in
    let is : value_by_row row ≡ StubFromTable = value_is row kinds.PltRelGotBase None kind mask ∙ sized_is row.size StubFromTable refl in
    let by : kind_treatment l s.flags r.number r.symbol row kinds.PltRelGotBase ≡ treatments.Value row = subst (λ (k : RelocationKind). kind_treatment l s.flags r.number r.symbol row k ≡ treatments.Value row) kind (treated_by l s r row (treatments.Value row) known treated (λ e. cc)) in
    let i = symbol_named r.symbol (λ i. treatments.Value row) row by in
    record { takes = subst TakesStub (sym is) tt; type = offset_type l.machine r.number row known kind; symbol = i.0; named = i.1 }

-- a value whose reference is not left out goes by none
pub value_direct : (l : Layout) (w : World) (m : Memory) (s : Item) (i : ℕ) (r : InputRelocation) → IsItemLoaded l w m s → (v : IsValue l s i r) → (IsOmitted l s r → ⊥) → KeepsAll l ⊎ IsDirect l r v.field.row (expression_of v.field.row.kind).term
value_direct l w m s i r h v present = elim (all_or_bare l) [ inl all ↦ inl all | inr bare ↦ inr (by_term bare (expression_of v.field.row.kind).term refl) ]
  where
    row : RelocationKindInfo
    row = v.field.row

    by_stub : IsForDebuggers l → (x : IsStubRow l s r row) → stub_address l (Some x.symbol) ≡ Ok v.field.term → ⊥
    by_stub bare x given =
        let there = stub_there l x.symbol v.field.term (given_some missing.Stub x.symbol (stub_of l x.symbol) v.field.term given) in
        let inside = field_within l w m s i r v.size h v.plain.has.listed (field_has l s r v.size v.value v.field) in
        present (
          bare,
          inr (inr (inl (record {
            symbol = x.symbol;
            named = x.named;
            formula = v.fits.formula;
            known = v.fits.known;
            stub = inr (subst TakesStub v.fits.value x.takes, (λ direct. own_directly l s i r _ x.symbol v.plain.own v.plain.has.listed (omega (arith, inside)) h.placed.symbols.named x.named x.type direct), (v.field.term, there));
          }))),
        )

    by_place : IsForDebuggers l → (expression_of row.kind).term ≡ term.Stub → (b : Bool) → weak_resolves_to_place l.machine l r row ≡ b → (if b then Ok (undefined_weak_target r.number (place_of s.address r)) else term_by l r (expression_of row.kind).term) ≡ Ok v.field.term → weak_resolves_to_place l.machine l r row ≡ true
    by_place bare e true own g = own
    by_place bare e false own g =
        let x = stub_row l s r row v.field.known v.field.treated v.fits.expressed (stub_kind row.kind e) in
        let given : stub_address l r.symbol ≡ Ok v.field.term = subst (λ (t : Term). term_by l r t ≡ Ok v.field.term) e g in
        absurd (by_stub bare x (subst (λ (o : Option ℕ). stub_address l o ≡ Ok v.field.term) x.named given))

    by_term : IsForDebuggers l → (t : Term) → (expression_of row.kind).term ≡ t → IsDirect l r row t
    by_term bare term.Symbol e = λ takes j named stubbed. present (bare, inr (inr (inl (record { symbol = j; named = named; formula = v.fits.formula; known = v.fits.known; stub = inl (inl (subst TakesAddress v.fits.value takes), stubbed) }))))
    by_term bare term.Stub e = by_place bare e (weak_resolves_to_place l.machine l r row) refl v.field.given
    by_term bare (term.Slot sort) e =
        let slot : IsSlotValue (value_by_row row) = subst (λ (t : Term). IsSlotValue (sized row.size (expressed t (subtrahend_of row.kind row.mask)))) (sym e) (slot_named row.size sort (subtrahend_of row.kind row.mask)) in
        present (bare, inr (inl (inl (record { formula = v.fits.formula; known = v.fits.known; slot = subst IsSlotValue v.fits.value slot }))))
    by_term bare term.GotBase e = tt
    by_term bare term.Size e = tt
    by_term bare term.PointerOffset e = tt
    by_term bare term.ModuleOffset e = tt
    by_term bare term.Nothing e = tt
