-- The references of a kept section that keep their instructions hold in memory.
use Rattle.wild_references.proofs.Common.{◌≡◌, ℕ, ◌+◌, ◌%◌, ◌^◌, ◌≤◌, ◌⊎◌, inl, inr, Bool, true, false, [], Some, refl, sym, ap, ◌∙◌, arith, subst, Ok, if◌then◌else◌, length, slice_get, holds_at, Machine, OutputKind, place_of, InputRelocation, Layout, KeepsAll, kind_treatment, sized, expression_of, subtrahend_of, expressed, writes, RelocationKindInfo, RelocationSize, ByteSize, Eight, SlotSort, Subtrahend, Term, Formula, Value, formula, SymbolAddress, StubDistance, NoValue, NoField, RelocationKind, NamesSymbol, AddendFits, term_of, value_in, adds_symbol, weak_resolves_to_place, undefined_weak_target, term_by, HasField, field_has, ComesTo, own_choice, World, Memory, FieldReads, Item, KnowsOffsets, HasOffsetMode, Gives, GivesLinked, IsPlaceRelative, TakesAddress, TakesOffset, MustHold, HasStubAddress, UsesOwnDefinition, UsesOwnSymbolOnly, IsOmitted, FieldHolds, IsKeptReference, value_by_row, IsDirect, HasTerm, IsFollowed, IsReplaceable, signed_fits, w64}
use Rattle.wild_types.specs.declared.kind.Machine.TheVariants as machine
use Rattle.wild_types.specs.declared.kind.OutputKind.TheVariants as output
use Rattle.wild_slot.specs.declared.treatment.Treatment.TheVariants as treatments
use Rattle.wild_reloc.specs.declared.expression.SlotSort.TheVariants as sorts
use Rattle.wild_reloc.specs.declared.expression.Subtrahend.TheVariants as less
use Rattle.wild_reloc.specs.declared.expression.Term.TheVariants as term
use Rattle.wild_reloc.specs.declared.info.RelocationKind.TheVariants as kinds
use Rattle.wild_layout.proofs.DecideLemmas.{moved_has}
use Rattle.wild_layout.proofs.ThunkFieldLemmas.{IsCarried}
use Rattle.wild_references.specs.Laws.{FieldIsLinked}
use Rattle.wild_references.proofs.OwnSymbolReferences.{not_left, followed, taken, takes_none, left_follows}
use Rattle.wild_references.proofs.Descriptors.{descriptor_kept, call_kept}
use Rattle.wild_references.proofs.Fields.{KindLaws, LinkedLaws, IsItemLoaded, field_within, place_is, place_ends, value_reads, address_reads, left_bytes, left_reads, SeenAs}
use Rattle.wild_references.proofs.KnownRows.{IsSeen, branch_is, descriptor_is}
use Rattle.wild_references.proofs.OmittedReferences.{keeps_all, moved_taken, left_taken, value_direct}
use Rattle.wild_references.proofs.Referents.{is_address, sized_is}
use Rattle.wild_references.proofs.ThunkKinds.{stub_row, not_far, from_place}
use Rattle.wild_references.proofs.ValueKinds.{plain_given}
use Rattle.wild_references.proofs.RowFields.{row_holds}
use Rattle.wild_references.proofs.BranchFields.{branch_reads, branch_holds}
use Rattle.wild_references.proofs.ConditionFields.{own_goes, branch_links}
use Rattle.wild_references.proofs.MovingSymbols.{treated_by, suits_by, symbol_named}
use Rattle.wild_references.proofs.WrittenFields.{IsValue, IsAddress, IsLeftField, IsCall, Writes, row_here, relocation_written}

-- only code of x86-64 has offsets for descriptors
mode_machine : (l : Layout) → KnowsOffsets l.machine l.kind l → l.machine ≡ machine.X86_64
mode_machine l h = by_machine l.machine refl h
  where
    by_kind : (k : OutputKind) → KnowsOffsets machine.AArch64 k l → ⊥
    by_kind (output.StaticExecutable any) h = h
    by_kind (output.DynamicExecutable any) h = h
    by_kind output.SharedObject h = h
    by_kind output.PartialObject h = h

    by_machine : (k : Machine) → l.machine ≡ k → KnowsOffsets k l.kind l → l.machine ≡ machine.X86_64
    by_machine machine.X86_64 e h = e
    by_machine machine.AArch64 e h = absurd (by_kind l.kind h)

-- ---- values

gives_by : (l : Layout) (w : World) (m : Memory) (s : Item) (r : InputRelocation) (info : RelocationKindInfo) (x : ℕ) → KindLaws → writes (expression_of info.kind).class ≡ true → HasTerm l w m s r info x → IsFollowed l r (value_by_row info) → (info.kind ≡ kinds.TlsDesc → HasOffsetMode l s → ⊥) → Gives (value_by_row info) l w m s r x
gives_by l w m s r info x laws v h f none = by_term (expression_of info.kind).term refl
  where
    descriptor : (j : RelocationKind) → (expression_of j).term ≡ term.Slot sorts.TlsDesc → writes (expression_of j).class ≡ true → j ≡ kinds.TlsDesc
    descriptor kinds.TlsDesc e v = refl
    descriptor other e v = cc

    no_term : (j : RelocationKind) → (expression_of j).term ≡ term.Nothing → writes (expression_of j).class ≡ true → true ≡ false
    no_term kinds.None e v = (let both : false ≡ true = v in sym both)
    no_term kinds.TlsDescCall e v = (let both : false ≡ true = v in sym both)
    no_term other e v = cc

    by_term : (t : Term) → (expression_of info.kind).term ≡ t → Gives (value_by_row info) l w m s r x
    by_term term.Symbol e = laws.symbol info e v l w m s r x h f
    by_term term.Stub e = laws.stub info e v l w m s r x h f
    by_term (term.Slot sort) e = laws.slot sort info e v l w m s r x h (λ d. none (descriptor info.kind (e ∙ ap (λ (y : SlotSort). term.Slot y) d) v))
    by_term term.GotBase e = laws.table info e v l w m s r x h f
    by_term term.Size e = laws.size info e v l w m s r x h f
    by_term term.PointerOffset e = laws.pointer info e v l w m s r x h f
    by_term term.ModuleOffset e = laws.own info e v l w m s r x h f
    by_term term.Nothing e = absurd (let both : true ≡ false = no_term info.kind e v in cc)

-- what the writer computes for it, where an excepted one is asked
term_is : (l : Layout) (w : World) (m : Memory) (s : Item) (i : ℕ) (r : InputRelocation) (x : ℕ) → IsItemLoaded l w m s → (IsOmitted l s r → ⊥) → MustHold l w s r → (v : IsValue l s i r) → value_in l v.field.row v.field.term r.addend (place_of s.address r) ≡ x → HasTerm l w m s r v.field.row x
term_is l w m s i r x h present asked v is =
    let field = field_has l s r v.size v.value v.field in
    record {
      placed = h.placed;
      present = value_direct l w m s i r h v present;
      room = h.room;
      listed = holds_at (NamesSymbol l) s.relocations i r v.plain.has.listed h.symbols;
      row = v.field.row;
      number = r.number;
      treated = treated_by l s r v.field.row (treatments.Value v.field.row) v.field.known v.field.treated (λ e. cc);
      row_that_accepts = suits_by l s r v.field.row (treatments.Value v.field.row) v.field.known v.field.treated (λ e. cc);
      expressed = v.fits.expressed;
      term = v.field.term;
      given = v.field.given;
      value = is;
      place = place_is l w m s i r v.size h v.plain.has.listed field;
      ends = place_ends l w m s i r v.size h v.plain.has.listed field;
      addend = λ some. signed_fits w64 r.addend (holds_at AddendFits s.relocations i r v.plain.has.listed h.addends);
      asked = λ relative movable k named absolute. asked (record {
        movable = movable;
        symbol = k;
        named = named;
        absolute = absolute;
        relative = inl (record { formula = v.fits.formula; known = v.fits.known; relative = subst IsPlaceRelative v.fits.value relative });
      });
    }

-- the place of a field lies in the item
within : (l : Layout) (w : World) (m : Memory) (s : Item) (i : ℕ) (r : InputRelocation) (z : RelocationSize) → IsItemLoaded l w m s → slice_get s.relocations i ≡ Some r → HasField l r z → r.offset ≤ length s.bytes
within l w m s i r z h listed f = (let e = field_within l w m s i r z h listed f in omega (arith, e))

value_followed : (l : Layout) (w : World) (m : Memory) (s : Item) (i : ℕ) (r : InputRelocation) → IsItemLoaded l w m s → (v : IsValue l s i r) → (UsesOwnSymbolOnly l s r → ⊥) → IsFollowed l r (value_by_row v.field.row)
value_followed l w m s i r h v alone =
    subst (λ (q : Value). IsFollowed l r q) (sym v.fits.value)
    (followed l w m s r v.fits.formula h.placed (holds_at (NamesSymbol l) s.relocations i r v.plain.has.listed h.symbols) v.fits.known (λ k named left. not_left l s r v.field.row k (treatments.Value v.field.row) v.fits h.room v.field.treated (λ e. cc) (λ e. cc) (λ e. cc) v.field.known named left) (λ k named whose. own_goes l s i r _ k v.plain.own v.plain.has.listed (within l w m s i r v.size h v.plain.has.listed (field_has l s r v.size v.value v.field)) h.placed.symbols (holds_at (NamesSymbol l) s.relocations i r v.plain.has.listed h.symbols k named) named whose) alone)

-- a descriptor's reference that is kept is no offset
no_offset : (l : Layout) (w : World) (m : Memory) (s : Item) (i : ℕ) (r : InputRelocation) → IsItemLoaded l w m s → (v : IsValue l s i r) → v.field.row.kind ≡ kinds.TlsDesc → HasOffsetMode l s → ⊥
no_offset l w m s i r h v kind mode =
    let f = v.field in
    let x86 = mode_machine l mode.0 in
    let named = symbol_named r.symbol (λ k. treatments.Value f.row) f.row (subst (λ (k : RelocationKind). kind_treatment l s.flags r.number r.symbol f.row k ≡ treatments.Value f.row) kind (treated_by l s r f.row (treatments.Value f.row) f.known f.treated (λ e. cc))) in
    let number = descriptor_is r.number f.row (row_here l r.number f.row x86 f.known) kind in
    let inside = field_within l w m s i r v.size h v.plain.has.listed (field_has l s r v.size v.value f) in
    let plain = plain_given l r f.row (place_of s.address r) f.term f.given (ap (λ (k : RelocationKind). adds_symbol (expression_of k).term) kind) in
    descriptor_kept l s r (slice_get s.relocations (i + 1)) named.0 f.term (own_choice l s i r _ v.plain.own x86) x86 h.placed.symbols named.1 number (subst (λ (k : RelocationKind). term_of l r.symbol k ≡ Ok f.term) kind plain) (omega (arith, inside)) mode

-- what memory has of a value: the value itself, or a number with its bits below a page
record IsSeenValue (l : Layout) (w : World) (m : Memory) (s : Item) (i : ℕ) (r : InputRelocation) (v : IsValue l s i r) : Type 0 where
  value : ℕ
  gives : Gives v.fits.formula.value l w m s r value
  seen : SeenAs v.fits.formula.form v.value value

-- the value itself
gives_own : (l : Layout) (w : World) (m : Memory) (s : Item) (i : ℕ) (r : InputRelocation) → IsItemLoaded l w m s → (v : IsValue l s i r) → IsFollowed l r (value_by_row v.field.row) → HasTerm l w m s r v.field.row v.value → IsSeenValue l w m s i r v
gives_own l w m s i r h v follow there = by_seen v.fits.seen
  where
    by_seen : IsSeen l.machine v.field.row.kind v.fits.formula.form → IsSeenValue l w m s i r v
    by_seen (inl whole) = record { value = v.value; gives = subst (λ (q : Value). Gives q l w m s r v.value) v.fits.value (gives_by l w m s r v.field.row v.value h.kinds whole there follow (no_offset l w m s i r h v)); seen = inl refl }
    by_seen (inr p) =
        let g = h.kinds.part v.field.row p.part l w m s r v.value p.on there follow in
        record { value = g.0; gives = subst (λ (q : Value). Gives q l w m s r g.0) v.fits.value g.1; seen = inr (p.low, g.2) }

-- or the distance of a thunk
carried_value : (l : Layout) (s : Item) (i : ℕ) (r : InputRelocation) → (v : IsValue l s i r) → v.field.row.thunkable ≡ true → v.fits.formula.value ≡ StubDistance
carried_value l s i r v t =
    let b = branch_is l.machine r.number v.field.row v.field.known t in
    sym v.fits.value ∙ (stub_row v.field.row b.carries.whole b.kind).value

-- which is written: a branch that goes by no stub is to a symbol that is not there, and near
carried_all : (l : Layout) (w : World) (m : Memory) (s : Item) (i : ℕ) (r : InputRelocation) (x : ℕ) → (v : IsValue l s i r) → v.field.row.thunkable ≡ true → (there : HasTerm l w m s r v.field.row x) → IsCarried l s r v.field.row x v.value → KeepsAll l
carried_all l w m s i r x v t there c = elim there.present [ inl all ↦ all | inr direct ↦ absurd (by_place direct) ]
  where
    by_own : weak_resolves_to_place l.machine l r v.field.row ≡ true → (b : Bool) → weak_resolves_to_place l.machine l r v.field.row ≡ b → (if b then Ok (undefined_weak_target r.number (place_of s.address r)) else term_by l r (expression_of v.field.row.kind).term) ≡ Ok there.term → undefined_weak_target r.number (place_of s.address r) ≡ there.term
    by_own own true e g = cc
    by_own own false e g = (let both : true ≡ false = sym own ∙ e in cc)

    by_place : IsDirect l r v.field.row (expression_of v.field.row.kind).term → ⊥
    by_place direct =
        let b = branch_is l.machine r.number v.field.row v.field.known t in
        let stub : (expression_of v.field.row.kind).term ≡ term.Stub = ap (λ (k : RelocationKind). (expression_of k).term) b.kind in
        let own : weak_resolves_to_place l.machine l r v.field.row ≡ true = subst (λ (y : Term). IsDirect l r v.field.row y) stub direct in
        not_far l w m s r v.field.row x there b.carries (from_place v.field.row b.carries) c.alone (by_own own (weak_resolves_to_place l.machine l r v.field.row) refl there.given) c.far

other_kind : {P : Type 0} (k : RelocationKind) → k ≡ kinds.Relative → k ≡ kinds.PltRelative → P
other_kind k a b = (let both : kinds.Relative ≡ kinds.PltRelative = sym a ∙ b in cc)

gives_carried : (l : Layout) (w : World) (m : Memory) (s : Item) (i : ℕ) (r : InputRelocation) (x : ℕ) → IsItemLoaded l w m s → (v : IsValue l s i r) → IsFollowed l r (value_by_row v.field.row) → HasTerm l w m s r v.field.row x → IsCarried l s r v.field.row x v.value → IsSeenValue l w m s i r v
gives_carried l w m s i r x h v follow there c =
    let b = branch_is l.machine r.number v.field.row v.field.known c.thunkable in
    let all = carried_all l w m s i r x v c.thunkable there c in
    let g = subst (λ (n : ℕ). Gives StubDistance l w m s r n) c.distance (h.kinds.thunk v.field.row b.carries l w m s r x c.thunk b.on all there (h.thunks all) (λ k. other_kind v.field.row.kind k b.kind) follow c.far c.found c.alone) in
    record { value = v.value; gives = subst (λ (q : Value). Gives q l w m s r v.value) (sym (carried_value l s i r v c.thunkable)) g; seen = inl refl }

gives_value : (l : Layout) (w : World) (m : Memory) (s : Item) (i : ℕ) (r : InputRelocation) → IsItemLoaded l w m s → (IsOmitted l s r → ⊥) → MustHold l w s r → (v : IsValue l s i r) → (UsesOwnSymbolOnly l s r → ⊥) → IsSeenValue l w m s i r v
gives_value l w m s i r h present asked v alone = by_what v.field.comes
  where
    x : ℕ
    x = value_in l v.field.row v.field.term r.addend (place_of s.address r)

    follow : IsFollowed l r (value_by_row v.field.row)
    follow = value_followed l w m s i r h v alone

    by_what : ComesTo l s r v.field.row x v.value → IsSeenValue l w m s i r v
    by_what (inl same) = gives_own l w m s i r h v follow (term_is l w m s i r v.value h present asked v same)
    by_what (inr c) = gives_carried l w m s i r x h v follow (term_is l w m s i r x h present asked v refl) c

gives_address : (l : Layout) (w : World) (m : Memory) (s : Item) (i : ℕ) (r : InputRelocation) → IsItemLoaded l w m s → KeepsAll l → (a : IsAddress l s i r) → (UsesOwnSymbolOnly l s r → ⊥) → Gives a.fits.formula.value l w m s r ((a.value + w.base) % 2 ^ 64)
gives_address l w m s i r h all a alone =
    let listed = holds_at (NamesSymbol l) s.relocations i r a.plain.has.listed h.symbols in
    let value : SymbolAddress ≡ a.fits.formula.value = sym (a.fits.full a.moved.by.kind a.moved.by.width).0 in
    let f = followed l w m s r a.fits.formula h.placed listed a.fits.known (λ k named left. not_left l s r a.moved.row k treatments.BaseRelative a.fits h.room a.moved.treated (λ e. cc) (λ e. cc) (λ e. cc) a.moved.known named left) (λ k named whose. own_goes l s i r _ k a.plain.own a.plain.has.listed (within l w m s i r (ByteSize Eight) h a.plain.has.listed (moved_has l s r a.value a.packed a.moved)) h.placed.symbols (listed k named) named whose) alone in
    subst (λ (q : Value). Gives q l w m s r ((a.value + w.base) % 2 ^ 64)) value (h.kinds.address l w m s r a.value a.packed all h.placed listed (holds_at AddendFits s.relocations i r a.plain.has.listed h.addends) a.plain.own.made (subst (λ (q : Value). IsFollowed l r q) (sym value) f))

-- ---- the reference

value_holds : (l : Layout) (w : World) (m : Memory) (s : Item) (i : ℕ) (r : InputRelocation) → IsItemLoaded l w m s → (IsOmitted l s r → ⊥) → MustHold l w s r → (UsesOwnSymbolOnly l s r → ⊥) → IsValue l s i r → FieldHolds l w m s r
value_holds l w m s i r h present asked alone v =
    let x = gives_value l w m s i r h present asked v alone in
    record { formula = v.fits.formula; known = v.fits.known; value = x.value; gives = x.gives; field = value_reads l w m s i r x.value h v x.seen }

-- a field that a loader fills is written, or its reference is left out
address_written : (l : Layout) (w : World) (m : Memory) (s : Item) (i : ℕ) (r : InputRelocation) → IsItemLoaded l w m s → (IsOmitted l s r → ⊥) → IsAddress l s i r → KeepsAll l
address_written l w m s i r h present a = keeps_all l (λ bare. present (bare, inl (moved_taken l w m s i r h a)))

left_written : (l : Layout) (w : World) (m : Memory) (s : Item) (i : ℕ) (r : InputRelocation) → IsItemLoaded l w m s → (IsOmitted l s r → ⊥) → IsLeftField l s i r → KeepsAll l
left_written l w m s i r h present f = keeps_all l (λ bare. present (bare, inl (left_taken l w m s i r h f)))

address_holds : (l : Layout) (w : World) (m : Memory) (s : Item) (i : ℕ) (r : InputRelocation) → IsItemLoaded l w m s → KeepsAll l → (UsesOwnSymbolOnly l s r → ⊥) → IsAddress l s i r → FieldHolds l w m s r
address_holds l w m s i r h all alone a = record {
  formula = a.fits.formula;
  known = a.fits.known;
  value = (a.value + w.base) % 2 ^ 64;
  gives = gives_address l w m s i r h all a alone;
  field = address_reads l w m s i r h all a;
}

left_holds : (l : Layout) (w : World) (m : Memory) (s : Item) (i : ℕ) (r : InputRelocation) → IsItemLoaded l w m s → KeepsAll l → IsLeftField l s i r → FieldHolds l w m s r
left_holds l w m s i r h all f =
    let listed = holds_at (NamesSymbol l) s.relocations i r f.plain.has.listed h.symbols in
    let fits = holds_at AddendFits s.relocations i r f.plain.has.listed h.addends in
    let b = left_bytes l w m s i r h all f in
    let g = h.kinds.entry l w m s r f.size f.number f.symbol f.addend b.0 all h.placed listed fits f.plain.own.made b.2 in
    let known = f.fits.known in
    let same : g.0 ≡ f.fits.formula = (let e : Some g.0 ≡ Some f.fits.formula = sym g.1 ∙ known in cc) in
    record {
      formula = g.0;
      known = g.1;
      value = g.2;
      gives = g.3;
      field = left_reads l w m s i r g.2 h all f g.0.form (ap (λ (x : Formula). x.form) same) g.4 g.5;
    }

-- a field without bytes
no_bytes : (w : World) (m : Memory) (s : Item) (r : InputRelocation) → FieldReads w m s r NoField 0
no_bytes w m s r = record { bytes = []; wide = refl; held = λ k less. absurd (omega (arith, less)); reads = tt; keeps = tt }

-- the call has no field, and stands in no code whose references are offsets
call_holds : (l : Layout) (w : World) (m : Memory) (s : Item) (i : ℕ) (r : InputRelocation) → IsItemLoaded l w m s → IsCall l s i r → FieldHolds l w m s r
call_holds l w m s i r h c = record {
  formula = formula NoValue NoField;
  known = c.known;
  value = 0;
  gives = λ mode. (let x86 = mode_machine l mode.0 in call_kept l s r (slice_get s.relocations (i + 1)) c.symbol (own_choice l s i r _ c.plain.own x86) x86 c.named (c.number x86) mode);
  field = no_bytes w m s r;
}

written_holds : (l : Layout) (w : World) (m : Memory) (s : Item) (i : ℕ) (r : InputRelocation) → IsItemLoaded l w m s → (IsOmitted l s r → ⊥) → MustHold l w s r → (UsesOwnSymbolOnly l s r → ⊥) → Writes l s i r → FieldHolds l w m s r
written_holds l w m s i r h present asked alone (inl v) = value_holds l w m s i r h present asked alone v
written_holds l w m s i r h present asked alone (inr (inl a)) = address_holds l w m s i r h (address_written l w m s i r h present a) alone a
written_holds l w m s i r h present asked alone (inr (inr (inl f))) = left_holds l w m s i r h (left_written l w m s i r h present f) f
written_holds l w m s i r h present asked alone (inr (inr (inr (inl c)))) = call_holds l w m s i r h c
written_holds l w m s i r h present asked alone (inr (inr (inr (inr (inl f))))) = (row_holds l w m s i r h asked f).holds
written_holds l w m s i r h present asked alone (inr (inr (inr (inr (inr f))))) = branch_holds l w m s r h.kinds h.thunks (branch_reads l w m s i r h present asked f)

pub field_holds : (l : Layout) (w : World) (m : Memory) (s : Item) (i : ℕ) (r : InputRelocation) → IsItemLoaded l w m s → IsKeptReference l s i r → (IsOmitted l s r → ⊥) → MustHold l w s r → (UsesOwnSymbolOnly l s r → ⊥) → FieldHolds l w m s r
field_holds l w m s i r h k present asked alone = written_holds l w m s i r h present asked alone (relocation_written l s i r k.decision h.tables.agree k.has k.keeps k.refers)

-- ---- with the output's own symbol

abbrev takes_symbol : Term → Bool
takes_symbol term.Symbol = true
takes_symbol term.PointerOffset = true
takes_symbol term.ModuleOffset = true
takes_symbol other = false

none_taken : (t : Term) (u : Subtrahend) → takes_symbol t ≡ false → TakesOffset (expressed t u) ⊎ TakesAddress (expressed t u) → ⊥
none_taken term.Symbol u none h = (let both : true ≡ false = none in cc)
none_taken term.PointerOffset u none h = (let both : true ≡ false = none in cc)
none_taken term.ModuleOffset u none h = (let both : true ≡ false = none in cc)
none_taken term.Stub less.Nothing none h = elim h [ inl o ↦ o | inr a ↦ a ]
none_taken term.Stub less.Place none h = elim h [ inl o ↦ o | inr a ↦ a ]
none_taken term.Stub less.GotBase none h = elim h [ inl o ↦ o | inr a ↦ a ]
none_taken term.Stub less.PageOfPlace none h = elim h [ inl o ↦ o | inr a ↦ a ]
none_taken term.Stub less.PageOfGot none h = elim h [ inl o ↦ o | inr a ↦ a ]
none_taken (term.Slot sort) less.Nothing none h = elim h [ inl o ↦ o | inr a ↦ a ]
none_taken (term.Slot sort) less.Place none h = elim h [ inl o ↦ o | inr a ↦ a ]
none_taken (term.Slot sort) less.GotBase none h = elim h [ inl o ↦ o | inr a ↦ a ]
none_taken (term.Slot sort) less.PageOfPlace none h = elim h [ inl o ↦ o | inr a ↦ a ]
none_taken (term.Slot sort) less.PageOfGot none h = elim h [ inl o ↦ o | inr a ↦ a ]
none_taken term.GotBase u none h = elim h [ inl o ↦ o | inr a ↦ a ]
none_taken term.Size u none h = elim h [ inl o ↦ o | inr a ↦ a ]
none_taken term.Nothing u none h = elim h [ inl o ↦ o | inr a ↦ a ]

-- which is no address
no_address : (t : Term) (u : Subtrahend) → takes_symbol t ≡ false → is_address (expressed t u) ≡ false
no_address term.Symbol u none = cc
no_address term.PointerOffset u none = refl
no_address term.ModuleOffset u none = refl
no_address term.Stub less.Nothing none = refl
no_address term.Stub less.Place none = refl
no_address term.Stub less.GotBase none = refl
no_address term.Stub less.PageOfPlace none = refl
no_address term.Stub less.PageOfGot none = refl
no_address (term.Slot sort) less.Nothing none = refl
no_address (term.Slot sort) less.Place none = refl
no_address (term.Slot sort) less.GotBase none = refl
no_address (term.Slot sort) less.PageOfPlace none = refl
no_address (term.Slot sort) less.PageOfGot none = refl
no_address term.GotBase u none = refl
no_address term.Size u none = refl
no_address term.Nothing u none = refl

links_by : (l : Layout) (w : World) (m : Memory) (s : Item) (r : InputRelocation) (info : RelocationKindInfo) (x i : ℕ) → LinkedLaws → writes (expression_of info.kind).class ≡ true → HasTerm l w m s r info x → r.symbol ≡ Some i → IsReplaceable l i true → (HasStubAddress l i → ⊥) ⊎ TakesOffset (value_by_row info) → TakesOffset (value_by_row info) ⊎ TakesAddress (value_by_row info) → GivesLinked (value_by_row info) l w s r x
links_by l w m s r info x i laws v h named whose alone t = by_term (expression_of info.kind).term refl
  where
    -- the value of another term takes neither
    none_of : (u : Term) → takes_symbol u ≡ false → (expression_of info.kind).term ≡ u → ⊥
    none_of u none e =
        let less = subtrahend_of info.kind info.mask in
        let is : value_by_row info ≡ expressed u less = ap (λ (y : Term). sized info.size (expressed y less)) e ∙ sized_is info.size (expressed u less) (no_address u less none) in
        none_taken u less none (subst (λ (q : Value). TakesOffset q ⊎ TakesAddress q) is t)

    by_term : (u : Term) → (expression_of info.kind).term ≡ u → GivesLinked (value_by_row info) l w s r x
    by_term term.Symbol e = laws.symbol info e v l w m s r x i h named whose alone
    by_term term.PointerOffset e = laws.pointer info e v l w m s r x i h named whose alone
    by_term term.ModuleOffset e = laws.own info e v l w m s r x i h named whose alone
    by_term term.Stub e = absurd (none_of term.Stub refl e)
    by_term (term.Slot sort) e = absurd (none_of (term.Slot sort) refl e)
    by_term term.GotBase e = absurd (none_of term.GotBase refl e)
    by_term term.Size e = absurd (none_of term.Size refl e)
    by_term term.Nothing e = absurd (none_of term.Nothing refl e)

-- the value that the field of an own symbol's reference shows
record IsSeenLinked (l : Layout) (w : World) (s : Item) (i : ℕ) (r : InputRelocation) (v : IsValue l s i r) : Type 0 where
  value : ℕ
  gives : GivesLinked v.fits.formula.value l w s r value
  seen : SeenAs v.fits.formula.form v.value value

-- what it takes
alone_by : (l : Layout) (s : Item) (i : ℕ) (f : Formula) (v : Value) → v ≡ f.value → UsesOwnDefinition l s i f → (HasStubAddress l i → ⊥) ⊎ TakesOffset v
alone_by l s i f v e (inl offset) = inr (subst TakesOffset (sym e) offset)
alone_by l s i f v e (inr t) = inl t.2

takes_by : (l : Layout) (s : Item) (i : ℕ) (f : Formula) (v : Value) → v ≡ f.value → UsesOwnDefinition l s i f → TakesOffset v ⊎ TakesAddress v
takes_by l s i f v e (inl offset) = inl (subst TakesOffset (sym e) offset)
takes_by l s i f v e (inr t) = inr (subst TakesAddress (sym e) t.0)

value_links : (l : Layout) (w : World) (m : Memory) (s : Item) (i : ℕ) (r : InputRelocation) → IsItemLoaded l w m s → (IsOmitted l s r → ⊥) → MustHold l w s r → (a : UsesOwnSymbolOnly l s r) → IsValue l s i r → FieldIsLinked l w m s r
value_links l w m s i r h present asked a v = by_what v.field.comes
  where
    t : UsesOwnDefinition l s a.symbol v.fits.formula
    t = taken l s r v.fits.formula v.fits.known a

    alone : (HasStubAddress l a.symbol → ⊥) ⊎ TakesOffset (value_by_row v.field.row)
    alone = alone_by l s a.symbol v.fits.formula (value_by_row v.field.row) v.fits.value t

    takes : TakesOffset (value_by_row v.field.row) ⊎ TakesAddress (value_by_row v.field.row)
    takes = takes_by l s a.symbol v.fits.formula (value_by_row v.field.row) v.fits.value t

    by_seen : HasTerm l w m s r v.field.row v.value → IsSeen l.machine v.field.row.kind v.fits.formula.form → IsSeenLinked l w s i r v
    by_seen there (inl whole) = record { value = v.value; gives = subst (λ (q : Value). GivesLinked q l w s r v.value) v.fits.value (links_by l w m s r v.field.row v.value a.symbol h.linked whole there a.named a.replaceable alone takes); seen = inl refl }
    by_seen there (inr p) =
        let g = h.linked.part v.field.row p.part l w m s r v.value a.symbol p.on there a.named a.replaceable alone takes in
        record { value = g.0; gives = subst (λ (q : Value). GivesLinked q l w s r g.0) v.fits.value g.1; seen = inr (p.low, g.2) }

    by_what : ComesTo l s r v.field.row (value_in l v.field.row v.field.term r.addend (place_of s.address r)) v.value → FieldIsLinked l w m s r
    by_what (inl same) =
        let x = by_seen (term_is l w m s i r v.value h present asked v same) v.fits.seen in
        record { formula = v.fits.formula; known = v.fits.known; value = x.value; gives = x.gives; field = value_reads l w m s i r x.value h v x.seen }
    by_what (inr c) =
        let is = carried_value l s i r v c.thunkable in
        absurd (takes_none l s r v.fits.formula v.fits.known (λ o. (let none : TakesOffset StubDistance = subst TakesOffset is o in none)) (λ a. (let none : TakesAddress StubDistance = subst TakesAddress is a in none)) a)

-- an address has no offset, so that it takes the symbol's own
bare_by : (l : Layout) (s : Item) (i : ℕ) (f : Formula) → SymbolAddress ≡ f.value → UsesOwnDefinition l s i f → HasStubAddress l i → ⊥
bare_by l s i f e (inl offset) = absurd (subst TakesOffset (sym e) offset)
bare_by l s i f e (inr t) = t.2

address_links : (l : Layout) (w : World) (m : Memory) (s : Item) (i : ℕ) (r : InputRelocation) → IsItemLoaded l w m s → KeepsAll l → (a : UsesOwnSymbolOnly l s r) → IsAddress l s i r → FieldIsLinked l w m s r
address_links l w m s i r h all a v =
    let known = v.fits.known in
    let value : SymbolAddress ≡ v.fits.formula.value = sym (v.fits.full v.moved.by.kind v.moved.by.width).0 in
    let bare = bare_by l s a.symbol v.fits.formula value (taken l s r v.fits.formula known a) in
    let listed = holds_at (NamesSymbol l) s.relocations i r v.plain.has.listed h.symbols in
    let x = (v.value + w.base) % 2 ^ 64 in
    record {
      formula = v.fits.formula;
      known = known;
      value = x;
      gives = subst (λ (q : Value). GivesLinked q l w s r x) value (h.linked.address l w m s r v.value a.symbol v.packed all h.placed listed v.plain.own.made a.named a.replaceable bare);
      field = address_reads l w m s i r h all v;
    }

written_links : (l : Layout) (w : World) (m : Memory) (s : Item) (i : ℕ) (r : InputRelocation) → IsItemLoaded l w m s → (IsOmitted l s r → ⊥) → MustHold l w s r → (a : UsesOwnSymbolOnly l s r) → Writes l s i r → FieldIsLinked l w m s r
written_links l w m s i r h present asked a (inl v) = value_links l w m s i r h present asked a v
written_links l w m s i r h present asked a (inr (inl v)) = address_links l w m s i r h (address_written l w m s i r h present v) a v
written_links l w m s i r h present asked a (inr (inr (inl f))) = absurd (left_follows l w m s i r h.placed (holds_at (NamesSymbol l) s.relocations i r f.plain.has.listed h.symbols) f f.fits.known a)
written_links l w m s i r h present asked a (inr (inr (inr (inl c)))) = absurd (takes_none l s r (formula NoValue NoField) c.known (λ o. o) (λ o. o) a)
written_links l w m s i r h present asked a (inr (inr (inr (inr (inl f))))) = (let held = row_holds l w m s i r h asked f in absurd (takes_none l s r held.holds.formula held.holds.known held.offset held.address a))
written_links l w m s i r h present asked a (inr (inr (inr (inr (inr f))))) = branch_links l w m s r h.linked (branch_reads l w m s i r h present asked f) asked a

pub field_links : (l : Layout) (w : World) (m : Memory) (s : Item) (i : ℕ) (r : InputRelocation) → IsItemLoaded l w m s → IsKeptReference l s i r → (IsOmitted l s r → ⊥) → MustHold l w s r → UsesOwnSymbolOnly l s r → FieldIsLinked l w m s r
field_links l w m s i r h k present asked a = written_links l w m s i r h present asked a (relocation_written l s i r k.decision h.tables.agree k.has k.keeps k.refers)
