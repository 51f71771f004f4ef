-- The fields of rows that keep the bytes around them: of an own symbol the distance of its stub is that of itself, and so is the offset from the table.
use Rattle.wild_references.proofs.Common.{◌≡◌, ℕ, ◌+◌, ◌-◌, ◌%◌, ◌^◌, ◌<◌, ◌⊎◌, inl, inr, true, false, refl, sym, ap, ◌∙◌, arith, subst, Option, Some, Ok, List, length, slice_get, cases_Bool, not-true, holds_at, r_x86_64_pc32, r_x86_64_plt32, r_x86_64_pltoff64, Machine, InputRelocation, Layout, interposable, is_position_independent, row_of, flags_at, RowsAreRead, allows, written, field_width, Value, Formula, Reads, formula, StubDistance, StubFromTable, Distance, FromTable, Plain, Full, x86_64_formula, plain, x86_64_row, RelocationKindInfo, RelocationSize, Four, Eight, Row, rewrite_of, question_of, NamesSymbol, field_site, place_of, displacement, symbol_is_ifunc, address_of, term_of, IsChosen, HasField, Memory, World, Holds, formula_of, form_width, IsSymbolAddress, Gives, IsPlaceRelative, TakesAddress, TakesOffset, table_at, IsReferent, Item, place_at, MustHold, with_base, FieldHolds, IsApplied}
use Rattle.wild_reloc.specs.declared.expression.Subtrahend.TheVariants as subtrahend
use Rattle.wild_records.specs.Abi.Relocation.{r_x86_64_gotoff64}
use Rattle.wild_types.specs.declared.kind.Machine.TheVariants as machine
use Rattle.wild_reloc.specs.Formula.{Signed}
use Rattle.wild_reloc.specs.declared.range.Sign.TheVariants as sign
use Rattle.wild_reloc.specs.declared.info.RelocationKind.TheVariants as kinds
use Rattle.wild_reloc.proofs.FormLemmas.{plt32_formula}
use Rattle.wild_relax.specs.declared.table.TheConstants.{PLT, PLT_OFF}
use Rattle.wild_layout.specs.Values.{value_by}
use Rattle.wild_slot.proofs.TreatmentLemmas.{HasValue}
use Rattle.wild_meaning.proofs.SymbolLemmas.{referent_is}
use Rattle.wild_references.proofs.Fields.{IsItemLoaded, ReadsForm, old_field, old_long, place_is, place_ends, below_all, row_reads, formula_known, unique_table}
use Rattle.wild_references.proofs.KnownRows.{row_fits}
use Rattle.wild_references.proofs.Moves.{distance_is, table_is}
use Rattle.wild_references.proofs.OwnSymbols.{IsOwnValue, own_value}
use Rattle.wild_references.proofs.Rows.{chosen_row}
use Rattle.wild_references.proofs.ValueKinds.{more}
use Rattle.wild_layout.proofs.DecisionLemmas.{IsKept}
use Rattle.wild_references.proofs.WrittenFields.{IsRowField, row_here}

-- ---- values

-- at base 0, or of a symbol that moves, the place is right
right : (l : Layout) (w : World) (m : Memory) (s : Item) (r : InputRelocation) (f : Formula) (i a : ℕ) → IsItemLoaded l w m s → MustHold l w s r → formula_of l.machine r.number ≡ Some f → IsPlaceRelative f.value → r.symbol ≡ Some i → (t : IsOwnValue l w i a) → (w.base ≡ 0) ⊎ (t.still ≡ false)
right l w m s r f i a h asked known relative named t =
    elim (cases_Bool t.still) [
      | inr moves ↦ inr moves
      | inl still ↦ elim (cases_Bool (is_position_independent l.kind)) [
        | inr fixed ↦ inl (h.placed.still fixed)
        | inl movable ↦ inl (asked (record { movable = h.placed.movable movable; symbol = i; named = named; absolute = t.absolute still; relative = inl (record { formula = f; known = known; relative = relative }) }))
      ]
    ]

-- the symbol itself is what L is
goal_is : (v : Value) (l : Layout) (w : World) (m : Memory) (s : Item) (r : InputRelocation) (i a : ℕ) → l.machine ≡ machine.X86_64 → r.symbol ≡ Some i → (TakesAddress v → ⊥) → (t : IsOwnValue l w i a) → IsReferent l.machine v l w m s r (with_base t.still w.base a)
goal_is v l w m s r i a x named none t = referent_is v l w m s r (with_base t.still w.base a) x (λ u. none u.0) (subst (λ (o : Option ℕ). IsSymbolAddress l w m o (with_base t.still w.base a)) (sym named) (inl t.value))

flat : (x c q : ℕ) → ((x + c) % 2 ^ 64 + q) % 2 ^ 64 ≡ (x + c + q) % 2 ^ 64
flat x c q = omega arith

gives_distance : (l : Layout) (w : World) (m : Memory) (s : Item) (i : ℕ) (r : InputRelocation) (f : Formula) (symbol a : ℕ) (z : RelocationSize) → (h : IsItemLoaded l w m s) → slice_get s.relocations i ≡ Some r → HasField l r z → MustHold l w s r → formula_of l.machine r.number ≡ Some f → f.value ≡ StubDistance
    → r.symbol ≡ Some symbol → IsOwnValue l w symbol a → l.machine ≡ machine.X86_64 → Gives StubDistance l w m s r (displacement a r.addend (place_of s.address r))
gives_distance l w m s i r f symbol a z h listed field asked known value named t x86 =
    let x = with_base t.still w.base a in
    let e = distance_is t.still w.base a (more r) (place_of s.address r) (right l w m s r f symbol a h asked known (subst IsPlaceRelative (sym value) tt) named t) (place_ends l w m s i r z h listed field) in
    let at = ap (λ (p : ℕ). (x + more r + (2 ^ 64 - p)) % 2 ^ 64) (sym (place_is l w m s i r z h listed field)) in
    (x, goal_is StubDistance l w m s r symbol a x86 named (λ u. u) t, e ∙ flat x (more r) (2 ^ 64 - (w.base + place_of s.address r)) ∙ at)

gives_offset : (l : Layout) (w : World) (m : Memory) (s : Item) (i : ℕ) (r : InputRelocation) (f : Formula) (symbol a : ℕ) → (h : IsItemLoaded l w m s) → MustHold l w s r → formula_of l.machine r.number ≡ Some f → f.value ≡ StubFromTable
    → r.symbol ≡ Some symbol → IsOwnValue l w symbol a → l.machine ≡ machine.X86_64 → Gives StubFromTable l w m s r (displacement a r.addend l.got_base)
gives_offset l w m s i r f symbol a h asked known value named t x86 =
    let x = with_base t.still w.base a in
    let e = table_is t.still w.base a (more r) l.got_base (right l w m s r f symbol a h asked known (subst IsPlaceRelative (sym value) tt) named t) h.placed.got in
    (x, goal_is StubFromTable l w m s r symbol a x86 named (λ u. u) t, e ∙ flat x (more r) (2 ^ 64 - table_at l w))

-- ---- fields

-- a field of the row of type k reads in the form of that type
form_of_row : (k : ℕ) (info : RelocationKindInfo) (f : Formula) (v : ℕ) (old : List ℕ) → RowsAreRead → row_of machine.X86_64 k ≡ Some info → HasValue info.kind → x86_64_formula k ≡ Some f → v < 2 ^ 64 → allows info v ≡ true → length old ≡ field_width info → ReadsForm info f.form v v old
form_of_row k info f v old agree known kind is low allowed long =
    let fits = row_fits agree machine.X86_64 k info known kind in
    let same : fits.formula ≡ f = (let e : Some fits.formula ≡ Some f = sym fits.known ∙ is in cc) in
    record {
      width = fits.width ∙ ap (λ (g : Formula). form_width g.form) same;
      reads = subst (λ (g : Formula). Reads g.form (written info v old) v) same (fits.reads v old low long allowed);
      keeps = unique_table k f is old (written info v old);
    }

info_is : (k : ℕ) (row info : RelocationKindInfo) → row_of machine.X86_64 k ≡ Some row → row_of machine.X86_64 k ≡ Some info → row ≡ info
info_is k row info a b = let e : Some row ≡ Some info = sym a ∙ b in cc

-- the row of a type, where the layout has it
known_here : (l : Layout) (n k : ℕ) (row : RelocationKindInfo) → l.machine ≡ machine.X86_64 → n ≡ k → row_of machine.X86_64 k ≡ Some row → row_of l.machine n ≡ Some row
known_here l n k row x86 e is = ap (λ (n : ℕ). row_of l.machine n) e ∙ (ap (λ (x : Machine). row_of x k) x86 ∙ is)

-- the rows of the types
pc32_row : row_of machine.X86_64 r_x86_64_pc32 ≡ Some (plain kinds.Relative Four sign.Signed)
unfolding row_of x86_64_row
pc32_row = refl

plt32_row : row_of machine.X86_64 r_x86_64_plt32 ≡ Some (plain kinds.PltRelative Four sign.Signed)
unfolding row_of x86_64_row
plt32_row = refl

gotoff64_row : row_of machine.X86_64 r_x86_64_gotoff64 ≡ Some (plain kinds.SymRelGotBase Eight sign.Signed)
unfolding row_of x86_64_row
gotoff64_row = refl

pltoff64_row : row_of machine.X86_64 r_x86_64_pltoff64 ≡ Some (plain kinds.PltRelGotBase Eight sign.Signed)
unfolding row_of x86_64_row
pltoff64_row = refl

-- and their formulas
pc32_formula : x86_64_formula r_x86_64_pc32 ≡ Some (formula Distance (Plain 32 Signed))
unfolding x86_64_formula
pc32_formula = refl

gotoff64_formula : x86_64_formula r_x86_64_gotoff64 ≡ Some (formula FromTable Full)
unfolding x86_64_formula
gotoff64_formula = refl

pltoff64_formula : x86_64_formula r_x86_64_pltoff64 ≡ Some (formula StubFromTable Full)
unfolding x86_64_formula
pltoff64_formula = refl

-- ---- the rows

-- such a field holds, by a formula that takes neither the symbol's own address nor its offset
pub record RowHolds (l : Layout) (w : World) (m : Memory) (s : Item) (r : InputRelocation) : Type 0 where
  pub holds : FieldHolds l w m s r
  pub offset : TakesOffset holds.formula.value → ⊥
  pub address : TakesAddress holds.formula.value → ⊥

-- an own symbol that has an address
record IsOwnTerm (l : Layout) (r : InputRelocation) (term : ℕ) : Type 0 where
  symbol : ℕ
  named : r.symbol ≡ Some symbol
  own : interposable (flags_at l symbol) ≡ false
  direct : symbol_is_ifunc l symbol ≡ false
  given : address_of l (Some symbol) ≡ Ok term

value_of_own : (l : Layout) (w : World) (m : Memory) (s : Item) (i : ℕ) (r : InputRelocation) (term : ℕ) → IsItemLoaded l w m s → slice_get s.relocations i ≡ Some r → (t : IsOwnTerm l r term) → IsOwnValue l w t.symbol term
value_of_own l w m s i r term h listed t =
    let names : NamesSymbol l r = holds_at (NamesSymbol l) s.relocations i r listed h.symbols in
    own_value l w m t.symbol term h.placed (names t.symbol t.named) t.own t.direct t.given

stub_distance_holds : (l : Layout) (w : World) (m : Memory) (s : Item) (i : ℕ) (r : InputRelocation) (term v : ℕ) → (h : IsItemLoaded l w m s) → l.machine ≡ machine.X86_64 → slice_get s.relocations i ≡ Some r → MustHold l w s r → r.number ≡ r_x86_64_plt32 → IsOwnTerm l r term → displacement term r.addend (place_of s.address r) ≡ v → allows (plain kinds.Relative Four sign.Signed) v ≡ true
    → Holds m (place_at w s r.offset) (field_site s r.offset (plain kinds.Relative Four sign.Signed).size v).bytes → RowHolds l w m s r
stub_distance_holds l w m s i r term v h x86 listed asked number own value allowed held =
    let info = plain kinds.Relative Four sign.Signed in
    let known = formula_known l r.number (formula StubDistance (Plain 32 Signed)) x86 (ap x86_64_formula number ∙ plt32_formula) in
    let field : HasField l r info.size = record { row = plain kinds.PltRelative Four sign.Signed; known = known_here l r.number r_x86_64_plt32 (plain kinds.PltRelative Four sign.Signed) x86 number plt32_row; kind = refl; size = refl } in
    let t = value_of_own l w m s i r term h listed own in
    let low = below_all l subtrahend.Place term (place_of s.address r) v r.addend value in
    record {
      holds = record {
        formula = formula StubDistance (Plain 32 Signed);
        known = known;
        value = v;
        gives = subst (λ (x : ℕ). Gives StubDistance l w m s r x) value (gives_distance l w m s i r (formula StubDistance (Plain 32 Signed)) own.symbol term info.size h listed field asked known refl own.named t x86);
        field = row_reads l w m s i r info (Plain 32 Signed) v v h listed field (form_of_row r_x86_64_pc32 info (formula Distance (Plain 32 Signed)) v (old_field s r info) h.tables.agree pc32_row refl pc32_formula low allowed (old_long l w m s i r info h listed field)) held;
      };
      offset = λ o. o;
      address = λ a. a;
    }

stub_offset_holds : (l : Layout) (w : World) (m : Memory) (s : Item) (i : ℕ) (r : InputRelocation) (term v : ℕ) → (h : IsItemLoaded l w m s) → l.machine ≡ machine.X86_64 → slice_get s.relocations i ≡ Some r → MustHold l w s r → r.number ≡ r_x86_64_pltoff64 → IsOwnTerm l r term → displacement term r.addend l.got_base ≡ v → allows (plain kinds.SymRelGotBase Eight sign.Signed) v ≡ true
    → Holds m (place_at w s r.offset) (field_site s r.offset (plain kinds.SymRelGotBase Eight sign.Signed).size v).bytes → RowHolds l w m s r
stub_offset_holds l w m s i r term v h x86 listed asked number own value allowed held =
    let info = plain kinds.SymRelGotBase Eight sign.Signed in
    let known = formula_known l r.number (formula StubFromTable Full) x86 (ap x86_64_formula number ∙ pltoff64_formula) in
    let field : HasField l r info.size = record { row = plain kinds.PltRelGotBase Eight sign.Signed; known = known_here l r.number r_x86_64_pltoff64 (plain kinds.PltRelGotBase Eight sign.Signed) x86 number pltoff64_row; kind = refl; size = refl } in
    let t = value_of_own l w m s i r term h listed own in
    let low = below_all l subtrahend.GotBase term (place_of s.address r) v r.addend value in
    record {
      holds = record {
        formula = formula StubFromTable Full;
        known = known;
        value = v;
        gives = subst (λ (x : ℕ). Gives StubFromTable l w m s r x) value (gives_offset l w m s i r (formula StubFromTable Full) own.symbol term h asked known refl own.named t x86);
        field = row_reads l w m s i r info Full v v h listed field (form_of_row r_x86_64_gotoff64 info (formula FromTable Full) v (old_field s r info) h.tables.agree gotoff64_row refl gotoff64_formula low allowed (old_long l w m s i r info h listed field)) held;
      };
      offset = λ o. o;
      address = λ a. a;
    }

-- the field of such a row holds
pub row_holds : (l : Layout) (w : World) (m : Memory) (s : Item) (i : ℕ) (r : InputRelocation) → (h : IsItemLoaded l w m s) → MustHold l w s r → IsRowField l s i r → RowHolds l w m s r
row_holds l w m s i r h asked f = by_row f.kept.row f.kept.keeps f.kept.chosen (chosen_row l s r (slice_get s.relocations (i + 1)) f.kept.row f.kept.chosen) f.kept.known
  where
    k : IsKept l s r (slice_get s.relocations (i + 1)) f.size f.value
    k = f.kept

    held : (info : RelocationKindInfo) → k.info ≡ info → Holds m (place_at w s r.offset) (field_site s r.offset info.size f.value).bytes
    held info e = subst (λ (z : RelocationSize). Holds m (place_at w s r.offset) (field_site s r.offset z f.value).bytes) (sym k.size ∙ ap (λ (x : RelocationKindInfo). x.size) e) (h.item.values i r f.size f.value f.has)

    own_term : (info : RelocationKindInfo) (symbol : ℕ) → k.info ≡ info → term_of l r.symbol info.kind ≡ address_of l r.symbol → r.symbol ≡ Some symbol → interposable (flags_at l symbol) ≡ false → symbol_is_ifunc l symbol ≡ false → IsOwnTerm l r k.term
    own_term info symbol e same named own direct =
        let given = subst (λ (x : RelocationKindInfo). term_of l r.symbol x.kind ≡ Ok k.term) e k.given in
        record { symbol = symbol; named = named; own = own; direct = direct; given = subst (λ (o : Option ℕ). address_of l o ≡ Ok k.term) named (sym same ∙ given) }

    plt : (c : IsChosen l s r (slice_get s.relocations (i + 1)) PLT) → IsApplied (question_of l s r c.symbol (slice_get s.relocations (i + 1))) PLT → row_of l.machine r_x86_64_pc32 ≡ Some k.info → RowHolds l w m s r
    plt c stands known =
        let e = info_is r_x86_64_pc32 k.info (plain kinds.Relative Four sign.Signed) (row_here l r_x86_64_pc32 k.info c.machine known) pc32_row in
        stub_distance_holds l w m s i r k.term f.value h c.machine f.has.listed asked c.number (own_term (plain kinds.Relative Four sign.Signed) c.symbol e refl c.named (not-true _ stands.value) (not-true _ stands.symbol))
        (subst (λ (x : RelocationKindInfo). value_by l x.kind k.term r.addend (place_of s.address r) ≡ f.value) e k.value) (subst (λ (x : RelocationKindInfo). allows x f.value ≡ true) e k.allowed) (held (plain kinds.Relative Four sign.Signed) e)

    offset : (c : IsChosen l s r (slice_get s.relocations (i + 1)) PLT_OFF) → IsApplied (question_of l s r c.symbol (slice_get s.relocations (i + 1))) PLT_OFF → row_of l.machine r_x86_64_gotoff64 ≡ Some k.info → RowHolds l w m s r
    offset c stands known =
        let e = info_is r_x86_64_gotoff64 k.info (plain kinds.SymRelGotBase Eight sign.Signed) (row_here l r_x86_64_gotoff64 k.info c.machine known) gotoff64_row in
        stub_offset_holds l w m s i r k.term f.value h c.machine f.has.listed asked c.number (own_term (plain kinds.SymRelGotBase Eight sign.Signed) c.symbol e refl c.named (not-true _ stands.value) (not-true _ stands.symbol))
        (subst (λ (x : RelocationKindInfo). value_by l x.kind k.term r.addend (place_of s.address r) ≡ f.value) e k.value) (subst (λ (x : RelocationKindInfo). allows x f.value ≡ true) e k.allowed) (held (plain kinds.SymRelGotBase Eight sign.Signed) e)

    by_row : (row : Row) → (row ≡ PLT) ⊎ (row ≡ PLT_OFF) → (c : IsChosen l s r (slice_get s.relocations (i + 1)) row) → IsApplied (question_of l s r c.symbol (slice_get s.relocations (i + 1))) row → row_of l.machine (rewrite_of row).number ≡ Some k.info → RowHolds l w m s r
    by_row row (inl e) =
        let P : Row → Type 0 = λ x. (c : IsChosen l s r (slice_get s.relocations (i + 1)) x) → IsApplied (question_of l s r c.symbol (slice_get s.relocations (i + 1))) x → row_of l.machine (rewrite_of x).number ≡ Some k.info → RowHolds l w m s r in
        subst P (sym e) plt
    by_row row (inr e) =
        let P : Row → Type 0 = λ x. (c : IsChosen l s r (slice_get s.relocations (i + 1)) x) → IsApplied (question_of l s r c.symbol (slice_get s.relocations (i + 1))) x → row_of l.machine (rewrite_of x).number ≡ Some k.info → RowHolds l w m s r in
        subst P (sym e) offset
