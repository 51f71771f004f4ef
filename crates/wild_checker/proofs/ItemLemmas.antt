-- A section whose references are all found to hold, rewritten or not, and whose other bytes are the input's, holds as an item.
use Rattle.wild_checker.proofs.Common.{◌≡◌, ℕ, ◌+◌, ◌<◌, ◌≤◌, ◌⊎◌, inl, inr, ◌&&◌, Bool, true, false, List, length, get_or, refl, sym, ap, ◌∙◌, arith, subst, ◌≢◌, ◌||◌, if◌then◌else◌, Option, Some, None, All, Contains, ◌==◌, not, nat_le, drop, is_some, slice_get, cases_lt, eqb-true, leb-true, or_cases, and_parts, not-true, r_x86_64_none, RelocationKindInfo, RelocationSize, ByteSize, BitMasking, expression_of, field_width, Value, Formula, formula, SlotDistance, Plain, Signed, File, InputRelocation, InputSection, Layout, Item, row_of, InputNumbers, Memory, World, formula_of, form_width, Instruction, IsOwnByte, size_of, IsInstruction, IsSingle, Term, value_of, RowsHaveFormulas, file_for, Loaded, is_settled, listed_at, Machine, Cursor, rewritten_start, first_cursor}
use Rattle.std.proofs.lemmas.List.Elements.{All-take, All-drop}
use Rattle.wild_reloc.specs.declared.expression.Subtrahend.{Subtrahend}
use Rattle.wild_reloc.specs.declared.expression.Term as expression
use Rattle.wild_reloc.specs.declared.expression.Term.TheVariants as terms
use Rattle.wild_reloc.specs.Agreement.{sized}
use Rattle.wild_reloc.specs.Expression.{subtrahend_of, expressed}
use Rattle.wild_reloc.specs.Field.{allows}
use Rattle.wild_reloc.specs.Formula.{NoValue}
use Rattle.wild_types.specs.Rows.{row_width}
use Rattle.wild_meaning.specs.Item.{IsReference}
use Rattle.wild_meaning.specs.Field.{InNoField, IsInputByte}
use Rattle.wild_meaning.specs.Formula.{Gives, TakesAddress, TakesOffset}
use Rattle.wild_meaning.specs.Reference.{HoldsPlain, ItemHolds, MustHold, UsesOwnSymbolOnly, ReferenceHolds, IsOutsideReferences, UsesOwnDefinition}
use Rattle.wild_meaning.specs.Template.{IsTemplate, IsOfSequence}
use Rattle.wild_references.specs.Laws.{FieldHolds}
use Rattle.wild_checker.specs.References.{old_field, value_term, word_term, value_holds, is_inside, field_holds, has_offset_mode, is_mark, mark_holds, holds_by_row, reference_holds}
use Rattle.wild_checker.proofs.FieldLemmas.{inside, value_shown, nothing_written, low_place, field_reads}
use Rattle.wild_checker.proofs.FormulaLemmas.{IsPlaced, no_offsets, takes_by, decided, term_below}
use Rattle.wild_checker.proofs.SiteLemmas.{IsBeside}
use Rattle.wild_types.specs.declared.kind.Machine.TheVariants as machine
use Rattle.wild_meaning.proofs.PairLemmas.{as_double}
use Rattle.wild_checker.proofs.PlacedSections.{Laws, IsItem, IsChecked, item_for}
use Rattle.wild_checker.proofs.PlainLemmas.{IsKeptAt, none_if, pair_kept, input_byte, own_kept}
use Rattle.wild_checker.proofs.RewrittenLemmas.{IsRewritten, rewritten, number_is, size_is, formula_is, position_of, single, holds_rewritten}
use Rattle.wild_checker.proofs.WalkLemmas.{InRewritten, cursor_at, settled_at}

-- ---- one reference

data IsFound (k : Loaded) (f : File) (s : InputSection) (r : InputRelocation) : Type 0 where
  -- the relocation only marks an instruction
  Mark : (row : RelocationKindInfo) → row_of k.layout.machine r.number ≡ Some row → is_mark (expression_of row.kind).term ≡ true → mark_holds k s r row ≡ true → IsFound k f s r
  -- the field has a value
  Field : (row : RelocationKindInfo) → row_of k.layout.machine r.number ≡ Some row → (x : Term) → (value_term k f s r row ≡ Some x) ⊎ (word_term k s r row ≡ Some x) → is_inside s r row ≡ true → value_holds k s r row x ≡ true → IsFound k f s r

found_by : (k : Loaded) (f : File) (s : InputSection) (r : InputRelocation) → holds_by_row k f s r (row_of k.layout.machine r.number) ≡ true → IsFound k f s r
found_by k f s r h = by_row (row_of k.layout.machine r.number) refl h
  where
    by_value : (row : RelocationKindInfo) → row_of k.layout.machine r.number ≡ Some row → (o : Option Term) → ((x : Term) → o ≡ Some x → (value_term k f s r row ≡ Some x) ⊎ (word_term k s r row ≡ Some x)) → field_holds k s r row o ≡ true → IsFound k f s r
    by_value row e None is h = cc
    by_value row e (Some x) is h =
        let both = and_parts (is_inside s r row) (value_holds k s r row x) h in
        Field row e x (is x refl) both.0 both.1

    by_either : (row : RelocationKindInfo) → row_of k.layout.machine r.number ≡ Some row → (field_holds k s r row (value_term k f s r row) || field_holds k s r row (word_term k s r row)) ≡ true → IsFound k f s r
    by_either row e h = elim (or_cases (field_holds k s r row (value_term k f s r row)) (field_holds k s r row (word_term k s r row)) h) [
      | inl a ↦ by_value row e (value_term k f s r row) (λ x is. inl is) a
      | inr b ↦ by_value row e (word_term k s r row) (λ x is. inr is) b
    ]

    by_mark : (row : RelocationKindInfo) → row_of k.layout.machine r.number ≡ Some row → (b : Bool) → is_mark (expression_of row.kind).term ≡ b → (if b then mark_holds k s r row else (field_holds k s r row (value_term k f s r row) || field_holds k s r row (word_term k s r row))) ≡ true → IsFound k f s r
    by_mark row e true is h = Mark row e is h
    by_mark row e false is h = by_either row e h

    by_row : (o : Option RelocationKindInfo) → row_of k.layout.machine r.number ≡ o → holds_by_row k f s r o ≡ true → IsFound k f s r
    by_row None e h = cc
    by_row (Some row) e h = by_mark row e (is_mark (expression_of row.kind).term) refl h

found : (k : Loaded) (f : File) (s : InputSection) (r : InputRelocation) → reference_holds k f s r ≡ true → IsFound k (file_for k f r.symbol) s r
unfolding reference_holds
found k f s r h = found_by k (file_for k f r.symbol) s r h

-- the field has its formula's value, and no other module may define a symbol whose address it has
record IsRight (k : Loaded) (w : World) (m : Memory) (item : Item) (r : InputRelocation) : Type 0 where
  field : FieldHolds k.layout w m item r
  own : UsesOwnSymbolOnly k.layout item r → ⊥

one_formula : (a b : Formula) → (let o : Option Formula = Some a in o) ≡ Some b → a ≡ b
one_formula a b e = cc

small_field : (s : InputSection) (r : InputRelocation) (row : RelocationKindInfo) → InputNumbers s → All (λ b. b < 256) (old_field s r row)
small_field s r row n = All-take (λ b. b < 256) _ (drop r.offset s.bytes) (All-drop (λ b. b < 256) r.offset s.bytes n.bytes)

-- a mark has no value
no_value : (t : expression.Term) (u : Subtrahend) → is_mark t ≡ true → expressed t u ≡ NoValue
no_value terms.Nothing u h = refl
no_value terms.Symbol u h = cc
no_value terms.Stub u h = cc
no_value (terms.Slot x) u h = cc
no_value terms.GotBase u h = cc
no_value terms.Size u h = cc
no_value terms.PointerOffset u h = cc
no_value terms.ModuleOffset u h = cc

sized_none : (z : RelocationSize) → sized z NoValue ≡ NoValue
sized_none (ByteSize n) = refl
sized_none (BitMasking b) = refl

right_mark : (k : Loaded) (f : File) (w : World) (m : Memory) (item : Item) (s : InputSection) (r : InputRelocation) (row : RelocationKindInfo) → Laws → IsItem k f w m item s → row_of k.layout.machine r.number ≡ Some row → is_mark (expression_of row.kind).term ≡ true → mark_holds k s r row ≡ true → IsRight k w m item r
right_mark k f w m item s r row laws n is mark h =
    let a = and_parts (field_width row == 0) (nat_le r.offset (length s.bytes) && (allows row 0 && not (has_offset_mode k.layout s))) h in
    let b = and_parts (nat_le r.offset (length s.bytes)) (allows row 0 && not (has_offset_mode k.layout s)) a.1 in
    let c = and_parts (allows row 0) (not (has_offset_mode k.layout s)) b.1 in
    let none = eqb-true (field_width row) 0 a.0 in
    let start = leb-true r.offset (length s.bytes) b.0 in
    let within : r.offset + field_width row ≤ length s.bytes = omega (arith, none, start) in
    let formula = laws.rows k.layout.machine r.number row is in
    let value : NoValue ≡ formula.formula.value = sym (ap (sized row.size) (no_value (expression_of row.kind).term (subtrahend_of row.kind row.mask) mark) ∙ sized_none row.size) ∙ formula.agrees.value in
    let off = no_offsets k item s n.flags (not-true (has_offset_mode k.layout s) c.1) in
    record {
      field = record {
        formula = formula.formula;
        known = formula.known;
        value = 0;
        gives = subst (λ (v : Value). Gives v k.layout w m item r 0) value off;
        field = field_reads w m k.layout.machine item s r row 0 laws.widths n.address n.bytes (small_field s r row n.small) within formula (nothing_written w m s r row laws.widths none c.0);
      };
      own = λ u. (let one = one_formula u.formula formula.formula (sym u.known ∙ formula.known) in by (takes_by k.layout item u.symbol u.formula u.takes) (ap (λ (g : Formula). g.value) one ∙ sym value));
    }
  where
    by : {v : Value} → TakesOffset v ⊎ TakesAddress v → v ≡ NoValue → ⊥
    by (inl x) e = subst TakesOffset e x
    by (inr x) e = subst TakesAddress e x

right_field : (k : Loaded) (f : File) (w : World) (m : Memory) (item : Item) (s : InputSection) (r : InputRelocation) (row : RelocationKindInfo) (x : Term) → Laws → IsItem k f w m item s → row_of k.layout.machine r.number ≡ Some row → (value_term k f s r row ≡ Some x) ⊎ (word_term k s r row ≡ Some x) → is_inside s r row ≡ true → value_holds k s r row x ≡ true → IsRight k w m item r
right_field k f w m item s r row x laws n is known there h =
    let p = inside s r row there in
    let formula = laws.rows k.layout.machine r.number row is in
    let below = term_below k f s r row x known in
    let shown = value_shown k w m s r row x n.follows n.pages below h in
    let low = low_place w m s r row shown.number laws.widths p shown.written in
    let address = n.address in
    let placed : IsPlaced k w item s r = record { address = address; flags = n.flags; low = omega (arith, low, address); pages = n.pages; stubs = laws.stubs } in
    let d = decided k f w m item s r (field_width row) n.known n.follows placed row x refl known in
    let same = formula.agrees.value in
    record {
      field = record {
        formula = formula.formula;
        known = formula.known;
        value = value_of w x;
        gives = subst (λ (v : Value). Gives v k.layout w m item r (value_of w x)) same d.gives;
        field = field_reads w m k.layout.machine item s r row (value_of w x) laws.widths address n.bytes (small_field s r row n.small) p.within formula shown;
      };
      own = λ u. (let one = one_formula u.formula formula.formula (sym u.known ∙ formula.known) in d.own u.formula (ap (λ (g : Formula). g.value) one ∙ sym same) (ap (λ (g : Formula). form_width g.form) one ∙ formula.width) u.symbol u.named u.takes u.replaceable);
    }

right : (k : Loaded) (f : File) (w : World) (m : Memory) (item : Item) (s : InputSection) (r : InputRelocation) → Laws → IsItem k f w m item s → reference_holds k f s r ≡ true → IsRight k w m item r
right k f w m item s r laws n h = by (found k f s r h)
  where
    g : File
    g = file_for k f r.symbol

    placed : IsItem k g w m item s
    placed = item_for k f w m item s r.symbol n

    by : IsFound k g s r → IsRight k w m item r
    by (Mark row is mark h) = right_mark k g w m item s r row laws placed is mark h
    by (Field row is x known there h) = right_field k g w m item s r row x laws placed is known there h

-- ---- the item

-- a relocation at a position, and what was found of it
record IsAt (k : Loaded) (f : File) (s : InputSection) (r : InputRelocation) : Type 0 where
  position : ℕ
  there : slice_get s.relocations position ≡ Some r
  settled : is_settled k f s (cursor_at k.layout.machine first_cursor s.relocations position) r ≡ true

at_position : (k : Loaded) (f : File) (w : World) (m : Memory) (item : Item) (s : InputSection) → IsItem k f w m item s → IsChecked k f s → (r : InputRelocation) → IsReference item r → IsAt k f s r
at_position k f w m item s n checked r is =
    let at = position_of s.relocations r (subst (λ (rs : List InputRelocation). Contains rs r) n.relocations is.listed) in
    record { position = at.0; there = at.1; settled = settled_at k f s first_cursor 0 s.relocations at.0 r checked.references at.1 }

-- a reference that was not rewritten holds
plain_holds : (k : Loaded) (f : File) (s : InputSection) (c : Cursor) (r : InputRelocation) → r.number ≢ r_x86_64_none → is_settled k f s c r ≡ true → rewritten_start k f s c r ≡ None → reference_holds k f s r ≡ true
plain_holds k f s c r refers settled none =
    elim (or_cases (r.number == r_x86_64_none) (is_some (rewritten_start k f s c r) || reference_holds k f s r) settled) [
      | inl nothing ↦ absurd (refers (eqb-true r.number r_x86_64_none nothing))
      | inr other ↦ (let plain : (false || reference_holds k f s r) ≡ true = rw none at other in plain)
    ]

-- no byte in no field is changed
beside : (rows : RowsHaveFormulas) (l : Layout) (r : InputRelocation) (k : ℕ) → ((f : Formula) → formula_of l.machine r.number ≡ Some f → (k < r.offset) ⊎ (r.offset + form_width f.form ≤ k)) → IsBeside l.machine k r
beside rows l r k h = by (row_of l.machine r.number) refl
  where
    by : (o : Option RelocationKindInfo) → row_of l.machine r.number ≡ o → (k < r.offset) ⊎ (r.offset + row_width o ≤ k)
    by None e = elim (cases_lt k r.offset) [ inl low ↦ inl low | inr high ↦ inr (omega (arith, high)) ]
    by (Some row) e = (let t = rows l.machine r.number row e in subst (λ (n : ℕ). (k < r.offset) ⊎ (r.offset + n ≤ k)) t.width (h t.formula t.known))

all_beside : (k : Loaded) (f : File) (w : World) (m : Memory) (item : Item) (s : InputSection) → Laws → IsItem k f w m item s → (b : ℕ) → InNoField k.layout item b → All (IsBeside k.layout.machine b) s.relocations
all_beside k f w m item s laws n b out =
    let there : All (λ (r : InputRelocation). (g : Formula) → formula_of k.layout.machine r.number ≡ Some g → (b < r.offset) ⊎ (r.offset + form_width g.form ≤ b)) s.relocations = subst (λ (rs : List InputRelocation). All (λ (r : InputRelocation). (g : Formula) → formula_of k.layout.machine r.number ≡ Some g → (b < r.offset) ⊎ (r.offset + form_width g.form ≤ b)) rs) n.relocations out in
    λ i d l. beside laws.rows k.layout (get_or s.relocations i d) b (there i d l)

-- an instruction's own bytes are in no field
own_within : (k : Loaded) (item : Item) (r : InputRelocation) (start : ℕ) (o : Instruction) (first : InputRelocation) → IsTemplate k.layout item r start o first → (j : ℕ) → IsOwnByte o j → (start + j < length item.bytes) × InNoField k.layout item (start + j)
own_within k item r start o first t j own = by t
  where
    of : (q : InputRelocation) → IsInstruction k.layout item q start o → (start + j < length item.bytes) × InNoField k.layout item (start + j)
    of q t = (let within = t.inside in let low = own.inside in omega (arith, within, low), t.alone j own)

    by : IsTemplate k.layout item r start o first → (start + j < length item.bytes) × InNoField k.layout item (start + j)
    by (inl one) = of r one.0.stands
    by (inr part) = of first part.sequence.stands

own_bytes : (k : Loaded) (f : File) (w : World) (m : Memory) (item : Item) (s : InputSection) → Laws → IsItem k f w m item s → IsChecked k f s → (r : InputRelocation) (i start : ℕ) (o : Instruction) (first : InputRelocation) → IsKeptAt k f s i r → IsTemplate k.layout item r start o first → (j : ℕ) → IsOwnByte o j → IsInputByte w m item (start + j)
own_bytes k f w m item s laws n checked r i start o first kept t j own =
    let place = own_within k item r start o first t j own in
    input_byte k f w m item s n checked (start + j) place.0 (all_beside k f w m item s laws n (start + j) place.1) (own_kept k f w m item s n checked r i start o first kept t j own)

-- a relocation at a position where it is kept holds
right_at : (k : Loaded) (f : File) (w : World) (m : Memory) (item : Item) (s : InputSection) → Laws → IsItem k f w m item s → IsChecked k f s → (r : InputRelocation) (i : ℕ) → r.number ≢ r_x86_64_none → IsKeptAt k f s i r → IsRight k w m item r
right_at k f w m item s laws n checked r i refers kept =
    right k f w m item s r laws n (plain_holds k f s (cursor_at k.layout.machine first_cursor s.relocations i) r refers (settled_at k f s first_cursor 0 s.relocations i r checked.references kept.there) kept.none)

-- the fields of an instruction of which one relocation is kept all hold
fields : (k : Loaded) (f : File) (w : World) (m : Memory) (item : Item) (s : InputSection) → Laws → IsItem k f w m item s → IsChecked k f s → (r : InputRelocation) (i start : ℕ) (o : Instruction) (first : InputRelocation) → IsKeptAt k f s i r → IsReference item r → IsTemplate k.layout item r start o first → (q : InputRelocation) → IsReference item q → IsTemplate k.layout item q start o first → FieldHolds k.layout w m item q
fields k f w m item s laws n checked r i start o first kept is t q refers u = by k.layout.machine refl t u
  where
    no_both : (p : InputRelocation) → IsSingle k.layout item p start o → (x : InputRelocation) → IsOfSequence k.layout item x start o first → ⊥
    no_both p one x part = (let several = part.sequence.several in let none = ap length one.single in omega (arith, several, none))

    of_pair : k.layout.machine ≡ machine.X86_64 → IsOfSequence k.layout item q start o first → FieldHolds k.layout w m item q
    of_pair on part =
        let d = as_double k.layout item q start o first on part in
        let pair = pair_kept k f w m item s n first d.second start o on d.sequence in
        elim d.one [
          | inl e ↦ (right_at k f w m item s laws n checked q d.sequence.has.index refers.refers (subst (λ (x : InputRelocation). IsKeptAt k f s d.sequence.has.index x) (sym e) pair.first_kept)).field
          | inr e ↦ (right_at k f w m item s laws n checked q (d.sequence.has.index + 1) refers.refers (subst (λ (x : InputRelocation). IsKeptAt k f s (d.sequence.has.index + 1) x) (sym e) pair.second_kept)).field
        ]

    elsewhere : k.layout.machine ≡ machine.AArch64 → FieldHolds k.layout w m item q
    elsewhere on =
        let at = at_position k f w m item s n checked q refers in
        let none = none_if k f s at.position q (λ from h. (let both : machine.AArch64 ≡ machine.X86_64 = sym on ∙ h.code.on in cc)) in
        (right_at k f w m item s laws n checked q at.position refers.refers (record { there = at.there; none = none })).field

    by : (x : Machine) → k.layout.machine ≡ x → IsTemplate k.layout item r start o first → IsTemplate k.layout item q start o first → FieldHolds k.layout w m item q
    by machine.AArch64 on t u = elsewhere on
    by machine.X86_64 on t (inr part) = of_pair on part
    by machine.X86_64 on (inr part) (inl one) = absurd (no_both q one.0 r part)
    by machine.X86_64 on (inl one) (inl other) =
        let same : r ≡ q = sym one.1 ∙ other.1 in
        (right_at k f w m item s laws n checked q i refers.refers (subst (λ (x : InputRelocation). IsKeptAt k f s i x) same kept)).field

-- a rewritten instruction takes no address or offset of its symbol
no_own_symbol : (k : Loaded) (f : File) (item : Item) (s : InputSection) (c : Cursor) (r : InputRelocation) (start : ℕ) → IsRewritten k f s c r start → UsesOwnSymbolOnly k.layout item r → ⊥
no_own_symbol k f item s c r start h u =
    let slot = h.found.shaped.slot in
    let same : formula (SlotDistance slot) (Plain 32 Signed) ≡ u.formula = one_formula (formula (SlotDistance slot) (Plain 32 Signed)) u.formula (sym (formula_is k f s c r start h) ∙ u.known) in
    let takes = subst (λ (g : Formula). UsesOwnDefinition k.layout item u.symbol g) (sym same) u.takes in
    elim takes [
      | inl offset ↦ absurd offset
      | inr address ↦ absurd address.0
    ]

pub item_holds : (k : Loaded) (f : File) (w : World) (m : Memory) (item : Item) (s : InputSection) → Laws → IsItem k f w m item s → IsChecked k f s → ItemHolds k.layout w m item
item_holds k f w m item s laws n checked = record {
  references = λ r is o u v. (let at = at_position k f w m item s n checked r is in held r is u v at (rewritten_start k f s (cursor_at k.layout.machine first_cursor s.relocations at.position) r) refl);
  linked = λ r is o u v. (let at = at_position k f w m item s n checked r is in absurd (followed r is v at (rewritten_start k f s (cursor_at k.layout.machine first_cursor s.relocations at.position) r) refl));
  others = λ j l out. input_byte k f w m item s n checked j l (all_beside k f w m item s laws n j out.fields) (outside j out);
}
  where
    plain : (r : InputRelocation) → IsReference item r → MustHold k.layout w item r → (UsesOwnSymbolOnly k.layout item r → ⊥) → (i : ℕ) → IsKeptAt k f s i r → HoldsPlain k.layout w m item r
    plain r is u v i kept =
        let h = (right_at k f w m item s laws n checked r i is.refers kept).field in
        record {
          formula = h.formula;
          known = h.known;
          value = h.value;
          gives = h.gives;
          field = h.field;
          kept = λ start o first t. own_bytes k f w m item s laws n checked r i start o first kept t;
          does = λ start o first t. laws.instructions k.layout w m item r is u v start o first t (record { fields = fields k f w m item s laws n checked r i start o first kept is t; own = own_bytes k f w m item s laws n checked r i start o first kept t });
        }

    held : (r : InputRelocation) → IsReference item r → MustHold k.layout w item r → (UsesOwnSymbolOnly k.layout item r → ⊥) → (at : IsAt k f s r) → (x : Option ℕ) → rewritten_start k f s (cursor_at k.layout.machine first_cursor s.relocations at.position) r ≡ x → ReferenceHolds k.layout w m item r
    held r is u v at None e = inl (plain r is u v at.position (record { there = at.there; none = e }))
    held r is u v at (Some start) e = inr (holds_rewritten k f w m item s laws n checked at.position r start at.there (rewritten k f s (cursor_at k.layout.machine first_cursor s.relocations at.position) r start e))

    followed : (r : InputRelocation) → IsReference item r → UsesOwnSymbolOnly k.layout item r → (at : IsAt k f s r) → (x : Option ℕ) → rewritten_start k f s (cursor_at k.layout.machine first_cursor s.relocations at.position) r ≡ x → ⊥
    followed r is v at None e = (right_at k f w m item s laws n checked r at.position is.refers (record { there = at.there; none = e })).own v
    followed r is v at (Some start) e = no_own_symbol k f item s (cursor_at k.layout.machine first_cursor s.relocations at.position) r start (rewritten k f s (cursor_at k.layout.machine first_cursor s.relocations at.position) r start e) v

    -- a byte outside all instructions is in no rewritten one
    outside : (j : ℕ) → IsOutsideReferences k.layout item j → InRewritten k f s first_cursor s.relocations j → ⊥
    outside j out h =
        let c = cursor_at k.layout.machine first_cursor s.relocations h.position in
        let p = rewritten k f s c h.relocation h.start h.is in
        let listed = subst (λ (rs : List InputRelocation). Contains rs h.relocation) (sym n.relocations) (listed_at s.relocations h.position h.relocation h.there) in
        let refers = p.found.shaped.refers in
        let number = number_is k f s c h.relocation h.start p in
        let is : IsReference item h.relocation = record { listed = listed; refers = λ none. refers (number ∙ none) } in
        let size = size_is k f s c h.relocation h.start p in
        let same : size_of p.found.shaped.instruction ≡ length p.shape.cells = ap length p.found.shaped.cells in
        let low = h.low in
        let high = h.high in
        elim (out.templates h.relocation h.start p.found.shaped.instruction h.relocation is (inl (single k f w m item s laws n checked h.position h.relocation h.start h.there p, refl))) [
          | inl before ↦ omega (arith, before, low)
          | inr after ↦ omega (arith, after, size, same, high)
        ]
