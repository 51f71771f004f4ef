-- A kept section in memory, and the fields of its relocations.
use Rattle.wild_references.proofs.Common.{◌≡◌, ℕ, ℤ, ◌+◌, ◌%◌, ◌^◌, ◌<◌, ◌≤◌, ◌⊎◌, inl, inr, Bool, true, false, List, [], ◌∷◌, length, get_or, slice_range, refl, sym, ap, ◌∙◌, arith, subst, Some, All, slice_get, if◌then◌else◌, ◌==◌, list_all, and_parts, word, get_or_from_slice_get, slice_get-get_or, length-range, range_byte, holds_at, Machine, InputRelocation, Layout, KeepsAll, place_of, allocated, field_width, size_width, written, Formula, Form, NoField, Plain, Full, Bits, Keeps, Reads, RelocationKindInfo, x86_64_formula, RelocationSize, subtrahend_of, Subtrahend, subtract, value_in, field_site, HasField, ComesTo, NamesSymbol, AddendFits, Item, place_at, formula_of, form_width, FieldReads, World, Memory, Holds, RowsAreRead, InMemory, IsPlaced, TermGives, HasBytes, EachThunkJumps, processor_of}
use Rattle.wild_words.proofs.WordLemmas.{number-word, length-word}
use Rattle.wild_types.specs.declared.kind.Machine.TheVariants as machine
use Rattle.wild_reloc.specs.Formula.{formula_at}
use Rattle.wild_reloc.specs.Agreement.{WidthsHold}
use Rattle.wild_reloc.specs.FormulaX86_64.{x86_64_formulas}
use Rattle.wild_reloc.specs.declared.expression.Term.TheVariants as term
use Rattle.wild_reloc.specs.declared.expression.Subtrahend.TheVariants as subtrahend
use Rattle.wild_layout.proofs.DecideLemmas.{field_has_bytes}
use Rattle.wild_layout.proofs.SiteLemmas.{field_lies}
use Rattle.wild_layout.specs.SectionPlaces.{FieldLies}
use Rattle.wild_geometry.specs.Loaded.{Stage, ReadsFilledField, HasItem}
use Rattle.wild_references.specs.Laws.{TermGivesLinked, StubsRepresentSymbols, SlotsGive, PartsGive, PartsGiveLinked, AddressesGive, AddressesGiveLinked, EntriesGive}
use Rattle.wild_references.specs.Thunks.{ThunksGive}
use Rattle.wild_references.proofs.KnownRows.{RowFits}
use Rattle.wild_references.proofs.LowForms.{is_low, reads_low}
use Rattle.wild_references.proofs.WrittenFields.{IsValue, IsAddress, IsLeftField}

-- ---- fields of whole bytes

abbrev pub KeepsOthers : Form → Type 0
KeepsOthers form = (old new : List ℕ) → Keeps form old new

-- the field is whole bytes, without other bits
abbrev is_whole : Form → Bool
is_whole (Bits field high low check unit) = false
is_whole other = true

whole_keeps : (form : Form) → is_whole form ≡ true → KeepsOthers form
whole_keeps (Bits field high low check unit) h = cc
whole_keeps NoField h = λ old new. tt
whole_keeps (Plain bits reading) h = λ old new. tt
whole_keeps Full h = λ old new. tt

keeps_at : (es : List (ℕ × Formula)) (n : ℕ) (f : Formula) → list_all (λ (e : ℕ × Formula). is_whole e.1.form) es ≡ true → formula_at es n ≡ Some f → KeepsOthers f.form
keeps_at [] n f h known = cc
keeps_at (e ∷ es) n f h known =
    let both = and_parts (is_whole e.1.form) (list_all (λ (e : ℕ × Formula). is_whole e.1.form) es) h in
    by_test e es n f both.0 (n == e.0) known (keeps_at es n f both.1)
  where
    by_test : (e : ℕ × Formula) (es : List (ℕ × Formula)) (n : ℕ) (f : Formula) → is_whole e.1.form ≡ true → (b : Bool) → (if b then Some e.1 else formula_at es n) ≡ Some f → (formula_at es n ≡ Some f → KeepsOthers f.form) → KeepsOthers f.form
    by_test e es n f h true known again = (let same : e.1 ≡ f = cc in subst (λ (g : Formula). KeepsOthers g.form) same (whole_keeps e.1.form h))
    by_test e es n f h false known again = again known

-- the fields of x86-64 are
pub unique_table : (n : ℕ) (f : Formula) → x86_64_formula n ≡ Some f → KeepsOthers f.form
unfolding x86_64_formula
unique_table n f known = keeps_at x86_64_formulas n f refl known

-- ---- one section in memory

-- what the tables owe
pub record Tables : Type 0 where
  pub agree : RowsAreRead
  pub widths : WidthsHold

-- the laws of the terms
pub record KindLaws : Type 0 where
  pub symbol : TermGives term.Symbol
  pub stub : TermGives term.Stub
  pub stands : StubsRepresentSymbols
  pub thunk : ThunksGive
  pub slot : SlotsGive
  pub part : PartsGive
  pub table : TermGives term.GotBase
  pub size : TermGives term.Size
  pub pointer : TermGives term.PointerOffset
  pub own : TermGives term.ModuleOffset
  pub address : AddressesGive
  pub entry : EntriesGive

-- those of the terms that take a symbol's address or its offset, with the output's own symbol
pub record LinkedLaws : Type 0 where
  pub symbol : TermGivesLinked term.Symbol
  pub part : PartsGiveLinked
  pub pointer : TermGivesLinked term.PointerOffset
  pub own : TermGivesLinked term.ModuleOffset
  pub address : AddressesGiveLinked

-- a kept item in a legal world, which memory has as it was decided; where all is written, behind its entries
pub record IsItemLoaded (l : Layout) (w : World) (m : Memory) (s : Item) : Type 0 where
  pub tables : Tables
  pub kinds : KindLaws
  pub linked : LinkedLaws
  pub placed : IsPlaced l w m
  pub thunks : KeepsAll l → EachThunkJumps l w m
  pub room : allocated s.flags ≡ true
  pub symbols : All (NamesSymbol l) s.relocations
  pub addends : All AddendFits s.relocations
  pub bytes : HasBytes l.machine s
  pub low : s.address + length s.bytes ≤ 2 ^ 62
  pub lies : All (FieldLies l.machine (length s.bytes)) s.relocations
  pub stage : Stage
  pub moved : KeepsAll l → stage ≡ InMemory
  pub item : HasItem l w m s stage

pub moved_item : (l : Layout) (w : World) (m : Memory) (s : Item) → IsItemLoaded l w m s → KeepsAll l → HasItem l w m s InMemory
moved_item l w m s h all = subst (λ (t : Stage). HasItem l w m s t) (h.moved all) h.item

-- the field lies in the item
pub field_within : (l : Layout) (w : World) (m : Memory) (s : Item) (i : ℕ) (r : InputRelocation) (z : RelocationSize) → IsItemLoaded l w m s → slice_get s.relocations i ≡ Some r → HasField l r z → r.offset + size_width z ≤ length s.bytes
field_within l w m s i r z h listed f = field_lies l s r z f (holds_at (FieldLies l.machine (length s.bytes)) s.relocations i r listed h.lies)

-- the place of a field in memory, which does not wrap
pub place_is : (l : Layout) (w : World) (m : Memory) (s : Item) (i : ℕ) (r : InputRelocation) (z : RelocationSize) → IsItemLoaded l w m s → slice_get s.relocations i ≡ Some r → HasField l r z → place_at w s r.offset ≡ w.base + place_of s.address r
place_is l w m s i r z h listed f =
    let e = field_within l w m s i r z h listed f in
    let some = field_has_bytes l r z f in
    let low = h.low in
    omega (arith, e, some, low)

pub place_ends : (l : Layout) (w : World) (m : Memory) (s : Item) (i : ℕ) (r : InputRelocation) (z : RelocationSize) → IsItemLoaded l w m s → slice_get s.relocations i ≡ Some r → HasField l r z → w.base + place_of s.address r ≤ 2 ^ 64
place_ends l w m s i r z h listed f =
    let e = field_within l w m s i r z h listed f in
    let some = field_has_bytes l r z f in
    let low = h.low in
    let ends = h.item.ends (omega (arith, e, some)) in
    omega (arith, e, some, low, ends)

-- ---- fields

-- the input's bytes of a field
abbrev pub old_field : Item → InputRelocation → RelocationKindInfo → List ℕ
old_field s r row = slice_range s.bytes r.offset (r.offset + size_width row.size)

-- what a field of a row reads as where v is written, in the form of a formula
pub record ReadsForm (row : RelocationKindInfo) (form : Form) (v x : ℕ) (old : List ℕ) : Type 0 where
  pub width : field_width row ≡ form_width form
  pub reads : Reads form (written row v old) x
  pub keeps : Keeps form old (written row v old)

pub old_long : (l : Layout) (w : World) (m : Memory) (s : Item) (i : ℕ) (r : InputRelocation) (row : RelocationKindInfo) → IsItemLoaded l w m s → slice_get s.relocations i ≡ Some r → HasField l r row.size → length (old_field s r row) ≡ field_width row
old_long l w m s i r row h listed f = length-range s.bytes r.offset (size_width row.size) (field_within l w m s i r row.size h listed f)

pub row_reads : (l : Layout) (w : World) (m : Memory) (s : Item) (i : ℕ) (r : InputRelocation) (row : RelocationKindInfo) (form : Form) (v x : ℕ) → (h : IsItemLoaded l w m s) → slice_get s.relocations i ≡ Some r → HasField l r row.size → ReadsForm row form v x (old_field s r row)
    → Holds m (place_at w s r.offset) (field_site s r.offset row.size v).bytes → FieldReads w m s r form x
row_reads l w m s i r row form v x h listed f reads held =
    let old = old_field s r row in
    record {
      bytes = written row v old;
      wide = h.tables.widths row v old ∙ reads.width;
      held = held;
      reads = reads.reads;
      keeps = subst (λ (n : ℕ). Keeps form (slice_range s.bytes r.offset (r.offset + n)) (written row v old)) reads.width reads.keeps;
    }

-- some bytes of an item are below 256 with all of them
pub small_range : (bs : List ℕ) (a n : ℕ) → All (λ (b : ℕ). b < 256) bs → a + n ≤ length bs → All (λ (b : ℕ). b < 256) (slice_range bs a (a + n))
small_range bs a n small inside = λ k d lt.
    let part = slice_range bs a (a + n) in
    let long = length-range bs a n inside in
    let one : get_or part k d ≡ get_or part k 0 = get_or_from_slice_get part k (get_or part k 0) d (slice_get-get_or part k 0 lt) in
    subst (λ (b : ℕ). b < 256) (sym (one ∙ range_byte bs a n k (omega (arith, lt, long)))) (small (a + k) 0 (omega (arith, lt, long, inside)))

-- the bits around the field stay
pub row_keeps : (l : Layout) (s : Item) (r : InputRelocation) (row : RelocationKindInfo) (v : ℕ) → HasBytes l.machine s → r.offset + size_width row.size ≤ length s.bytes → (fits : RowFits l.machine r.number row) → Keeps fits.formula.form (old_field s r row) (written row v (old_field s r row))
row_keeps l s r row v bytes inside fits = by_machine l.machine refl bytes
  where
    by_machine : (k : Machine) → l.machine ≡ k → HasBytes k s → Keeps fits.formula.form (old_field s r row) (written row v (old_field s r row))
    by_machine machine.X86_64 e b = unique_table r.number fits.formula (subst (λ (k : Machine). formula_of k r.number ≡ Some fits.formula) e fits.known) (old_field s r row) (written row v (old_field s r row))
    by_machine machine.AArch64 e b = fits.keeps v (old_field s r row) (small_range s.bytes r.offset (size_width row.size) b inside) (length-range s.bytes r.offset (size_width row.size) inside)

less_below : (l : Layout) (less : Subtrahend) (s p : ℕ) (a : ℤ) → subtract l less s a p < 2 ^ 64
less_below l subtrahend.Nothing s p a = omega arith
less_below l subtrahend.Place s p a = omega arith
less_below l subtrahend.GotBase s p a = omega arith
less_below l subtrahend.PageOfPlace s p a = omega arith
less_below l subtrahend.PageOfGot s p a = omega arith

pub below_all : (l : Layout) (less : Subtrahend) (s p v : ℕ) (a : ℤ) → subtract l less s a p ≡ v → v < 2 ^ 64
below_all l less s p v a e = subst (λ (n : ℕ). n < 2 ^ 64) e (less_below l less s p a)

-- and so is what is written for it
pub comes_low : (l : Layout) (s : Item) (r : InputRelocation) (row : RelocationKindInfo) (term v : ℕ) → ComesTo l s r row (value_in l row term r.addend (place_of s.address r)) v → v < 2 ^ 64
comes_low l s r row term v (inl same) = below_all l (subtrahend_of row.kind row.mask) term (place_of s.address r) v r.addend same
comes_low l s r row term v (inr c) = (let e = c.distance in omega (arith, e))

-- a field has all of the value, or the bits below the page of a number
abbrev pub SeenAs : Form → (v x : ℕ) → Type 0
SeenAs form v x = (v ≡ x) ⊎ ((is_low form ≡ true) × (x % 4096 ≡ v % 4096))

seen_reads : (form : Form) (bs : List ℕ) (v x : ℕ) → SeenAs form v x → Reads form bs v → Reads form bs x
seen_reads form bs v x (inl e) h = subst (λ (n : ℕ). Reads form bs n) e h
seen_reads form bs v x (inr p) h = reads_low form bs v x p.0 h (sym p.1)

pub value_reads : (l : Layout) (w : World) (m : Memory) (s : Item) (i : ℕ) (r : InputRelocation) (x : ℕ) → (h : IsItemLoaded l w m s) → (v : IsValue l s i r) → SeenAs v.fits.formula.form v.value x → FieldReads w m s r v.fits.formula.form x
value_reads l w m s i r x h v seen =
    let f = v.field in
    let low = comes_low l s r f.row f.term v.value f.comes in
    let held = h.item.values i r v.size v.value v.plain.has in
    let field : HasField l r f.row.size = record { row = f.row; known = f.known; kind = f.kind; size = refl } in
    let old = old_field s r f.row in
    let long = old_long l w m s i r f.row h v.plain.has.listed field in
    row_reads l w m s i r f.row v.fits.formula.form v.value x h v.plain.has.listed field
    (record {
      width = v.fits.width;
      reads = seen_reads v.fits.formula.form (written f.row v.value old) v.value x seen (v.fits.reads v.value old low long f.allowed);
      keeps = row_keeps l s r f.row v.value h.bytes (field_within l w m s i r f.row.size h v.plain.has.listed field) v.fits;
    })
    (subst (λ (z : RelocationSize). Holds m (place_at w s r.offset) (field_site s r.offset z v.value).bytes) (sym f.size) held)

-- an address that moves is more by the base, in all its eight bytes
pub address_reads : (l : Layout) (w : World) (m : Memory) (s : Item) (i : ℕ) (r : InputRelocation) → (h : IsItemLoaded l w m s) → KeepsAll l → (a : IsAddress l s i r) → FieldReads w m s r a.fits.formula.form ((a.value + w.base) % 2 ^ 64)
address_reads l w m s i r h all a =
    let x = (a.value + w.base) % 2 ^ 64 in
    let full = (a.fits.full a.moved.by.kind a.moved.by.width).1 in
    let low : x < 2 ^ 64 = omega arith in
    record {
      bytes = word 8 x;
      wide = length-word 8 x ∙ sym (ap form_width full);
      held = (moved_item l w m s h all).addresses i r a.value a.packed a.plain.has;
      reads = subst (λ (f : Form). Reads f (word 8 x) x) (sym full) (number-word 8 x low);
      keeps = subst (λ (f : Form). Keeps f (slice_range s.bytes r.offset (r.offset + form_width a.fits.formula.form)) (word 8 x)) (sym full) tt;
    }

-- the bytes of a field that is left to an entry
pub left_bytes : (l : Layout) (w : World) (m : Memory) (s : Item) (i : ℕ) (r : InputRelocation) → IsItemLoaded l w m s → KeepsAll l → (f : IsLeftField l s i r) → (bs : List ℕ) × Holds m (place_at w s r.offset) bs × ReadsFilledField (processor_of l.machine) InMemory w f.size f.number f.symbol f.addend bs
left_bytes l w m s i r h all f = (moved_item l w m s h all).left i r f.size f.number f.symbol f.addend f.plain.has

-- what an entry stores fills the field
pub left_reads : (l : Layout) (w : World) (m : Memory) (s : Item) (i : ℕ) (r : InputRelocation) (x : ℕ) → (h : IsItemLoaded l w m s) → (all : KeepsAll l) → (f : IsLeftField l s i r) → (form : Form) → form ≡ f.fits.formula.form → Reads form (left_bytes l w m s i r h all f).0 x → ((old : List ℕ) → Keeps form old (left_bytes l w m s i r h all f).0) → FieldReads w m s r form x
left_reads l w m s i r x h all f form same reads keeps =
    let b = left_bytes l w m s i r h all f in
    let size : size_width f.size ≡ field_width f.left.field.row = sym (ap size_width f.left.field.size) in
    record {
      bytes = b.0;
      wide = b.2.3 ∙ (size ∙ (f.fits.width ∙ sym (ap form_width same)));
      held = b.1;
      reads = reads;
      keeps = keeps (slice_range s.bytes r.offset (r.offset + form_width form));
    }

-- the formulas of x86-64 are the machine's
pub formula_known : (l : Layout) (n : ℕ) (f : Formula) → l.machine ≡ machine.X86_64 → x86_64_formula n ≡ Some f → formula_of l.machine n ≡ Some f
formula_known l n f x known = subst (λ (k : Machine). formula_of k n ≡ Some f) (sym x) known
