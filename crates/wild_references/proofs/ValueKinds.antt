-- The value that a relocation writes is what its expression gives, of S and of numbers.
use Rattle.wild_references.proofs.Common.{◌≡◌, ℕ, ◌+◌, ◌-◌, ◌*◌, ◌/◌, ◌%◌, ◌^◌, ◌≤◌, ◌⊎◌, inl, inr, Bool, true, false, refl, sym, ap, ◌∙◌, arith, subst, Option, Some, None, Ok, not, ◌&&◌, ◌||◌, if◌then◌else◌, w64, cast_unsigned, cases_Bool, slice_get_inside, InputRelocation, Layout, Symbol, ValueFlags, has_flag, absolute, interposable, dynamic, non_interposable, copy_relocation, export_dynamic, is_position_independent, is_shared_object, place_of, allocated, flags_at, address_treatment, kind_treatment, value_of, expression_of, paged, subtrahend_of, expressed, Value, SymbolAddress, Distance, PageDistance, FromTable, Size, Term, Subtrahend, PageMask, RelocationKind, RelocationKindInfo, RelocationSize, ByteSize, BitMasking, symbol_size, term_of, term_at, subtract, adds_symbol, weak_resolves_to_place, undefined_weak_target, term_by, World, Memory, IsSymbol, IsAbsolute, IsReplaceable, with_base, Item, page_of, IsSum, Gives, GivesLinked, IsPlaceRelative, TakesAddress, TakesOffset, table_at, HasStubAddress, IsPlaced, is_expressed, value_by_row, HasTerm, IsFollowed, RowGives, RowGivesLinked}
use Rattle.wild_types.specs.declared.kind.Machine.TheVariants as machine
use Rattle.wild_slot.specs.declared.treatment.Treatment.TheVariants as treatments
use Rattle.wild_slot.specs.Treatment.{is_sized, if_defined, size_treatment}
use Rattle.wild_reloc.specs.Agreement as shape
use Rattle.wild_reloc.specs.Formula.{TableDistance}
use Rattle.wild_reloc.specs.declared.expression.Term.TheVariants as term
use Rattle.wild_reloc.specs.declared.expression.Subtrahend.TheVariants as subtrahend
use Rattle.wild_reloc.specs.declared.info.PageMask.TheVariants as masks
use Rattle.wild_reloc.specs.declared.info.RelocationKind.TheVariants as kinds
use Rattle.wild_layout.specs.Values.{term_value}
use Rattle.wild_meaning.specs.Value.{HasOwnSize}
use Rattle.wild_meaning.specs.Formula.{IsExtent, IsOwnSum}
use Rattle.wild_references.proofs.OutputKinds.{library_is}
use Rattle.wild_references.proofs.SlotFlags.{symbol_fits, dynamic_interposable, listed_at}
use Rattle.wild_references.proofs.Symbols.{sized, replaceable_at, flags_are, definition_there}
use Rattle.wild_references.proofs.Moves.{sum_is, distance_is, table_is, moved_distance}
use Rattle.wild_references.proofs.MovingSymbols.{symbol_named, address_still, distance_still, size_kept, peeled}
use Rattle.wild_references.proofs.StubCode.{StubLaws, paged_on}
use Rattle.wild_references.proofs.Referents.{no_mask, with_mask, sized_is, own_parts, Refers, OwnRefers, symbol_value, refers, own_refers}
use Rattle.wild_references.specs.Laws.{GivesPart, GivesLinkedPart}

-- A as it is added
abbrev pub more : InputRelocation → ℕ
more r = cast_unsigned w64 r.addend

-- ---- rows

-- the value of a row of a kind, with a mask
pub value_is : (info : RelocationKindInfo) (k : RelocationKind) (mask : Option PageMask) → info.kind ≡ k → info.mask ≡ mask → value_by_row info ≡ value_of k mask info.size
value_is info k mask e f = ap (λ (j : RelocationKind). value_of j info.mask info.size) e ∙ ap (λ (o : Option PageMask). value_of k o info.size) f

pub taken_is : (info : RelocationKindInfo) (k : RelocationKind) (mask : Option PageMask) → info.kind ≡ k → info.mask ≡ mask → subtrahend_of info.kind info.mask ≡ subtrahend_of k mask
taken_is info k mask e f = ap (λ (j : RelocationKind). subtrahend_of j info.mask) e ∙ ap (λ (o : Option PageMask). subtrahend_of k o) f

-- a term other than S is the symbol's alone
term_plain : (l : Layout) (r : InputRelocation) (t : Term) → adds_symbol t ≡ false → term_by l r t ≡ term_value l r.symbol t
term_plain l r term.Symbol none = cc
term_plain l r other none = refl

-- a term that is neither S nor L is no place
pub plain_given : (l : Layout) (r : InputRelocation) (info : RelocationKindInfo) (p term : ℕ) → term_at l r info p ≡ Ok term → adds_symbol (expression_of info.kind).term ≡ false → term_of l r.symbol info.kind ≡ Ok term
plain_given l r info p term h none = by_own (weak_resolves_to_place l.machine l r info) refl h
  where
    by_own : (b : Bool) → weak_resolves_to_place l.machine l r info ≡ b → (if b then Ok (undefined_weak_target r.number p) else term_by l r (expression_of info.kind).term) ≡ Ok term → term_of l r.symbol info.kind ≡ Ok term
    by_own false e g = sym (term_plain l r (expression_of info.kind).term none) ∙ g
    by_own true e g = (let o = own_parts l.machine l r info e in let f : true ≡ false = sym o.symbol ∙ none in cc)

pub plain_term : (l : Layout) (w : World) (m : Memory) (s : Item) (r : InputRelocation) (info : RelocationKindInfo) (x : ℕ) → (h : HasTerm l w m s r info x) → adds_symbol (expression_of info.kind).term ≡ false → term_of l r.symbol info.kind ≡ Ok h.term
plain_term l w m s r info x h none = plain_given l r info (place_of s.address r) h.term h.given none

-- ---- S + A

-- a value that does not move is right
right_sum : (l : Layout) (w : World) (m : Memory) (s : Item) (r : InputRelocation) (info : RelocationKindInfo) (x : ℕ) (still : Bool) → (h : HasTerm l w m s r info x) → info.kind ≡ kinds.Absolute → (IsPlaceRelative (value_by_row info) → ⊥) → ((IsPlaceRelative (value_by_row info) → ⊥) → (i : ℕ) → r.symbol ≡ Some i → has_flag (flags_at l i) absolute ≡ still) → (w.base ≡ 0) ⊎ (still ≡ true)
right_sum l w m s r info x still h kind none flagged =
    let treated = subst (λ (k : RelocationKind). kind_treatment l s.flags h.number r.symbol h.row k ≡ treatments.Value h.row) kind h.treated in
    let i = symbol_named r.symbol (λ k. if_defined l h.row k (address_treatment l s.flags h.number h.row k)) h.row treated in
    elim (address_still l s h.number h.row i.0 h.room (peeled l h.row i.0 (address_treatment l s.flags h.number h.row i.0) (treatments.Value h.row) (definition_there l i.0 h.placed.symbols.named (h.listed i.0 i.1)) i.2)) [
      | inl fixed ↦ inl (h.placed.still fixed)
      | inr flag ↦ inr (sym (flagged none i.0 i.1) ∙ flag)
    ]

-- of an address, or a part of one
takes_address : (z : RelocationSize) → TakesAddress (shape.sized z SymbolAddress)
takes_address (ByteSize n) = tt
takes_address (BitMasking bits) = tt

not_relative : (z : RelocationSize) → IsPlaceRelative (shape.sized z SymbolAddress) → ⊥
not_relative (ByteSize n) h = h
not_relative (BitMasking bits) h = h

gives_of_sum : (z : RelocationSize) (l : Layout) (w : World) (m : Memory) (s : Item) (r : InputRelocation) (x : ℕ) → IsSum (shape.sized z SymbolAddress) l w m s r x → Gives (shape.sized z SymbolAddress) l w m s r x
gives_of_sum (ByteSize n) l w m s r x h = h
gives_of_sum (BitMasking bits) l w m s r x h = h

links_of_sum : (z : RelocationSize) (l : Layout) (w : World) (s : Item) (r : InputRelocation) (x : ℕ) → IsOwnSum (shape.sized z SymbolAddress) l w s r x → GivesLinked (shape.sized z SymbolAddress) l w s r x
links_of_sum (ByteSize n) l w s r x h = h
links_of_sum (BitMasking bits) l w s r x h = h

sum_of : (v : Value) (l : Layout) (w : World) (m : Memory) (s : Item) (r : InputRelocation) (a : ℕ) → (t : Refers v l w m s r a) → IsSum v l w m s r ((with_base t.still w.base a + more r) % 2 ^ 64)
sum_of v l w m s r a t = record { symbol = with_base t.still w.base a; denoted = t.referent; sum = refl }

own_sum : (v : Value) (l : Layout) (w : World) (s : Item) (r : InputRelocation) (a : ℕ) → (t : OwnRefers v l w s r a) → IsOwnSum v l w s r ((with_base t.still w.base a + more r) % 2 ^ 64)
own_sum v l w s r a t = record { symbol = with_base t.still w.base a; denoted = t.referent; sum = refl }

-- what a row says of S + A itself
record IsAddressRow (l : Layout) (w : World) (m : Memory) (s : Item) (r : InputRelocation) (info : RelocationKindInfo) (x term : ℕ) : Type 0 where
  value : value_by_row info ≡ shape.sized info.size SymbolAddress
  sum : (term + more r) % 2 ^ 64 ≡ x

address_row : (l : Layout) (w : World) (m : Memory) (s : Item) (r : InputRelocation) (info : RelocationKindInfo) (x : ℕ) → (h : HasTerm l w m s r info x) → (expression_of info.kind).term ≡ term.Symbol → (expression_of info.kind).subtrahend ≡ subtrahend.Nothing → IsAddressRow l w m s r info x h.term
address_row l w m s r info x h symbol nothing =
    let fit = subst (λ (u : Subtrahend). is_expressed l.machine (expression_of info.kind).term u info.mask ≡ true) nothing h.expressed in
    let mask = no_mask l.machine term.Symbol subtrahend.Nothing info.mask (subst (λ (t : Term). is_expressed l.machine t subtrahend.Nothing info.mask ≡ true) symbol fit) refl in
    let less_is : subtrahend_of info.kind info.mask ≡ subtrahend.Nothing = ap (λ (o : Option PageMask). paged o (expression_of info.kind).subtrahend) mask ∙ nothing in
    record {
      value = symbol_value info symbol ∙ ap (λ (u : Subtrahend). shape.sized info.size (expressed term.Symbol u)) less_is;
      sum = subst (λ (u : Subtrahend). subtract l u h.term r.addend (place_of s.address r) ≡ x) less_is h.value;
    }

pub gives_sum : StubLaws → (info : RelocationKindInfo) → info.kind ≡ kinds.Absolute → RowGives info
gives_sum law info kind = λ l w m s r x h f.
    let symbol : (expression_of info.kind).term ≡ term.Symbol = ap (λ (k : RelocationKind). (expression_of k).term) kind in
    let a = address_row l w m s r info x h symbol (ap (λ (k : RelocationKind). (expression_of k).subtrahend) kind) in
    let takes = subst TakesAddress (sym a.value) (takes_address info.size) in
    let t = refers law l w m s r info x h symbol takes f in
    let e = sum_is t.still w.base h.term (more r) (right_sum l w m s r info x t.still h kind (λ p. not_relative info.size (subst IsPlaceRelative a.value p)) t.flag) in
    let sum = subst (λ (n : ℕ). IsSum (value_by_row info) l w m s r n) (sym e ∙ a.sum) (sum_of (value_by_row info) l w m s r h.term t) in
    subst (λ (v : Value). Gives v l w m s r x) (sym a.value) (gives_of_sum info.size l w m s r x (subst (λ (v : Value). IsSum v l w m s r x) a.value sum))

-- the bits of it below a page
part_same : (b : Bool) (base a c x : ℕ) → base % 4096 ≡ 0 → (a + c) % 2 ^ 64 ≡ x → (with_base b base a + c) % 2 ^ 64 % 4096 ≡ x % 4096
part_same true base a c x pages e = omega (arith, e)
part_same false base a c x pages e = omega (arith, pages, e)

pub gives_part : StubLaws → (info : RelocationKindInfo) → (expression_of info.kind).term ≡ term.Symbol → (expression_of info.kind).subtrahend ≡ subtrahend.Nothing → (l : Layout) (w : World) (m : Memory) (s : Item) (r : InputRelocation) (x : ℕ) → w.base % 4096 ≡ 0 → HasTerm l w m s r info x → IsFollowed l r (value_by_row info) → GivesPart (value_by_row info) l w m s r x
gives_part law info symbol nothing l w m s r x pages h f =
    let a = address_row l w m s r info x h symbol nothing in
    let takes = subst TakesAddress (sym a.value) (takes_address info.size) in
    let t = refers law l w m s r info x h symbol takes f in
    let n = (with_base t.still w.base h.term + more r) % 2 ^ 64 in
    let sum = sum_of (value_by_row info) l w m s r h.term t in
    (n, subst (λ (v : Value). Gives v l w m s r n) (sym a.value) (gives_of_sum info.size l w m s r n (subst (λ (v : Value). IsSum v l w m s r n) a.value sum)), part_same t.still w.base h.term (more r) x pages a.sum)

-- ---- S + A - P, and S + A - GOT

pub right_relative : (l : Layout) (w : World) (m : Memory) (s : Item) (r : InputRelocation) (info : RelocationKindInfo) (x : ℕ) (still : Bool) → (h : HasTerm l w m s r info x) → (info.kind ≡ kinds.Relative) ⊎ (info.kind ≡ kinds.SymRelGotBase) → IsPlaceRelative (value_by_row info) → ((i : ℕ) → r.symbol ≡ Some i → still ≡ true → IsAbsolute l i) → (w.base ≡ 0) ⊎ (still ≡ false)
right_relative l w m s r info x still h kind relative absolute = by_symbol r.symbol refl
  where
    named_one : (i : ℕ) → r.symbol ≡ Some i → (w.base ≡ 0) ⊎ (still ≡ false)
    named_one i named =
        elim (cases_Bool still) [
          | inr f ↦ inr f
          | inl stays ↦ elim (cases_Bool (is_position_independent l.kind)) [
            | inr fixed ↦ inl (h.placed.still fixed)
            | inl moves ↦ inl (h.asked relative (h.placed.movable moves) i named (absolute i named stays))
          ]
        ]

    nameless : (info.kind ≡ kinds.Relative) ⊎ (info.kind ≡ kinds.SymRelGotBase) → kind_treatment l s.flags h.number None h.row info.kind ≡ treatments.Value h.row → w.base ≡ 0
    nameless (inl k) treated = h.placed.still (distance_still l s h.number h.row h.room (subst (λ (j : RelocationKind). kind_treatment l s.flags h.number None h.row j ≡ treatments.Value h.row) k treated))
    nameless (inr k) treated = (let none = subst (λ (j : RelocationKind). kind_treatment l s.flags h.number None h.row j ≡ treatments.Value h.row) k treated in cc)

    by_symbol : (o : Option ℕ) → r.symbol ≡ o → (w.base ≡ 0) ⊎ (still ≡ false)
    by_symbol None e = inl (nameless kind (subst (λ (o : Option ℕ). kind_treatment l s.flags h.number o h.row info.kind ≡ treatments.Value h.row) e h.treated))
    by_symbol (Some i) e = named_one i e

-- the distance of two pages
page_distance_is : (b : Bool) (base a c p : ℕ) → base % 4096 ≡ 0 → (base ≡ 0) ⊎ (b ≡ false) → base + p ≤ 2 ^ 64 → ((a + c) % 2 ^ 64 / 4096 * 4096 + (2 ^ 64 - p / 4096 * 4096)) % 2 ^ 64 ≡ (page_of ((with_base b base a + c) % 2 ^ 64) + (2 ^ 64 - page_of (base + p))) % 2 ^ 64
page_distance_is true base a c p pages (inl z) ends = omega (arith, z, ends)
page_distance_is false base a c p pages (inl z) ends = omega (arith, z, ends)
page_distance_is true base a c p pages (inr f) ends = cc
page_distance_is false base a c p pages (inr f) ends = omega (arith, pages, ends)

-- which of the two it is
record IsDistanceRow (l : Layout) (w : World) (m : Memory) (s : Item) (r : InputRelocation) (info : RelocationKindInfo) (x term : ℕ) : Type 0 where
  value : value_by_row info ≡ Distance
  distance : ((term + more r) % 2 ^ 64 + (2 ^ 64 - place_of s.address r)) % 2 ^ 64 ≡ x

record IsPageRow (l : Layout) (w : World) (m : Memory) (s : Item) (r : InputRelocation) (info : RelocationKindInfo) (x term : ℕ) : Type 0 where
  on : l.machine ≡ machine.AArch64
  value : value_by_row info ≡ PageDistance
  distance : ((term + more r) % 2 ^ 64 / 4096 * 4096 + (2 ^ 64 - place_of s.address r / 4096 * 4096)) % 2 ^ 64 ≡ x

distance_row : (l : Layout) (w : World) (m : Memory) (s : Item) (r : InputRelocation) (info : RelocationKindInfo) (x : ℕ) → (h : HasTerm l w m s r info x) → info.kind ≡ kinds.Relative → IsDistanceRow l w m s r info x h.term ⊎ IsPageRow l w m s r info x h.term
distance_row l w m s r info x h kind = by_mask info.mask refl (subst (λ (k : RelocationKind). is_expressed l.machine (expression_of k).term (expression_of k).subtrahend info.mask ≡ true) kind h.expressed)
  where
    paged_row : (mask : PageMask) → info.mask ≡ Some mask → subtrahend_of kinds.Relative (Some mask) ≡ subtrahend.PageOfPlace → l.machine ≡ machine.AArch64 → IsPageRow l w m s r info x h.term
    paged_row mask e less on =
        let is = taken_is info kinds.Relative (Some mask) kind e ∙ less in
        record {
          on = on;
          value = symbol_value info (ap (λ (k : RelocationKind). (expression_of k).term) kind) ∙ (ap (λ (u : Subtrahend). shape.sized info.size (expressed term.Symbol u)) is ∙ sized_is info.size PageDistance refl);
          distance = subst (λ (u : Subtrahend). subtract l u h.term r.addend (place_of s.address r) ≡ x) is h.value;
        }

    by_mask : (o : Option PageMask) → info.mask ≡ o → is_expressed l.machine term.Symbol subtrahend.Place o ≡ true → IsDistanceRow l w m s r info x h.term ⊎ IsPageRow l w m s r info x h.term
    by_mask None e f =
        let is : subtrahend_of info.kind info.mask ≡ subtrahend.Place = taken_is info kinds.Relative None kind e in
        inl (record {
          value = symbol_value info (ap (λ (k : RelocationKind). (expression_of k).term) kind) ∙ (ap (λ (u : Subtrahend). shape.sized info.size (expressed term.Symbol u)) is ∙ sized_is info.size Distance refl);
          distance = subst (λ (u : Subtrahend). subtract l u h.term r.addend (place_of s.address r) ≡ x) is h.value;
        })
    by_mask (Some masks.SymbolPlusAddendAndPosition) e f = inr (paged_row masks.SymbolPlusAddendAndPosition e refl (with_mask l.machine term.Symbol subtrahend.Place masks.SymbolPlusAddendAndPosition f).0)
    by_mask (Some masks.GotEntryAndPosition) e f = (let no = (with_mask l.machine term.Symbol subtrahend.Place masks.GotEntryAndPosition f).1 in cc)
    by_mask (Some masks.GotBase) e f = (let no = (with_mask l.machine term.Symbol subtrahend.Place masks.GotBase f).1 in cc)

pub gives_distance : StubLaws → (info : RelocationKindInfo) → info.kind ≡ kinds.Relative → RowGives info
gives_distance law info kind = λ l w m s r x h f. by_row law info kind l w m s r x h f (distance_row l w m s r info x h kind)
  where
    by_row : StubLaws → (info : RelocationKindInfo) → info.kind ≡ kinds.Relative → (l : Layout) (w : World) (m : Memory) (s : Item) (r : InputRelocation) (x : ℕ) → (h : HasTerm l w m s r info x) → IsFollowed l r (value_by_row info) → IsDistanceRow l w m s r info x h.term ⊎ IsPageRow l w m s r info x h.term → Gives (value_by_row info) l w m s r x
    by_row law info kind l w m s r x h f (inl d) =
        let t = refers law l w m s r info x h (ap (λ (k : RelocationKind). (expression_of k).term) kind) (subst TakesAddress (sym d.value) tt) f in
        let e = distance_is t.still w.base h.term (more r) (place_of s.address r) (right_relative l w m s r info x t.still h (inl kind) (subst IsPlaceRelative (sym d.value) tt) t.absolute) h.ends in
        let n = (with_base t.still w.base h.term + more r) % 2 ^ 64 in
        let at = ap (λ (p : ℕ). (n + (2 ^ 64 - p)) % 2 ^ 64) (sym h.place) in
        subst (λ (v : Value). Gives v l w m s r x) (sym d.value) (n, subst (λ (v : Value). IsSum v l w m s r n) d.value (sum_of (value_by_row info) l w m s r h.term t), sym d.distance ∙ e ∙ at)
    by_row law info kind l w m s r x h f (inr d) =
        let t = refers law l w m s r info x h (ap (λ (k : RelocationKind). (expression_of k).term) kind) (subst TakesAddress (sym d.value) tt) f in
        let pages = (paged_on l w h.placed.paged d.on).pages in
        let e = page_distance_is t.still w.base h.term (more r) (place_of s.address r) pages (right_relative l w m s r info x t.still h (inl kind) (subst IsPlaceRelative (sym d.value) tt) t.absolute) h.ends in
        let n = (with_base t.still w.base h.term + more r) % 2 ^ 64 in
        let at = ap (λ (p : ℕ). (page_of n + (2 ^ 64 - page_of p)) % 2 ^ 64) (sym h.place) in
        subst (λ (v : Value). Gives v l w m s r x) (sym d.value) (n, subst (λ (v : Value). IsSum v l w m s r n) d.value (sum_of (value_by_row info) l w m s r h.term t), sym d.distance ∙ e ∙ at)

-- what is less the table
record IsTableRow (l : Layout) (w : World) (m : Memory) (s : Item) (r : InputRelocation) (info : RelocationKindInfo) (x term : ℕ) : Type 0 where
  value : value_by_row info ≡ FromTable
  distance : ((term + more r) % 2 ^ 64 + (2 ^ 64 - l.got_base)) % 2 ^ 64 ≡ x

table_row : (l : Layout) (w : World) (m : Memory) (s : Item) (r : InputRelocation) (info : RelocationKindInfo) (x : ℕ) → (h : HasTerm l w m s r info x) → info.kind ≡ kinds.SymRelGotBase → IsTableRow l w m s r info x h.term
table_row l w m s r info x h kind =
    let mask = no_mask l.machine term.Symbol subtrahend.GotBase info.mask (subst (λ (k : RelocationKind). is_expressed l.machine (expression_of k).term (expression_of k).subtrahend info.mask ≡ true) kind h.expressed) refl in
    let less : subtrahend_of info.kind info.mask ≡ subtrahend.GotBase = taken_is info kinds.SymRelGotBase None kind mask in
    record {
      value = symbol_value info (ap (λ (k : RelocationKind). (expression_of k).term) kind) ∙ (ap (λ (u : Subtrahend). shape.sized info.size (expressed term.Symbol u)) less ∙ sized_is info.size FromTable refl);
      distance = subst (λ (u : Subtrahend). subtract l u h.term r.addend (place_of s.address r) ≡ x) less h.value;
    }

pub gives_from_table : StubLaws → (info : RelocationKindInfo) → info.kind ≡ kinds.SymRelGotBase → RowGives info
gives_from_table law info kind = λ l w m s r x h f.
    let d = table_row l w m s r info x h kind in
    let t = refers law l w m s r info x h (ap (λ (k : RelocationKind). (expression_of k).term) kind) (subst TakesAddress (sym d.value) tt) f in
    let e = table_is t.still w.base h.term (more r) l.got_base (right_relative l w m s r info x t.still h (inr kind) (subst IsPlaceRelative (sym d.value) tt) t.absolute) h.placed.got in
    let n = (with_base t.still w.base h.term + more r) % 2 ^ 64 in
    subst (λ (v : Value). Gives v l w m s r x) (sym d.value) (n, subst (λ (v : Value). IsSum v l w m s r n) d.value (sum_of (value_by_row info) l w m s r h.term t), sym d.distance ∙ e)

-- ---- the same with the own symbol

-- such an expression takes no offset
no_stub_needed : (v : Value) (l : Layout) (i : ℕ) → (TakesOffset v → ⊥) → (HasStubAddress l i → ⊥) ⊎ TakesOffset v → HasStubAddress l i → ⊥
no_stub_needed v l i none (inl alone) = alone
no_stub_needed v l i none (inr offset) = absurd (none offset)

no_offset : (z : RelocationSize) → TakesOffset (shape.sized z SymbolAddress) → ⊥
no_offset (ByteSize n) h = h
no_offset (BitMasking bits) h = h

-- what the own symbol's address is of a row of S + A
own_of_address : (info : RelocationKindInfo) (l : Layout) (w : World) (m : Memory) (s : Item) (r : InputRelocation) (x i : ℕ) → (symbol : (expression_of info.kind).term ≡ term.Symbol) → (h : HasTerm l w m s r info x) → IsAddressRow l w m s r info x h.term → r.symbol ≡ Some i → IsReplaceable l i true → (HasStubAddress l i → ⊥) ⊎ TakesOffset (value_by_row info) → OwnRefers (value_by_row info) l w s r h.term
own_of_address info l w m s r x i symbol h a named whose alone = own_refers l w m s r info x i h symbol named whose (no_stub_needed (value_by_row info) l i (λ o. no_offset info.size (subst TakesOffset a.value o)) alone)

pub links_sum : (info : RelocationKindInfo) → info.kind ≡ kinds.Absolute → RowGivesLinked info
links_sum info kind = λ l w m s r x i h named whose alone.
    let symbol : (expression_of info.kind).term ≡ term.Symbol = ap (λ (k : RelocationKind). (expression_of k).term) kind in
    let a = address_row l w m s r info x h symbol (ap (λ (k : RelocationKind). (expression_of k).subtrahend) kind) in
    let t = own_of_address info l w m s r x i symbol h a named whose alone in
    let e = sum_is t.still w.base h.term (more r) (right_sum l w m s r info x t.still h kind (λ p. not_relative info.size (subst IsPlaceRelative a.value p)) t.flag) in
    let sum = subst (λ (n : ℕ). IsOwnSum (value_by_row info) l w s r n) (sym e ∙ a.sum) (own_sum (value_by_row info) l w s r h.term t) in
    subst (λ (v : Value). GivesLinked v l w s r x) (sym a.value) (links_of_sum info.size l w s r x (subst (λ (v : Value). IsOwnSum v l w s r x) a.value sum))

-- the bits of it below a page
pub links_part : (info : RelocationKindInfo) → (expression_of info.kind).term ≡ term.Symbol → (expression_of info.kind).subtrahend ≡ subtrahend.Nothing → (l : Layout) (w : World) (m : Memory) (s : Item) (r : InputRelocation) (x i : ℕ) → w.base % 4096 ≡ 0 → HasTerm l w m s r info x → r.symbol ≡ Some i → IsReplaceable l i true → (HasStubAddress l i → ⊥) ⊎ TakesOffset (value_by_row info) → GivesLinkedPart (value_by_row info) l w s r x
links_part info symbol nothing l w m s r x i pages h named whose alone =
    let a = address_row l w m s r info x h symbol nothing in
    let t = own_of_address info l w m s r x i symbol h a named whose alone in
    let n = (with_base t.still w.base h.term + more r) % 2 ^ 64 in
    let sum = own_sum (value_by_row info) l w s r h.term t in
    (n, subst (λ (v : Value). GivesLinked v l w s r n) (sym a.value) (links_of_sum info.size l w s r n (subst (λ (v : Value). IsOwnSum v l w s r n) a.value sum)), part_same t.still w.base h.term (more r) x pages a.sum)

pub links_distance : (info : RelocationKindInfo) → info.kind ≡ kinds.Relative → RowGivesLinked info
links_distance info kind = λ l w m s r x i h named whose alone. by_row info kind l w m s r x i h named whose alone (distance_row l w m s r info x h kind)
  where
    by_row : (info : RelocationKindInfo) → info.kind ≡ kinds.Relative → (l : Layout) (w : World) (m : Memory) (s : Item) (r : InputRelocation) (x i : ℕ) → (h : HasTerm l w m s r info x) → r.symbol ≡ Some i → IsReplaceable l i true → (HasStubAddress l i → ⊥) ⊎ TakesOffset (value_by_row info) → IsDistanceRow l w m s r info x h.term ⊎ IsPageRow l w m s r info x h.term → GivesLinked (value_by_row info) l w s r x
    by_row info kind l w m s r x i h named whose alone (inl d) =
        let t = own_refers l w m s r info x i h (ap (λ (k : RelocationKind). (expression_of k).term) kind) named whose (no_stub_needed (value_by_row info) l i (λ o. subst TakesOffset d.value o) alone) in
        let e = distance_is t.still w.base h.term (more r) (place_of s.address r) (right_relative l w m s r info x t.still h (inl kind) (subst IsPlaceRelative (sym d.value) tt) t.absolute) h.ends in
        let n = (with_base t.still w.base h.term + more r) % 2 ^ 64 in
        let at = ap (λ (p : ℕ). (n + (2 ^ 64 - p)) % 2 ^ 64) (sym h.place) in
        subst (λ (v : Value). GivesLinked v l w s r x) (sym d.value) (n, subst (λ (v : Value). IsOwnSum v l w s r n) d.value (own_sum (value_by_row info) l w s r h.term t), sym d.distance ∙ e ∙ at)
    by_row info kind l w m s r x i h named whose alone (inr d) =
        let t = own_refers l w m s r info x i h (ap (λ (k : RelocationKind). (expression_of k).term) kind) named whose (no_stub_needed (value_by_row info) l i (λ o. subst TakesOffset d.value o) alone) in
        let pages = (paged_on l w h.placed.paged d.on).pages in
        let e = page_distance_is t.still w.base h.term (more r) (place_of s.address r) pages (right_relative l w m s r info x t.still h (inl kind) (subst IsPlaceRelative (sym d.value) tt) t.absolute) h.ends in
        let n = (with_base t.still w.base h.term + more r) % 2 ^ 64 in
        let at = ap (λ (p : ℕ). (page_of n + (2 ^ 64 - page_of p)) % 2 ^ 64) (sym h.place) in
        subst (λ (v : Value). GivesLinked v l w s r x) (sym d.value) (n, subst (λ (v : Value). IsOwnSum v l w s r n) d.value (own_sum (value_by_row info) l w s r h.term t), sym d.distance ∙ e ∙ at)

pub links_from_table : (info : RelocationKindInfo) → info.kind ≡ kinds.SymRelGotBase → RowGivesLinked info
links_from_table info kind = λ l w m s r x i h named whose alone.
    let d = table_row l w m s r info x h kind in
    let t = own_refers l w m s r info x i h (ap (λ (k : RelocationKind). (expression_of k).term) kind) named whose (no_stub_needed (value_by_row info) l i (λ o. subst TakesOffset d.value o) alone) in
    let e = table_is t.still w.base h.term (more r) l.got_base (right_relative l w m s r info x t.still h (inr kind) (subst IsPlaceRelative (sym d.value) tt) t.absolute) h.placed.got in
    let n = (with_base t.still w.base h.term + more r) % 2 ^ 64 in
    subst (λ (v : Value). GivesLinked v l w s r x) (sym d.value) (n, subst (λ (v : Value). IsOwnSum v l w s r n) d.value (own_sum (value_by_row info) l w s r h.term t), sym d.distance ∙ e)

-- ---- GOT + A - P

pub gives_table : (info : RelocationKindInfo) → info.kind ≡ kinds.GotBaseRelative → RowGives info
gives_table info kind = λ l w m s r x h f.
    let mask = no_mask l.machine term.GotBase subtrahend.Place info.mask (subst (λ (k : RelocationKind). is_expressed l.machine (expression_of k).term (expression_of k).subtrahend info.mask ≡ true) kind h.expressed) refl in
    let is : value_by_row info ≡ TableDistance = value_is info kinds.GotBaseRelative None kind mask ∙ sized_is info.size TableDistance refl in
    let less : subtrahend_of info.kind info.mask ≡ subtrahend.Place = taken_is info kinds.GotBaseRelative None kind mask in
    let plain = plain_term l w m s r info x h (ap (λ (k : RelocationKind). adds_symbol (expression_of k).term) kind) in
    let given : Ok l.got_base ≡ Ok h.term = subst (λ (k : RelocationKind). term_of l r.symbol k ≡ Ok h.term) kind plain in
    let g : l.got_base ≡ h.term = cc in
    let value : ((h.term + more r) % 2 ^ 64 + (2 ^ 64 - place_of s.address r)) % 2 ^ 64 ≡ x = subst (λ (u : Subtrahend). subtract l u h.term r.addend (place_of s.address r) ≡ x) less h.value in
    let e = moved_distance w.base l.got_base (more r) (place_of s.address r) h.ends in
    let here = ap (λ (n : ℕ). ((n + more r) % 2 ^ 64 + (2 ^ 64 - place_of s.address r)) % 2 ^ 64) g in
    let at = ap (λ (p : ℕ). (table_at l w + more r + (2 ^ 64 - p)) % 2 ^ 64) (sym h.place) in
    subst (λ (v : Value). Gives v l w m s r x) (sym is) (sym (here ∙ value) ∙ e ∙ at)

-- ---- sizes

-- a size that is not left to an entry is the own symbol's
own_size : (l : Layout) (w : World) (m : Memory) (s : Item) (i : ℕ) (symbol : Symbol) → IsPlaced l w m → IsSymbol l i symbol → allocated s.flags ≡ true → is_sized l s.flags i ≡ false → IsReplaceable l i false
own_size l w m s i symbol p listed room kept =
    let whose = replaceable_at l i symbol p.symbols.named listed in
    let c = whose.definition in
    let f = flags_are l i c whose.symbol whose.defined whose.listed in
    let fits = symbol_fits l i whose.symbol p.symbols (listed_at l i c whose.symbol whose.defined whose.listed) in
    let open_one : has_flag (flags_at l i) dynamic ≡ true → interposable (flags_at l i) ≡ true = λ d.
    ap (λ (x : ValueFlags). interposable x) f ∙ dynamic_interposable whose.symbol fits.interposable (sym (ap (λ (x : ValueFlags). has_flag x dynamic) f) ∙ d) in
    let none = by_tests (allocated s.flags) (has_flag (flags_at l i) non_interposable) (has_flag (flags_at l i) dynamic) (has_flag (flags_at l i) copy_relocation) (is_shared_object l.kind) (has_flag (flags_at l i) export_dynamic) room open_one kept in
    subst (λ (b : Bool). IsReplaceable l i b) (ap (λ (b : Bool). (has_flag (flags_at l i) dynamic && not (has_flag (flags_at l i) copy_relocation)) || (b && (has_flag (flags_at l i) export_dynamic && not (has_flag (flags_at l i) non_interposable)))) (library_is l.kind) ∙ none) whose
  where
    never : (fixed library : Bool) → not fixed ≡ true → (true && not fixed && (true || library)) ≡ false → ⊥
    never false library e h = cc
    never true library e h = cc

    by_tests : (a fixed d copied library exported : Bool) → a ≡ true → (d ≡ true → not fixed ≡ true) → (a && not fixed && (d || library)) ≡ false → ((d && not copied) || (library && (exported && not fixed))) ≡ false
    by_tests false fixed d copied library exported e f h = cc
    by_tests true fixed true copied library exported e f h = absurd (never fixed library (f refl) h)
    by_tests true true false copied true true e f h = refl
    by_tests true true false copied true false e f h = refl
    by_tests true false false copied true exported e f h = cc
    by_tests true fixed false copied false exported e f h = refl

pub gives_size : (info : RelocationKindInfo) → info.kind ≡ kinds.SymbolSize → RowGives info
gives_size info kind = λ l w m s r x h f.
    let mask = no_mask l.machine term.Size subtrahend.Nothing info.mask (subst (λ (k : RelocationKind). is_expressed l.machine (expression_of k).term (expression_of k).subtrahend info.mask ≡ true) kind h.expressed) refl in
    let is : value_by_row info ≡ Size = value_is info kinds.SymbolSize None kind mask ∙ sized_is info.size Size refl in
    let less = taken_is info kinds.SymbolSize None kind mask in
    let treated = subst (λ (k : RelocationKind). kind_treatment l s.flags h.number r.symbol h.row k ≡ treatments.Value h.row) kind h.treated in
    let i = symbol_named r.symbol (λ k. if_defined l h.row k (size_treatment l s.flags h.row k)) h.row treated in
    let z = slice_get_inside l.symbols i.0 (h.listed i.0 i.1) in
    let own = own_size l w m s i.0 z.0 h.placed z.1 h.room (size_kept l s h.row i.0 (peeled l h.row i.0 (size_treatment l s.flags h.row i.0) (treatments.Value h.row) (definition_there l i.0 h.placed.symbols.named (h.listed i.0 i.1)) i.2)) in
    let plain : term_of l r.symbol info.kind ≡ Ok h.term = plain_term l w m s r info x h (ap (λ (k : RelocationKind). adds_symbol (expression_of k).term) kind) in
    let given : term_of l (Some i.0) kinds.SymbolSize ≡ Ok h.term = subst (λ (o : Option ℕ). term_of l o kinds.SymbolSize ≡ Ok h.term) i.1 (subst (λ (k : RelocationKind). term_of l r.symbol k ≡ Ok h.term) kind plain) in
    let g : symbol_size l i.0 ≡ h.term = cc in
    let size : IsExtent l w (Some i.0) h.term = inr (own, subst (λ (n : ℕ). HasOwnSize l i.0 n) g (sized l i.0 z.0 h.placed.symbols.named z.1)) in
    let value : (h.term + more r) % 2 ^ 64 ≡ x = subst (λ (u : Subtrahend). subtract l u h.term r.addend (place_of s.address r) ≡ x) less h.value in
    subst (λ (v : Value). Gives v l w m s r x) (sym is) (h.term, subst (λ (o : Option ℕ). IsExtent l w o h.term) (sym i.1) size, inl (sym value))
