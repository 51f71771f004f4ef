-- The value in the field of a rewritten instruction, as the laws of the kinds take it.
use Rattle.wild_references.proofs.Common.{◌≡◌, ℕ, ◌+◌, ◌%◌, ◌^◌, ◌<◌, ◌≤◌, inl, true, length, refl, sym, ◌∙◌, arith, subst, false, Some, None, Ok, if◌then◌else◌, Machine, holds_at, InputRelocation, Layout, KeepsAll, place_of, kind_treatment, row_accepts, expression_of, plain, x86_64_row, plain_value, RelocationKind, RelocationKindInfo, Eight, Sign, Signed, Row, rewrite_of, field_in, term_of, weak_resolves_to_place, undefined_weak_target, term_by, NamesSymbol, template_start, Memory, World, IsMovable, IsAbsolute, Item, place_at, IsPlaceRelative, IsLoadedItem, is_expressed, HasTerm, names_merged}
use Rattle.wild_records.specs.Abi.Relocation.{r_x86_64_64}
use Rattle.wild_types.specs.declared.kind.Machine.TheVariants as machine
use Rattle.wild_slot.specs.declared.treatment.Treatment.TheVariants as treatments
use Rattle.wild_reloc.specs.declared.info.RelocationKind.TheVariants as kinds
use Rattle.wild_reloc.specs.declared.info.Width.{Width}
use Rattle.wild_types.proofs.LookupLemmas.{row_here}
use Rattle.wild_relax.proofs.RewriteLemmas as written
use Rattle.wild_layout.specs.Decide.{field_at}
use Rattle.wild_layout.proofs.DecisionLemmas.{term_alone}
use Rattle.wild_layout.specs.Values.{value_by}
use Rattle.wild_layout.proofs.ChoiceLemmas.{LiesInItsPattern, chosen_lies}
use Rattle.wild_references.proofs.KeptItems.{ItemLies, item_lies}
use Rattle.wild_references.proofs.WholeSections.{placed}
use Rattle.wild_references.proofs.RewrittenPlaces.{IsPlacedRow}
use Rattle.wild_layout.proofs.MergedLemmas.{term_plain}

-- ---- the item

pub lies_there : (l : Layout) (w : World) (m : Memory) (s : Item) → IsLoadedItem machine.X86_64 l w m s → ItemLies l s
lies_there l w m s h = item_lies l s h.loadable h.laid h.kept

-- the symbol of the relocation is one of the layout's
pub symbol_there : (l : Layout) (w : World) (m : Memory) (s : Item) (i : ℕ) (r : InputRelocation) (row : Row) (v : ℕ) → IsLoadedItem machine.X86_64 l w m s → (p : IsPlacedRow l s i r row v) → p.chosen.symbol < length l.symbols
symbol_there l w m s i r row v h p = holds_at (NamesSymbol l) s.relocations i r p.has.listed (lies_there l w m s h).symbols p.chosen.symbol p.chosen.named

-- ---- the field's new place

pub lies_in : (l : Layout) (s : Item) (i : ℕ) (r : InputRelocation) (row : Row) (v : ℕ) → IsPlacedRow l s i r row v → LiesInItsPattern row
lies_in l s i r row v p = chosen_lies l s r _ row p.chosen p.made.changes

-- the bytes and the field that it writes lie in its pattern
row_lies : (l : Layout) (s : Item) (i : ℕ) (r : InputRelocation) (row : Row) (v : ℕ) → IsPlacedRow l s i r row v → written.LiesIn row
row_lies l s i r row v p = written.lies_in row (lies_in l s i r row v p).fits

-- behind the start, as the field lies among the row's bytes
pub field_there : (l : Layout) (s : Item) (i : ℕ) (r : InputRelocation) (row : Row) (v : ℕ) → IsPlacedRow l s i r row v → field_at row r ≡ template_start row r + field_in row
field_there l s i r row v p =
    let before = p.stands.before in
    let back = (row_lies l s i r row v p).begins in
    omega (arith, before, back)

field_inside : (l : Layout) (s : Item) (i : ℕ) (r : InputRelocation) (row : Row) (v : ℕ) → IsPlacedRow l s i r row v → field_at row r ≤ length s.bytes
field_inside l s i r row v p =
    let e = field_there l s i r row v p in
    let lies = (row_lies l s i r row v p).field in
    let inside = p.stands.inside in
    omega (arith, e, lies, inside)

bytes_some : (l : Layout) (s : Item) (i : ℕ) (r : InputRelocation) (row : Row) (v : ℕ) → IsPlacedRow l s i r row v → 1 ≤ length s.bytes
bytes_some l s i r row v p =
    let some = (lies_in l s i r row v p).some in
    let inside = p.stands.inside in
    omega (arith, some, inside)

-- ---- the relocation as it is written: at the field's new place, with the new addend

abbrev pub written_as : Row → InputRelocation → InputRelocation
written_as row r = record { offset = field_at row r; number = r.number; symbol = r.symbol; addend = (rewrite_of row).addend r.addend; malformed = r.malformed }

-- a row with eight bytes has room for any address, and so has its type
abbrev pub wide_type : ℕ
wide_type = r_x86_64_64

abbrev pub wide : RelocationKindInfo
wide = plain kinds.Absolute Eight Signed

-- the base and the place, which does not wrap
pub record StandsBelow (l : Layout) (w : World) (s : Item) (row : Row) (r : InputRelocation) : Type 0 where
  pub place : place_at w s (written_as row r).offset ≡ w.base + place_of s.address (written_as row r)
  pub ends : w.base + place_of s.address (written_as row r) ≤ 2 ^ 64
  pub start : place_at w s (written_as row r).offset ≡ place_at w s (template_start row r) + field_in row

pub stands_below : (l : Layout) (w : World) (m : Memory) (s : Item) (i : ℕ) (r : InputRelocation) (row : Row) (v : ℕ) → IsLoadedItem machine.X86_64 l w m s → IsPlacedRow l s i r row v → StandsBelow l w s row r
stands_below l w m s i r row v h p =
    let t = lies_there l w m s h in
    let low = t.low in
    let ends = h.item.ends (bytes_some l s i r row v p) in
    let inside = field_inside l s i r row v p in
    let at = field_there l s i r row v p in
    record { place = omega (arith, low, inside); ends = omega (arith, low, ends, inside); start = omega (arith, at) }

-- the row of the relocation type that is written
pub info_is : (l : Layout) (w : World) (m : Memory) (s : Item) (i : ℕ) (r : InputRelocation) (row : Row) (v : ℕ) → IsLoadedItem machine.X86_64 l w m s → (p : IsPlacedRow l s i r row v) → x86_64_row (rewrite_of row).number ≡ Some p.made.written.info
info_is l w m s i r row v h p = row_here l.machine (rewrite_of row).number p.made.written.info h.on p.made.written.known

-- on x86-64 no place stands for a symbol
plain_at : (m : Machine) (l : Layout) (r : InputRelocation) (info : RelocationKindInfo) (p t : ℕ) → m ≡ machine.X86_64 → names_merged l r.symbol ≡ false → term_of l r.symbol info.kind ≡ Ok t → (if weak_resolves_to_place m l r info then Ok (undefined_weak_target r.number p) else term_by l r (expression_of info.kind).term) ≡ Ok t
plain_at machine.X86_64 l r info p t on plain h = term_plain l r (expression_of info.kind).term plain ∙ h
plain_at machine.AArch64 l r info p t on plain h = cc

-- the value, by the kind that is written, where all is
pub has_term : (l : Layout) (w : World) (m : Memory) (s : Item) (i : ℕ) (r : InputRelocation) (row : Row) (v : ℕ) (k : RelocationKind) (n : Width) (sign : Sign) → IsLoadedItem machine.X86_64 l w m s → KeepsAll l → (p : IsPlacedRow l s i r row v) → p.made.written.info ≡ plain k n sign → ((t : ℕ) → term_alone l r (plain k n sign) ≡ Ok t → term_of l r.symbol k ≡ Ok t)
    → kind_treatment l s.flags wide_type r.symbol wide k ≡ treatments.Value wide → (IsPlaceRelative (plain_value k) → IsMovable l.kind → IsAbsolute l p.chosen.symbol → w.base ≡ 0) → HasTerm l w m s (written_as row r) (plain k n sign) v
has_term l w m s i r row v k n sign h all p is term treated asked =
    let x = p.made.written in
    let below = stands_below l w m s i r row v h p in
    let given = subst (λ (f : RelocationKindInfo). term_alone l r f ≡ Ok x.term) is x.given in
    let value = subst (λ (f : RelocationKindInfo). value_by l f.kind x.term ((rewrite_of row).addend r.addend) ((s.address + field_at row r) % 2 ^ 64) ≡ v) is x.value in
    record {
      placed = placed machine.X86_64 l w m s h;
      present = inl all;
      room = (lies_there l w m s h).room;
      listed = holds_at (NamesSymbol l) s.relocations i r p.has.listed (lies_there l w m s h).symbols;
      number = wide_type;
      row = wide;
      treated = treated;
      row_that_accepts = subst (λ (j : Machine). row_accepts j (written_as row r) (plain k n sign) ≡ true) (sym h.on) refl;
      expressed = subst (λ (j : Machine). is_expressed j (expression_of k).term (expression_of k).subtrahend None ≡ true) (sym h.on) refl;
      term = x.term;
      given = plain_at l.machine l (written_as row r) (plain k n sign) (place_of s.address (written_as row r)) x.term h.on p.chosen.plain (term x.term given);
      value = value;
      place = below.place;
      ends = below.ends;
      addend = λ some. absurd (let none = p.chosen.plain in let both : true ≡ false = sym some ∙ none in cc);
      asked = λ relative movable j named absolute. (let same : j ≡ p.chosen.symbol = (let e : Some j ≡ Some p.chosen.symbol = sym named ∙ p.chosen.named in cc) in asked relative movable (subst (λ (y : ℕ). IsAbsolute l y) same absolute));
    }
