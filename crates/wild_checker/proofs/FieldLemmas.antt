-- A field that is found to have a term has its value in memory.
use Rattle.wild_checker.proofs.Common.{◌≡◌, ℕ, ◌+◌, ◌-◌, ◌%◌, ◌^◌, ◌<◌, ◌≤◌, ◌⊎◌, inl, inr, Bool, true, false, ◌&&◌, List, length, nat_le, nat_lt, refl, sym, ap, ◌∙◌, arith, subst, All, if◌then◌else◌, ◌==◌, ◌||◌, slice_index, slice_range, eqb-true, leb-true, and_parts, and_from, word, RelocationKindInfo, RelocationSize, ByteSize, BitMasking, WidthsHold, field_width, expression_of, InputRelocation, InputSection, Machine, Item, Memory, World, Holds, place_at, form_width, Atom, Term, value_of, Follows, Symbolic, term_at, Loaded, has_bytes}
use Rattle.std.proofs.lemmas.Bool.{ltb-true, or_left}
use Rattle.std.proofs.lemmas.Bool.Decides.{nat_tests}
use Rattle.wild_words.proofs.Basics.{length-range}
use Rattle.wild_reloc.specs.declared.expression.Class.{Class}
use Rattle.wild_reloc.specs.declared.expression.Class.TheVariants as class
use Rattle.wild_reloc.specs.declared.info.Width.TheVariants.{Zero, One, Two, Four, Eight}
use Rattle.wild_reloc.specs.declared.range.AllowedRange.{AllowedRange}
use Rattle.wild_reloc.specs.Field.{is_aligned, allows, size_written, written}
use Rattle.wild_reloc.specs.Formula.{Reads, Keeps}
use Rattle.wild_reloc.specs.Range.{contains}
use Rattle.wild_loader.proofs.MappedSegments.{byte_below}
use Rattle.wild_meaning.specs.Field.{FieldReads}
use Rattle.wild_terms.specs.declared.term.Atom.TheVariants as atoms
use Rattle.wild_terms.specs.Values.{atom_value}
use Rattle.wild_references.specs.PlainLaws.{HasFormula}
use Rattle.wild_checker.specs.Slots.{is_known}
use Rattle.wild_checker.specs.References.{is_eight, is_whole, is_part, old_field, number_holds, holds_by, value_holds, is_inside}
use Rattle.wild_checker.proofs.ByteLemmas.{bytes_held}
use Rattle.wild_checker.proofs.SlotLemmas.{the_term}

-- ---- where the field is

pub record IsInside (s : InputSection) (r : InputRelocation) (row : RelocationKindInfo) : Type 0 where
  pub some : 0 < field_width row
  pub within : r.offset + field_width row ≤ length s.bytes
  pub low : s.address + r.offset < 2 ^ 64

pub inside : (s : InputSection) (r : InputRelocation) (row : RelocationKindInfo) → is_inside s r row ≡ true → IsInside s r row
inside s r row h =
    let a = and_parts (nat_lt 0 (field_width row)) (nat_le (r.offset + field_width row) (length s.bytes) && nat_lt (s.address + r.offset) (2 ^ 64)) h in
    let b = and_parts (nat_le (r.offset + field_width row) (length s.bytes)) (nat_lt (s.address + r.offset) (2 ^ 64)) a.1 in
    record { some = ltb-true 0 (field_width row) a.0; within = leb-true (r.offset + field_width row) (length s.bytes) b.0; low = ltb-true (s.address + r.offset) (2 ^ 64) b.1 }

-- ---- what memory has

-- memory has the bytes that the row writes for a value that it allows
pub record IsWritten (w : World) (m : Memory) (s : InputSection) (r : InputRelocation) (row : RelocationKindInfo) (v : ℕ) : Type 0 where
  pub allowed : allows row v ≡ true
  pub held : Holds m (w.base + (s.address + r.offset)) (written row v (old_field s r row))

-- a field of all 64 bits
eight_written : (z : RelocationSize) (v : ℕ) (old : List ℕ) → is_eight z ≡ true → size_written z v old ≡ word 8 v
eight_written (ByteSize Zero) v old h = cc
eight_written (ByteSize One) v old h = cc
eight_written (ByteSize Two) v old h = cc
eight_written (ByteSize Four) v old h = cc
eight_written (ByteSize Eight) v old h = refl
eight_written (BitMasking b) v old h = cc

in_range : (range : AllowedRange) (v : ℕ) → range.below ≡ 2 ^ 63 → range.above ≡ 2 ^ 63 → contains range v ≡ true
in_range range v below above =
    let test : (nat_lt v (2 ^ 63) || nat_le (2 ^ 64 - 2 ^ 63) v) ≡ true = by (nat_lt v (2 ^ 63)) refl in
    rw (below, above) test
  where
    by : (b : Bool) → nat_lt v (2 ^ 63) ≡ b → (b || nat_le (2 ^ 64 - 2 ^ 63) v) ≡ true
    by true e = refl
    by false e = grind (arith, nat_tests, e)

record IsWhole (row : RelocationKindInfo) : Type 0 where
  eight : is_eight row.size ≡ true
  any : (v : ℕ) → allows row v ≡ true

whole : (row : RelocationKindInfo) → is_whole row ≡ true → IsWhole row
whole row h =
    let a = and_parts (is_eight row.size) (nat_le row.alignment 1 && (row.range.below == 2 ^ 63 && row.range.above == 2 ^ 63)) h in
    let b = and_parts (nat_le row.alignment 1) (row.range.below == 2 ^ 63 && row.range.above == 2 ^ 63) a.1 in
    let c = and_parts (row.range.below == 2 ^ 63) (row.range.above == 2 ^ 63) b.1 in
    record {
      eight = a.0;
      any = λ v. and_from (is_aligned row.alignment v) (contains row.range v) (or_left (nat_le row.alignment 1) (v % row.alignment == 0) b.0) (in_range row.range v (eqb-true row.range.below (2 ^ 63) c.0) (eqb-true row.range.above (2 ^ 63) c.1));
    }

-- the value, or for a field with the offset in a page a number with the same one
pub record IsShown (w : World) (m : Memory) (s : InputSection) (r : InputRelocation) (row : RelocationKindInfo) (v : ℕ) : Type 0 where
  pub number : ℕ
  pub below : number < 2 ^ 64
  pub written : IsWritten w m s r row number
  pub same : (number ≡ v) ⊎ (((expression_of row.kind).class ≡ class.Part) × (number % 4096 ≡ v % 4096))

number_written : (w : World) (m : Memory) (t : Symbolic) (s : InputSection) (r : InputRelocation) (row : RelocationKindInfo) (n : ℕ) → Follows w t m → number_holds t s r row n ≡ true → IsWritten w m s r row n
number_written w m t s r row n follows h =
    let both = and_parts (allows row n) (has_bytes t (s.address + r.offset) (written row n (old_field s r row))) h in
    record { allowed = both.0; held = bytes_held w m t (s.address + r.offset) (written row n (old_field s r row)) follows both.1 }

is_part_class : (c : Class) → is_part c ≡ true → c ≡ class.Part
is_part_class class.Part h = refl
is_part_class other h = cc

low_sum : (b n : ℕ) → b % 4096 ≡ 0 → n % 4096 % 4096 ≡ (b + n) % 2 ^ 64 % 4096
low_sum b n e = omega (arith, e)

pub value_shown : (k : Loaded) (w : World) (m : Memory) (s : InputSection) (r : InputRelocation) (row : RelocationKindInfo) (x : Term) → Follows w k.memory m → (k.layout.page_size % 4096 ≡ 0 → w.base % 4096 ≡ 0) → x.plus < 2 ^ 64 → value_holds k s r row x ≡ true → IsShown w m s r row (value_of w x)
value_shown k w m s r row x follows pages low h = by (is_whole row) refl h
  where
    t : Symbolic
    t = k.memory

    by_atom : (a : Atom) → holds_by k s r row a x.plus ≡ true → IsShown w m s r row ((atom_value w a + x.plus) % 2 ^ 64)
    by_atom atoms.Zero h = record { number = x.plus; below = low; written = number_written w m t s r row x.plus follows h; same = inl (zero x.plus low) }
      where
        zero : (n : ℕ) → n < 2 ^ 64 → n ≡ (0 + n) % 2 ^ 64
        zero n l = omega (arith, l)
    by_atom atoms.Base h =
        let a = and_parts (is_part (expression_of row.kind).class) (k.layout.page_size % 4096 == 0 && number_holds t s r row (x.plus % 4096)) h in
        let b = and_parts (k.layout.page_size % 4096 == 0) (number_holds t s r row (x.plus % 4096)) a.1 in
        let page = pages (eqb-true (k.layout.page_size % 4096) 0 b.0) in
        record { number = x.plus % 4096; below = omega arith; written = number_written w m t s r row (x.plus % 4096) follows b.1; same = inr (is_part_class (expression_of row.kind).class a.0, low_sum w.base x.plus page) }
    by_atom other h = cc

    by : (b : Bool) → is_whole row ≡ b → (if b then is_known (term_at t (s.address + r.offset) 8) x else holds_by k s r row x.atom x.plus) ≡ true → IsShown w m s r row (value_of w x)
    by true e h =
        let all = whole row e in
        let held = follows.terms (s.address + r.offset) 8 x (omega arith) (the_term (term_at t (s.address + r.offset) 8) x h) in
        let below : value_of w x < 2 ^ 64 = omega arith in
        record {
          number = value_of w x;
          below = below;
          written = record { allowed = all.any (value_of w x); held = subst (λ (bs : List ℕ). Holds m (w.base + (s.address + r.offset)) bs) (sym (eight_written row.size (value_of w x) (old_field s r row) all.eight)) held };
          same = inl refl;
        }
    by false e h = by_atom x.atom h

-- ---- the field

-- its first byte is loaded
pub low_place : (w : World) (m : Memory) (s : InputSection) (r : InputRelocation) (row : RelocationKindInfo) (v : ℕ) → WidthsHold → IsInside s r row → IsWritten w m s r row v → w.base + (s.address + r.offset) < 2 ^ 64
low_place w m s r row v widths p h =
    let some = p.some in
    let long = widths row v (old_field s r row) in
    let first = h.held 0 (omega (arith, some, long)) in
    let below = byte_below m (w.base + (s.address + r.offset) + 0) (slice_index (written row v (old_field s r row)) 0) first in
    omega (arith, below)

pub field_reads : (w : World) (m : Memory) (machine : Machine) (item : Item) (s : InputSection) (r : InputRelocation) (row : RelocationKindInfo) (v : ℕ) → WidthsHold → item.address ≡ s.address → item.bytes ≡ s.bytes → All (λ b. b < 256) (old_field s r row) → r.offset + field_width row ≤ length s.bytes → (f : HasFormula machine r.number row) → IsShown w m s r row v
    → FieldReads w m item r f.formula.form v
field_reads w m machine item s r row v widths address bytes small within f h =
    let n = h.number in
    let new = written row n (old_field s r row) in
    let long : length (old_field s r row) ≡ field_width row = length-range s.bytes r.offset (field_width row) within in
    let place : w.base + (s.address + r.offset) ≡ place_at w item r.offset = omega (arith, address) in
    let old : old_field s r row ≡ slice_range item.bytes r.offset (r.offset + form_width f.formula.form) = ap (λ (n : ℕ). slice_range s.bytes r.offset (r.offset + n)) (sym f.width) ∙ ap (λ (bs : List ℕ). slice_range bs r.offset (r.offset + form_width f.formula.form)) (sym bytes) in
    record {
      bytes = new;
      wide = widths row n (old_field s r row) ∙ sym f.width;
      held = subst (λ (a : ℕ). Holds m a new) place h.written.held;
      reads = by h.same (f.agrees.reads n (old_field s r row) h.below long h.written.allowed);
      keeps = subst (λ (bs : List ℕ). Keeps f.formula.form bs new) old (f.agrees.keeps n (old_field s r row) small long);
    }
  where
    by : (h.number ≡ v) ⊎ (((expression_of row.kind).class ≡ class.Part) × (h.number % 4096 ≡ v % 4096)) → Reads f.formula.form (written row h.number (old_field s r row)) h.number → Reads f.formula.form (written row h.number (old_field s r row)) v
    by (inl e) reads = subst (Reads f.formula.form (written row h.number (old_field s r row))) e reads
    by (inr p) reads = f.low p.0 (written row h.number (old_field s r row)) h.number v reads p.1

-- a mark has no field, so it has any value
pub nothing_written : (w : World) (m : Memory) (s : InputSection) (r : InputRelocation) (row : RelocationKindInfo) → WidthsHold → field_width row ≡ 0 → allows row 0 ≡ true → IsShown w m s r row 0
nothing_written w m s r row widths none allowed =
    let long = widths row 0 (old_field s r row) in
    record { number = 0; below = omega arith; written = record { allowed = allowed; held = λ j l. absurd (omega (arith, l, long, none)) }; same = inl refl }
