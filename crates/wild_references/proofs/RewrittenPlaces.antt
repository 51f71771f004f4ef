-- A section whose relocation is rewritten, with all that is known of its row.
use Rattle.wild_references.proofs.Common.{◌≡◌, ℕ, ◌+◌, ◌-◌, ◌%◌, ◌^◌, Bool, true, false, refl, sym, ap, arith, subst, ◌||◌, not, ℤ, pos, negsuc, slice_get, slice_range, w64, cast_unsigned, list_all, eqb-true, and_parts, implied, or_other, listed_passes, shf_execinstr, InputRelocation, Item, Layout, executable, plain, Four, Sign, Signed, Row, Question, minus_four, Duty, is_mandatory, is_static_executable, pattern_cells, rows_x86_64, pattern_of, pattern_size, keeps_bytes, IsChanging, Rewritten, question_of, is_partner, template_start, IsChosen, rewritten_x86_64, HasDecision, IsSet, matches_cells, Sort, Target, DescribedCall, FieldBits, size_of, HasOriginAddend, bit_code, RowGives, WindowsHaveNoOtherField}
use Rattle.wild_types.specs.declared.kind.Machine.TheVariants as machine
use Rattle.wild_reloc.specs.declared.info.RelocationKind.TheVariants as kinds
use Rattle.wild_relax.specs.declared.row.Duty.TheVariants as duty
use Rattle.wild_relax.specs.KeepX86_64.{RowsKeep, IsWhole}
use Rattle.wild_relax.specs.Section.{RowApplies, ChosenRowsApply, ChosenPatternsArePresent}
use Rattle.wild_layout.proofs.DecisionLemmas.{IsRewritten}
use Rattle.wild_meaning.specs.Sequence.{Address}
use Rattle.wild_references.proofs.RewrittenDecisions.{rewritten_alone}
use Rattle.wild_references.proofs.RewrittenForms.{all_long, all_stand, instruction_of, RowFits, row_fits}

-- the laws below, as they are called
pub record LawsBelow : Type 0 where
  pub alone : WindowsHaveNoOtherField
  pub keeps : RowsKeep
  pub stand : ChosenRowsApply
  pub whole : ChosenPatternsArePresent
  pub sum : (sign : Sign) → RowGives (plain kinds.Absolute Four sign)
  pub distance : RowGives (plain kinds.Relative Four Signed)
  pub pointer : RowGives (plain kinds.TpOff Four Signed)
  pub slot : RowGives (plain kinds.GotTpOff Four Signed)

-- relocation i of a section is rewritten by a row, with v in the field
pub record IsPlacedRow (l : Layout) (s : Item) (i : ℕ) (r : InputRelocation) (row : Row) (v : ℕ) : Type 0 where
  pub has : HasDecision l s i r (Rewritten row v)
  pub alone : is_partner l s i ≡ false
  pub made : IsRewritten l s r (slice_get s.relocations (i + 1)) row v
  pub chosen : IsChosen l s r (slice_get s.relocations (i + 1)) row
  pub stands : RowApplies (question_of l s r chosen.symbol (slice_get s.relocations (i + 1))) row
  pub whole : IsWhole (pattern_cells (pattern_of row)) (slice_range s.bytes (template_start row r) (template_start row r + pattern_size row))
  pub changing : IsChanging row
  pub fits : RowFits row

pub placed_row : LawsBelow → (l : Layout) (s : Item) (i : ℕ) (r : InputRelocation) (row : Row) (v : ℕ) → l.machine ≡ machine.X86_64 → HasDecision l s i r (Rewritten row v) → IsPlacedRow l s i r row v
placed_row laws l s i r row v x86 has =
    let made = rewritten_x86_64 l s i r row v x86 has.listed has.decided in
    let chosen = made.chosen in
    let q = question_of l s r chosen.symbol (slice_get s.relocations (i + 1)) in
    let stands = laws.stand q row chosen.chosen in
    let changing : IsChanging row = record { listed = stands.listed; changes = made.changes } in
    record {
      has = has;
      alone = rewritten_alone l s i row v has.decided;
      made = made;
      chosen = chosen;
      stands = stands;
      whole = laws.whole q row chosen.chosen;
      changing = changing;
      fits = row_fits row changing;
    }

-- ---- the section has code

abbrev keeps_or_in_code : Row → Bool
keeps_or_in_code row = keeps_bytes row || row.in_code

each_in_code : list_all keeps_or_in_code rows_x86_64 ≡ true
unfolding rows_x86_64
each_in_code = refl

pub takes_code : (row : Row) (b : Bool) → IsChanging row → (not row.in_code || b) ≡ true → b ≡ true
takes_code row b c h = implied row.in_code b h (or_other (keeps_bytes row) row.in_code (listed_passes keeps_or_in_code rows_x86_64 row each_in_code c.listed) c.changes)

-- and it is not written in any case
abbrev is_always : Duty → Bool
is_always duty.Always = true
is_always other = false

abbrev keeps_or_waits : Row → Bool
keeps_or_waits row = keeps_bytes row || not (is_always row.duty)

each_waits : list_all keeps_or_waits rows_x86_64 ≡ true
unfolding rows_x86_64
each_waits = refl

static_by : (d : Duty) (q : Question) → not (is_always d) ≡ true → is_mandatory d q ≡ true → is_static_executable q.kind ≡ true
static_by duty.Never q k h = cc
static_by duty.Static q k h = h
static_by duty.StaticAbsolute q k h = (and_parts _ _ h).0
static_by duty.StaticMovable q k h = (and_parts _ _ h).0
static_by duty.Always q k h = cc

pub mandatory_static : (row : Row) (q : Question) → IsChanging row → is_mandatory row.duty q ≡ true → is_static_executable q.kind ≡ true
mandatory_static row q c h = static_by row.duty q (or_other (keeps_bytes row) (not (is_always row.duty)) (listed_passes keeps_or_waits rows_x86_64 row each_waits c.listed) c.changes) h

pub is_code : (l : Layout) (s : Item) (i : ℕ) (r : InputRelocation) (row : Row) (v : ℕ) → IsPlacedRow l s i r row v → IsSet s.flags shf_execinstr
is_code l s i r row v p = bit_code s.flags (takes_code row (executable s.flags) p.changing p.stands.taken.section)

-- ---- the addend

ended_is : (a : ℤ) → minus_four a ≡ true → a ≡ negsuc 3
unfolding minus_four
ended_is (pos n) h = cc
ended_is (negsuc n) h = ap negsuc (eqb-true n 3 h)

pub ended : (a : ℤ) → minus_four a ≡ true → cast_unsigned w64 a ≡ 2 ^ 64 - 4
ended a h = subst (λ (x : ℤ). cast_unsigned w64 x ≡ 2 ^ 64 - 4) (sym (ended_is a h)) refl

counts_by : (o : Sort) (r : InputRelocation) → (cast_unsigned w64 r.addend + 4) % 2 ^ 64 ≡ 0 → HasOriginAddend machine.X86_64 o r
counts_by Target r h = tt
counts_by DescribedCall r h = tt
counts_by Address r h = tt
counts_by FieldBits r h = tt
counts_by other r h = h

pub counts_ended : (o : Sort) (r : InputRelocation) → minus_four r.addend ≡ true → HasOriginAddend machine.X86_64 o r
counts_ended o r h = (let e = ended r.addend h in counts_by o r (omega (arith, e)))

-- ---- the bytes

pub size_is : (l : Layout) (s : Item) (i : ℕ) (r : InputRelocation) (row : Row) (v : ℕ) → IsPlacedRow l s i r row v → size_of (instruction_of row) ≡ pattern_size row
size_is l s i r row v p = all_long (pattern_cells (pattern_of row)) (instruction_of row).template.cells p.fits.covers

pub cells_stand : (l : Layout) (s : Item) (i : ℕ) (r : InputRelocation) (row : Row) (v : ℕ) → IsPlacedRow l s i r row v → matches_cells (instruction_of row).template.cells (slice_range s.bytes (template_start row r) (template_start row r + size_of (instruction_of row))) ≡ true
cells_stand l s i r row v p =
    let e = size_is l s i r row v p in
    subst (λ (n : ℕ). matches_cells (instruction_of row).template.cells (slice_range s.bytes (template_start row r) (template_start row r + n)) ≡ true) (sym e)
    (all_stand (pattern_cells (pattern_of row)) (instruction_of row).template.cells (slice_range s.bytes (template_start row r) (template_start row r + pattern_size row)) p.fits.covers p.whole.same)
