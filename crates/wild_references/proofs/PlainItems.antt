-- An instruction whose fields have their formulas' values, and whose own bytes are the input's, does what it demands.
use Rattle.wild_references.proofs.Common.{◌≡◌, ℕ, ◌+◌, ◌%◌, inl, inr, true, false, List, [], ◌∷◌, refl, sym, ap, ◌∙◌, subst, arith, Option, Some, None, Contains, RelocationKindInfo, expression_of, writes, Formula, Reads, x86_64_formula, Machine, InputRelocation, Layout, Item, row_of, Memory, World, Holds, RowsAreRead, place_at, formula_of, IsInputByte, Instruction, IsOwnByte, instructions_of, IsSingle, IsTemplate, reads, DoesDemanded, IsOfSequence, MustHold, UsesOwnSymbolOnly, as_pair, FieldHolds}
use Rattle.wild_words.proofs.Basics.{listed_at}
use Rattle.wild_reloc.specs.declared.expression.Class.TheVariants as class
use Rattle.wild_reloc.specs.Expression.{has_value}
use Rattle.wild_reloc.specs.Agreement.{Agrees}
use Rattle.wild_types.specs.declared.kind.Machine.TheVariants as machine
use Rattle.wild_meaning.specs.Item.{IsReference}
use Rattle.wild_meaning.specs.Sequence.{Partner}
use Rattle.wild_references.specs.PlainLaws.{IsFilledPlainly, PlainInstructionsDo, ReadsLowBits, HasFormula, RowsHaveFormulas}
use Rattle.wild_references.proofs.KnownRows.{IsSeen, row_fits, formula_there}
use Rattle.wild_references.proofs.LowForms.{reads_low}
use Rattle.wild_references.proofs.WindowRows.{width_of, width_by}
use Rattle.wild_references.proofs.Does.{HasField, PartnersThere}
use Rattle.wild_references.proofs.RightOperands.{does_demanded}
use Rattle.wild_references.proofs.KeptTables.{partner_width}
use Rattle.wild_references.proofs.KeptBytes.{known_filled}
use Rattle.wild_references.proofs.SequenceParts.{in_sequence}
use Rattle.wild_references.proofs.SinglesAArch64.{lone_word_does}
use Rattle.wild_references.proofs.RunWords.{IsKeptRun}
use Rattle.wild_references.proofs.SequencesAArch64.{run_does}

-- ---- rows

-- a field with the offset of an address in its page has its bits below 4096
low_bits : RowsAreRead → (m : Machine) (n : ℕ) (row : RelocationKindInfo) (f : Formula) → row_of m n ≡ Some row → formula_of m n ≡ Some f → (expression_of row.kind).class ≡ class.Part → ReadsLowBits f.form
low_bits agree m n row f is known part bytes v x reads same =
    let fits = row_fits agree m n row is (ap has_value part) in
    let both : Some fits.formula ≡ Some f = sym fits.known ∙ known in
    let one = the_formula fits.formula f both in
    by_seen (subst (λ (g : Formula). IsSeen m row.kind g.form) one fits.seen)
  where
    the_formula : (a b : Formula) → (let o : Option Formula = Some a in o) ≡ Some b → a ≡ b
    the_formula a b e = cc

    by_seen : IsSeen m row.kind f.form → Reads f.form bytes x
    by_seen (inl whole) = (let none : writes (expression_of row.kind).class ≡ false = ap writes part in let both : true ≡ false = sym whole ∙ none in cc)
    by_seen (inr low) = reads_low f.form bytes v x low.low reads same

pub rows_have_formulas : RowsAreRead → RowsHaveFormulas
rows_have_formulas agree m n row is =
    let t = formula_there m n row is in
    record { formula = t.0; known = t.1; width = t.2; agrees = subst (Agrees row) t.1 (agree m n row is); low = low_bits agree m n row t.0 is t.1 }

-- ---- relocations

of_item : (l : Layout) (item : Item) (r : InputRelocation) (start : ℕ) (o : Instruction) (first : InputRelocation) → (t : IsOfSequence l item r start o first) → (q : InputRelocation) → Contains (first ∷ t.rest) q → IsReference item q
of_item l item r start o first t q c =
    let s = in_sequence l item first t.rest start o t.sequence q c in
    record { listed = listed_at item.relocations s.index q s.listed; refers = s.refers }

-- ---- x86-64

as_field : (l : Layout) (w : World) (m : Memory) (item : Item) (r : InputRelocation) → FieldHolds l w m item r → HasField l w m item r
as_field l w m item r f = record { formula = f.formula; known = f.known; value = f.value; gives = f.gives; field = f.field }

single_does : (l : Layout) (w : World) (m : Memory) (item : Item) → l.machine ≡ machine.X86_64 → (r : InputRelocation) → FieldHolds l w m item r → (start : ℕ) (o : Instruction) → IsSingle l item r start o → ((k : ℕ) → IsOwnByte o k → IsInputByte w m item (start + k)) → DoesDemanded (reads w m) l w m item r start o
single_does l w m item on r field start o t own =
    does_demanded l w m item r start o (record {
      x86 = on;
      stands = t.stands;
      field = as_field l w m item r field;
      own = own;
      partners = subst (λ (ps : List Partner). PartnersThere w m item start ps) (sym t.single) tt;
    })

-- as many bytes as its formula's field has
wide_of : (l : Layout) (n : ℕ) (f : Formula) → l.machine ≡ machine.X86_64 → formula_of l.machine n ≡ Some f → width_of n ≡ width_by (Some f)
wide_of l n f on known = ap width_by (subst (λ (k : Machine). formula_of k n ≡ Some f) on known)

double_does : (l : Layout) (w : World) (m : Memory) (item : Item) → l.machine ≡ machine.X86_64 → (r : InputRelocation) (start : ℕ) (o : Instruction) (first : InputRelocation) → (part : IsOfSequence l item r start o first) → ((q : InputRelocation) → Contains (first ∷ part.rest) q → FieldHolds l w m item q) → ((k : ℕ) → IsOwnByte o k → IsInputByte w m item (start + k))
    → DoesDemanded (reads w m) l w m item first start o
double_does l w m item on r start o first part fields own =
    let pair = as_pair l item first part.rest start o on part.sequence in
    let t = pair.pair in
    let here = fields first (0, omega arith, refl) in
    let f = fields pair.second (subst (λ (rs : List InputRelocation). Contains (first ∷ rs) pair.second) (sym pair.is) (1, omega arith, refl)) in
    let wide = f.field.wide ∙ sym (wide_of l pair.second.number f.formula on f.known) ∙ partner_width o t.partner pair.second.number (known_filled l item first start o on t.stands) t.calls t.has.number in
    let held = subst (λ (n : ℕ). Holds m (place_at w item n) f.field.bytes) t.has.field f.field.held in
    does_demanded l w m item first start o (record {
      x86 = on;
      stands = t.stands;
      field = as_field l w m item first here;
      own = own;
      partners = subst (λ (ps : List Partner). PartnersThere w m item start ps) (sym t.calls) ((f.field.bytes, wide, held), tt);
    })

-- ---- AArch64

run_kept : (l : Layout) (w : World) (m : Memory) (item : Item) → l.machine ≡ machine.AArch64 → (r : InputRelocation) → MustHold l w item r → (UsesOwnSymbolOnly l item r → ⊥) → (start : ℕ) (o : Instruction) (first : InputRelocation) → (t : IsOfSequence l item r start o first) → ((q : InputRelocation) → Contains (first ∷ t.rest) q → FieldHolds l w m item q) → ((k : ℕ) → IsOwnByte o k → IsInputByte w m item (start + k))
    → IsKeptRun l w m item r start o first
run_kept l w m item on r asked alone start o first t fields own = record {
  on = on;
  rest = t.rest;
  sequence = t.sequence;
  one = t.one;
  each = λ q c a n. fields q c;
  asked = asked;
  alone = alone;
  own = own;
}

-- ---- both

part_of : (l : Layout) (item : Item) (r q : InputRelocation) (start : ℕ) (o : Instruction) (first : InputRelocation) → (t : IsOfSequence l item r start o first) → Contains (first ∷ t.rest) q → IsTemplate l item q start o first
part_of l item r q start o first t c = inr (record { rest = t.rest; sequence = t.sequence; one = c })

pub plain_instructions_do : PlainInstructionsDo
plain_instructions_do l w m item r is asked alone start o first t h = by l.machine refl t
  where
    here : IsTemplate l item r start o first → FieldHolds l w m item r
    here t = h.fields r is t

    each : (s : IsOfSequence l item r start o first) → (q : InputRelocation) → Contains (first ∷ s.rest) q → FieldHolds l w m item q
    each s q c = h.fields q (of_item l item r start o first s q c) (part_of l item r q start o first s c)

    by : (k : Machine) → l.machine ≡ k → IsTemplate l item r start o first → DoesDemanded (reads w m) l w m item first start o
    by machine.X86_64 on (inl s) = subst (λ (x : InputRelocation). DoesDemanded (reads w m) l w m item x start o) (sym s.1) (single_does l w m item on r (here (inl s)) start o s.0 h.own)
    by machine.X86_64 on (inr s) = double_does l w m item on r start o first s (each s) h.own
    by machine.AArch64 on (inl s) = subst (λ (x : InputRelocation). DoesDemanded (reads w m) l w m item x start o) (sym s.1) (lone_word_does l w m item r start o on s.0.stands s.0.single (here (inl s)))
    by machine.AArch64 on (inr s) = run_does l w m item r start o first (run_kept l w m item on r asked alone start o first s (each s) h.own)
