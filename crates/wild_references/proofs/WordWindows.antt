-- A word of AArch64 code that is rewritten, and the bytes that a relocation writes over its field.
--   IsWordHere ..   what the decision says of the word
--   call_or_wide    its relocation has a field of four bytes, or is that of a call
--   own_piece       each relocation writes what its field has, or has none
use Rattle.wild_references.proofs.Common.{◌≡◌, ℕ, ◌+◌, ◌≤◌, ◌⊎◌, inl, inr, Bool, true, false, [], ◌∷◌, length, slice_range, refl, sym, ap, ◌∙◌, arith, subst, Option, Some, None, Ok, ◌||◌, ◌==◌, if◌then◌else◌, list_all, cases_Bool, eqb-true, Piece, or_other, listed_passes, r_x86_64_none, r_aarch64_tlsdesc_call, Machine, InputRelocation, Layout, Item, size_width, Formula, aarch64_formula, x86_64_formula, RelocationSize, ByteSize, Eight, length-size_written, Row, pattern_size, keeps_bytes, rows_aarch64, Decision, Nothing, Field, RelativeAddress, DynamicField, Rewritten, Partner, field_site, template_start, template_site, site_for, HasField, decided_nothing, decide_nothing, decide_partner, rewritten_aarch64, window_in, length-template_site, HasDecision, formula_of, form_width}
use Rattle.wild_types.specs.declared.kind.Machine.TheVariants as machine
use Rattle.wild_layout.proofs.DecideLemmas.{IsNothing}
use Rattle.wild_layout.proofs.DecisionLemmas.{IsRewrittenAArch64}
use Rattle.wild_slot.proofs.TreatmentLemmas.{IsSilent}
use Rattle.wild_references.proofs.KnownRows.{width_is, none_is, call_known}
use Rattle.wild_references.proofs.WindowRows.{width_by}
use Rattle.wild_references.proofs.WindowFields.{kept_field}

-- ---- the word

pub record IsWordHere (l : Layout) (s : Item) (i : ℕ) (r : InputRelocation) (row : Row) (v : ℕ) : Type 0 where
  pub start : template_start row r ≡ r.offset
  pub size : pattern_size row ≡ 4
  pub long : length (template_site s r row v).bytes ≡ 4

pub word_here : (l : Layout) (s : Item) (i : ℕ) (r : InputRelocation) (row : Row) (v : ℕ) → l.machine ≡ machine.AArch64 → HasDecision l s i r (Rewritten row v) → IsWordHere l s i r row v
word_here l s i r row v on h =
    let made = rewritten_aarch64 l s i r row v on h.listed h.decided in
    let begins = made.chosen.begins in
    let size = (made.chosen.fits made.changes).0 in
    record { start = omega (arith, begins); size = size; long = length-template_site s r row v (window_in l s i r row v (inr made)) ∙ size }

-- its relocation has a field of four bytes, but for that of a call, which has none
abbrev pub is_of_call : Row → Bool
is_of_call row = row.number == r_aarch64_tlsdesc_call

each_is_wide : list_all (λ (row : Row). keeps_bytes row || (is_of_call row || width_by (aarch64_formula row.number) == 4)) rows_aarch64 ≡ true
unfolding rows_aarch64 aarch64_formula
each_is_wide = refl

pub call_or_wide : (l : Layout) (s : Item) (i : ℕ) (r : InputRelocation) (row : Row) (v : ℕ) → l.machine ≡ machine.AArch64 → HasDecision l s i r (Rewritten row v) → (r.number ≡ r_aarch64_tlsdesc_call) ⊎ ((f : Formula) × (formula_of l.machine r.number ≡ Some f) × (form_width f.form ≡ 4))
call_or_wide l s i r row v on h = by (cases_Bool (is_of_call row))
  where
    made : IsRewrittenAArch64 l s i r row v
    made = rewritten_aarch64 l s i r row v on h.listed h.decided

    wide : (is_of_call row || width_by (aarch64_formula row.number) == 4) ≡ true
    wide = or_other (keeps_bytes row) (is_of_call row || width_by (aarch64_formula row.number) == 4) (listed_passes (λ (x : Row). keeps_bytes x || (is_of_call x || width_by (aarch64_formula x.number) == 4)) rows_aarch64 row each_is_wide made.chosen.listed) made.changes

    known : (o : Option Formula) → aarch64_formula row.number ≡ o → width_by o ≡ 4 → (f : Formula) × (formula_of l.machine r.number ≡ Some f) × (form_width f.form ≡ 4)
    known None e w = absurd (omega (arith, w))
    known (Some f) e w = (f, subst (λ (m : Machine). formula_of m r.number ≡ Some f) (sym on) (ap aarch64_formula made.chosen.number ∙ e), w)

    by : (is_of_call row ≡ true) ⊎ (is_of_call row ≡ false) → (r.number ≡ r_aarch64_tlsdesc_call) ⊎ ((f : Formula) × (formula_of l.machine r.number ≡ Some f) × (form_width f.form ≡ 4))
    by (inl call) = inl (made.chosen.number ∙ eqb-true row.number r_aarch64_tlsdesc_call call)
    by (inr other) = inr (known (aarch64_formula row.number) refl (eqb-true _ 4 (or_other (is_of_call row) (width_by (aarch64_formula row.number) == 4) wide other)))

pub call_width : (f : Formula) → aarch64_formula r_aarch64_tlsdesc_call ≡ Some f → form_width f.form ≡ 0
unfolding aarch64_formula
call_width f h = (let width : width_by (aarch64_formula r_aarch64_tlsdesc_call) ≡ form_width f.form = ap width_by h in sym width)

-- each word has its own relocation
pub no_partner_there : (l : Layout) (s : Item) (j : ℕ) (q : InputRelocation) (d : Decision) → l.machine ≡ machine.AArch64 → HasDecision l s j q d → d ≡ Partner → ⊥
no_partner_there l s j q d on h e =
    let p = decide_partner l s j q h.listed (h.decided ∙ ap (λ (x : Decision). Ok x) e) in
    let both : machine.AArch64 ≡ machine.X86_64 = sym on ∙ p.3.machine in
    cc

-- ---- what a relocation writes

-- bytes from its field on that the field has no more of
pub record HasPiece (l : Layout) (s : Item) (q : InputRelocation) (d : Decision) : Type 0 where
  pub piece : Piece
  pub only : site_for s q d ≡ piece ∷ []
  pub at : piece.at ≡ q.offset
  pub wide : (f : Formula) → formula_of l.machine q.number ≡ Some f → form_width f.form ≤ length piece.bytes

field_piece : (l : Layout) (s : Item) (q : InputRelocation) (d : Decision) (z : RelocationSize) (v : ℕ) → HasField l q z → site_for s q d ≡ field_site s q.offset z v ∷ [] → HasPiece l s q d
field_piece l s q d z v h only = record {
  piece = field_site s q.offset z v;
  only = only;
  at = refl;
  wide = λ f known. (let e = width_is l.machine q.number h.row f h.known known ∙ ap size_width h.size in let long = length-size_written z v (slice_range s.bytes q.offset (q.offset + size_width z)) in omega (arith, e, long));
}

word_piece : (l : Layout) (s : Item) (j : ℕ) (q : InputRelocation) (row : Row) (v : ℕ) → l.machine ≡ machine.AArch64 → HasDecision l s j q (Rewritten row v) → HasPiece l s q (Rewritten row v)
word_piece l s j q row v on h = record { piece = template_site s q row v; only = refl; at = w.start; wide = λ f known. narrow f known (call_or_wide l s j q row v on h) }
  where
    w : IsWordHere l s j q row v
    w = word_here l s j q row v on h

    narrow : (f : Formula) → formula_of l.machine q.number ≡ Some f → (q.number ≡ r_aarch64_tlsdesc_call) ⊎ ((g : Formula) × (formula_of l.machine q.number ≡ Some g) × (form_width g.form ≡ 4)) → form_width f.form ≤ length (template_site s q row v).bytes
    narrow f known (inl call) =
        let none = call_width f (subst (λ (n : ℕ). aarch64_formula n ≡ Some f) call (subst (λ (m : Machine). formula_of m q.number ≡ Some f) on known)) in
        omega (arith, none)
    narrow f known (inr g) =
        let both : Some g.0 ≡ Some f = sym g.1 ∙ known in
        let same : g.0 ≡ f = cc in
        let width : form_width f.form ≡ 4 = ap (λ (x : Formula). form_width x.form) (sym same) ∙ g.2 in
        let long = w.long in
        omega (arith, width, long)

no_form : (m : Machine) (f : Formula) → formula_of m r_x86_64_none ≡ Some f → form_width f.form ≡ 0
unfolding aarch64_formula x86_64_formula
no_form machine.X86_64 f h = (let width : width_by (x86_64_formula r_x86_64_none) ≡ form_width f.form = ap width_by h in sym width)
no_form machine.AArch64 f h = (let width : width_by (aarch64_formula r_x86_64_none) ≡ form_width f.form = ap width_by h in sym width)

no_width : (l : Layout) (q : InputRelocation) (f : Formula) → IsNothing l q → formula_of l.machine q.number ≡ Some f → form_width f.form ≡ 0
no_width l q f n known = by n.kind
  where
    by : IsSilent n.row.kind → form_width f.form ≡ 0
    by (inl e) = no_form l.machine f (subst (λ (k : ℕ). formula_of l.machine k ≡ Some f) (none_is l.machine q.number n.row n.known e) known)
    by (inr e) = (let same = sym known ∙ call_known l.machine q.number n.row n.known e in ap width_by same)

pub own_piece : (l : Layout) (s : Item) (j : ℕ) (q : InputRelocation) (d : Decision) → l.machine ≡ machine.AArch64 → HasDecision l s j q d → ((f : Formula) → formula_of l.machine q.number ≡ Some f → form_width f.form ≡ 0) ⊎ HasPiece l s q d
own_piece l s j q Nothing on h = inl (λ f known. no_width l q f (decided_nothing l s q (decide_nothing l s j q h.listed h.decided).made) known)
own_piece l s j q (Field z v) on h = inr (field_piece l s q (Field z v) z v (kept_field l s j q (Field z v) h tt) refl)
own_piece l s j q (RelativeAddress v packed) on h = inr (field_piece l s q (RelativeAddress v packed) (ByteSize Eight) (if packed then v else 0) (kept_field l s j q (RelativeAddress v packed) h tt) refl)
own_piece l s j q (DynamicField z n symbol addend) on h = inr (field_piece l s q (DynamicField z n symbol addend) z 0 (kept_field l s j q (DynamicField z n symbol addend) h tt) refl)
own_piece l s j q (Rewritten row v) on h = inr (word_piece l s j q row v on h)
own_piece l s j q Partner on h = absurd (no_partner_there l s j q Partner on h refl)
