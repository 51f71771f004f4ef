-- No field of another relocation lies among the bytes of an instruction that is rewritten.
use Rattle.wild_references.proofs.Common.{◌≡◌, ℕ, ◌+◌, ◌<◌, ◌≤◌, ◌⊎◌, inl, inr, length, refl, sym, ap, ◌∙◌, arith, subst, Some, cases_lt, Piece, Disjoint, Machine, InputRelocation, Layout, Item, Formula, Row, pattern_size, Decision, Rewritten, Partner, template_start, template_site, IsDecided, HasDecision, formula_of, form_width, IsOutsideField, WindowsHaveNoOtherField}
use Rattle.wild_types.specs.declared.kind.Machine.TheVariants as machine
use Rattle.wild_references.proofs.WindowRows.{width_by, width_of}
use Rattle.wild_references.proofs.WindowSites.{sites_apart}
use Rattle.wild_references.proofs.WindowFields.{window_is, HasSite, has_site}
use Rattle.wild_references.proofs.WordWindows.{HasPiece, word_here, own_piece}

-- the width of a formula's field, by the relocation type
pub formula_width : (l : Layout) (n : ℕ) (f : Formula) → l.machine ≡ machine.X86_64 → formula_of l.machine n ≡ Some f → form_width f.form ≡ width_of n
formula_width l n f x86 h = sym (ap width_by (rw x86 at h))

pub outside_window : (l : Layout) (q : InputRelocation) (k : ℕ) → l.machine ≡ machine.X86_64 → (k < q.offset) ⊎ (q.offset + width_of q.number ≤ k) → IsOutsideField l q k
outside_window l q k x86 (inl low) f known = inl low
outside_window l q k x86 (inr high) f known = let w = formula_width l q.number f x86 known in inr (omega (arith, w, high))

-- a byte lies before a number or not
pub order : (k n : ℕ) → (k < n) ⊎ (n + 0 ≤ k)
order k n = elim (cases_lt k n) [ inl low ↦ inl low | inr high ↦ inr (omega (arith, high)) ]

apart_from : (k at size from width : ℕ) (p q : Piece) → p.at ≡ at → length p.bytes ≡ size → at ≤ k → k < at + size → q.at ≤ from → from + width ≤ q.at + length q.bytes → Disjoint p q → (k < from) ⊎ (from + width ≤ k)
apart_from k at size from width p q start long low high first last (inl before) = inl (omega (arith, start, long, high, first, before))
apart_from k at size from width p q start long low high first last (inr behind) = inr (omega (arith, start, low, last, behind))

instructions_alone : (l : Layout) (s : Item) → l.machine ≡ machine.X86_64 → IsDecided l s → (i j : ℕ) (r q : InputRelocation) (row : Row) (v : ℕ) (d : Decision) → HasDecision l s i r (Rewritten row v) → HasDecision l s j q d → (i ≡ j → ⊥) → (j ≡ i + 1 → d ≡ Partner → ⊥)
    → (k : ℕ) → template_start row r ≤ k → k < template_start row r + pattern_size row → IsOutsideField l q k
instructions_alone l s x86 whole i j r q row v d hi hj other no_call k low high = by (has_site l s j q d x86 whole hj)
  where
    not_own : (h : HasSite l s j q d) → (h.index ≡ j) ⊎ ((j ≡ h.index + 1) × (d ≡ Partner)) → i ≡ h.index → ⊥
    not_own h (inl e) same = other (same ∙ e)
    not_own h (inr e) same = no_call (e.0 ∙ ap (λ (n : ℕ). n + 1) (sym same)) e.1

    by : (width_of q.number ≡ 0) ⊎ HasSite l s j q d → IsOutsideField l q k
    by (inl none) = outside_window l q k x86 (subst (λ (n : ℕ). (k < q.offset) ⊎ (q.offset + n ≤ k)) (sym none) (order k q.offset))
    by (inr h) =
        let w = window_is l s i r row v x86 hi in
        let a = sites_apart l s whole i h.index r h.owner (Rewritten row v) h.decision (template_site s r row v) h.piece hi h.has (not_own h h.own) refl h.only in
        outside_window l q k x86 (apart_from k (template_start row r) (pattern_size row) q.offset (width_of q.number) (template_site s r row v) h.piece refl w.long low high h.from h.to a)

-- on AArch64 each word has its own relocation
words_alone : (l : Layout) (s : Item) → l.machine ≡ machine.AArch64 → IsDecided l s → (i j : ℕ) (r q : InputRelocation) (row : Row) (v : ℕ) (d : Decision) → HasDecision l s i r (Rewritten row v) → HasDecision l s j q d → (i ≡ j → ⊥)
    → (k : ℕ) → template_start row r ≤ k → k < template_start row r + pattern_size row → IsOutsideField l q k
words_alone l s on whole i j r q row v d hi hj other k low high f known = by (own_piece l s j q d on hj)
  where
    by : ((f : Formula) → formula_of l.machine q.number ≡ Some f → form_width f.form ≡ 0) ⊎ HasPiece l s q d → (k < q.offset) ⊎ (q.offset + form_width f.form ≤ k)
    by (inl none) = subst (λ (n : ℕ). (k < q.offset) ⊎ (q.offset + n ≤ k)) (sym (none f known)) (order k q.offset)
    by (inr p) =
        let w = word_here l s i r row v on hi in
        let at = p.at in
        let wide = p.wide f known in
        let a = sites_apart l s whole i j r q (Rewritten row v) d (template_site s r row v) p.piece hi hj other refl p.only in
        apart_from k (template_start row r) (pattern_size row) q.offset (form_width f.form) (template_site s r row v) p.piece refl (w.long ∙ sym w.size) low high (omega (arith, at)) (omega (arith, at, wide)) a

pub windows_have_no_other_field : WindowsHaveNoOtherField
windows_have_no_other_field l s = by l.machine refl
  where
    by : (m : Machine) → l.machine ≡ m → IsDecided l s → (i j : ℕ) (r q : InputRelocation) (row : Row) (v : ℕ) (d : Decision) → HasDecision l s i r (Rewritten row v) → HasDecision l s j q d → (i ≡ j → ⊥) → (j ≡ i + 1 → d ≡ Partner → ⊥)
        → (k : ℕ) → template_start row r ≤ k → k < template_start row r + pattern_size row → IsOutsideField l q k
    by machine.X86_64 x86 whole i j r q row v d hi hj other no_call k low high = instructions_alone l s x86 whole i j r q row v d hi hj other no_call k low high
    by machine.AArch64 on whole i j r q row v d hi hj other no_call k low high = words_alone l s on whole i j r q row v d hi hj other k low high
