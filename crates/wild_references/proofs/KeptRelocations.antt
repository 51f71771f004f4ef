-- Relocations that keep their instruction: the place of one tells which it is, no row writes their bytes, and no row stands at
-- them that would.
use Rattle.wild_references.proofs.Common.{◌≡◌, ℕ, zero, suc, ◌+◌, ◌<◌, ◌≤◌, ◌⊎◌, inl, inr, Bool, true, false, List, [], ◌∷◌, length, get_or, refl, sym, ap, ◌∙◌, arith, subst, Contains, Option, Some, None, Ok, Err, ◌==◌, if◌then◌else◌, slice_get, cases_lt, Piece, Disjoint, r_x86_64_pc32, InputRelocation, Item, Layout, UnknownSequence, Row, first_standing, row_or_fault, Question, is_skip, rewrite_of, has_its_sequence, rows_x86_64, applies, unknown_sequence, first_row_x86_64, chosen_row_x86_64, keeps_bytes, Decision, Nothing, Field, RelativeAddress, DynamicField, Rewritten, Partner, question_of, choice_by, choice_of, choice, takes_next, is_thread_type, IsChosen, chosen_listed, IsOwn, own_choice, decide_nothing, decide_moved, decide_left, decide_field, IsDecided, HasDecision, KeepsInstruction}
use Rattle.wild_types.specs.declared.kind.Machine.TheVariants as machine
use Rattle.wild_layout.specs.Choice.{choice_at}
use Rattle.wild_layout.proofs.ChoiceLemmas.{choice_is, partner_is_taken}
use Rattle.wild_references.proofs.WindowRows.{width_of}
use Rattle.wild_references.proofs.WindowSites.{sites_apart}
use Rattle.wild_references.proofs.WindowFields.{HasSite}
use Rattle.wild_references.proofs.KeptTables.{keeps_all, row_fixed, each_row_fixed, kept_number, calls_are_alone}
use Rattle.wild_references.proofs.Rows.{thread_asked}

-- ---- one decision

pub one_decision : (l : Layout) (s : Item) (i : ℕ) (r q : InputRelocation) (d e : Decision) → HasDecision l s i r d → HasDecision l s i q e → d ≡ e
one_decision l s i r q d e h k = let same : Ok d ≡ Ok e = sym h.decided ∙ k.decided in cc

-- ---- one place

same_site : (p q : Piece) (from width : ℕ) → 0 < width → p.at ≤ from → from + width ≤ p.at + length p.bytes → q.at ≤ from → from + width ≤ q.at + length q.bytes → Disjoint p q → ⊥
same_site p q from width some a b c d (inl x) = absurd (omega (arith, some, b, c, x))
same_site p q from width some a b c d (inr x) = absurd (omega (arith, some, a, d, x))

either_one : (i j : ℕ) → ((i ≡ j → ⊥) → ⊥) → i ≡ j
either_one i j h = elim (cases_lt i j) [ inl low ↦ absurd (h (λ e. absurd (omega (arith, low, e)))) | inr high ↦ elim (cases_lt j i) [ inl above ↦ absurd (h (λ e. absurd (omega (arith, above, e)))) | inr below ↦ omega (arith, high, below) ] ]

-- two relocations with one place for their fields are written by the same
pub same_owner : (l : Layout) (s : Item) → IsDecided l s → (i j : ℕ) (r : InputRelocation) (d e : Decision) → 0 < width_of r.number → (x : HasSite l s i r d) (y : HasSite l s j r e) → x.index ≡ y.index
same_owner l s whole i j r d e some x y =
    either_one x.index y.index (λ other. same_site x.piece y.piece r.offset (width_of r.number) some x.from x.to y.from y.to (sites_apart l s whole x.index y.index x.owner y.owner x.decision y.decision x.piece y.piece x.has y.has other x.only y.only))

-- ---- a relocation that keeps its instruction

-- no row stands at it but one that writes its field alone
pub record IsRowKept (l : Layout) (s : Item) (i : ℕ) (r : InputRelocation) : Type 0 where
  pub row : Row
  pub chosen : IsChosen l s r (slice_get s.relocations (i + 1)) row
  pub keeps : keeps_bytes row ≡ true

pub kept_cases : (l : Layout) (s : Item) (i : ℕ) (r : InputRelocation) (d : Decision) → l.machine ≡ machine.X86_64 → HasDecision l s i r d → KeepsInstruction d → IsOwn l s i r d ⊎ IsRowKept l s i r
kept_cases l s i r Nothing x86 h k = inl (decide_nothing l s i r h.listed h.decided)
kept_cases l s i r (Field z v) x86 h k =
    elim (decide_field l s i r z v h.listed h.decided) [
      | inl own ↦ inl own
      | inr (inl x) ↦ inr (record { row = x.row; chosen = x.chosen; keeps = elim x.keeps [ inl e ↦ rw e refl | inr e ↦ rw e refl ] })
      | inr (inr x) ↦ (let both : machine.AArch64 ≡ machine.X86_64 = sym x.chosen.machine ∙ x86 in cc)
    ]
kept_cases l s i r (RelativeAddress v packed) x86 h k = inl (decide_moved l s i r v packed h.listed h.decided)
kept_cases l s i r (DynamicField z n symbol addend) x86 h k = inl (decide_left l s i r z n symbol addend h.listed h.decided)
kept_cases l s i r (Rewritten row v) x86 h k = absurd k
kept_cases l s i r Partner x86 h k = absurd k

-- it begins no sequence that is rewritten
pub kept_takes_none : (l : Layout) (s : Item) (i : ℕ) (r : InputRelocation) (d : Decision) → HasDecision l s i r d → KeepsInstruction d → takes_next (choice l s i) ≡ true → ⊥
kept_takes_none l s i r d h k takes =
    elim (kept_cases l s i r d x86 h k) [
      | inl own ↦ (let e : choice l s i ≡ Ok None = ap (choice_at l s i) h.listed ∙ own.choice in let f : takes_next (Ok None) ≡ true = rw e at takes in cc)
      | inr x ↦ (let e : choice l s i ≡ Ok (Some x.row) = is_choice ∙ x.chosen.choice in let f : is_skip (rewrite_of x.row).next ≡ true = rw e at takes in let n = calls_are_alone x.row (chosen_listed l s r (slice_get s.relocations (i + 1)) x.row x.chosen row_fixed each_row_fixed) f in let g : true ≡ false = sym x.keeps ∙ n in cc)
    ]
  where
    x86 : l.machine ≡ machine.X86_64
    x86 = (partner_is_taken l s (suc i) takes).3.machine

    is_choice : choice l s i ≡ choice_of l s r (slice_get s.relocations (i + 1))
    is_choice = choice_is l s i r x86 h.listed

-- ---- no row applies

pub none_standing : (stands : Row → Bool) (rows : List Row) → first_standing stands rows ≡ None → (row : Row) → Contains rows row → stands row ≡ true → ⊥
none_standing stands [] e row c t = absurd (omega (arith, c.1))
none_standing stands (x ∷ rows) e row c t = by (λ f d. none_standing stands rows f row d t) (stands x) refl e c.0 c.1 c.2
  where
    by : (first_standing stands rows ≡ None → Contains rows row → ⊥) → (b : Bool) → stands x ≡ b → (if b then Some x else first_standing stands rows) ≡ None → (k : ℕ) → k < length (x ∷ rows) → get_or (x ∷ rows) k row ≡ row → ⊥
    by there true f e k lt at = cc
    by there false f e zero lt at = let g : stands row ≡ false = subst (λ (y : Row). stands y ≡ false) at f in let h : true ≡ false = sym t ∙ g in cc
    by there false f e (suc k) lt at = there e (k, omega arith, at)

pub not_checked : (has : Row → Bool) (refuse : Row → UnknownSequence) (o : Option Row) → row_or_fault has refuse o ≡ Ok None → o ≡ None
not_checked has refuse None e = refl
not_checked has refuse (Some row) e = by (has row) e
  where
    by : (b : Bool) → (if b then Ok (Some row) else Err (refuse row)) ≡ Ok None → Some row ≡ None
    by true e = cc
    by false e = cc

pub none_applies : (q : Question) (row : Row) → chosen_row_x86_64 q ≡ Ok None → Contains rows_x86_64 row → applies q row ≡ true → ⊥
unfolding chosen_row_x86_64 first_row_x86_64
none_applies q row e c t = none_standing (applies q) rows_x86_64 (not_checked (has_its_sequence q) (unknown_sequence q) (first_row_x86_64 q) e) row c t

not_pc32 : (n : ℕ) (b : Bool) → (n == r_x86_64_pc32) ≡ b → keeps_all n ≡ false → b ≡ false
not_pc32 n false f e = refl
not_pc32 n true f e = let g : true ≡ false = rw f at e in cc

-- a row that applies to a relocation of another type than those of rows that write the field alone is not refused, so that the
-- relocation does not keep its instruction
pub no_row_applies : (l : Layout) (s : Item) (i : ℕ) (r : InputRelocation) (d : Decision) (symbol : ℕ) (row : Row) → l.machine ≡ machine.X86_64 → HasDecision l s i r d → KeepsInstruction d → keeps_all r.number ≡ false → is_thread_type r.number ≡ true → r.symbol ≡ Some symbol → Contains rows_x86_64 row → applies (question_of l s r symbol (slice_get s.relocations (i + 1))) row ≡ true → ⊥
no_row_applies l s i r d symbol row x86 h k other thread named c t =
    elim (kept_cases l s i r d x86 h k) [
      | inl own ↦
          (let none = subst (λ (o : Option ℕ). choice_by l s r (slice_get s.relocations (i + 1)) o ≡ Ok None) named (own_choice l s i r d own x86) in
          none_applies (question_of l s r symbol (slice_get s.relocations (i + 1))) row (thread_asked l s r (slice_get s.relocations (i + 1)) symbol (not_pc32 r.number (r.number == r_x86_64_pc32) refl other) thread none) c t)
      | inr x ↦
          (let n = kept_number x.row (chosen_listed l s r (slice_get s.relocations (i + 1)) x.row x.chosen row_fixed each_row_fixed) x.keeps in
          let m : keeps_all r.number ≡ true = ap keeps_all x.chosen.number ∙ n in
          let g : true ≡ false = sym m ∙ other in
          cc)
    ]
