-- What is decided where a row stands: no sequence before takes the relocation along, and none is refused.
use Rattle.wild_references.proofs.Common.{◌≡◌, ℕ, suc, ◌+◌, inl, inr, true, false, refl, ap, ◌∙◌, arith, subst, ◌==◌, Option, Some, Ok, Err, slice_get, cases_Bool, r_x86_64_pc32, Machine, InputRelocation, Item, Layout, UnknownSequence, Row, rewrite_of, info_by, chosen_row_x86_64, Decision, Rewritten, is_skip, question_of, choice_by, choice_of, choice_on, takes_next, is_partner, is_thread_type, decide_with, decide, names_merged}
use Rattle.wild_types.specs.declared.kind.Machine.TheVariants as machine
use Rattle.wild_layout.proofs.ChoiceLemmas.{choice_is as first_choice}
use Rattle.wild_layout.proofs.DecisionLemmas.{refused}
use Rattle.wild_relax.specs.declared.row.Written.TheVariants as written

-- ---- decisions

-- what is rewritten by itself is no sequence's call
pub rewritten_alone : (l : Layout) (s : Item) (i : ℕ) (row : Row) (v : ℕ) → decide l s i ≡ Ok (Rewritten row v) → is_partner l s i ≡ false
unfolding decide
rewritten_alone l s i row v h =
    elim (cases_Bool (is_partner l s i)) [
      | inl t ↦ cc (rw t at h)
      | inr f ↦ f
    ]

-- a relocation whose row stands, and that belongs to no sequence before it, has a decision by that row
pub decided_with : (l : Layout) (s : Item) (i : ℕ) (r : InputRelocation) (d : Decision) → l.machine ≡ machine.X86_64 → slice_get s.relocations i ≡ Some r → is_partner l s i ≡ false → decide l s i ≡ Ok d → decide_with l s r (choice_of l s r (slice_get s.relocations (i + 1))) ≡ Ok d
unfolding decide
decided_with l s i r d x86 listed alone h =
    let here : decide_with l s r (choice_on l.machine l s i r) ≡ Ok d = rw (alone, listed) at h in
    subst (λ (m : Machine). decide_with l s r (choice_on m l s i r) ≡ Ok d) x86 here

pub not_refused : (l : Layout) (s : Item) (r : InputRelocation) (e : UnknownSequence) (d : Decision) → decide_with l s r (Err e) ≡ Ok d → ⊥
not_refused l s r e d h = refused l s r e d h

-- ---- the choice

-- the choice of a relocation of another type than R_X86_64_PC32
pub choice_is : (l : Layout) (s : Item) (r : InputRelocation) (next : Option InputRelocation) (k : ℕ) → r.symbol ≡ Some k → (r.number == r_x86_64_pc32) ≡ false → names_merged l (Some k) ≡ false → choice_of l s r next ≡ chosen_row_x86_64 (question_of l s r k next)
unfolding choice_by
choice_is l s r next k named other plain = rw (named, other, plain) refl

-- of thread-local storage none is where strings were merged
pub choice_refused : (l : Layout) (s : Item) (r : InputRelocation) (next : Option InputRelocation) (k : ℕ) → r.symbol ≡ Some k → (r.number == r_x86_64_pc32) ≡ false → names_merged l (Some k) ≡ true → is_thread_type r.number ≡ true → (e : UnknownSequence) × (choice_of l s r next ≡ Err e)
unfolding choice_by
choice_refused l s r next k named other merged thread = (record { number = r.number; written = info_by written.Nothing }, rw (named, other, merged, thread) refl)

-- a relocation whose row writes a sequence takes the next one along
pub takes_along : (l : Layout) (s : Item) (j : ℕ) (r : InputRelocation) (row : Row) → l.machine ≡ machine.X86_64 → slice_get s.relocations j ≡ Some r → choice_of l s r (slice_get s.relocations (j + 1)) ≡ Ok (Some row) → is_skip (rewrite_of row).next ≡ true → is_partner l s (j + 1) ≡ true
takes_along l s j r row x86 listed chosen skips =
    let here : is_partner l s (suc j) ≡ true = ap takes_next (first_choice l s j r x86 listed ∙ chosen) ∙ skips in
    let e : suc j ≡ j + 1 = omega arith in
    subst (λ (k : ℕ). is_partner l s k ≡ true) e here
