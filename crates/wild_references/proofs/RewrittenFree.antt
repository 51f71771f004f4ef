-- A relocation whose instruction is rewritten by itself is no sequence's call.
use Rattle.wild_references.proofs.Common.{◌≡◌, ℕ, zero, suc, ◌+◌, ◌<◌, ◌⊎◌, inl, inr, Bool, true, false, List, [], ◌∷◌, length, get_or, refl, sym, ◌∙◌, arith, subst, ◌||◌, ◌==◌, not, if◌then◌else◌, Option, Some, Result, Ok, Err, slice_get, list_all, cases_Bool, eqb-true, slice_get_within, implied, InputRelocation, Item, Layout, UnknownSequence, GeneralForm, Row, Question, first_standing, is_call_number, call_form, has_its_sequence, rows_x86_64, applies, unknown_sequence, first_row_x86_64, chosen_row_x86_64, is_skip, rewrite_of, question_of, choice_of, is_partner, is_thread_type, decide_with, choice_row, chosen_listed, IsDecided, names_merged}
use Rattle.wild_records.specs.Abi.Relocation as abi
use Rattle.wild_types.specs.declared.kind.Machine.TheVariants as machine
use Rattle.wild_relax.specs.declared.pattern.GeneralForm.TheVariants as general
use Rattle.wild_layout.proofs.ChoiceLemmas.{IsSequence, partner_is_taken, partner_number}
use Rattle.wild_references.proofs.RewrittenDecisions.{choice_is, takes_along, decided_with, not_refused, choice_refused}

-- ---- where a row stands, a first one does

first_there : (stands : Row → Bool) (rs : List Row) (w : Row) (k : ℕ) → k < length rs → get_or rs k w ≡ w → stands w ≡ true → (x : Row) × (first_standing stands rs ≡ Some x)
first_there stands [] w k lt e h = absurd (omega (arith, lt))
first_there stands (x ∷ xs) w zero lt e h = (let here : stands x ≡ true = subst (λ (y : Row). stands y ≡ true) (sym e) h in (x, rw here refl))
first_there stands (x ∷ xs) w (suc k) lt e h = by_test (stands x) (first_there stands xs w k (omega (arith, lt)) e h)
  where
    by_test : (b : Bool) → (y : Row) × (first_standing stands xs ≡ Some y) → (y : Row) × ((if b then Some x else first_standing stands xs) ≡ Some y)
    by_test true rest = (x, refl)
    by_test false rest = rest

standing_there : (q : Question) (w : Row) (k : ℕ) → k < length rows_x86_64 → get_or rows_x86_64 k w ≡ w → applies q w ≡ true → (x : Row) × (first_row_x86_64 q ≡ Some x)
unfolding first_row_x86_64
standing_there q w k lt e h = first_there (applies q) rows_x86_64 w k lt e h

-- so that it is chosen, or refused
chosen_or_not : (q : Question) (x : Row) → first_row_x86_64 q ≡ Some x → (chosen_row_x86_64 q ≡ Ok (Some x)) ⊎ ((e : UnknownSequence) × (chosen_row_x86_64 q ≡ Err e))
unfolding chosen_row_x86_64
chosen_or_not q x e =
    elim (cases_Bool (has_its_sequence q x)) [
      | inl t ↦ inl (rw (e, t) refl)
      | inr f ↦ inr (unknown_sequence q x, rw (e, f) refl)
    ]

-- ---- types of sequences

abbrev pub is_first : ℕ → Bool
is_first n = n == abi.r_x86_64_tlsgd || n == abi.r_x86_64_tlsld

abbrev pub takes_it : Row → Bool
takes_it row = not (is_first row.number) || is_skip (rewrite_of row).next

pub each_takes : list_all takes_it rows_x86_64 ≡ true
unfolding rows_x86_64
each_takes = refl

-- no call has one
pub no_call : (g : GeneralForm) (n : ℕ) → is_first n ≡ true → is_call_number g n ≡ true → ⊥
no_call g n h e =
    elim (cases_Bool (n == abi.r_x86_64_tlsgd)) [
      | inl t ↦ never g abi.r_x86_64_tlsgd (known g) (subst (λ (x : ℕ). is_call_number g x ≡ true) (eqb-true n abi.r_x86_64_tlsgd t) e)
      | inr f ↦ (let t : (n == abi.r_x86_64_tlsld) ≡ true = rw f at h in never g abi.r_x86_64_tlsld (known_too g) (subst (λ (x : ℕ). is_call_number g x ≡ true) (eqb-true n abi.r_x86_64_tlsld t) e))
    ]
  where
    never : (g : GeneralForm) (n : ℕ) → is_call_number g n ≡ false → is_call_number g n ≡ true → ⊥
    never g n a b = cc

    known : (g : GeneralForm) → is_call_number g abi.r_x86_64_tlsgd ≡ false
    known general.Regular = refl
    known general.NoPlt = refl
    known general.Large = refl

    known_too : (g : GeneralForm) → is_call_number g abi.r_x86_64_tlsld ≡ false
    known_too general.Regular = refl
    known_too general.NoPlt = refl
    known_too general.Large = refl

-- ---- the first relocation takes the call along

-- a relocation of such a type belongs to no sequence before it
pub first_alone : (l : Layout) (s : Item) (j : ℕ) (r : InputRelocation) → slice_get s.relocations j ≡ Some r → is_first r.number ≡ true → is_partner l s j ≡ false
first_alone l s j r listed h =
    elim (cases_Bool (is_partner l s j)) [
      | inr f ↦ f
      | inl t ↦ (let p = partner_is_taken l s j t in absurd (by_row p.0 p.2 p.3 (subst (λ (k : ℕ). slice_get s.relocations k ≡ Some r) p.1 listed)))
    ]
  where
    by_row : (k : ℕ) (w : Row) → IsSequence l s k w → slice_get s.relocations (k + 1) ≡ Some r → ⊥
    by_row k w q at =
        let is = subst (λ (o : Option InputRelocation). choice_of l s q.relocation o ≡ Ok (Some w)) at q.is in
        no_call (call_form w) r.number h (partner_number l s q.relocation r w (choice_row l s q.relocation (Some r) w q.machine is) q.takes)

pub takes_call : (l : Layout) (s : Item) (j k : ℕ) (r : InputRelocation) (w : Row) (n : ℕ) → l.machine ≡ machine.X86_64 → IsDecided l s → slice_get s.relocations j ≡ Some r → r.symbol ≡ Some k → is_first r.number ≡ true → n < length rows_x86_64 → get_or rows_x86_64 n w ≡ w → applies (question_of l s r k (slice_get s.relocations (j + 1))) w ≡ true → is_partner l s (j + 1) ≡ true
takes_call l s j k r w n x86 decided listed named h lt e stands =
    let next = slice_get s.relocations (j + 1) in
    let q = question_of l s r k next in
    let x = standing_there q w n lt e stands in
    let d = decided.each j (slice_get_within s.relocations j r listed) in
    let made = decided_with l s j r d.0 x86 listed (first_alone l s j r listed h) d.1 in
    elim (cases_Bool (names_merged l (Some k))) [
      | inl merged ↦
          (let e = choice_refused l s r next k named (other_type r.number h) merged (first_thread r.number h) in
          absurd (not_refused l s r e.0 d.0 (subst (λ (y : Result (Option Row) UnknownSequence). decide_with l s r y ≡ Ok d.0) e.1 made)))
      | inr plain ↦
          (let choice = choice_is l s r next k named (other_type r.number h) plain in
          elim (chosen_or_not q x.0 x.1) [
            | inl chosen ↦
                (let is : choice_of l s r next ≡ Ok (Some x.0) = choice ∙ chosen in
                let c = choice_row l s r next x.0 x86 is in
                let number : is_first x.0.number ≡ true = subst (λ (y : ℕ). is_first y ≡ true) c.number h in
                takes_along l s j r x.0 x86 listed is (implied _ _ (chosen_listed l s r next x.0 c takes_it each_takes) number))
            | inr none ↦
                absurd (not_refused l s r none.0 d.0 (subst (λ (y : Result (Option Row) UnknownSequence). decide_with l s r y ≡ Ok d.0) (choice ∙ none.1) made))
          ])
    ]
  where
    first_thread : (m : ℕ) → is_first m ≡ true → is_thread_type m ≡ true
    first_thread m h = by_tests (m == abi.r_x86_64_tlsgd) (m == abi.r_x86_64_tlsld) (m == abi.r_x86_64_gotpc32_tlsdesc || (m == abi.r_x86_64_code_4_gotpc32_tlsdesc || m == abi.r_x86_64_tlsdesc_call)) h
      where
        by_tests : (a b c : Bool) → (a || b) ≡ true → (a || (b || c)) ≡ true
        by_tests true b c h = refl
        by_tests false true c h = refl
        by_tests false false c h = cc

    other_type : (m : ℕ) → is_first m ≡ true → (m == abi.r_x86_64_pc32) ≡ false
    other_type m h =
        elim (cases_Bool (m == abi.r_x86_64_pc32)) [
          | inr f ↦ f
          | inl t ↦ (let no_one : is_first abi.r_x86_64_pc32 ≡ true = subst (λ (y : ℕ). is_first y ≡ true) (eqb-true m abi.r_x86_64_pc32 t) h in cc)
        ]
