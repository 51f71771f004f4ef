-- On AArch64 the relocations of a run keep it together, and the call of a run that is kept has its own bytes.
--   same_kept       one of two relocations that are the same is not rewritten where the other keeps its instruction
--   run_is_kept     where one relocation of a run is kept, each is
--   call_is_kept    no word that is rewritten has a byte of the call of a run that is kept
use Rattle.wild_references.proofs.Common.{◌≡◌, ℕ, zero, suc, ◌+◌, ◌*◌, ◌<◌, ◌≤◌, ◌⊎◌, inl, inr, true, false, List, [], ◌∷◌, length, get_or, refl, sym, ap, ◌∙◌, subst, arith, ⊤, ◌==◌, slice_get, Option, Some, None, Ok, Contains, and_from, cases_eq, cases_lt, slice_get_within, holds_at, Machine, InputRelocation, Layout, Item, Formula, Sequence, DescriptorCall, OffsetSlot, Address, RelocationInfo, Row, CALL_FOURTH, CALL_FOURTH_SLOT, pattern_size, Question, relocation_of, applies, unknown_sequence, rows_aarch64, chosen_row_aarch64, types_of, RowsApplyTogether, Decision, Nothing, Field, RelativeAddress, DynamicField, Rewritten, Partner, question_around, choice_on, template_start, relocation_around, IsOwn, decide_nothing, decide_moved, decide_left, decide_field, rewritten_aarch64, IsDecided, HasDecision, Instruction, IsOwnByte, descriptor_call_words, instructions_of, formula_of, form_width, InNoField, HasPartners, IsSequence, IsOfSequence, only_one, KeepsInstruction, WindowsHaveNoOtherField, names_merged}
use Rattle.std.proofs.Common.{eq-eqb}
use Rattle.std.specs.List.{filter}
use Rattle.wild_records.specs.Abi.Relocation as abi
use Rattle.wild_types.specs.declared.kind.Machine.TheVariants as machine
use Rattle.wild_relax.specs.declared.row.Distance.{Distance}
use Rattle.wild_relax.specs.declared.row.Distance.TheVariants as distances
use Rattle.wild_relax.specs.RewriteX86_64.{distance_type}
use Rattle.wild_relax.specs.RowsAArch64.{applies_aarch64, has_its_words, first_row_aarch64}
use Rattle.wild_layout.specs.Choice.{choice_around_by, choice_around}
use Rattle.wild_layout.proofs.ChoiceLemmas.{kept_listed, of_two}
use Rattle.wild_meaning.specs.Sequence.{Partner as Further}
use Rattle.wild_references.specs.EffectLaws.{IsKeptAt}
use Rattle.wild_references.proofs.SequenceParts.{in_sequence}
use Rattle.wild_references.proofs.WindowRows.{applied, applied_by}
use Rattle.wild_references.proofs.WordWindows.{word_here, is_of_call, call_or_wide, no_partner_there}
use Rattle.wild_references.proofs.RunWords.{IsRun, is_run_of}
use Rattle.wild_references.proofs.RewrittenRuns.{run_of, run_there}
use Rattle.wild_references.proofs.RewrittenWords.{rewritten_word}
use Rattle.wild_references.proofs.WordRuns.{type_is, own_type, IsWordAt, run_word, call_bytes}
use Rattle.wild_references.proofs.KeptRelocations.{one_decision, none_standing, not_checked}

pub not_between : (x at width : ℕ) → at ≤ x → x < at + width → (x < at) ⊎ (at + width ≤ x) → ⊥
not_between x at width low high (inl a) = omega (arith, low, a)
not_between x at width low high (inr a) = omega (arith, high, a)

-- ---- a call is rewritten wherever its row applies

two_calls : filter is_of_call rows_aarch64 ≡ CALL_FOURTH ∷ CALL_FOURTH_SLOT ∷ []
unfolding rows_aarch64
two_calls = refl

call_rows : (row : Row) → Contains rows_aarch64 row → row.number ≡ abi.r_aarch64_tlsdesc_call → (row ≡ CALL_FOURTH) ⊎ (row ≡ CALL_FOURTH_SLOT)
call_rows row listed number = of_two CALL_FOURTH CALL_FOURTH_SLOT row (subst (λ (rows : List Row). Contains rows row) two_calls (kept_listed is_of_call rows_aarch64 row listed (eq-eqb row.number abi.r_aarch64_tlsdesc_call number)))

-- it asks nothing of the relocations around it
applies_there : (l : Layout) (s : Item) (a b : ℕ) (r : InputRelocation) (symbol : ℕ) (row : Row) → (row ≡ CALL_FOURTH) ⊎ (row ≡ CALL_FOURTH_SLOT) → relocation_of (question_around l s b r symbol) ≡ relocation_of (question_around l s a r symbol) → applies (question_around l s a r symbol) row ≡ true → applies_aarch64 (question_around l s b r symbol) row ≡ true
applies_there l s a b r symbol row which same h = by which
  where
    number : (n : ℕ) → ((relocation_of (question_around l s a r symbol)).number == n) ≡ true → ((relocation_of (question_around l s b r symbol)).number == n) ≡ true
    number n e = subst (λ (x : RelocationInfo). (x.number == n) ≡ true) (sym same) e

    by : (row ≡ CALL_FOURTH) ⊎ (row ≡ CALL_FOURTH_SLOT) → applies_aarch64 (question_around l s b r symbol) row ≡ true
    by (inl e) =
        let t = applied (question_around l s a r symbol) CALL_FOURTH (subst (λ (x : Row). applies (question_around l s a r symbol) x ≡ true) e h) in
        let here = applied_by (question_around l s b r symbol) CALL_FOURTH (record { number = number abi.r_aarch64_tlsdesc_call t.number; taken = t.taken; code = t.code; symbol = t.symbol; thread = t.thread; value = t.value; counts = refl; stands = refl }) in
        subst (λ (x : Row). applies_aarch64 (question_around l s b r symbol) x ≡ true) (sym e) (and_from _ _ here refl)
    by (inr e) =
        let t = applied (question_around l s a r symbol) CALL_FOURTH_SLOT (subst (λ (x : Row). applies (question_around l s a r symbol) x ≡ true) e h) in
        let here = applied_by (question_around l s b r symbol) CALL_FOURTH_SLOT (record { number = number abi.r_aarch64_tlsdesc_call t.number; taken = t.taken; code = t.code; symbol = t.symbol; thread = t.thread; value = t.value; counts = refl; stands = refl }) in
        subst (λ (x : Row). applies_aarch64 (question_around l s b r symbol) x ≡ true) (sym e) (and_from _ _ here refl)

-- so that one is chosen, or it is refused
none_chosen : (q : Question) (row : Row) → chosen_row_aarch64 q ≡ Ok None → Contains rows_aarch64 row → applies_aarch64 q row ≡ true → ⊥
unfolding chosen_row_aarch64 first_row_aarch64
none_chosen q row none listed here = none_standing (applies_aarch64 q) rows_aarch64 (not_checked (has_its_words q) (unknown_sequence q) (first_row_aarch64 q) none) row listed here

-- ---- two relocations that are the same

no_distance : (d : Distance) → distance_type d ≡ abi.r_aarch64_tlsdesc_call → ⊥
no_distance distances.Jump26 e = omega (arith, e)
no_distance distances.Call26 e = omega (arith, e)
no_distance distances.CondBr19 e = omega (arith, e)
no_distance distances.TstBr14 e = omega (arith, e)
no_distance distances.Plt32 e = omega (arith, e)

-- no row is taken for a call that is kept
no_choice : (l : Layout) (s : Item) (i : ℕ) (r : InputRelocation) (d : Decision) → l.machine ≡ machine.AArch64 → r.number ≡ abi.r_aarch64_tlsdesc_call → HasDecision l s i r d → KeepsInstruction d → choice_around l s i r ≡ Ok None
no_choice l s i r d on call h k = by d h k
  where
    own : (e : Decision) → IsOwn l s i r e → choice_around l s i r ≡ Ok None
    own e o = subst (λ (m : Machine). choice_on m l s i r ≡ Ok None) on o.choice

    by : (e : Decision) → HasDecision l s i r e → KeepsInstruction e → choice_around l s i r ≡ Ok None
    by Nothing h k = own Nothing (decide_nothing l s i r h.listed h.decided)
    by (RelativeAddress v packed) h k = own (RelativeAddress v packed) (decide_moved l s i r v packed h.listed h.decided)
    by (DynamicField z n symbol addend) h k = own (DynamicField z n symbol addend) (decide_left l s i r z n symbol addend h.listed h.decided)
    by (Field z v) h k =
        elim (decide_field l s i r z v h.listed h.decided) [
          | inl o ↦ own (Field z v) o
          | inr (inl x) ↦ (let both : machine.AArch64 ≡ machine.X86_64 = sym on ∙ x.chosen.machine in cc)
          | inr (inr x) ↦ absurd (no_distance x.goes.distance (sym x.goes.number ∙ sym x.chosen.number ∙ call))
        ]
    by (Rewritten row v) h k = absurd k
    by Partner h k = absurd k

choice_named : (l : Layout) (s : Item) (i symbol : ℕ) (r : InputRelocation) → r.symbol ≡ Some symbol → names_merged l (Some symbol) ≡ false → choice_around l s i r ≡ Ok None → chosen_row_aarch64 (question_around l s i r symbol) ≡ Ok None
unfolding choice_around_by
choice_named l s i symbol r named plain h = (let here : choice_around_by l s i r (Some symbol) ≡ Ok None = subst (λ (o : Option ℕ). choice_around_by l s i r o ≡ Ok None) named h in rw plain at here)

same_call : (l : Layout) (s : Item) (i j : ℕ) (r : InputRelocation) (d : Decision) (row : Row) (v : ℕ) → l.machine ≡ machine.AArch64 → r.number ≡ abi.r_aarch64_tlsdesc_call → HasDecision l s i r d → KeepsInstruction d → HasDecision l s j r (Rewritten row v) → ⊥
same_call l s i j r d row v on call h k there =
    let c = (rewritten_aarch64 l s j r row v on there.listed there.decided).chosen in
    let here = relocation_around l s i r c.symbol h.listed in
    let same : relocation_of (question_around l s i r c.symbol) ≡ relocation_of (question_around l s j r c.symbol) = here ∙ sym (relocation_around l s j r c.symbol there.listed) in
    let which = call_rows row c.listed (sym c.number ∙ call) in
    none_chosen (question_around l s i r c.symbol) row (choice_named l s i c.symbol r c.named (sym (ap (λ (o : Option ℕ). names_merged l o) c.named) ∙ c.plain) (no_choice l s i r d on call h k)) c.listed (applies_there l s j i r c.symbol row which same c.here)

-- one of two that are the same is not rewritten where the other keeps its instruction
same_kept : WindowsHaveNoOtherField → (l : Layout) (s : Item) (i j : ℕ) (r : InputRelocation) (d : Decision) (row : Row) (v : ℕ) → l.machine ≡ machine.AArch64 → IsDecided l s → HasDecision l s i r d → KeepsInstruction d → HasDecision l s j r (Rewritten row v) → ⊥
same_kept windows l s i j r d row v on decided h k there =
    elim (cases_eq j i) [
      | inl e ↦ subst KeepsInstruction (one_decision l s i r r d (Rewritten row v) h (subst (λ (n : ℕ). HasDecision l s n r (Rewritten row v)) e there)) k
      | inr other ↦
          elim (call_or_wide l s j r row v on there) [
            | inl call ↦ same_call l s i j r d row v on call h k there
            | inr f ↦
                (let w = word_here l s j r row v on there in
                let start = w.start in
                let size = w.size in
                let width = f.2 in
                not_between r.offset r.offset (form_width f.0.form) (omega arith) (omega (arith, width)) (windows l s decided j i r r row v d there h other (λ a b. no_partner_there l s i r d on h b) r.offset (omega (arith, start)) (omega (arith, start, size)) f.0 f.1))
          ]
    ]

-- ---- the references of a run

-- a relocation is that of a word, by its type
record IsPlaced (s : Item) (ns : List ℕ) (index : ℕ) (p : InputRelocation) : Type 0 where
  word : ℕ
  type : slice_get ns word ≡ Some p.number
  listed : slice_get s.relocations (index + word) ≡ Some p

-- each further field is filled by one type
abbrev Fill : List ℕ → List Further → Type 0
Fill [] [] = ⊤
Fill [] (p ∷ ps) = ⊥
Fill (n ∷ ns) [] = ⊥
Fill (n ∷ ns) (p ∷ ps) = (p.numbers ≡ n ∷ []) × Fill ns ps

in_front : (s : Item) (n : ℕ) (ns ms : List ℕ) (i : ℕ) (p : InputRelocation) → ms ≡ n ∷ [] → Contains ms p.number → slice_get s.relocations i ≡ Some p → IsPlaced s (n ∷ ns) i p
in_front s n ns ms i p one number listed = record {
  word = 0;
  type = ap (λ (x : ℕ). Some x) (sym (only_one n p.number (subst (λ (xs : List ℕ). Contains xs p.number) one number)));
  listed = (let e : i ≡ i + 0 = omega arith in subst (λ (k : ℕ). slice_get s.relocations k ≡ Some p) e listed);
}

placed_at_next : (s : Item) (n : ℕ) (ns : List ℕ) (i : ℕ) (p : InputRelocation) → IsPlaced s ns (i + 1) p → IsPlaced s (n ∷ ns) i p
placed_at_next s n ns i p h = record { word = suc h.word; type = h.type; listed = (let e : i + 1 + h.word ≡ i + suc h.word = omega arith in subst (λ (k : ℕ). slice_get s.relocations k ≡ Some p) e h.listed) }

further : (l : Layout) (s : Item) (first : InputRelocation) (start i : ℕ) (ns : List ℕ) (ps : List Further) (rs : List InputRelocation) → Fill ns ps → HasPartners l s first start i ps rs → (r : InputRelocation) (k : ℕ) → k < length rs → get_or rs k r ≡ r → IsPlaced s ns i r
further l s first start i ns ps [] fill h r k lt e = absurd (omega (arith, lt))
further l s first start i [] [] (q ∷ rs) fill h r k lt e = absurd h
further l s first start i [] (p ∷ ps) (q ∷ rs) fill h r k lt e = absurd fill
further l s first start i (n ∷ ns) [] (q ∷ rs) fill h r k lt e = absurd fill
further l s first start i (n ∷ ns) (p ∷ ps) (q ∷ rs) fill h r zero lt e = subst (IsPlaced s (n ∷ ns) i) e (in_front s n ns p.numbers i q fill.0 h.0.number h.0.listed)
further l s first start i (n ∷ ns) (p ∷ ps) (q ∷ rs) fill h r (suc k) lt e = placed_at_next s n ns i r (further l s first start (i + 1) ns ps rs fill.1 h.1 r k (omega (arith, lt)) e)

in_run : (l : Layout) (s : Item) (first : InputRelocation) (rest : List InputRelocation) (start : ℕ) (o : Instruction) (n : ℕ) (ns : List ℕ) → o.numbers ≡ n ∷ [] → Fill ns o.partners → (t : IsSequence l s first rest start o) → (p : InputRelocation) → Contains (first ∷ rest) p → IsPlaced s (n ∷ ns) t.index p
in_run l s first rest start o n ns one fill t p c = by c.0 c.1 c.2
  where
    by : (k : ℕ) → k < length (first ∷ rest) → get_or (first ∷ rest) k p ≡ p → IsPlaced s (n ∷ ns) t.index p
    by zero lt e = subst (IsPlaced s (n ∷ ns) t.index) e (in_front s n ns o.numbers t.index first one t.stands.number t.listed)
    by (suc k) lt e = placed_at_next s n ns t.index p (further l s first start (t.index + 1) ns o.partners rest fill t.has p k (omega (arith, lt)) e)

placed : (q : Sequence) (l : Layout) (s : Item) (first : InputRelocation) (rest : List InputRelocation) (start : ℕ) (o : Instruction) → o ≡ run_of q → (t : IsSequence l s first rest start o) → (p : InputRelocation) → Contains (first ∷ rest) p → IsPlaced s (types_of q) t.index p
placed DescriptorCall l s first rest start o e t p c =
    in_run l s first rest start o abi.r_aarch64_tlsdesc_adr_page21 (abi.r_aarch64_tlsdesc_ld64_lo12 ∷ abi.r_aarch64_tlsdesc_add_lo12 ∷ abi.r_aarch64_tlsdesc_call ∷ []) (ap (λ (x : Instruction). x.numbers) e)
    (subst (λ (x : Instruction). Fill (abi.r_aarch64_tlsdesc_ld64_lo12 ∷ abi.r_aarch64_tlsdesc_add_lo12 ∷ abi.r_aarch64_tlsdesc_call ∷ []) x.partners) (sym e) (refl, (refl, (refl, tt)))) t p c
placed OffsetSlot l s first rest start o e t p c =
    in_run l s first rest start o abi.r_aarch64_tlsie_adr_gottprel_page21 (abi.r_aarch64_tlsie_ld64_gottprel_lo12_nc ∷ []) (ap (λ (x : Instruction). x.numbers) e) (subst (λ (x : Instruction). Fill (abi.r_aarch64_tlsie_ld64_gottprel_lo12_nc ∷ []) x.partners) (sym e) (refl, tt)) t p c
placed Address l s first rest start o e t p c =
    in_run l s first rest start o abi.r_aarch64_adr_prel_pg_hi21 (abi.r_aarch64_add_abs_lo12_nc ∷ []) (ap (λ (x : Instruction). x.numbers) e) (subst (λ (x : Instruction). Fill (abi.r_aarch64_add_abs_lo12_nc ∷ []) x.partners) (sym e) (refl, tt)) t p c

run_kind : (o : Instruction) → IsRun o → (q : Sequence) × (o ≡ run_of q)
run_kind o (inl e) = (DescriptorCall, e)
run_kind o (inr (inl e)) = (OffsetSlot, e)
run_kind o (inr (inr e)) = (Address, e)

-- where one is kept, none is rewritten
none_rewritten : RowsApplyTogether → WindowsHaveNoOtherField → (l : Layout) (s : Item) (i : ℕ) (r : InputRelocation) (d : Decision) (q : Sequence) (index : ℕ) → l.machine ≡ machine.AArch64 → IsDecided l s → HasDecision l s i r d → KeepsInstruction d → IsPlaced s (types_of q) index r
    → (p : InputRelocation) → (h : IsPlaced s (types_of q) index p) → (row : Row) (v : ℕ) → HasDecision l s (index + h.word) p (Rewritten row v) → ⊥
none_rewritten together windows l s i r d q index on decided has keeps m p h row v there =
    let t = rewritten_word l s (index + h.word) p row v on there in
    let c = run_there l s (index + h.word) p row t in
    let a = type_is t.sequence t.word p.number (own_type l s (index + h.word) p row t c) in
    let b = type_is q h.word p.number h.type in
    let same : t.sequence ≡ q = sym a.sequence ∙ b.sequence in
    let word : t.word ≡ h.word = sym a.before ∙ b.before in
    let at = c.at in
    let first : c.index + m.word ≡ index + m.word = omega (arith, at, word) in
    let w = run_word together l s (index + h.word) p row decided t c m.word r.number (subst (λ (x : Sequence). slice_get (types_of x) m.word ≡ Some r.number) (sym same) m.type) in
    let here = subst (λ (n : ℕ). HasDecision l s n w.relocation (Rewritten w.row w.value)) first w.has in
    let both : Some w.relocation ≡ Some r = sym here.listed ∙ m.listed in
    let is : w.relocation ≡ r = cc in
    same_kept windows l s i (index + m.word) r d w.row w.value on decided has keeps (subst (λ (x : InputRelocation). HasDecision l s (index + m.word) x (Rewritten w.row w.value)) is here)

-- so each is kept
pub run_is_kept : RowsApplyTogether → WindowsHaveNoOtherField → (l : Layout) (s : Item) (i : ℕ) (r : InputRelocation) (d : Decision) → l.machine ≡ machine.AArch64 → IsDecided l s → HasDecision l s i r d → KeepsInstruction d → (start : ℕ) (o : Instruction) (first : InputRelocation) → (t : IsOfSequence l s r start o first) → (p : InputRelocation) → Contains (first ∷ t.rest) p → IsKeptAt l s p
run_is_kept together windows l s i r d on decided has keeps start o first t p c =
    let kind = run_kind o (is_run_of o (subst (λ (m : Machine). Contains (instructions_of m) o) on t.sequence.stands.known) t.sequence.several) in
    let q = kind.0 in
    let m = placed q l s first t.rest start o kind.1 t.sequence r t.one in
    let h = placed q l s first t.rest start o kind.1 t.sequence p c in
    let index = t.sequence.index + h.word in
    let e = decided.each index (slice_get_within s.relocations index p h.listed) in
    let there : HasDecision l s index p e.0 = record { listed = h.listed; decided = e.1 } in
    record {
      index = index;
      kept = record { decision = e.0; has = there; keeps = by e.0 index there (λ row v x. none_rewritten together windows l s i r d q t.sequence.index on decided has keeps m p h row v x); refers = (in_sequence l s first t.rest start o t.sequence p c).refers };
    }
  where
    by : (x : Decision) (j : ℕ) → HasDecision l s j p x → ((row : Row) (v : ℕ) → HasDecision l s j p (Rewritten row v) → ⊥) → KeepsInstruction x
    by Nothing j there none = tt
    by (Field z v) j there none = tt
    by (RelativeAddress v packed) j there none = tt
    by (DynamicField z n symbol addend) j there none = tt
    by (Rewritten row v) j there none = none row v there
    by Partner j there none = no_partner_there l s j p Partner on there refl

-- ---- the call of a run

larger : (a b : ℕ) → (y : ℕ) × (a ≤ y) × (b ≤ y) × ((y ≡ a) ⊎ (y ≡ b))
larger a b = elim (cases_lt a b) [ inl low ↦ (b, omega (arith, low), omega arith, inr refl) | inr high ↦ (a, omega arith, high, inl refl) ]

-- two runs with the first words at one place are one
first_apart : (a b y : ℕ) → (y ≡ a) ⊎ (y ≡ b) → a < b + 4 → b < a + 4 → (y < a + 4) × (y < b + 4)
first_apart a b y (inl e) x z = (omega (arith, e), omega (arith, e, x))
first_apart a b y (inr e) x z = (omega (arith, e, z), omega (arith, e))

pub call_is_kept : RowsApplyTogether → WindowsHaveNoOtherField → (l : Layout) (s : Item) (first : InputRelocation) (start k : ℕ) → l.machine ≡ machine.AArch64 → IsDecided l s → IsKeptAt l s first → first.offset ≡ start → first.number ≡ abi.r_aarch64_tlsdesc_adr_page21 → IsOwnByte descriptor_call_words k → InNoField l s (start + k)
    → (j : ℕ) (q : InputRelocation) (row : Row) (v : ℕ) → HasDecision l s j q (Rewritten row v) → (start + k < template_start row q) ⊎ (template_start row q + pattern_size row ≤ start + k)
call_is_kept together windows l s first start k on decided kept begins number own out j q row v h =
    elim (cases_lt (start + k) (template_start row q)) [
      | inl before ↦ inl before
      | inr from ↦ elim (cases_lt (start + k) (template_start row q + pattern_size row)) [ inl inside ↦ absurd (meets from inside (call_or_wide l s j q row v on h)) | inr after ↦ inr after ]
    ]
  where
    -- the first word of a run that is rewritten is not the first that is kept
    apart : (c : ℕ) → c < start + 4 → start < c + 4 → (index : ℕ) → IsWordAt l s index c abi.r_aarch64_tlsdesc_adr_page21 → ⊥
    apart c low high index x =
        elim (cases_eq index kept.index) [
          | inl e ↦ subst KeepsInstruction (one_decision l s kept.index first x.relocation kept.kept.decision (Rewritten x.row x.value) kept.kept.has (subst (λ (n : ℕ). HasDecision l s n x.relocation (Rewritten x.row x.value)) e x.has)) kept.kept.keeps
          | inr other ↦
              elim (call_or_wide l s index x.relocation x.row x.value on x.has) [
                | inl call ↦ (let e : abi.r_aarch64_tlsdesc_adr_page21 ≡ abi.r_aarch64_tlsdesc_call = sym x.number ∙ call in absurd (omega (arith, e)))
                | inr f ↦
                    (let w = word_here l s index x.relocation x.row x.value on x.has in
                    let known : formula_of l.machine first.number ≡ Some f.0 = ap (formula_of l.machine) (number ∙ sym x.number) ∙ f.1 in
                    let y = larger start c in
                    let near = first_apart start c y.0 y.3 high low in
                    let begun = w.start in
                    let size = w.size in
                    let offset = x.offset in
                    let a = y.1 in
                    let b = y.2 in
                    let under = near.0 in
                    let above = near.1 in
                    let width = f.2 in
                    not_between y.0 first.offset (form_width f.0.form) (omega (arith, a, begins)) (omega (arith, under, begins, width))
                    (windows l s decided index kept.index x.relocation first x.row x.value kept.kept.decision x.has kept.kept.has other (λ m n. no_partner_there l s kept.index first kept.kept.decision on kept.kept.has n) y.0 (omega (arith, begun, offset, b)) (omega (arith, begun, size, offset, above)) f.0 known))
              ]
        ]

    meets : template_start row q ≤ start + k → start + k < template_start row q + pattern_size row → (q.number ≡ abi.r_aarch64_tlsdesc_call) ⊎ ((f : Formula) × (formula_of l.machine q.number ≡ Some f) × (form_width f.form ≡ 4)) → ⊥
    meets from inside (inr f) =
        let w = word_here l s j q row v on h in
        let begun = w.start in
        let size = w.size in
        let width = f.2 in
        not_between (start + k) q.offset (form_width f.0.form) (omega (arith, begun, from)) (omega (arith, begun, size, inside, width))
        (holds_at (λ (r : InputRelocation). (g : Formula) → formula_of l.machine r.number ≡ Some g → (start + k < r.offset) ⊎ (r.offset + form_width g.form ≤ start + k)) s.relocations j q h.listed out f.0 f.1)
    meets from inside (inl call) =
        let w = word_here l s j q row v on h in
        let t = rewritten_word l s j q row v on h in
        let c = run_there l s j q row t in
        let a = type_is t.sequence t.word q.number (own_type l s j q row t c) in
        let b = type_is DescriptorCall 3 q.number (ap (λ (n : ℕ). Some n) (sym call)) in
        let same : t.sequence ≡ DescriptorCall = sym a.sequence ∙ b.sequence in
        let word : t.word ≡ 3 = sym a.before ∙ b.before in
        let place = c.place in
        let begun = w.start in
        let size = w.size in
        let bytes = call_bytes k own in
        let low = bytes.0 in
        let high = bytes.1 in
        let x = run_word together l s j q row decided t c 0 abi.r_aarch64_tlsdesc_adr_page21 (ap (λ (y : Sequence). slice_get (types_of y) 0) same) in
        apart (c.start + 4 * 0) (omega (arith, begun, from, place, word, high)) (omega (arith, begun, size, inside, place, word, low)) (c.index + 0) x
