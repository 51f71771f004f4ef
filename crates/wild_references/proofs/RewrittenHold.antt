-- Where a row is chosen for a word of a run, all its words are written, and the reference holds.
use Rattle.wild_references.proofs.Common.{◌≡◌, ℕ, zero, suc, ◌+◌, ◌-◌, ◌⊎◌, inl, inr, false, [], ◌∷◌, refl, sym, ap, ◌∙◌, subst, arith, Some, Ok, Contains, slice_get, not-true, r_aarch64_adr_prel_pg_hi21, r_aarch64_add_abs_lo12_nc, r_aarch64_tlsie_adr_gottprel_page21, r_aarch64_tlsie_ld64_gottprel_lo12_nc, r_aarch64_tlsdesc_adr_page21, r_aarch64_tlsdesc_ld64_lo12, r_aarch64_tlsdesc_add_lo12, r_aarch64_tlsdesc_call, Machine, InputRelocation, Layout, KeepsAll, interposable, Item, flags_at, Sequence, DescriptorCall, OffsetSlot, Address, Row, CALL_FIRST, CALL_SECOND, CALL_FOURTH, CALL_FOURTH_SLOT, Rewriting, rewritings, RowsOfAArch64Keep, keeps_bytes, Question, chosen_row_aarch64, words_before, RowsApplyTogether, question_around, Memory, World, by_word, HoldsRewritten, ReadsOffsetSlots, only_one, IsLoadedItem, TermGives}
use Rattle.wild_reloc.specs.declared.expression.Term.TheVariants as term
use Rattle.wild_types.specs.declared.kind.Machine.TheVariants as machine
use Rattle.wild_relax.specs.declared.row.ValueTest.TheVariants as value
use Rattle.wild_relax.specs.declared.table_aarch64.TheConstants.{CALL_THIRD, CALL_THIRD_SLOT, SLOT_FIRST, SLOT_SECOND, ADDRESS_FIRST, ADDRESS_SECOND}
use Rattle.wild_relax.specs.SequenceRowsAArch64.{question_at, IsRowOfSequence}
use Rattle.wild_relax.proofs.TogetherLemmas.{chosen_word}
use Rattle.wild_meaning.proofs.PairLemmas.{only}
use Rattle.wild_references.proofs.SequencesAArch64.{has_three}
use Rattle.wild_references.proofs.RewrittenRuns.{run_of, IsRewrittenWord, IsRunThere, near_symbol}
use Rattle.wild_references.proofs.RewrittenSequences.{IsJudgedRun, of_run}
use Rattle.wild_references.proofs.RewrittenReads.{IsDone}
use Rattle.wild_references.proofs.RewrittenOffsets.{IsWrittenWord, slot_rows, slot_pair_to_offset}
use Rattle.wild_references.proofs.RewrittenNear.{address_rows, address_pair_to_near}
use Rattle.wild_references.proofs.RewrittenDescriptors.{IsWrittenPart, call_rows as offset_call_rows, call_to_offset}
use Rattle.wild_references.proofs.RewrittenSlots.{call_rows as slot_call_rows, call_to_slot}
use Rattle.wild_references.proofs.RewrittenWords.{WordsAreWritten, asked_there}
use Rattle.wild_references.proofs.StubCode.{StubLaws}
use Rattle.wild_references.proofs.Targets.{StubIsWritten}

-- ---- words of a run

-- word k of a run, with the relocation of a type, as its row writes it
pub record IsWordOf (l : Layout) (s : Item) (symbol index k : ℕ) (p : InputRelocation) (row : Row) : Type 0 where
  pub value : ℕ
  pub chosen : chosen_row_aarch64 (question_around l s (index + k) p symbol) ≡ Ok (Some row)
  pub written : IsWrittenWord l s (index + k) p row value

none_before : (i w k f j : ℕ) → w ≡ k → i - (i - w) ≡ f + k → f + j ≡ j
none_before i w k f j e h = omega (arith, e, h)

pub word_of_run : (l : Layout) (s : Item) (i : ℕ) (r : InputRelocation) (row : Row) (q : Sequence) → (t : IsRewrittenWord l s i r row) → (c : IsRunThere l s i r row q t.word) → (o : IsRowOfSequence (question_around l s i r t.symbol) row t.sequence t.word) → WordsAreWritten l s t.symbol
    → (k n : ℕ) (p : InputRelocation) (other : Row) → slice_get o.whole.rows k ≡ Some other → keeps_bytes other ≡ false → words_before n ≡ k → Contains (n ∷ []) p.number → slice_get s.relocations (c.index + k) ≡ Some p → p.symbol ≡ Some t.symbol → IsWordOf l s t.symbol c.index k p other
word_of_run l s i r row q t c o written k n p other here changes before number listed named =
    let first : o.first + k ≡ k = none_before i (words_before r.number) t.word o.first k c.before o.place in
    let there = subst (λ (j : ℕ). chosen_row_aarch64 (question_at (question_around l s i r t.symbol) j) ≡ Ok (Some other)) first (o.each k other here) in
    let asked = asked_there l s i c.index t.word k t.symbol r p c.at c.before (ap words_before (only_one n p.number number) ∙ before) in
    let chosen = subst (λ (y : Question). chosen_row_aarch64 y ≡ Ok (Some other)) asked there in
    let w = written (c.index + k) p other listed named chosen changes in
    record { value = w.0; chosen = chosen; written = w.1 }

-- the instruction in whose place they are written
held : (l : Layout) (w : World) (m : Memory) (s : Item) (r : InputRelocation) (q : Sequence) (start index : ℕ) → l.machine ≡ machine.AArch64 → (j : IsJudgedRun l s r q start index) → IsDone machine.AArch64 l w m s j.first start (run_of q) → HoldsRewritten l w m s r
held l w m s r q start index on j done = record {
  start = start;
  instruction = run_of q;
  first = j.first;
  template = inr (of_run l s r q start index j);
  does = done.does;
  words = subst (λ (k : Machine). ReadsOffsetSlots k l w m s j.first start (run_of q)) (sym on) done.words;
}

-- ---- the slot of an offset

slot_whole : (t : Rewriting) → Contains rewritings t → t.sequence ≡ OffsetSlot → t ≡ slot_rows
slot_whole t (zero, low, is) e = (let both : DescriptorCall ≡ OffsetSlot = ap (λ (x : Rewriting). x.sequence) is ∙ e in cc)
slot_whole t (suc zero, low, is) e = (let both : DescriptorCall ≡ OffsetSlot = ap (λ (x : Rewriting). x.sequence) is ∙ e in cc)
slot_whole t (suc (suc zero), low, is) e = sym is
slot_whole t (suc (suc (suc zero)), low, is) e = (let both : Address ≡ OffsetSlot = ap (λ (x : Rewriting). x.sequence) is ∙ e in cc)
slot_whole t (suc (suc (suc (suc k))), low, is) e = absurd (omega (arith, low))

pub slot_holds : RowsApplyTogether → RowsOfAArch64Keep → TermGives term.PointerOffset → (l : Layout) (w : World) (m : Memory) (s : Item) (i : ℕ) (r : InputRelocation) (row : Row) → IsLoadedItem machine.AArch64 l w m s → (t : IsRewrittenWord l s i r row) → t.sequence ≡ OffsetSlot → (c : IsRunThere l s i r row OffsetSlot t.word) → IsJudgedRun l s r OffsetSlot c.start c.index
    → WordsAreWritten l s t.symbol → HoldsRewritten l w m s r
slot_holds together keeps law l w m s i r row g t same c j written =
    let o = together (question_around l s i r t.symbol) row t.sequence t.word t.chosen t.among in
    let whole = slot_whole o.whole o.known (o.same ∙ same) in
    let two = only l s j.first c.start (j.sequence.index + 1) (by_word 4 4 r_aarch64_tlsie_ld64_gottprel_lo12_nc) j.rest j.sequence.has in
    let named = j.names ∙ t.named in
    let here : c.index ≡ c.index + 0 = omega arith in
    let listed = subst (λ (n : ℕ). slice_get s.relocations n ≡ Some j.first) here j.listed in
    let behind = subst (λ (n : ℕ). slice_get s.relocations (n + 1) ≡ Some two.second) j.at two.has.listed in
    let a = word_of_run l s i r row OffsetSlot t c o written 0 r_aarch64_tlsie_adr_gottprel_page21 j.first SLOT_FIRST (subst (λ (x : Rewriting). slice_get x.rows 0 ≡ Some SLOT_FIRST) (sym whole) refl) refl refl j.sequence.stands.number listed named in
    let b = word_of_run l s i r row OffsetSlot t c o written 1 r_aarch64_tlsie_ld64_gottprel_lo12_nc two.second SLOT_SECOND (subst (λ (x : Rewriting). slice_get x.rows 1 ≡ Some SLOT_SECOND) (sym whole) refl) refl refl two.has.number behind (two.has.names.0 ∙ named) in
    let asks = (chosen_word (question_around l s (c.index + 0) j.first t.symbol) SLOT_FIRST OffsetSlot 0 a.chosen refl).applied in
    held l w m s r OffsetSlot c.start c.index g.on j
    (slot_pair_to_offset keeps law l w m s j.first c.start t.symbol g c.inside c.words named asks.thread (not-true (interposable (flags_at l t.symbol)) asks.value)
    (record { index = c.index + 0; value = a.value; here = a.written; at = j.begins; none = j.none; second = two.second; place = c.index + 1; other = b.value; there = b.written; behind = two.has.field; symbol = sym two.has.names.0; addend = sym two.has.names.1 }))

-- ---- an address

address_whole : (t : Rewriting) → Contains rewritings t → t.sequence ≡ Address → t ≡ address_rows
address_whole t (zero, low, is) e = (let both : DescriptorCall ≡ Address = ap (λ (x : Rewriting). x.sequence) is ∙ e in cc)
address_whole t (suc zero, low, is) e = (let both : DescriptorCall ≡ Address = ap (λ (x : Rewriting). x.sequence) is ∙ e in cc)
address_whole t (suc (suc zero), low, is) e = (let both : OffsetSlot ≡ Address = ap (λ (x : Rewriting). x.sequence) is ∙ e in cc)
address_whole t (suc (suc (suc zero)), low, is) e = sym is
address_whole t (suc (suc (suc (suc k))), low, is) e = absurd (omega (arith, low))

pub near_holds : StubLaws → RowsApplyTogether → RowsOfAArch64Keep → (l : Layout) (w : World) (m : Memory) (s : Item) (i : ℕ) (r : InputRelocation) (row : Row) → IsLoadedItem machine.AArch64 l w m s → (t : IsRewrittenWord l s i r row) → StubIsWritten l t.symbol → t.sequence ≡ Address → (c : IsRunThere l s i r row Address t.word) → IsJudgedRun l s r Address c.start c.index
    → WordsAreWritten l s t.symbol → HoldsRewritten l w m s r
near_holds stubs together keeps l w m s i r row g t stands same c j written =
    let o = together (question_around l s i r t.symbol) row t.sequence t.word t.chosen t.among in
    let whole = address_whole o.whole o.known (o.same ∙ same) in
    let two = only l s j.first c.start (j.sequence.index + 1) (by_word 4 4 r_aarch64_add_abs_lo12_nc) j.rest j.sequence.has in
    let named = j.names ∙ t.named in
    let here : c.index ≡ c.index + 0 = omega arith in
    let listed = subst (λ (n : ℕ). slice_get s.relocations n ≡ Some j.first) here j.listed in
    let behind = subst (λ (n : ℕ). slice_get s.relocations (n + 1) ≡ Some two.second) j.at two.has.listed in
    let a = word_of_run l s i r row Address t c o written 0 r_aarch64_adr_prel_pg_hi21 j.first ADDRESS_FIRST (subst (λ (x : Rewriting). slice_get x.rows 0 ≡ Some ADDRESS_FIRST) (sym whole) refl) refl refl j.sequence.stands.number listed named in
    let b = word_of_run l s i r row Address t c o written 1 r_aarch64_add_abs_lo12_nc two.second ADDRESS_SECOND (subst (λ (x : Rewriting). slice_get x.rows 1 ≡ Some ADDRESS_SECOND) (sym whole) refl) refl refl two.has.number behind (two.has.names.0 ∙ named) in
    let asked = question_around l s (c.index + 0) j.first t.symbol in
    let near = near_symbol (value.OwnNear 4) asked refl (chosen_word asked ADDRESS_FIRST Address 0 a.chosen refl).applied.value in
    held l w m s r Address c.start c.index g.on j
    (address_pair_to_near stubs keeps l w m s j.first c.start t.symbol g stands c.inside c.words named near.own near.moves near.defined
    (record { index = c.index + 0; value = a.value; here = a.written; at = j.begins; none = j.none; second = two.second; place = c.index + 1; other = b.value; there = b.written; behind = two.has.field; symbol = sym two.has.names.0; addend = sym two.has.names.1 }))

-- ---- the call of a descriptor's function

call_whole : (t : Rewriting) → Contains rewritings t → t.sequence ≡ DescriptorCall → (t ≡ offset_call_rows) ⊎ (t ≡ slot_call_rows)
call_whole t (zero, low, is) e = inl (sym is)
call_whole t (suc zero, low, is) e = inr (sym is)
call_whole t (suc (suc zero), low, is) e = (let both : OffsetSlot ≡ DescriptorCall = ap (λ (x : Rewriting). x.sequence) is ∙ e in cc)
call_whole t (suc (suc (suc zero)), low, is) e = (let both : Address ≡ DescriptorCall = ap (λ (x : Rewriting). x.sequence) is ∙ e in cc)
call_whole t (suc (suc (suc (suc k))), low, is) e = absurd (omega (arith, low))

pub call_holds : RowsApplyTogether → RowsOfAArch64Keep → TermGives term.PointerOffset → (l : Layout) (w : World) (m : Memory) (s : Item) (i : ℕ) (r : InputRelocation) (row : Row) → IsLoadedItem machine.AArch64 l w m s → (t : IsRewrittenWord l s i r row) → KeepsAll l → t.sequence ≡ DescriptorCall → (c : IsRunThere l s i r row DescriptorCall t.word) → IsJudgedRun l s r DescriptorCall c.start c.index
    → WordsAreWritten l s t.symbol → HoldsRewritten l w m s r
call_holds together keeps law l w m s i r row g t all same c j written =
    let o = together (question_around l s i r t.symbol) row t.sequence t.word t.chosen t.among in
    let three = has_three l s j.first c.start (j.sequence.index + 1) (by_word 4 4 r_aarch64_tlsdesc_ld64_lo12) (by_word 8 4 r_aarch64_tlsdesc_add_lo12) (by_word 12 0 r_aarch64_tlsdesc_call) j.rest j.sequence.has in
    let named = j.names ∙ t.named in
    let at = j.at in
    let zeroth : c.index ≡ c.index + 0 = omega arith in
    let second_at : j.sequence.index + 1 ≡ c.index + 1 = omega (arith, at) in
    let third_at : j.sequence.index + 1 + 1 ≡ c.index + 2 = omega (arith, at) in
    let fourth_at : j.sequence.index + 1 + 1 + 1 ≡ c.index + 3 = omega (arith, at) in
    let listed = subst (λ (n : ℕ). slice_get s.relocations n ≡ Some j.first) zeroth j.listed in
    let second_there = subst (λ (n : ℕ). slice_get s.relocations n ≡ Some three.second) second_at three.two.listed in
    let third_there = subst (λ (n : ℕ). slice_get s.relocations n ≡ Some three.third) third_at three.three.listed in
    let fourth_there = subst (λ (n : ℕ). slice_get s.relocations n ≡ Some three.fourth) fourth_at three.four.listed in
    let third_place : three.third.offset ≡ c.start + 4 + 4 = (let e = three.three.field in omega (arith, e)) in
    let fourth_place : three.fourth.offset ≡ c.start + 4 + 4 + 4 = (let e = three.four.field in omega (arith, e)) in
    let first_part : (x : Row) → slice_get o.whole.rows 0 ≡ Some x → keeps_bytes x ≡ false → IsWrittenPart l s j.first c.start x = λ x there changes.
    (let a = word_of_run l s i r row DescriptorCall t c o written 0 r_aarch64_tlsdesc_adr_page21 j.first x there changes refl j.sequence.stands.number listed named in
    record { relocation = j.first; index = c.index + 0; value = a.value; written = a.written; place = j.begins; symbol = refl; none = j.none }) in
    let second_part : (x : Row) → slice_get o.whole.rows 1 ≡ Some x → keeps_bytes x ≡ false → IsWrittenPart l s j.first (c.start + 4) x = λ x there changes.
    (let a = word_of_run l s i r row DescriptorCall t c o written 1 r_aarch64_tlsdesc_ld64_lo12 three.second x there changes refl three.two.number second_there (three.two.names.0 ∙ named) in
    record { relocation = three.second; index = c.index + 1; value = a.value; written = a.written; place = three.two.field; symbol = three.two.names.0; none = three.two.names.1 ∙ j.none }) in
    let third_word : (x : Row) → slice_get o.whole.rows 2 ≡ Some x → keeps_bytes x ≡ false → IsWordOf l s t.symbol c.index 2 three.third x = λ x there changes.
    word_of_run l s i r row DescriptorCall t c o written 2 r_aarch64_tlsdesc_add_lo12 three.third x there changes refl three.three.number third_there (three.three.names.0 ∙ named) in
    let third_part : (x : Row) → IsWordOf l s t.symbol c.index 2 three.third x → IsWrittenPart l s j.first (c.start + 4 + 4) x = λ x a.
    record { relocation = three.third; index = c.index + 2; value = a.value; written = a.written; place = third_place; symbol = three.three.names.0; none = three.three.names.1 ∙ j.none } in
    let fourth_part : (x : Row) → slice_get o.whole.rows 3 ≡ Some x → keeps_bytes x ≡ false → IsWrittenPart l s j.first (c.start + 4 + 4 + 4) x = λ x there changes.
    (let a = word_of_run l s i r row DescriptorCall t c o written 3 r_aarch64_tlsdesc_call three.fourth x there changes refl three.four.number fourth_there (three.four.names.0 ∙ named) in
    record { relocation = three.fourth; index = c.index + 3; value = a.value; written = a.written; place = fourth_place; symbol = three.four.names.0; none = three.four.names.1 ∙ j.none }) in
    held l w m s r DescriptorCall c.start c.index g.on j
    (elim (call_whole o.whole o.known (o.same ∙ same)) [
      | inl whole ↦
          (let third = third_word CALL_THIRD (subst (λ (x : Rewriting). slice_get x.rows 2 ≡ Some CALL_THIRD) (sym whole) refl) refl in
          let asks = (chosen_word (question_around l s (c.index + 2) three.third t.symbol) CALL_THIRD DescriptorCall 2 third.chosen refl).applied in
          call_to_offset keeps law l w m s j.first c.start t.symbol g c.inside c.words named asks.thread (not-true (interposable (flags_at l t.symbol)) asks.value)
          (first_part CALL_FIRST (subst (λ (x : Rewriting). slice_get x.rows 0 ≡ Some CALL_FIRST) (sym whole) refl) refl)
          (second_part CALL_SECOND (subst (λ (x : Rewriting). slice_get x.rows 1 ≡ Some CALL_SECOND) (sym whole) refl) refl)
          (third_part CALL_THIRD third)
          (fourth_part CALL_FOURTH (subst (λ (x : Rewriting). slice_get x.rows 3 ≡ Some CALL_FOURTH) (sym whole) refl) refl))
      | inr whole ↦
          call_to_slot keeps l w m s j.first c.start t.symbol g all c.inside c.words named
          (first_part CALL_FIRST (subst (λ (x : Rewriting). slice_get x.rows 0 ≡ Some CALL_FIRST) (sym whole) refl) refl)
          (second_part CALL_SECOND (subst (λ (x : Rewriting). slice_get x.rows 1 ≡ Some CALL_SECOND) (sym whole) refl) refl)
          (third_part CALL_THIRD_SLOT (third_word CALL_THIRD_SLOT (subst (λ (x : Rewriting). slice_get x.rows 2 ≡ Some CALL_THIRD_SLOT) (sym whole) refl) refl))
          (fourth_part CALL_FOURTH_SLOT (subst (λ (x : Rewriting). slice_get x.rows 3 ≡ Some CALL_FOURTH_SLOT) (sym whole) refl) refl)
    ])
