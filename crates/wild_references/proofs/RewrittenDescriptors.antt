-- The call through a descriptor, in whose place an offset from the thread pointer is written: `nop; nop; movz; movk`.
use Rattle.wild_references.proofs.Common.{◌≡◌, ℕ, pos, ◌+◌, ◌^◌, ◌<◌, ◌≤◌, true, false, List, [], ◌∷◌, ◌++◌, length, refl, sym, ap, ◌∙◌, subst, arith, Option, Some, slice_range, word, number, allows, x86_64_row, any, static_row, thread_row, RelocationKindInfo, InputRelocation, Layout, interposable, Item, is_executable, flags_at, DescriptorCall, Row, CALL_FIRST, CALL_SECOND, CALL_FOURTH, Rewriting, rewriting, templates_at, RowsOfAArch64Keep, words_of, template_of, info_written, words_at, words_match, Memory, World, place_at, IsOffset, descriptor_call_words, reads_without_calls, reads_numbers, Reader, Number, IsLoadedItem, TermGives}
use Rattle.wild_reloc.specs.TableAArch64.{tp_off, imm16, unsigned}
use Rattle.wild_reloc.specs.declared.expression.Term.TheVariants as term
use Rattle.wild_types.specs.declared.kind.Machine.TheVariants as machine
use Rattle.wild_relax.specs.declared.table_aarch64.TheConstants.{CALL_THIRD}
use Rattle.wild_aarch64.specs.Row as judged
use Rattle.wild_relax.proofs.KeepAArch64Lemmas.{call_first, call_second}
use Rattle.wild_references.proofs.RunsAArch64.{RunDoes}
use Rattle.wild_references.proofs.WordsAArch64.{IsWordThere, AreWordsThere, by_words}
use Rattle.wild_references.proofs.RewrittenCode.{run_done, words_of-front, no_slot}
use Rattle.wild_references.proofs.RewrittenReads.{IsDone}
use Rattle.wild_references.proofs.RewrittenOffsets.{IsWrittenWord, WritesWord, IsOffsetRow, word_there, word_small, word_same, written_long, value_of_word, offset_of_word, one_value, within_32}

pub first_word : WritesWord CALL_FIRST
unfolding x86_64_row
first_word = record { begins = refl; size = refl; fits = refl }

pub second_word : WritesWord CALL_SECOND
unfolding x86_64_row
second_word = record { begins = refl; size = refl; fits = refl }

third_word : WritesWord CALL_THIRD
unfolding static_row thread_row
third_word = record { begins = refl; size = refl; fits = refl }

fourth_word : WritesWord CALL_FOURTH
unfolding static_row thread_row
fourth_word = record { begins = refl; size = refl; fits = refl }

third_offset : IsOffsetRow CALL_THIRD
unfolding static_row thread_row
third_offset = record { bits = imm16 16 32; range = unsigned 32; info = refl; keeps = λ a. refl }

fourth_offset : IsOffsetRow CALL_FOURTH
unfolding static_row thread_row
fourth_offset = record { bits = imm16 0 16; range = any; info = refl; keeps = λ a. refl }

third_info : info_written CALL_THIRD ≡ tp_off (imm16 16 32) (unsigned 32) 1
unfolding static_row thread_row
third_info = refl

abbrev pub call_rows : Rewriting
call_rows = rewriting DescriptorCall (CALL_FIRST ∷ CALL_SECOND ∷ CALL_THIRD ∷ CALL_FOURTH ∷ []) judged.call_to_offset

-- word k of a call is written, with the first relocation's symbol and addend
pub record IsWrittenPart (l : Layout) (s : Item) (first : InputRelocation) (at : ℕ) (row : Row) : Type 0 where
  pub relocation : InputRelocation
  pub index : ℕ
  pub value : ℕ
  pub written : IsWrittenWord l s index relocation row value
  pub place : relocation.offset ≡ at
  pub symbol : relocation.symbol ≡ first.symbol
  pub none : relocation.addend ≡ pos 0

pub nop_first : (w : World) (m : Memory) (l : Layout) (s : Item) (at v : ℕ) → IsLoadedItem machine.AArch64 l w m s → at + 4 ≤ length s.bytes → template_of CALL_FIRST 0 (word 4 (number (slice_range s.bytes at (at + 4)))) ≡ template_of CALL_FIRST v (slice_range s.bytes at (at + 4))
nop_first w m l s at v g inside =
    let old = slice_range s.bytes at (at + 4) in
    let small = word_small w m l s at g inside in
    call_first 0 (number old) small ∙ (sym (call_first v (number old) small) ∙ ap (λ (bs : List ℕ). template_of CALL_FIRST v bs) (word_same w m l s at g inside))

pub nop_second : (w : World) (m : Memory) (l : Layout) (s : Item) (at v : ℕ) → IsLoadedItem machine.AArch64 l w m s → at + 4 ≤ length s.bytes → template_of CALL_SECOND 0 (word 4 (number (slice_range s.bytes at (at + 4)))) ≡ template_of CALL_SECOND v (slice_range s.bytes at (at + 4))
nop_second w m l s at v g inside =
    let old = slice_range s.bytes at (at + 4) in
    let small = word_small w m l s at g inside in
    call_second 0 (number old) small ∙ (sym (call_second v (number old) small) ∙ ap (λ (bs : List ℕ). template_of CALL_SECOND v bs) (word_same w m l s at g inside))

pub four_words : (p q t u : List ℕ) → length p ≡ 4 → length q ≡ 4 → length t ≡ 4 → length u ≡ 4 → words_of (p ++ (q ++ (t ++ (u ++ [])))) ≡ number p ∷ number q ∷ number t ∷ number u ∷ []
four_words p q t u a b c e =
    words_of-front p (q ++ (t ++ (u ++ []))) a
    ∙ (ap (λ (ws : List ℕ). number p ∷ ws) (words_of-front q (t ++ (u ++ [])) b)
    ∙ (ap (λ (ws : List ℕ). number p ∷ number q ∷ ws) (words_of-front t (u ++ []) c)
    ∙ ap (λ (ws : List ℕ). number p ∷ number q ∷ number t ∷ ws) (words_of-front u [] e)))

pub call_to_offset : RowsOfAArch64Keep → TermGives term.PointerOffset → (l : Layout) (w : World) (m : Memory) (s : Item) (first : InputRelocation) (start k : ℕ) → IsLoadedItem machine.AArch64 l w m s → start + 16 ≤ length s.bytes → words_match DescriptorCall (words_at s.bytes start 4) ≡ true
    → first.symbol ≡ Some k → is_executable l.kind ≡ true → interposable (flags_at l k) ≡ false
    → IsWrittenPart l s first start CALL_FIRST → IsWrittenPart l s first (start + 4) CALL_SECOND → IsWrittenPart l s first (start + 4 + 4) CALL_THIRD → IsWrittenPart l s first (start + 4 + 4 + 4) CALL_FOURTH
    → IsDone machine.AArch64 l w m s first start descriptor_call_words
call_to_offset keeps law l w m s first start k g inside stands named program own p q t u =
    let in_p : start + 4 ≤ length s.bytes = omega (arith, inside) in
    let in_q : start + 4 + 4 ≤ length s.bytes = omega (arith, inside) in
    let in_t : start + 4 + 4 + 4 ≤ length s.bytes = omega (arith, inside) in
    let in_u : start + 4 + 4 + 4 + 4 ≤ length s.bytes = omega (arith, inside) in
    let v = t.value in
    let value = value_of_word l s t.index t.relocation CALL_THIRD v third_offset t.written in
    let same : t.value ≡ u.value = one_value l t.relocation u.relocation t.value u.value (t.symbol ∙ sym u.symbol) (t.none ∙ sym u.none) value (value_of_word l s u.index u.relocation CALL_FOURTH u.value fourth_offset u.written) in
    let offset = offset_of_word law l w m s t.index t.relocation k v (start + 4 + 4) g t.written.has.listed (t.symbol ∙ named) t.none t.place in_t program own value in
    let small : v < 2 ^ 32 = within_32 (imm16 16 32) v offset.small (subst (λ (f : RelocationKindInfo). allows f v ≡ true) third_info t.written.allowed) in
    let a = s.address + start in
    let b0 = slice_range s.bytes start (start + 4) in
    let b1 = slice_range s.bytes (start + 4) (start + 4 + 4) in
    let b2 = slice_range s.bytes (start + 4 + 4) (start + 4 + 4 + 4) in
    let b3 = slice_range s.bytes (start + 4 + 4 + 4) (start + 4 + 4 + 4 + 4) in
    let t0 = template_of CALL_FIRST p.value b0 in
    let t1 = template_of CALL_SECOND q.value b1 in
    let t2 = template_of CALL_THIRD t.value b2 in
    let t3 = template_of CALL_FOURTH u.value b3 in
    let ws = number b0 ∷ number b1 ∷ number b2 ∷ number b3 ∷ [] in
    let us = number t0 ∷ number t1 ∷ number t2 ∷ number t3 ∷ [] in
    let one = word_there l w m s p.index p.relocation CALL_FIRST p.value start g p.written.has first_word p.place in_p in
    let two = word_there l w m s q.index q.relocation CALL_SECOND q.value (start + 4) g q.written.has second_word q.place in_q in
    let three = word_there l w m s t.index t.relocation CALL_THIRD t.value (start + 4 + 4) g t.written.has third_word t.place in_t in
    let four = word_there l w m s u.index u.relocation CALL_FOURTH u.value (start + 4 + 4 + 4) g u.written.has fourth_word u.place in_u in
    let third : template_of CALL_THIRD v (word 4 (number b2)) ≡ t2 = ap (λ (bs : List ℕ). template_of CALL_THIRD v bs) (word_same w m l s (start + 4 + 4) g in_t) in
    let fourth : template_of CALL_FOURTH v (word 4 (number b3)) ≡ t3 = ap (λ (n : ℕ). template_of CALL_FOURTH n (word 4 (number b3))) same ∙ ap (λ (bs : List ℕ). template_of CALL_FOURTH u.value bs) (word_same w m l s (start + 4 + 4 + 4) g in_u) in
    let new : words_of (templates_at call_rows.rows a v ws) ≡ us =
    ap (λ (bs : List ℕ). words_of (bs ++ (template_of CALL_SECOND 0 (word 4 (number b1)) ++ (template_of CALL_THIRD v (word 4 (number b2)) ++ (template_of CALL_FOURTH v (word 4 (number b3)) ++ []))))) (nop_first w m l s start p.value g in_p)
    ∙ (ap (λ (bs : List ℕ). words_of (t0 ++ (bs ++ (template_of CALL_THIRD v (word 4 (number b2)) ++ (template_of CALL_FOURTH v (word 4 (number b3)) ++ []))))) (nop_second w m l s (start + 4) q.value g in_q)
    ∙ (ap (λ (bs : List ℕ). words_of (t0 ++ (t1 ++ (bs ++ (template_of CALL_FOURTH v (word 4 (number b3)) ++ []))))) third
    ∙ (ap (λ (bs : List ℕ). words_of (t0 ++ (t1 ++ (t2 ++ (bs ++ []))))) fourth
    ∙ four_words t0 t1 t2 t3 (written_long s CALL_FIRST p.value start first_word in_p) (written_long s CALL_SECOND q.value (start + 4) second_word in_q) (written_long s CALL_THIRD t.value (start + 4 + 4) third_word in_t) (written_long s CALL_FOURTH u.value (start + 4 + 4 + 4) fourth_word in_u)))) in
    let place : place_at w s start ≡ w.base + a = omega arith in
    let second : place_at w s (start + 4) ≡ place_at w s start + 4 = omega arith in
    let third_place : place_at w s (start + 4 + 4) ≡ place_at w s start + 4 + 4 = omega arith in
    let fourth_place : place_at w s (start + 4 + 4 + 4) ≡ place_at w s start + 4 + 4 + 4 = omega arith in
    let done : (read : Reader) → ((y : ℕ) → read (Number y) ≡ Some y) → RunDoes read (place_at w s start) v ws us = λ read numbers.
    subst (λ (n : ℕ). RunDoes read n v ws us) (sym place) (subst (λ (xs : List ℕ). RunDoes read (w.base + a) v ws xs) new
    (run_done keeps call_rows (0, omega arith, refl) ws read numbers w.base a v v
    (word_small w m l s start g in_p, (word_small w m l s (start + 4) g in_q, (word_small w m l s (start + 4 + 4) g in_t, (word_small w m l s (start + 4 + 4 + 4) g in_u, tt)))) stands (small, refl))) in
    let there : AreWordsThere m (place_at w s start) us =
    (one, (subst (λ (n : ℕ). IsWordThere m n (number t1)) second two, (subst (λ (n : ℕ). IsWordThere m n (number t2)) third_place three, (subst (λ (n : ℕ). IsWordThere m n (number t3)) fourth_place four, tt)))) in
    record {
      does = record {
        value = v;
        demands = subst (λ (o : Option ℕ). IsOffset l w o v) t.symbol offset.offset;
        code = by_words (reads_without_calls w m) l w m s start descriptor_call_words v us g.on refl inside (λ e h. h) there (done (reads_without_calls w m) (λ y. refl));
      };
      words = no_slot l w m s first start descriptor_call_words v ws us refl there (done reads_numbers (λ y. refl));
    }
