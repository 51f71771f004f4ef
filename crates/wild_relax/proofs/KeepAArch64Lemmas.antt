-- What the rows of AArch64 write is the run that is judged, and the words in whose place they stand are those that it is made of.
use Rattle.std.proofs.Common.{◌≡◌, ℕ, ◌+◌, ◌*◌, ◌/◌, ◌%◌, ◌^◌, ◌<◌, ◌≤◌, Bool, true, false, List, [], ◌∷◌, ◌++◌, Some, refl, sym, ap, subst, ◌∙◌, arith}
use Rattle.std.specs.Prelude.{◌==◌, ◌&&◌, nat_le, nat_lt, Option, option_map, Contains, slice_range}
use Rattle.std.proofs.lemmas.Bool.{and_parts, eqb-true, leb-true, ltb-true}
use Rattle.wild_words.specs.Words.{word, number, place}
use Rattle.wild_reloc.specs.Field.{written, size_written}
use Rattle.wild_reloc.specs.TableX86_64.{x86_64_row}
use Rattle.wild_reloc.specs.TableAArch64.{static_row, thread_row, adr, imm12, imm16}
use Rattle.wild_reloc.specs.declared.instruction.BitMask.{BitMask}
use Rattle.wild_reloc.specs.declared.info.RelocationSize.{RelocationSize}
use Rattle.wild_reloc.specs.declared.info.RelocationSize.TheVariants.{BitMasking}
use Rattle.wild_reloc.specs.declared.info.RelocationKindInfo.{RelocationKindInfo}
use Rattle.wild_aarch64.specs.declared.code.Code.{Code}
use Rattle.wild_aarch64.specs.declared.code.Code.TheVariants.{Adrp, Add, Ldr, Blr}
use Rattle.wild_aarch64.specs.Slice.{bits, signed}
use Rattle.wild_aarch64.specs.Code.{read}
use Rattle.wild_aarch64.specs.Immediate.{immediate, insert_bits, word_with_immediate, Imm12, Imm16, Imm21}
use Rattle.wild_aarch64.specs.Effect.{Reader, without_immediate, shapes, words_of, effect, demand}
use Rattle.wild_aarch64.specs.Laws.{some_codes}
use Rattle.wild_aarch64.specs.Row as judged
use Rattle.wild_aarch64.specs.Row.{Part, filled, HighOffset, LowOffset, SlotPage, SlotLow, Distance}
use Rattle.wild_aarch64.proofs.ListLemmas.{for_each}
use Rattle.wild_aarch64.proofs.ReadLemmas.{reads_adrp, reads_add, reads_ldr, reads_blr}
use Rattle.wild_aarch64.proofs.RowLemmas as judge
use Rattle.wild_relax.specs.declared.pattern.Sequence.TheVariants.{DescriptorCall, OffsetSlot, Address}
use Rattle.wild_relax.specs.declared.row.Word.{Word}
use Rattle.wild_relax.specs.declared.row.Word.TheVariants as words
use Rattle.wild_relax.specs.declared.table_aarch64.TheConstants.{CALL_FIRST, CALL_SECOND, CALL_THIRD, CALL_FOURTH, CALL_THIRD_SLOT, CALL_FOURTH_SLOT, SLOT_FIRST, SLOT_SECOND, ADDRESS_FIRST, ADDRESS_SECOND}
use Rattle.wild_relax.specs.FieldsAArch64.{value_of}
use Rattle.wild_relax.specs.RewriteX86_64.{register_set, word_made, info_written}
use Rattle.wild_relax.specs.LinkedPattern.{with_field, template_of}
use Rattle.wild_relax.specs.SequenceAArch64.{register_read, is_adrp, is_ldr, is_add, is_blr, register_of, words_match_register, words_match}
use Rattle.wild_relax.specs.KeepAArch64.{Rewriting, rewriting, rewritings, Keeps, RowsOfAArch64Keep}
use Rattle.wild_relax.proofs.AArch64Lemmas.{words_of-more}
use Rattle.wild_relax.proofs.FieldsAArch64Lemmas.{read_back, parts_are_fields}

-- ---- what is read

-- the instruction of a word with its field cleared
abbrev pub shape : ℕ → Option Code
shape w = option_map without_immediate (read w)

pub adrp_shape : (r w : ℕ) → is_adrp r w ≡ true → shape w ≡ Some (Adrp r 0)
adrp_shape r w h =
    let last = and_parts _ _ h in
    let first = and_parts _ _ last.0 in
    let top : w / 2 ^ 31 ≡ 1 = eqb-true _ _ first.0 in
    let class : w / 2 ^ 24 % 2 ^ 5 ≡ 16 = eqb-true _ _ first.1 in
    let register : w % 2 ^ 5 ≡ r = eqb-true _ _ last.1 in
    ap (option_map without_immediate) (reads_adrp w r (immediate Imm21 w) (omega (arith, class)) (omega (arith, class)) (omega (arith, top)) (omega (arith, register)) refl)

pub ldr_shape : (r q w : ℕ) → is_ldr r q w ≡ true → shape w ≡ Some (Ldr r q 0)
ldr_shape r q w h =
    let last = and_parts _ _ h in
    let first = and_parts _ _ last.0 in
    let top : w / 2 ^ 22 ≡ 0x3e5 = eqb-true _ _ first.0 in
    let register : w % 2 ^ 5 ≡ r = eqb-true _ _ first.1 in
    let from : w / 2 ^ 5 % 2 ^ 5 ≡ q = eqb-true _ _ last.1 in
    ap (option_map without_immediate) (reads_ldr w r q (immediate Imm12 w) (omega (arith, top)) (omega (arith, top)) (omega (arith, top)) (omega (arith, top)) (omega (arith, register)) (omega (arith, from)) refl)

pub add_shape : (r q w : ℕ) → is_add r q w ≡ true → shape w ≡ Some (Add r q 0)
add_shape r q w h =
    let last = and_parts _ _ h in
    let first = and_parts _ _ last.0 in
    let top : w / 2 ^ 22 ≡ 0x244 = eqb-true _ _ first.0 in
    let register : w % 2 ^ 5 ≡ r = eqb-true _ _ first.1 in
    let from : w / 2 ^ 5 % 2 ^ 5 ≡ q = eqb-true _ _ last.1 in
    ap (option_map without_immediate) (reads_add w r q (immediate Imm12 w) (omega (arith, top)) (omega (arith, top)) (omega (arith, top)) (omega (arith, register)) (omega (arith, from)) refl)

pub blr_shape : (r w : ℕ) → is_blr r w ≡ true → shape w ≡ Some (Blr r)
blr_shape r w h =
    let last = and_parts _ _ h in
    let first = and_parts _ _ last.0 in
    let top : w / 2 ^ 10 ≡ 0x358fc0 = eqb-true _ _ first.0 in
    let none : w % 2 ^ 5 ≡ 0 = eqb-true _ _ first.1 in
    let register : w / 2 ^ 5 % 2 ^ 5 ≡ r = eqb-true _ _ last.1 in
    ap (option_map without_immediate) (reads_blr w r (omega (arith, top)) (omega (arith, top)) (omega (arith, top)) (omega (arith, none)) (omega (arith, register)))

-- the register that a word sets
adrp_register : (r w : ℕ) → is_adrp r w ≡ true → register_set w ≡ r
adrp_register r w h = eqb-true _ _ (and_parts _ _ h).1

load_register : (top q r w : ℕ) → (w / 2 ^ 22 == top && register_set w == r && register_read w == q) ≡ true → register_set w ≡ r
load_register top q r w h = eqb-true _ _ (and_parts _ _ (and_parts _ _ h).0).1

-- ---- what is written

over_word : (x w : ℕ) → place 0 (word 4 x) (word 4 w) ≡ word 4 x
unfolding word place
over_word x w = refl

over_none : (w : ℕ) → place 0 [] (word 4 w) ≡ word 4 w
unfolding word place
over_none w = refl

whole_word : (w : ℕ) → slice_range (word 4 w) 0 4 ≡ word 4 w
unfolding word
whole_word w = refl

no_bytes : (v : ℕ) → word 0 v ≡ []
unfolding word
no_bytes v = refl

-- the word that is made
made_word : (m : Word) (w : ℕ) → w < 2 ^ 32 → place 0 (word 4 (word_made m (number (slice_range (word 4 w) 0 4)))) (word 4 w) ≡ word 4 (word_made m w)
made_word m w h = over_word (word_made m (number (slice_range (word 4 w) 0 4))) w ∙ ap (λ (n : ℕ). word 4 (word_made m n)) (ap number (whole_word w) ∙ read_back w h)

-- with a value in its field
filled_word : (info : RelocationKindInfo) (mask : BitMask) (m : Word) (v w : ℕ) → info.size ≡ BitMasking mask → w < 2 ^ 32
    → with_field info 0 v (place 0 (word 4 (word_made m (number (slice_range (word 4 w) 0 4)))) (word 4 w)) ≡ size_written (BitMasking mask) v (word 4 (word_made m w))
filled_word info mask m v w size h =
    ap (λ (bs : List ℕ). with_field info 0 v bs) (made_word m w h)
    ∙ (rw (size, whole_word (word_made m w)) (over_word _ (word_made m w)))

-- without a field
plain_word : (m : Word) (v w : ℕ) → w < 2 ^ 32 → place 0 (word 0 v) (place 0 (word 4 (word_made m (number (slice_range (word 4 w) 0 4)))) (word 4 w)) ≡ word 4 (word_made m w)
plain_word m v w h = rw (no_bytes v) (ap (λ (bs : List ℕ). place 0 [] bs) (made_word m w h) ∙ over_none (word_made m w))

pub call_first : (v w : ℕ) → w < 2 ^ 32 → template_of CALL_FIRST v (word 4 w) ≡ word 4 0xd503201f
unfolding template_of x86_64_row
call_first v w h = plain_word words.Nop v w h

pub call_second : (v w : ℕ) → w < 2 ^ 32 → template_of CALL_SECOND v (word 4 w) ≡ word 4 0xd503201f
unfolding template_of x86_64_row
call_second v w h = plain_word words.Nop v w h

pub address_first : (v w : ℕ) → w < 2 ^ 32 → template_of ADDRESS_FIRST v (word 4 w) ≡ word 4 0xd503201f
unfolding template_of x86_64_row
address_first v w h = plain_word words.Nop v w h

call_third : (a x w : ℕ) → w < 2 ^ 32 → template_of CALL_THIRD x (word 4 w) ≡ word 4 (filled HighOffset a x 0xd2a00000)
unfolding template_of static_row thread_row
call_third a x w h = filled_word (info_written CALL_THIRD) (imm16 16 32) words.MovzX0 x w refl h ∙ parts_are_fields HighOffset a x 0xd2a00000 (omega arith)

call_fourth : (a x w : ℕ) → w < 2 ^ 32 → template_of CALL_FOURTH x (word 4 w) ≡ word 4 (filled LowOffset a x 0xf2800000)
unfolding template_of static_row thread_row
call_fourth a x w h = filled_word (info_written CALL_FOURTH) (imm16 0 16) words.MovkX0 x w refl h ∙ parts_are_fields LowOffset a x 0xf2800000 (omega arith)

call_third_slot : (a x w : ℕ) → w < 2 ^ 32 → template_of CALL_THIRD_SLOT (value_of SlotPage a x) (word 4 w) ≡ word 4 (filled SlotPage a x 0x90000000)
unfolding template_of static_row thread_row
call_third_slot a x w h = filled_word (info_written CALL_THIRD_SLOT) (adr 12 33) words.AdrpX0 (value_of SlotPage a x) w refl h ∙ parts_are_fields SlotPage a x 0x90000000 (omega arith)

call_fourth_slot : (a x w : ℕ) → w < 2 ^ 32 → template_of CALL_FOURTH_SLOT x (word 4 w) ≡ word 4 (filled SlotLow a x 0xf9400000)
unfolding template_of static_row thread_row
call_fourth_slot a x w h = filled_word (info_written CALL_FOURTH_SLOT) (imm12 3 12) words.LdrX0 x w refl h ∙ parts_are_fields SlotLow a x 0xf9400000 (omega arith)

-- of a word that sets register r
slot_first : (r a x w : ℕ) → w < 2 ^ 32 → r < 31 → register_set w ≡ r → template_of SLOT_FIRST x (word 4 w) ≡ word 4 (filled HighOffset a x (0xd2a00000 + r))
unfolding template_of static_row thread_row
slot_first r a x w h low is =
    filled_word (info_written SLOT_FIRST) (imm16 16 32) words.Movz x w refl h ∙ (parts_are_fields HighOffset a x (0xd2a00000 + w % 2 ^ 5) (omega (arith, h)) ∙ ap (λ (q : ℕ). word 4 (filled HighOffset a x (0xd2a00000 + q))) is)

slot_second : (r a x w : ℕ) → w < 2 ^ 32 → r < 31 → register_set w ≡ r → template_of SLOT_SECOND x (word 4 w) ≡ word 4 (filled LowOffset a x (0xf2800000 + r))
unfolding template_of static_row thread_row
slot_second r a x w h low is =
    filled_word (info_written SLOT_SECOND) (imm16 0 16) words.Movk x w refl h ∙ (parts_are_fields LowOffset a x (0xf2800000 + w % 2 ^ 5) (omega (arith, h)) ∙ ap (λ (q : ℕ). word 4 (filled LowOffset a x (0xf2800000 + q))) is)

address_second : (r a x w : ℕ) → w < 2 ^ 32 → r < 31 → register_set w ≡ r → template_of ADDRESS_SECOND (value_of Distance a x) (word 4 w) ≡ word 4 (filled Distance a x (0x10000000 + r))
unfolding template_of static_row thread_row
address_second r a x w h low is =
    filled_word (info_written ADDRESS_SECOND) (adr 0 21) words.Adr (value_of Distance a x) w refl h ∙ (parts_are_fields Distance a x (0x10000000 + w % 2 ^ 5) (omega (arith, h)) ∙ ap (λ (q : ℕ). word 4 (filled Distance a x (0x10000000 + q))) is)

-- ---- runs

-- from words to their bytes and back
two_words : (p q : List ℕ) (b c : ℕ) → b < 2 ^ 32 → c < 2 ^ 32 → p ≡ word 4 b → q ≡ word 4 c → words_of (p ++ (q ++ [])) ≡ b ∷ c ∷ []
two_words p q b c h k e f = rw (e, f) (words_of-more b (word 4 c ++ []) h ∙ ap (λ (ws : List ℕ). b ∷ ws) (words_of-more c [] k))

four_words : (p q t u : List ℕ) (b c d e : ℕ) → b < 2 ^ 32 → c < 2 ^ 32 → d < 2 ^ 32 → e < 2 ^ 32 → p ≡ word 4 b → q ≡ word 4 c → t ≡ word 4 d → u ≡ word 4 e → words_of (p ++ (q ++ (t ++ (u ++ [])))) ≡ b ∷ c ∷ d ∷ e ∷ []
four_words p q t u b c d e hb hc hd he eb ec ed ee =
    rw (eb, ec) (words_of-more b (word 4 c ++ (t ++ (u ++ []))) hb ∙ ap (λ (ws : List ℕ). b ∷ ws) (words_of-more c (t ++ (u ++ [])) hc ∙ ap (λ (ws : List ℕ). c ∷ ws) (two_words t u d e hd he ed ee)))

-- fields leave a word a word
filled_16 : (i w : ℕ) → w < 2 ^ 32 → word_with_immediate Imm16 i w < 2 ^ 32
unfolding insert_bits
filled_16 i w h = omega arith

filled_12 : (i w : ℕ) → w < 2 ^ 32 → word_with_immediate Imm12 i w < 2 ^ 32
unfolding insert_bits
filled_12 i w h = omega arith

filled_21 : (i w : ℕ) → w < 2 ^ 32 → word_with_immediate Imm21 i w < 2 ^ 32
unfolding insert_bits
filled_21 i w h = omega arith

head : {A B : Type 0} → A × B → A
head (a, b) = a

tail : {A B : Type 0} → A × B → B
tail (a, b) = b

-- other numbers of words do not stand
none : false ≡ true → ⊥
none h = cc

never : (b : Bool) → (b && false) ≡ true → ⊥
never true h = cc
never false h = cc

-- ---- the four

record IsCall (r : ℕ) (ws : List ℕ) : Type 0 where
  low : 1 ≤ r
  same : shapes ws ≡ some_codes (judged.call_to_offset.old r)

calls : (r b c d e : ℕ) → words_match_register DescriptorCall r (b ∷ c ∷ d ∷ e ∷ []) ≡ true → IsCall r (b ∷ c ∷ d ∷ e ∷ [])
calls r b c d e h =
    let last = and_parts _ _ h in
    let third = and_parts _ _ last.0 in
    let second = and_parts _ _ third.0 in
    let first = and_parts _ _ second.0 in
    let pb = adrp_shape 0 b first.1 in
    let pc = ldr_shape r 0 c second.1 in
    let pd = add_shape 0 0 d third.1 in
    let pe = blr_shape r e last.1 in
    record { low = leb-true _ _ first.0; same = rw (pb, pc, pd, pe) refl }

call_to_offset_keeps : Keeps (rewriting DescriptorCall (CALL_FIRST ∷ CALL_SECOND ∷ CALL_THIRD ∷ CALL_FOURTH ∷ []) judged.call_to_offset)
call_to_offset_keeps (b ∷ c ∷ d ∷ e ∷ []) reader numbers base a x v small h comes =
    let both = and_parts _ _ h in
    let r = register_set c in
    let below : r < 31 = ltb-true _ _ both.0 in
    let t = calls r b c d e both.1 in
    let third = call_third (a + 4 + 4) x d (head (tail (tail small))) in
    let fourth = call_fourth (a + 4 + 4 + 4) x e (head (tail (tail (tail small)))) in
    let is = four_words _ _ _ _ 0xd503201f 0xd503201f (filled HighOffset (a + 4 + 4) x 0xd2a00000) (filled LowOffset (a + 4 + 4 + 4) x 0xf2800000) (omega arith) (omega arith) (filled_16 _ 0xd2a00000 (omega arith)) (filled_16 _ 0xf2800000 (omega arith))
    (call_first 0 b (head small)) (call_second 0 c (head (tail small))) third fourth in
    ap (λ (ws : List ℕ). effect reader (base + a) ws) is ∙ judge.rows_keep judged.call_to_offset (0, omega arith, refl) r (b ∷ c ∷ d ∷ e ∷ []) reader numbers base a x v t.low below t.same comes
call_to_offset_keeps [] reader numbers base a x v small h comes = absurd (none h)
call_to_offset_keeps (b ∷ []) reader numbers base a x v small h comes = absurd (none h)
call_to_offset_keeps (b ∷ c ∷ []) reader numbers base a x v small h comes = absurd (never _ h)
call_to_offset_keeps (b ∷ c ∷ d ∷ []) reader numbers base a x v small h comes = absurd (never _ h)
call_to_offset_keeps (b ∷ c ∷ d ∷ e ∷ f ∷ ws) reader numbers base a x v small h comes = absurd (never _ h)

call_to_slot_keeps : Keeps (rewriting DescriptorCall (CALL_FIRST ∷ CALL_SECOND ∷ CALL_THIRD_SLOT ∷ CALL_FOURTH_SLOT ∷ []) judged.call_to_slot)
call_to_slot_keeps (b ∷ c ∷ d ∷ e ∷ []) reader numbers base a x v small h comes =
    let both = and_parts _ _ h in
    let r = register_set c in
    let below : r < 31 = ltb-true _ _ both.0 in
    let t = calls r b c d e both.1 in
    let third = call_third_slot (a + 4 + 4) x d (head (tail (tail small))) in
    let fourth = call_fourth_slot (a + 4 + 4 + 4) x e (head (tail (tail (tail small)))) in
    let is = four_words _ _ _ _ 0xd503201f 0xd503201f (filled SlotPage (a + 4 + 4) x 0x90000000) (filled SlotLow (a + 4 + 4 + 4) x 0xf9400000) (omega arith) (omega arith) (filled_21 _ 0x90000000 (omega arith)) (filled_12 _ 0xf9400000 (omega arith))
    (call_first 0 b (head small)) (call_second 0 c (head (tail small))) third fourth in
    ap (λ (ws : List ℕ). effect reader (base + a) ws) is ∙ judge.rows_keep judged.call_to_slot (1, omega arith, refl) r (b ∷ c ∷ d ∷ e ∷ []) reader numbers base a x v t.low below t.same comes
call_to_slot_keeps [] reader numbers base a x v small h comes = absurd (none h)
call_to_slot_keeps (b ∷ []) reader numbers base a x v small h comes = absurd (none h)
call_to_slot_keeps (b ∷ c ∷ []) reader numbers base a x v small h comes = absurd (never _ h)
call_to_slot_keeps (b ∷ c ∷ d ∷ []) reader numbers base a x v small h comes = absurd (never _ h)
call_to_slot_keeps (b ∷ c ∷ d ∷ e ∷ f ∷ ws) reader numbers base a x v small h comes = absurd (never _ h)

slot_to_offset_keeps : Keeps (rewriting OffsetSlot (SLOT_FIRST ∷ SLOT_SECOND ∷ []) judged.slot_to_offset)
slot_to_offset_keeps (b ∷ c ∷ []) reader numbers base a x v small h comes =
    let both = and_parts _ _ h in
    let r = register_set c in
    let below : r < 31 = ltb-true _ _ both.0 in
    let each = and_parts _ _ both.1 in
    let pb = adrp_shape r b each.0 in
    let pc = ldr_shape r r c each.1 in
    let same : shapes (b ∷ c ∷ []) ≡ some_codes (judged.slot_to_offset.old r) = rw (pb, pc) refl in
    let first = slot_first r a x b (head small) below (adrp_register r b each.0) in
    let second = slot_second r (a + 4) x c (head (tail small)) below refl in
    let is = two_words _ _ (filled HighOffset a x (0xd2a00000 + r)) (filled LowOffset (a + 4) x (0xf2800000 + r)) (filled_16 _ (0xd2a00000 + r) (omega arith)) (filled_16 _ (0xf2800000 + r) (omega arith)) first second in
    ap (λ (ws : List ℕ). effect reader (base + a) ws) is ∙ judge.rows_keep judged.slot_to_offset (2, omega arith, refl) r (b ∷ c ∷ []) reader numbers base a x v (omega arith) below same comes
slot_to_offset_keeps [] reader numbers base a x v small h comes = absurd (none h)
slot_to_offset_keeps (b ∷ []) reader numbers base a x v small h comes = absurd (none h)
slot_to_offset_keeps (b ∷ c ∷ d ∷ ws) reader numbers base a x v small h comes = absurd (never _ h)

address_to_near_keeps : Keeps (rewriting Address (ADDRESS_FIRST ∷ ADDRESS_SECOND ∷ []) judged.address_to_near)
address_to_near_keeps (b ∷ c ∷ []) reader numbers base a x v small h comes =
    let both = and_parts _ _ h in
    let r = register_set c in
    let below : r < 31 = ltb-true _ _ both.0 in
    let each = and_parts _ _ both.1 in
    let pb = adrp_shape r b each.0 in
    let pc = add_shape r r c each.1 in
    let same : shapes (b ∷ c ∷ []) ≡ some_codes (judged.address_to_near.old r) = rw (pb, pc) refl in
    let second = address_second r (a + 4) x c (head (tail small)) below refl in
    let is = two_words _ _ 0xd503201f (filled Distance (a + 4) x (0x10000000 + r)) (omega arith) (filled_21 _ (0x10000000 + r) (omega arith)) (address_first 0 b (head small)) second in
    ap (λ (ws : List ℕ). effect reader (base + a) ws) is ∙ judge.rows_keep judged.address_to_near (3, omega arith, refl) r (b ∷ c ∷ []) reader numbers base a x v (omega arith) below same comes
address_to_near_keeps [] reader numbers base a x v small h comes = absurd (none h)
address_to_near_keeps (b ∷ []) reader numbers base a x v small h comes = absurd (none h)
address_to_near_keeps (b ∷ c ∷ d ∷ ws) reader numbers base a x v small h comes = absurd (never _ h)

pub rows_of_aarch64_keep : RowsOfAArch64Keep
rows_of_aarch64_keep t c = for_each Keeps rewritings (call_to_offset_keeps, (call_to_slot_keeps, (slot_to_offset_keeps, (address_to_near_keeps, tt)))) t c
