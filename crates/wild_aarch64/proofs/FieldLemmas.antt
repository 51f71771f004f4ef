-- What a field is written into is read as before, with the field.
use Rattle.std.proofs.Common.{◌≡◌, ℕ, ◌%◌, ◌^◌, true, [], ◌∷◌, Some, refl, subst, eqb-true, arith}
use Rattle.std.proofs.lemmas.Bool.{and_parts}
use Rattle.wild_aarch64.specs.Slice.{bits, has_fixed_bits, Fixed, is, Form}
use Rattle.wild_aarch64.specs.Forms.{d, n, adrp, adr, add, add_shifted, movz, movk, movn, ldr, byte_access, half_access, word_access, ldrsw, str, prfm, vector_8, vector_128, vector_16, vector_32, vector_64, literal, vector_literal, wide_literal, br, blr, nop, bti, branch, call, b_cond, cbz_32, cbz_64, tbz_low, tbz_high, forms}
use Rattle.wild_aarch64.specs.Code.{read}
use Rattle.wild_aarch64.specs.Immediate.{Field, insert_bits, word_with_immediate, immediate, bits_of_field, bits_outside, Imm12, Imm14, Imm16, Imm19, Imm21, Imm26, Nowhere}
use Rattle.wild_aarch64.specs.Laws.{FieldIsWritten, FieldsAreWritten, FormsAreRead}
use Rattle.wild_aarch64.proofs.ReadLemmas.{reads_adrp, reads_adr, reads_add, reads_add_shifted, reads_movz, reads_movk, reads_movn, reads_ldr, reads_byte, reads_half, reads_word, reads_ldrsw, reads_str, reads_prfm, reads_vector_8, reads_vector_128, reads_vector_16, reads_vector_32, reads_vector_64, reads_literal, reads_vector_literal, reads_wide_literal, reads_br, reads_blr, reads_nop, reads_bti, reads_b, reads_bl, reads_b_cond, reads_cbz_32, reads_cbz_64, reads_tbz_low, reads_tbz_high}
use Rattle.wild_aarch64.proofs.ListLemmas.{for_each}

-- the bits of a form, one by one
two : (a b : Fixed) (w : ℕ) → has_fixed_bits (a ∷ b ∷ []) w ≡ true → (bits a.low a.count w ≡ a.value) × (bits b.low b.count w ≡ b.value)
two a b w h =
    let p = and_parts _ _ h in
    let q = and_parts _ _ p.1 in
    (eqb-true _ _ p.0, eqb-true _ _ q.0)

three : (a b c : Fixed) (w : ℕ) → has_fixed_bits (a ∷ b ∷ c ∷ []) w ≡ true → (bits a.low a.count w ≡ a.value) × (bits b.low b.count w ≡ b.value) × (bits c.low c.count w ≡ c.value)
three a b c w h =
    let p = and_parts _ _ h in
    let q = two b c w p.1 in
    (eqb-true _ _ p.0, q.0, q.1)

four : (a b c e : Fixed) (w : ℕ) → has_fixed_bits (a ∷ b ∷ c ∷ e ∷ []) w ≡ true → (bits a.low a.count w ≡ a.value) × (bits b.low b.count w ≡ b.value) × (bits c.low c.count w ≡ c.value) × (bits e.low e.count w ≡ e.value)
four a b c e w h =
    let p = and_parts _ _ h in
    let q = three b c e w p.1 in
    (eqb-true _ _ p.0, q.0, q.1, q.2)

pub adrp_field : FieldIsWritten adrp
unfolding insert_bits
adrp_field w x h =
    let t = three (is 26 3 4) (is 24 5 16) (is 31 1 1) w h in
    let a = t.0 in
    let b = t.1 in
    let c = t.2 in
    reads_adrp (word_with_immediate Imm21 x w) (d w) (x % 2 ^ 21) (omega arith) (omega arith) (omega arith) (omega arith) (omega arith)

pub adr_field : FieldIsWritten adr
unfolding insert_bits
adr_field w x h =
    let t = three (is 26 3 4) (is 24 5 16) (is 31 1 0) w h in
    let a = t.0 in
    let b = t.1 in
    let c = t.2 in
    reads_adr (word_with_immediate Imm21 x w) (d w) (x % 2 ^ 21) (omega arith) (omega arith) (omega arith) (omega arith) (omega arith)

pub add_field : FieldIsWritten add
unfolding insert_bits
add_field w x h =
    let t = three (is 26 3 4) (is 24 5 17) (is 22 10 0x244) w h in
    let a = t.0 in
    let b = t.1 in
    let c = t.2 in
    reads_add (word_with_immediate Imm12 x w) (d w) (n w) (x % 2 ^ 12) (omega arith) (omega arith) (omega arith) (omega arith) (omega arith) (omega arith)

pub add_shifted_field : FieldIsWritten add_shifted
unfolding insert_bits
add_shifted_field w x h =
    let t = three (is 26 3 4) (is 24 5 17) (is 22 10 0x245) w h in
    let a = t.0 in
    let b = t.1 in
    let c = t.2 in
    reads_add_shifted (word_with_immediate Imm12 x w) (d w) (n w) (x % 2 ^ 12) (omega arith) (omega arith) (omega arith) (omega arith) (omega arith) (omega arith)

pub movz_field : FieldIsWritten movz
unfolding insert_bits
movz_field w x h =
    let t = three (is 26 3 4) (is 24 5 18) (is 23 9 0x1a5) w h in
    let a = t.0 in
    let b = t.1 in
    let c = t.2 in
    reads_movz (word_with_immediate Imm16 x w) (d w) (bits 21 2 w) (x % 2 ^ 16) (omega arith) (omega arith) (omega arith) (omega arith) (omega arith) (omega arith)

pub movk_field : FieldIsWritten movk
unfolding insert_bits
movk_field w x h =
    let t = three (is 26 3 4) (is 24 5 18) (is 23 9 0x1e5) w h in
    let a = t.0 in
    let b = t.1 in
    let c = t.2 in
    reads_movk (word_with_immediate Imm16 x w) (d w) (bits 21 2 w) (x % 2 ^ 16) (omega arith) (omega arith) (omega arith) (omega arith) (omega arith) (omega arith)

pub movn_field : FieldIsWritten movn
unfolding insert_bits
movn_field w x h =
    let t = three (is 26 3 4) (is 24 5 18) (is 23 9 0x125) w h in
    let a = t.0 in
    let b = t.1 in
    let c = t.2 in
    reads_movn (word_with_immediate Imm16 x w) (d w) (bits 21 2 w) (x % 2 ^ 16) (omega arith) (omega arith) (omega arith) (omega arith) (omega arith) (omega arith)

pub ldr_field : FieldIsWritten ldr
unfolding insert_bits
ldr_field w x h =
    let t = four (is 26 3 6) (is 24 2 1) (is 29 3 7) (is 22 2 1) w h in
    let a = t.0 in
    let b = t.1 in
    let c = t.2 in
    let e = t.3 in
    reads_ldr (word_with_immediate Imm12 x w) (d w) (n w) (x % 2 ^ 12) (omega arith) (omega arith) (omega arith) (omega arith) (omega arith) (omega arith) (omega arith)

pub byte_field : FieldIsWritten byte_access
unfolding insert_bits
byte_field w x h =
    let t = three (is 26 3 6) (is 24 2 1) (is 29 3 1) w h in
    let a = t.0 in
    let b = t.1 in
    let c = t.2 in
    reads_byte (word_with_immediate Imm12 x w) (bits_outside Imm12 w) (x % 2 ^ 12) (omega arith) (omega arith) (omega arith) (omega arith) (omega arith)

pub half_field : FieldIsWritten half_access
unfolding insert_bits
half_field w x h =
    let t = three (is 26 3 6) (is 24 2 1) (is 29 3 3) w h in
    let a = t.0 in
    let b = t.1 in
    let c = t.2 in
    reads_half (word_with_immediate Imm12 x w) (bits_outside Imm12 w) (x % 2 ^ 12) (omega arith) (omega arith) (omega arith) (omega arith) (omega arith)

pub word_field : FieldIsWritten word_access
unfolding insert_bits
word_field w x h =
    let t = four (is 26 3 6) (is 24 2 1) (is 29 3 5) (is 23 1 0) w h in
    let a = t.0 in
    let b = t.1 in
    let c = t.2 in
    let e = t.3 in
    reads_word (word_with_immediate Imm12 x w) (bits_outside Imm12 w) (x % 2 ^ 12) (omega arith) (omega arith) (omega arith) (omega arith) (omega arith) (omega arith)

pub ldrsw_field : FieldIsWritten ldrsw
unfolding insert_bits
ldrsw_field w x h =
    let t = four (is 26 3 6) (is 24 2 1) (is 29 3 5) (is 22 2 2) w h in
    let a = t.0 in
    let b = t.1 in
    let c = t.2 in
    let e = t.3 in
    reads_ldrsw (word_with_immediate Imm12 x w) (bits_outside Imm12 w) (x % 2 ^ 12) (omega arith) (omega arith) (omega arith) (omega arith) (omega arith) (omega arith) (omega arith)

pub str_field : FieldIsWritten str
unfolding insert_bits
str_field w x h =
    let t = four (is 26 3 6) (is 24 2 1) (is 29 3 7) (is 22 2 0) w h in
    let a = t.0 in
    let b = t.1 in
    let c = t.2 in
    let e = t.3 in
    reads_str (word_with_immediate Imm12 x w) (bits_outside Imm12 w) (x % 2 ^ 12) (omega arith) (omega arith) (omega arith) (omega arith) (omega arith) (omega arith)

pub prfm_field : FieldIsWritten prfm
unfolding insert_bits
prfm_field w x h =
    let t = four (is 26 3 6) (is 24 2 1) (is 29 3 7) (is 22 2 2) w h in
    let a = t.0 in
    let b = t.1 in
    let c = t.2 in
    let e = t.3 in
    reads_prfm (word_with_immediate Imm12 x w) (bits_outside Imm12 w) (x % 2 ^ 12) (omega arith) (omega arith) (omega arith) (omega arith) (omega arith) (omega arith)

pub vector_8_field : FieldIsWritten vector_8
unfolding insert_bits
vector_8_field w x h =
    let t = four (is 26 3 7) (is 24 2 1) (is 29 3 1) (is 23 1 0) w h in
    let a = t.0 in
    let b = t.1 in
    let c = t.2 in
    let e = t.3 in
    reads_vector_8 (word_with_immediate Imm12 x w) (bits_outside Imm12 w) (x % 2 ^ 12) (omega arith) (omega arith) (omega arith) (omega arith) (omega arith) (omega arith)

pub vector_128_field : FieldIsWritten vector_128
unfolding insert_bits
vector_128_field w x h =
    let t = four (is 26 3 7) (is 24 2 1) (is 29 3 1) (is 23 1 1) w h in
    let a = t.0 in
    let b = t.1 in
    let c = t.2 in
    let e = t.3 in
    reads_vector_128 (word_with_immediate Imm12 x w) (bits_outside Imm12 w) (x % 2 ^ 12) (omega arith) (omega arith) (omega arith) (omega arith) (omega arith) (omega arith)

pub vector_16_field : FieldIsWritten vector_16
unfolding insert_bits
vector_16_field w x h =
    let t = four (is 26 3 7) (is 24 2 1) (is 29 3 3) (is 23 1 0) w h in
    let a = t.0 in
    let b = t.1 in
    let c = t.2 in
    let e = t.3 in
    reads_vector_16 (word_with_immediate Imm12 x w) (bits_outside Imm12 w) (x % 2 ^ 12) (omega arith) (omega arith) (omega arith) (omega arith) (omega arith) (omega arith)

pub vector_32_field : FieldIsWritten vector_32
unfolding insert_bits
vector_32_field w x h =
    let t = four (is 26 3 7) (is 24 2 1) (is 29 3 5) (is 23 1 0) w h in
    let a = t.0 in
    let b = t.1 in
    let c = t.2 in
    let e = t.3 in
    reads_vector_32 (word_with_immediate Imm12 x w) (bits_outside Imm12 w) (x % 2 ^ 12) (omega arith) (omega arith) (omega arith) (omega arith) (omega arith) (omega arith)

pub vector_64_field : FieldIsWritten vector_64
unfolding insert_bits
vector_64_field w x h =
    let t = four (is 26 3 7) (is 24 2 1) (is 29 3 7) (is 23 1 0) w h in
    let a = t.0 in
    let b = t.1 in
    let c = t.2 in
    let e = t.3 in
    reads_vector_64 (word_with_immediate Imm12 x w) (bits_outside Imm12 w) (x % 2 ^ 12) (omega arith) (omega arith) (omega arith) (omega arith) (omega arith) (omega arith)

pub literal_field : FieldIsWritten literal
unfolding insert_bits
literal_field w x h =
    let t = three (is 26 3 6) (is 24 2 0) (is 29 1 0) w h in
    let a = t.0 in
    let b = t.1 in
    let c = t.2 in
    reads_literal (word_with_immediate Imm19 x w) (bits_outside Imm19 w) (x % 2 ^ 19) (omega arith) (omega arith) (omega arith) (omega arith) (omega arith)

pub vector_literal_field : FieldIsWritten vector_literal
unfolding insert_bits
vector_literal_field w x h =
    let t = four (is 26 3 7) (is 24 2 0) (is 29 1 0) (is 31 1 0) w h in
    let a = t.0 in
    let b = t.1 in
    let c = t.2 in
    let e = t.3 in
    reads_vector_literal (word_with_immediate Imm19 x w) (bits_outside Imm19 w) (x % 2 ^ 19) (omega arith) (omega arith) (omega arith) (omega arith) (omega arith) (omega arith)

pub wide_literal_field : FieldIsWritten wide_literal
unfolding insert_bits
wide_literal_field w x h =
    let t = three (is 26 3 7) (is 24 2 0) (is 29 3 4) w h in
    let a = t.0 in
    let b = t.1 in
    let c = t.2 in
    reads_wide_literal (word_with_immediate Imm19 x w) (bits_outside Imm19 w) (x % 2 ^ 19) (omega arith) (omega arith) (omega arith) (omega arith) (omega arith) (omega arith) (omega arith)

pub br_field : FieldIsWritten br
br_field w x h =
    let t = four (is 26 3 5) (is 26 6 53) (is 10 22 0x3587c0) (is 0 5 0) w h in
    reads_br w (n w) t.0 t.1 t.2 t.3 refl

pub blr_field : FieldIsWritten blr
blr_field w x h =
    let t = four (is 26 3 5) (is 26 6 53) (is 10 22 0x358fc0) (is 0 5 0) w h in
    reads_blr w (n w) t.0 t.1 t.2 t.3 refl

pub nop_field : FieldIsWritten nop
nop_field w x h =
    let t = three (is 26 3 5) (is 26 6 53) (is 0 32 0xd503201f) w h in
    let whole = t.2 in
    reads_nop w t.0 t.1 t.2 (omega arith)

pub bti_field : FieldIsWritten bti
bti_field w x h =
    let t = three (is 26 3 5) (is 26 6 53) (is 0 32 0xd503245f) w h in
    let whole = t.2 in
    reads_bti w t.0 t.1 t.2 (omega arith)

pub b_field : FieldIsWritten branch
unfolding insert_bits
b_field w x h =
    let t = two (is 26 3 5) (is 26 6 5) w h in
    let a = t.0 in
    let b = t.1 in
    reads_b (word_with_immediate Imm26 x w) (x % 2 ^ 26) (omega arith) (omega arith) (omega arith)

pub bl_field : FieldIsWritten call
unfolding insert_bits
bl_field w x h =
    let t = two (is 26 3 5) (is 26 6 37) w h in
    let a = t.0 in
    let b = t.1 in
    reads_bl (word_with_immediate Imm26 x w) (x % 2 ^ 26) (omega arith) (omega arith) (omega arith)

pub b_cond_field : FieldIsWritten b_cond
unfolding insert_bits
b_cond_field w x h =
    let t = four (is 26 3 5) (is 26 6 21) (is 24 2 0) (is 4 1 0) w h in
    let a = t.0 in
    let b = t.1 in
    let c = t.2 in
    let e = t.3 in
    reads_b_cond (word_with_immediate Imm19 x w) (bits_outside Imm19 w) (x % 2 ^ 19) (omega arith) (omega arith) (omega arith) (omega arith) (omega arith) (omega arith)

pub cbz_32_field : FieldIsWritten cbz_32
unfolding insert_bits
cbz_32_field w x h =
    let t = three (is 26 3 5) (is 26 6 13) (is 25 1 0) w h in
    let a = t.0 in
    let b = t.1 in
    let c = t.2 in
    reads_cbz_32 (word_with_immediate Imm19 x w) (bits_outside Imm19 w) (x % 2 ^ 19) (omega arith) (omega arith) (omega arith) (omega arith) (omega arith)

pub cbz_64_field : FieldIsWritten cbz_64
unfolding insert_bits
cbz_64_field w x h =
    let t = three (is 26 3 5) (is 26 6 45) (is 25 1 0) w h in
    let a = t.0 in
    let b = t.1 in
    let c = t.2 in
    reads_cbz_64 (word_with_immediate Imm19 x w) (bits_outside Imm19 w) (x % 2 ^ 19) (omega arith) (omega arith) (omega arith) (omega arith) (omega arith)

pub tbz_low_field : FieldIsWritten tbz_low
unfolding insert_bits
tbz_low_field w x h =
    let t = three (is 26 3 5) (is 26 6 13) (is 25 1 1) w h in
    let a = t.0 in
    let b = t.1 in
    let c = t.2 in
    reads_tbz_low (word_with_immediate Imm14 x w) (bits_outside Imm14 w) (x % 2 ^ 14) (omega arith) (omega arith) (omega arith) (omega arith) (omega arith)

pub tbz_high_field : FieldIsWritten tbz_high
unfolding insert_bits
tbz_high_field w x h =
    let t = three (is 26 3 5) (is 26 6 45) (is 25 1 1) w h in
    let a = t.0 in
    let b = t.1 in
    let c = t.2 in
    reads_tbz_high (word_with_immediate Imm14 x w) (bits_outside Imm14 w) (x % 2 ^ 14) (omega arith) (omega arith) (omega arith) (omega arith) (omega arith)

-- a word with its own immediate is itself
reinserted : (f : Field) (w : ℕ) → word_with_immediate f (immediate f w) w ≡ w
unfolding insert_bits
reinserted Imm12 w = omega arith
reinserted Imm14 w = omega arith
reinserted Imm16 w = omega arith
reinserted Imm19 w = omega arith
reinserted Imm21 w = omega arith
reinserted Imm26 w = omega arith
reinserted Nowhere w = refl

bits_of_field-immediate : (f : Field) (w : ℕ) → bits_of_field f (immediate f w) ≡ immediate f w
bits_of_field-immediate Imm12 w = omega arith
bits_of_field-immediate Imm14 w = omega arith
bits_of_field-immediate Imm16 w = omega arith
bits_of_field-immediate Imm19 w = omega arith
bits_of_field-immediate Imm21 w = omega arith
bits_of_field-immediate Imm26 w = omega arith
bits_of_field-immediate Nowhere w = refl

pub fields_are_written : FieldsAreWritten
fields_are_written f c = for_each FieldIsWritten forms (adrp_field, (adr_field, (add_field, (add_shifted_field, (movz_field, (movk_field, (movn_field, (ldr_field, (byte_field, (half_field, (word_field, (ldrsw_field, (str_field, (prfm_field, (vector_8_field, (vector_128_field, (vector_16_field, (vector_32_field, (vector_64_field, (literal_field, (vector_literal_field, (wide_literal_field, (br_field, (blr_field, (nop_field, (bti_field, (b_field, (bl_field, (b_cond_field, (cbz_32_field, (cbz_64_field, (tbz_low_field, (tbz_high_field, tt))))))))))))))))))))))))))))))))) f c

-- a form whose fields are written is read
pub form_is_read : (f : Form) → FieldIsWritten f → (w : ℕ) → has_fixed_bits f.fixed w ≡ true → read w ≡ Some (f.code w (immediate f.field w))
form_is_read f h w s =
    let e = h w (immediate f.field w) s in
    let e2 : read w ≡ Some (f.code w (bits_of_field f.field (immediate f.field w))) = subst (λ (u : ℕ). read u ≡ Some (f.code w (bits_of_field f.field (immediate f.field w)))) (reinserted f.field w) e in
    subst (λ (i : ℕ). read w ≡ Some (f.code w i)) (bits_of_field-immediate f.field w) e2

pub forms_are_read : FormsAreRead
forms_are_read f c = form_is_read f (fields_are_written f c)
