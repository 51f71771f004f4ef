-- A word with a form's bits is read as that form.
use Rattle.std.proofs.Common.{◌≡◌, ℕ, ◌*◌, Some, refl}
use Rattle.wild_aarch64.specs.declared.code.Code.TheVariants.{Adr, Adrp, Movz, Movk, Movn, Add, Ldr, Access, Literal, B, Bl, BranchIf, Br, Blr, Hint}
use Rattle.wild_aarch64.specs.Slice.{bits, signed}
use Rattle.wild_aarch64.specs.Forms.{shift_of}
use Rattle.wild_aarch64.specs.Code.{read, read_address, read_access, read_vector_access, read_literal, read_transfer, read_condition}
use Rattle.wild_aarch64.specs.Immediate.{immediate, bits_outside, Imm12, Imm14, Imm16, Imm19, Imm21, Imm26}

pub reads_adrp : (w r x : ℕ) → bits 26 3 w ≡ 4 → bits 24 5 w ≡ 16 → bits 31 1 w ≡ 1 → bits 0 5 w ≡ r → immediate Imm21 w ≡ x → read w ≡ Some (Adrp r (signed 33 (x * 4096)))
unfolding read read_address read_access read_vector_access read_literal read_transfer read_condition
reads_adrp w r x a b c e f = rw (a, b, c, e, f) refl

pub reads_adr : (w r x : ℕ) → bits 26 3 w ≡ 4 → bits 24 5 w ≡ 16 → bits 31 1 w ≡ 0 → bits 0 5 w ≡ r → immediate Imm21 w ≡ x → read w ≡ Some (Adr r (signed 21 x))
unfolding read read_address read_access read_vector_access read_literal read_transfer read_condition
reads_adr w r x a b c e f = rw (a, b, c, e, f) refl

pub reads_add : (w r q x : ℕ) → bits 26 3 w ≡ 4 → bits 24 5 w ≡ 17 → bits 22 10 w ≡ 0x244 → bits 0 5 w ≡ r → bits 5 5 w ≡ q → immediate Imm12 w ≡ x → read w ≡ Some (Add r q x)
unfolding read read_address read_access read_vector_access read_literal read_transfer read_condition
reads_add w r q x a b c e f g = rw (a, b, c, e, f, g) refl

pub reads_add_shifted : (w r q x : ℕ) → bits 26 3 w ≡ 4 → bits 24 5 w ≡ 17 → bits 22 10 w ≡ 0x245 → bits 0 5 w ≡ r → bits 5 5 w ≡ q → immediate Imm12 w ≡ x → read w ≡ Some (Add r q (x * 4096))
unfolding read read_address read_access read_vector_access read_literal read_transfer read_condition
reads_add_shifted w r q x a b c e f g = rw (a, b, c, e, f, g) refl

pub reads_movz : (w r s x : ℕ) → bits 26 3 w ≡ 4 → bits 24 5 w ≡ 18 → bits 23 9 w ≡ 0x1a5 → bits 0 5 w ≡ r → bits 21 2 w ≡ s → immediate Imm16 w ≡ x → read w ≡ Some (Movz r (shift_of s) x)
unfolding read read_address read_access read_vector_access read_literal read_transfer read_condition
reads_movz w r s x a b c e f g = rw (a, b, c, e, f, g) refl

pub reads_movk : (w r s x : ℕ) → bits 26 3 w ≡ 4 → bits 24 5 w ≡ 18 → bits 23 9 w ≡ 0x1e5 → bits 0 5 w ≡ r → bits 21 2 w ≡ s → immediate Imm16 w ≡ x → read w ≡ Some (Movk r (shift_of s) x)
unfolding read read_address read_access read_vector_access read_literal read_transfer read_condition
reads_movk w r s x a b c e f g = rw (a, b, c, e, f, g) refl

pub reads_movn : (w r s x : ℕ) → bits 26 3 w ≡ 4 → bits 24 5 w ≡ 18 → bits 23 9 w ≡ 0x125 → bits 0 5 w ≡ r → bits 21 2 w ≡ s → immediate Imm16 w ≡ x → read w ≡ Some (Movn r (shift_of s) x)
unfolding read read_address read_access read_vector_access read_literal read_transfer read_condition
reads_movn w r s x a b c e f g = rw (a, b, c, e, f, g) refl

pub reads_ldr : (w r q x : ℕ) → bits 26 3 w ≡ 6 → bits 24 2 w ≡ 1 → bits 29 3 w ≡ 7 → bits 22 2 w ≡ 1 → bits 0 5 w ≡ r → bits 5 5 w ≡ q → immediate Imm12 w ≡ x → read w ≡ Some (Ldr r q (x * 8))
unfolding read read_address read_access read_vector_access read_literal read_transfer read_condition
reads_ldr w r q x a b c e f g h = rw (a, b, c, e, f, g, h) refl

pub reads_byte : (w k x : ℕ) → bits 26 3 w ≡ 6 → bits 24 2 w ≡ 1 → bits 29 3 w ≡ 1 → bits_outside Imm12 w ≡ k → immediate Imm12 w ≡ x → read w ≡ Some (Access k x)
unfolding read read_address read_access read_vector_access read_literal read_transfer read_condition
reads_byte w k x a b c e f = rw (a, b, c, e, f) refl

pub reads_half : (w k x : ℕ) → bits 26 3 w ≡ 6 → bits 24 2 w ≡ 1 → bits 29 3 w ≡ 3 → bits_outside Imm12 w ≡ k → immediate Imm12 w ≡ x → read w ≡ Some (Access k (x * 2))
unfolding read read_address read_access read_vector_access read_literal read_transfer read_condition
reads_half w k x a b c e f = rw (a, b, c, e, f) refl

pub reads_word : (w k x : ℕ) → bits 26 3 w ≡ 6 → bits 24 2 w ≡ 1 → bits 29 3 w ≡ 5 → bits 23 1 w ≡ 0 → bits_outside Imm12 w ≡ k → immediate Imm12 w ≡ x → read w ≡ Some (Access k (x * 4))
unfolding read read_address read_access read_vector_access read_literal read_transfer read_condition
reads_word w k x a b c e f g = rw (a, b, c, e, f, g) refl

pub reads_ldrsw : (w k x : ℕ) → bits 26 3 w ≡ 6 → bits 24 2 w ≡ 1 → bits 29 3 w ≡ 5 → bits 22 2 w ≡ 2 → bits 23 1 w ≡ 1 → bits_outside Imm12 w ≡ k → immediate Imm12 w ≡ x → read w ≡ Some (Access k (x * 4))
unfolding read read_address read_access read_vector_access read_literal read_transfer read_condition
reads_ldrsw w k x a b c e f g h = rw (a, b, c, e, f, g, h) refl

pub reads_str : (w k x : ℕ) → bits 26 3 w ≡ 6 → bits 24 2 w ≡ 1 → bits 29 3 w ≡ 7 → bits 22 2 w ≡ 0 → bits_outside Imm12 w ≡ k → immediate Imm12 w ≡ x → read w ≡ Some (Access k (x * 8))
unfolding read read_address read_access read_vector_access read_literal read_transfer read_condition
reads_str w k x a b c e f g = rw (a, b, c, e, f, g) refl

pub reads_prfm : (w k x : ℕ) → bits 26 3 w ≡ 6 → bits 24 2 w ≡ 1 → bits 29 3 w ≡ 7 → bits 22 2 w ≡ 2 → bits_outside Imm12 w ≡ k → immediate Imm12 w ≡ x → read w ≡ Some (Access k (x * 8))
unfolding read read_address read_access read_vector_access read_literal read_transfer read_condition
reads_prfm w k x a b c e f g = rw (a, b, c, e, f, g) refl

pub reads_vector_8 : (w k x : ℕ) → bits 26 3 w ≡ 7 → bits 24 2 w ≡ 1 → bits 29 3 w ≡ 1 → bits 23 1 w ≡ 0 → bits_outside Imm12 w ≡ k → immediate Imm12 w ≡ x → read w ≡ Some (Access k x)
unfolding read read_address read_access read_vector_access read_literal read_transfer read_condition
reads_vector_8 w k x a b c e f g = rw (a, b, c, e, f, g) refl

pub reads_vector_128 : (w k x : ℕ) → bits 26 3 w ≡ 7 → bits 24 2 w ≡ 1 → bits 29 3 w ≡ 1 → bits 23 1 w ≡ 1 → bits_outside Imm12 w ≡ k → immediate Imm12 w ≡ x → read w ≡ Some (Access k (x * 16))
unfolding read read_address read_access read_vector_access read_literal read_transfer read_condition
reads_vector_128 w k x a b c e f g = rw (a, b, c, e, f, g) refl

pub reads_vector_16 : (w k x : ℕ) → bits 26 3 w ≡ 7 → bits 24 2 w ≡ 1 → bits 29 3 w ≡ 3 → bits 23 1 w ≡ 0 → bits_outside Imm12 w ≡ k → immediate Imm12 w ≡ x → read w ≡ Some (Access k (x * 2))
unfolding read read_address read_access read_vector_access read_literal read_transfer read_condition
reads_vector_16 w k x a b c e f g = rw (a, b, c, e, f, g) refl

pub reads_vector_32 : (w k x : ℕ) → bits 26 3 w ≡ 7 → bits 24 2 w ≡ 1 → bits 29 3 w ≡ 5 → bits 23 1 w ≡ 0 → bits_outside Imm12 w ≡ k → immediate Imm12 w ≡ x → read w ≡ Some (Access k (x * 4))
unfolding read read_address read_access read_vector_access read_literal read_transfer read_condition
reads_vector_32 w k x a b c e f g = rw (a, b, c, e, f, g) refl

pub reads_vector_64 : (w k x : ℕ) → bits 26 3 w ≡ 7 → bits 24 2 w ≡ 1 → bits 29 3 w ≡ 7 → bits 23 1 w ≡ 0 → bits_outside Imm12 w ≡ k → immediate Imm12 w ≡ x → read w ≡ Some (Access k (x * 8))
unfolding read read_address read_access read_vector_access read_literal read_transfer read_condition
reads_vector_64 w k x a b c e f g = rw (a, b, c, e, f, g) refl

pub reads_literal : (w k x : ℕ) → bits 26 3 w ≡ 6 → bits 24 2 w ≡ 0 → bits 29 1 w ≡ 0 → bits_outside Imm19 w ≡ k → immediate Imm19 w ≡ x → read w ≡ Some (Literal k (signed 21 (x * 4)))
unfolding read read_address read_access read_vector_access read_literal read_transfer read_condition
reads_literal w k x a b c e f = rw (a, b, c, e, f) refl

pub reads_vector_literal : (w k x : ℕ) → bits 26 3 w ≡ 7 → bits 24 2 w ≡ 0 → bits 29 1 w ≡ 0 → bits 31 1 w ≡ 0 → bits_outside Imm19 w ≡ k → immediate Imm19 w ≡ x → read w ≡ Some (Literal k (signed 21 (x * 4)))
unfolding read read_address read_access read_vector_access read_literal read_transfer read_condition
reads_vector_literal w k x a b c e f g = rw (a, b, c, e, f, g) refl

pub reads_wide_literal : (w k x : ℕ) → bits 26 3 w ≡ 7 → bits 24 2 w ≡ 0 → bits 29 3 w ≡ 4 → bits 29 1 w ≡ 0 → bits 31 1 w ≡ 1 → bits_outside Imm19 w ≡ k → immediate Imm19 w ≡ x → read w ≡ Some (Literal k (signed 21 (x * 4)))
unfolding read read_address read_access read_vector_access read_literal read_transfer read_condition
reads_wide_literal w k x a b c e f g h = rw (a, b, c, e, f, g, h) refl

pub reads_br : (w q : ℕ) → bits 26 3 w ≡ 5 → bits 26 6 w ≡ 53 → bits 10 22 w ≡ 0x3587c0 → bits 0 5 w ≡ 0 → bits 5 5 w ≡ q → read w ≡ Some (Br q)
unfolding read read_address read_access read_vector_access read_literal read_transfer read_condition
reads_br w q a b c e f = rw (a, b, c, e, f) refl

pub reads_blr : (w q : ℕ) → bits 26 3 w ≡ 5 → bits 26 6 w ≡ 53 → bits 10 22 w ≡ 0x358fc0 → bits 0 5 w ≡ 0 → bits 5 5 w ≡ q → read w ≡ Some (Blr q)
unfolding read read_address read_access read_vector_access read_literal read_transfer read_condition
reads_blr w q a b c e f = rw (a, b, c, e, f) refl

pub reads_nop : (w : ℕ) → bits 26 3 w ≡ 5 → bits 26 6 w ≡ 53 → bits 0 32 w ≡ 0xd503201f → bits 10 22 w ≡ 0x3540c8 → read w ≡ Some Hint
unfolding read read_address read_access read_vector_access read_literal read_transfer read_condition
reads_nop w a b c e = rw (a, b, c, e) refl

pub reads_bti : (w : ℕ) → bits 26 3 w ≡ 5 → bits 26 6 w ≡ 53 → bits 0 32 w ≡ 0xd503245f → bits 10 22 w ≡ 0x3540c9 → read w ≡ Some Hint
unfolding read read_address read_access read_vector_access read_literal read_transfer read_condition
reads_bti w a b c e = rw (a, b, c, e) refl

pub reads_b : (w x : ℕ) → bits 26 3 w ≡ 5 → bits 26 6 w ≡ 5 → immediate Imm26 w ≡ x → read w ≡ Some (B (signed 28 (x * 4)))
unfolding read read_address read_access read_vector_access read_literal read_transfer read_condition
reads_b w x a b c = rw (a, b, c) refl

pub reads_bl : (w x : ℕ) → bits 26 3 w ≡ 5 → bits 26 6 w ≡ 37 → immediate Imm26 w ≡ x → read w ≡ Some (Bl (signed 28 (x * 4)))
unfolding read read_address read_access read_vector_access read_literal read_transfer read_condition
reads_bl w x a b c = rw (a, b, c) refl

pub reads_b_cond : (w k x : ℕ) → bits 26 3 w ≡ 5 → bits 26 6 w ≡ 21 → bits 24 2 w ≡ 0 → bits 4 1 w ≡ 0 → bits_outside Imm19 w ≡ k → immediate Imm19 w ≡ x → read w ≡ Some (BranchIf k (signed 21 (x * 4)))
unfolding read read_address read_access read_vector_access read_literal read_transfer read_condition
reads_b_cond w k x a b c e f g = rw (a, b, c, e, f, g) refl

pub reads_cbz_32 : (w k x : ℕ) → bits 26 3 w ≡ 5 → bits 26 6 w ≡ 13 → bits 25 1 w ≡ 0 → bits_outside Imm19 w ≡ k → immediate Imm19 w ≡ x → read w ≡ Some (BranchIf k (signed 21 (x * 4)))
unfolding read read_address read_access read_vector_access read_literal read_transfer read_condition
reads_cbz_32 w k x a b c e f = rw (a, b, c, e, f) refl

pub reads_cbz_64 : (w k x : ℕ) → bits 26 3 w ≡ 5 → bits 26 6 w ≡ 45 → bits 25 1 w ≡ 0 → bits_outside Imm19 w ≡ k → immediate Imm19 w ≡ x → read w ≡ Some (BranchIf k (signed 21 (x * 4)))
unfolding read read_address read_access read_vector_access read_literal read_transfer read_condition
reads_cbz_64 w k x a b c e f = rw (a, b, c, e, f) refl

pub reads_tbz_low : (w k x : ℕ) → bits 26 3 w ≡ 5 → bits 26 6 w ≡ 13 → bits 25 1 w ≡ 1 → bits_outside Imm14 w ≡ k → immediate Imm14 w ≡ x → read w ≡ Some (BranchIf k (signed 16 (x * 4)))
unfolding read read_address read_access read_vector_access read_literal read_transfer read_condition
reads_tbz_low w k x a b c e f = rw (a, b, c, e, f) refl

pub reads_tbz_high : (w k x : ℕ) → bits 26 3 w ≡ 5 → bits 26 6 w ≡ 45 → bits 25 1 w ≡ 1 → bits_outside Imm14 w ≡ k → immediate Imm14 w ≡ x → read w ≡ Some (BranchIf k (signed 16 (x * 4)))
unfolding read read_address read_access read_vector_access read_literal read_transfer read_condition
reads_tbz_high w k x a b c e f = rw (a, b, c, e, f) refl
