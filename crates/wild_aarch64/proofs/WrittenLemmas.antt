-- What the words that are written are read as.
use Rattle.std.proofs.Common.{◌≡◌, ℕ, ◌+◌, ◌*◌, ◌%◌, ◌^◌, ◌<◌, Some, arith}
use Rattle.wild_aarch64.specs.declared.code.Code.TheVariants.{Adr, Adrp, Movz, Movk, Add, Ldr}
use Rattle.wild_aarch64.specs.declared.code.Shift.TheVariants.{By0, By16}
use Rattle.wild_aarch64.specs.Slice.{signed}
use Rattle.wild_aarch64.specs.Code.{read}
use Rattle.wild_aarch64.specs.Immediate.{insert_bits, word_with_immediate, Imm12, Imm16, Imm21}
use Rattle.wild_aarch64.proofs.ReadLemmas.{reads_adrp, reads_adr, reads_add, reads_movz, reads_movk, reads_ldr}

pub adrp_word : (r x : ℕ) → r < 32 → read (word_with_immediate Imm21 x (0x90000000 + r)) ≡ Some (Adrp r (signed 33 (x % 2 ^ 21 * 4096)))
unfolding insert_bits
adrp_word r x h = reads_adrp (word_with_immediate Imm21 x (0x90000000 + r)) r (x % 2 ^ 21) (omega arith) (omega arith) (omega arith) (omega arith) (omega arith)

pub adr_word : (r x : ℕ) → r < 32 → read (word_with_immediate Imm21 x (0x10000000 + r)) ≡ Some (Adr r (signed 21 (x % 2 ^ 21)))
unfolding insert_bits
adr_word r x h = reads_adr (word_with_immediate Imm21 x (0x10000000 + r)) r (x % 2 ^ 21) (omega arith) (omega arith) (omega arith) (omega arith) (omega arith)

pub movz_word : (r x : ℕ) → r < 32 → read (word_with_immediate Imm16 x (0xd2a00000 + r)) ≡ Some (Movz r By16 (x % 2 ^ 16))
unfolding insert_bits
movz_word r x h = reads_movz (word_with_immediate Imm16 x (0xd2a00000 + r)) r 1 (x % 2 ^ 16) (omega arith) (omega arith) (omega arith) (omega arith) (omega arith) (omega arith)

pub movk_word : (r x : ℕ) → r < 32 → read (word_with_immediate Imm16 x (0xf2800000 + r)) ≡ Some (Movk r By0 (x % 2 ^ 16))
unfolding insert_bits
movk_word r x h = reads_movk (word_with_immediate Imm16 x (0xf2800000 + r)) r 0 (x % 2 ^ 16) (omega arith) (omega arith) (omega arith) (omega arith) (omega arith) (omega arith)

pub ldr_word : (r q x : ℕ) → r < 32 → q < 32 → read (word_with_immediate Imm12 x (0xf9400000 + (r + 32 * q))) ≡ Some (Ldr r q (x % 2 ^ 12 * 8))
unfolding insert_bits
ldr_word r q x h k = reads_ldr (word_with_immediate Imm12 x (0xf9400000 + (r + 32 * q))) r q (x % 2 ^ 12) (omega arith) (omega arith) (omega arith) (omega arith) (omega arith) (omega arith) (omega arith)

pub add_word : (r q x : ℕ) → r < 32 → q < 32 → read (word_with_immediate Imm12 x (0x91000000 + (r + 32 * q))) ≡ Some (Add r q (x % 2 ^ 12))
unfolding insert_bits
add_word r q x h k = reads_add (word_with_immediate Imm12 x (0x91000000 + (r + 32 * q))) r q (x % 2 ^ 12) (omega arith) (omega arith) (omega arith) (omega arith) (omega arith) (omega arith)
