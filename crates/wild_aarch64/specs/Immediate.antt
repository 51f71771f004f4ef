-- Immediates of AArch64 instructions (Arm Architecture Reference Manual, C4.1, "A64 instruction set encoding").
--   Field                            the position of an instruction's immediate
--   insert_bits low width bits word  the word with the lowest width bits of bits, from bit low on
--   word_with_immediate field bits word         the instruction word with its immediate replaced
--   immediate field word             the immediate of the instruction word
--   bits_of_field field x                      the low bits of a number, as many as the field has
--   bits_outside field word                  the bits of the word outside its immediate
use Rattle.std.specs.Prelude.{ℕ, ◌+◌, ◌*◌, ◌/◌, ◌%◌, ◌^◌}

-- 12 bits from 10 on (`add`, loads, stores); 14, 16 or 19 from 5 on (`tbz`; `movz`, `movk`, `movn`; PC-relative loads, conditional
-- branches); two bits at 29 and 30 and 19 from 5 on (`adr`, `adrp`); 26 from 0 on (`b`, `bl`); or no immediate
pub data Field : Type 0 where
  Imm12 : Field
  Imm14 : Field
  Imm16 : Field
  Imm19 : Field
  Imm21 : Field
  Imm26 : Field
  Nowhere : Field

-- the word with the lowest width bits of bits, from bit low on
unfoldable pub insert_bits : ℕ → ℕ → ℕ → ℕ → ℕ
insert_bits low width bits word = word / 2 ^ (low + width) * 2 ^ (low + width) + bits % 2 ^ width * 2 ^ low + word % 2 ^ low

-- the instruction word with its immediate replaced
abbrev pub word_with_immediate : Field → ℕ → ℕ → ℕ
word_with_immediate Imm12 bits word = insert_bits 10 12 bits word
word_with_immediate Imm14 bits word = insert_bits 5 14 bits word
word_with_immediate Imm16 bits word = insert_bits 5 16 bits word
word_with_immediate Imm19 bits word = insert_bits 5 19 bits word
word_with_immediate Imm21 bits word = insert_bits 5 19 (bits / 4) (insert_bits 29 2 bits word)
word_with_immediate Imm26 bits word = insert_bits 0 26 bits word
word_with_immediate Nowhere bits word = word

-- the immediate of the instruction word
abbrev pub immediate : Field → ℕ → ℕ
immediate Imm12 w = w / 2 ^ 10 % 2 ^ 12
immediate Imm14 w = w / 2 ^ 5 % 2 ^ 14
immediate Imm16 w = w / 2 ^ 5 % 2 ^ 16
immediate Imm19 w = w / 2 ^ 5 % 2 ^ 19
immediate Imm21 w = w / 2 ^ 29 % 2 ^ 2 + w / 2 ^ 5 % 2 ^ 19 * 4
immediate Imm26 w = w % 2 ^ 26
immediate Nowhere w = 0

-- the low bits of a number, as many as the field has
abbrev pub bits_of_field : Field → ℕ → ℕ
bits_of_field Imm12 x = x % 2 ^ 12
bits_of_field Imm14 x = x % 2 ^ 14
bits_of_field Imm16 x = x % 2 ^ 16
bits_of_field Imm19 x = x % 2 ^ 19
bits_of_field Imm21 x = x % 2 ^ 21
bits_of_field Imm26 x = x % 2 ^ 26
bits_of_field Nowhere x = 0

-- the bits of the word outside its immediate
abbrev pub bits_outside : Field → ℕ → ℕ
bits_outside Imm12 w = w % 2 ^ 10 + w / 2 ^ 22 * 2 ^ 10
bits_outside Imm14 w = w % 2 ^ 5 + w / 2 ^ 19 * 2 ^ 5
bits_outside Imm16 w = w % 2 ^ 5 + w / 2 ^ 21 * 2 ^ 5
bits_outside Imm19 w = w % 2 ^ 5 + w / 2 ^ 24 * 2 ^ 5
bits_outside Imm21 w = w % 2 ^ 5 + w / 2 ^ 24 % 2 ^ 5 * 2 ^ 5 + w / 2 ^ 31 * 2 ^ 10
bits_outside Imm26 w = w / 2 ^ 26
bits_outside Nowhere w = w
