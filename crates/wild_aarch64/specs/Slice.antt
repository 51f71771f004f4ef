-- Forms of instructions, cut into slices of bits (Arm Architecture Reference Manual, C4.1, "A64 instruction set encoding").
--   bits low count w   count bits of a word, from bit low on
--   signed n x         a number of n bits, sign-extended to 64 bits
--   Fixed, is          fixed bits of a form
--   Form, form         its fixed bits, the position of its immediate, and the instruction of its words
use Rattle.std.specs.Prelude.{ℕ, ◌+◌, ◌-◌, ◌/◌, ◌%◌, ◌^◌, ◌==◌, Bool, true, ◌&&◌, nat_lt, if◌then◌else◌, List, [], ◌∷◌}
use Rattle.wild_aarch64.specs.declared.code.Code.{Code}
use Rattle.wild_aarch64.specs.Immediate.{Field}

-- count bits of a word, from bit low on
abbrev pub bits : ℕ → ℕ → ℕ → ℕ
bits low count w = w / 2 ^ low % 2 ^ count

-- a number of n bits, sign-extended to 64 bits
abbrev pub signed : ℕ → ℕ → ℕ
signed n x = if nat_lt x (2 ^ (n - 1)) then x else x + (2 ^ 64 - 2 ^ n)

-- fixed bits of a form: the count bits from low on have that value
pub record Fixed : Type 0 where
  pub low : ℕ
  pub count : ℕ
  pub value : ℕ

abbrev pub is : ℕ → ℕ → ℕ → Fixed
is low count value = record { low = low; count = count; value = value }

-- the word has all these fixed bits
abbrev pub has_fixed_bits : List Fixed → ℕ → Bool
has_fixed_bits [] w = true
has_fixed_bits (f ∷ fs) w = (bits f.low f.count w == f.value) && has_fixed_bits fs w

-- a form: its fixed bits, the position of its immediate, and the instruction of a word with its immediate
pub record Form : Type 0 where
  pub fixed : List Fixed
  pub field : Field
  pub code : ℕ → ℕ → Code

abbrev pub form : List Fixed → Field → (ℕ → ℕ → Code) → Form
form fixed field code = record { fixed = fixed; field = field; code = code }
