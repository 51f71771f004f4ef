-- The effect of code, and the effect that the input's code demands.
--   Reader              the numbers that operands evaluate to
--   effect reader a ws  the effect of the words at an address, with the number that its operand evaluates to
--   demand v a ws       the effect that the words have if their fields are filled so that the operand evaluates to v
--   words_of bytes      the words of code in bytes
use Rattle.std.specs.Prelude.{◌≡◌, ℕ, List, [], ◌∷◌, map, Option, Some, option_map, option_and_then}
use Rattle.wild_words.specs.Words.{number}
use Rattle.wild_aarch64.specs.declared.operand.Operand.{Operand}
use Rattle.wild_aarch64.specs.declared.operand.Operand.TheVariants.{Number}
use Rattle.wild_aarch64.specs.declared.operand.Deed.{Deed}
use Rattle.wild_aarch64.specs.declared.operand.Action.{Action}
use Rattle.wild_aarch64.specs.declared.code.Code.{Code}
use Rattle.wild_aarch64.specs.declared.code.Code.TheVariants.{Adr, Adrp, Movz, Movk, Movn, Add, Ldr, Access, Literal, B, Bl, BranchIf, Br, Blr, Hint}
use Rattle.wild_aarch64.specs.Code.{read}
use Rattle.wild_aarch64.specs.Machine.{run, meaning}

-- the numbers that operands evaluate to; some have none
abbrev pub Reader : Type 0
Reader = Operand → Option ℕ

-- what is done, and with which number
pub record Effect : Type 0 where
  pub deed : Deed
  pub value : ℕ

abbrev pub as_effect : Deed → ℕ → Effect
as_effect deed v = record { deed = deed; value = v }

abbrev pub effect_of_action : Reader → Action → Option Effect
effect_of_action reader act = option_map (as_effect act.deed) (reader act.operand)

-- the effect of the words at an address, with the number that its operand evaluates to
abbrev pub effect : Reader → ℕ → List ℕ → Option Effect
effect reader a ws = option_and_then (effect_of_action reader) (meaning a ws)

-- the instruction with its immediate set to 0
abbrev pub without_immediate : Code → Code
without_immediate (Adr r j) = Adr r 0
without_immediate (Adrp r j) = Adrp r 0
without_immediate (Movz r s i) = Movz r s 0
without_immediate (Movk r s i) = Movk r s 0
without_immediate (Movn r s i) = Movn r s 0
without_immediate (Add r q j) = Add r q 0
without_immediate (Ldr r q j) = Ldr r q 0
without_immediate (Access key j) = Access key 0
without_immediate (Literal key j) = Literal key 0
without_immediate (B j) = B 0
without_immediate (Bl j) = Bl 0
without_immediate (BranchIf key j) = BranchIf key 0
without_immediate (Br q) = Br q
without_immediate (Blr q) = Blr q
without_immediate Hint = Hint

-- every operand evaluates to v
abbrev pub as_value : ℕ → Reader
as_value v operand = Some v

-- the words without their immediates: relocations fill these, so their old contents do not matter
abbrev pub shapes : List ℕ → List (Option Code)
shapes ws = map (λ w. option_map without_immediate (read w)) ws

-- the effect that the words of the input at an address demand if their fields are to mean v
abbrev pub demand : ℕ → ℕ → List ℕ → Option Effect
demand v a ws = option_and_then (effect_of_action (as_value v)) (run (shapes ws) a [])

-- a number evaluates to itself
abbrev pub ReadsNumbers : Reader → Type 0
ReadsNumbers reader = (x : ℕ) → reader (Number x) ≡ Some x

-- the words of four bytes each, the lowest byte first; the endianness of data does not matter (Arm Architecture Reference Manual, B2.6.2,
-- "Instruction endianness")
abbrev pub words_of : List ℕ → List ℕ
words_of (a ∷ b ∷ c ∷ e ∷ bytes) = number (a ∷ b ∷ c ∷ e ∷ []) ∷ words_of bytes
words_of bytes = []
