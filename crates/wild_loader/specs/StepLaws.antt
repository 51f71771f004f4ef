-- Statements about the definition of steps, for any reader of operands.
--   ReadsMemory m read   operands have the values that memory gives them
--   effect_read_by read e          the effect of a step; a pair has the value that the reader gives it
use Rattle.std.specs.Prelude.{◌≡◌, ℕ, ◌%◌, ◌^◌, Option, Some, option_map}
use Rattle.wild_loader.specs.declared.memory.Memory.{Memory}
use Rattle.wild_loader.specs.declared.effect.Value.TheVariants as values
use Rattle.wild_loader.specs.Memory.{number_in}
use Rattle.wild_loader.specs.declared.effect.Effect as running
use Rattle.wild_loader.specs.declared.effect.Value.{Value}
use Rattle.wild_loader.specs.declared.instruction.Operand.{Operand}
use Rattle.wild_loader.specs.declared.instruction.Operand.TheVariants.{Number, Word, Pair}
use Rattle.wild_loader.specs.Instruction.{Reader, Effect}

-- numbers read as themselves, and words as memory has them; the reader decides what a pair stands for
pub record ReadsMemory (m : Memory) (read : Reader) : Type 0 where
  pub numbers : (n : ℕ) → read (Number n) ≡ Some n
  pub words : (a : ℕ) → read (Word a) ≡ number_in m a 8

abbrev pub operand_of : Value → Operand
operand_of (values.Number n) = Number n
operand_of (values.Pair a) = Pair a

-- an effect; a pair has the value that the reader gives it
abbrev pub effect_read_by : Reader → running.Effect → Option Effect
effect_read_by read e = option_map (λ v. record { deed = e.deed; width = e.width; value = v % 2 ^ e.width }) (read (operand_of e.value))
