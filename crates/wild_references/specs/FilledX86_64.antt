-- Instructions with filled fields.
--   IsFilled o old new   the bytes are the instruction's; outside its fields they are unchanged
--   HasEffect ..         the new bytes have the effect that the old ones require
--   FilledInstructionsDo the law: this is so if the operand has the right value
use Rattle.std.specs.Prelude.{◌≡◌, ℕ, true, List, length, slice_index, Some, Contains}
use Rattle.wild_types.specs.declared.kind.Machine.TheVariants as machine
use Rattle.wild_loader.specs.Instruction.{Reader, Effect, matches_cells}
use Rattle.wild_loader.specs.InstructionX86_64.{effect_x86_64, demand_x86_64}
use Rattle.wild_meaning.specs.Sequence.{Instruction, size_of, IsOwnByte, instructions_of}

-- the old bytes are the instruction; the new bytes differ from them only in its fields
pub record IsFilled (o : Instruction) (old new : List ℕ) : Type 0 where
  pub stood : matches_cells o.template.cells old ≡ true
  pub long : length old ≡ size_of o
  pub whole : length new ≡ size_of o
  pub same : (k : ℕ) → IsOwnByte o k → slice_index new k ≡ slice_index old k

-- the effect of the new bytes at an address is that of the old ones there if their operand has the value v
pub record HasEffect (read : Reader) (a v : ℕ) (old new : List ℕ) : Type 0 where
  pub effect : Effect
  pub demanded : demand_x86_64 v a old ≡ Some effect
  pub done : effect_x86_64 read a new ≡ Some effect

-- for each instruction that relocations fill, at every address and for every reader
abbrev pub FilledInstructionsDo : Type 0
FilledInstructionsDo = (o : Instruction) (read : Reader) (a v : ℕ) (old new : List ℕ) → Contains (instructions_of machine.X86_64) o → IsFilled o old new → read (o.template.action a new).operand ≡ Some v → HasEffect read a v old new
