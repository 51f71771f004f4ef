-- Jumps of code in memory, by where their target is found: the code has it as a number, or reads it in a word (Intel SDM, "JMP"; Arm
-- Architecture Reference Manual, C6.2, "BR").
--   meaning_of k a bs      the action of these bytes of code at an address
--   JumpsBy l m a n o v    the n bytes at a are a jump to the value of operand o, and execution that starts there goes to v
--   GoesTo l m a v         a is v, or a thunk at a leads there
use Rattle.std.specs.Prelude.{◌≡◌, ℕ, ◌⊎◌, List, length, Option, Some}
use Rattle.wild_types.specs.declared.kind.Machine.{Machine}
use Rattle.wild_types.specs.declared.kind.Machine.TheVariants as machine
use Rattle.wild_types.specs.declared.layout.Layout.{Layout}
use Rattle.wild_types.specs.FileThunks.{thunk_size}
use Rattle.wild_loader.specs.declared.memory.Memory.{Memory}
use Rattle.wild_loader.specs.Memory.{Holds}
use Rattle.wild_loader.specs.declared.instruction.Operand.{Operand}
use Rattle.wild_loader.specs.declared.instruction.Operand.TheVariants.{Number}
use Rattle.wild_loader.specs.declared.instruction.Deed.TheVariants.{Jump}
use Rattle.wild_loader.specs.declared.instruction.Action.{Action}
use Rattle.wild_loader.specs.InstructionX86_64.{meaning_x86_64}
use Rattle.wild_loader.specs.InstructionAArch64.{meaning_aarch64}
use Rattle.wild_loader.specs.Reach.{JumpsTo}

-- the action of these bytes of code at an address, with the instructions of the machine
abbrev pub meaning_of : Machine → ℕ → List ℕ → Option Action
meaning_of machine.X86_64 a bs = meaning_x86_64 a bs
meaning_of machine.AArch64 a bs = meaning_aarch64 a bs

-- the n bytes at a are a jump to the value of operand o, and execution that starts there goes to v
pub record JumpsBy (l : Layout) (m : Memory) (a n : ℕ) (o : Operand) (v : ℕ) : Type 0 where
  pub bytes : List ℕ
  pub whole : length bytes ≡ n
  pub held : Holds m a bytes
  pub means : meaning_of l.machine a bytes ≡ Some (record { deed = Jump; width = 64; operand = o })
  pub jumps : JumpsTo m a v

-- a is v, or a thunk at a jumps there; it has its target as a number, so no store can change it (aaelf64, "Call and Jump
-- relocations")
abbrev pub GoesTo : Layout → Memory → ℕ → ℕ → Type 0
GoesTo l m a v = (a ≡ v) ⊎ JumpsBy l m a thunk_size (Number v) v
