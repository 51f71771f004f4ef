-- The meaning of AArch64 code in the terms of both machines. `wild_aarch64` says which words encode which instruction, and what a
-- run of them does.
-- An instruction is one word of 32 bits, so most addresses are formed by a run of words, `adrp` and `ldr` for example.
-- A run is matched as a whole, and its registers have to agree. Page(x) depends on the address of the word.
-- A literal of `adr` or `adrp` is relative to its own word, not to the end of the run.
-- Read C6.2 of the Arm Architecture Reference Manual for the words, and aaelf64, "Relocation types", for the fields.
--   action_of act          the action of a run
--   meaning_aarch64 a bs   the action of these bytes of code at an address
--   effect_aarch64 ..      that action, with the value of its operand
--   demand_aarch64 v a bs  the effect if the fields are filled so that the operand has the value v
use Rattle.std.specs.Prelude.{ℕ, List, [], Option, Some, None, option_and_then}
use Rattle.wild_aarch64.specs.declared.operand.Deed as runs-deed
use Rattle.wild_aarch64.specs.declared.operand.Deed.TheVariants as runs
use Rattle.wild_aarch64.specs.declared.operand.Operand as runs-operand
use Rattle.wild_aarch64.specs.declared.operand.Operand.TheVariants as has
use Rattle.wild_aarch64.specs.declared.operand.Action as run-action
use Rattle.wild_aarch64.specs.Machine as machine
use Rattle.wild_aarch64.specs.Effect.{shapes, words_of}
use Rattle.wild_loader.specs.declared.instruction.Operand.{Operand}
use Rattle.wild_loader.specs.declared.instruction.Operand.TheVariants.{Number, Word, Offset}
use Rattle.wild_loader.specs.declared.instruction.Deed.{Deed}
use Rattle.wild_loader.specs.declared.instruction.Deed.TheVariants.{Set, SetSum, Load, Call, Jump, MayJump, Nothing}
use Rattle.wild_loader.specs.declared.instruction.Action.{Action}
use Rattle.wild_loader.specs.Instruction.{Reader, Effect, effect, as_value}

-- a deed on all 64 bits of a register
abbrev pub does : Deed → Operand → Option Action
does deed operand = Some (record { deed = deed; width = 64; operand = operand })

-- the action for an operand; if the operand uses a register set before the run, the action includes that register's number
abbrev pub action_with : runs-deed.Deed → runs-operand.Operand → Option Action
action_with (runs.Sets r) (has.Number x) = does (Set r) (Number x)
action_with (runs.Sets r) (has.Word x) = does (Set r) (Word x)
action_with (runs.Sets r) (has.Offset x) = does (Set r) (Offset x)
action_with (runs.Sets r) (has.Register q k) = does (SetSum r q) (Number k)
action_with (runs.Sets r) (has.WordOf q k) = does (Load r q) (Number k)
action_with runs.Jumps (has.Number x) = does Jump (Number x)
action_with runs.Jumps (has.Word x) = does Jump (Word x)
action_with runs.Calls (has.Number x) = does Call (Number x)
action_with (runs.MayJump key) (has.Number x) = does (MayJump key) (Number x)
action_with runs.Nothing (has.Number x) = does Nothing (Number x)
action_with deed operand = None

abbrev pub action_of : run-action.Action → Option Action
action_of act = action_with act.deed act.operand

-- the action at an address of these bytes of code, which are whole words
abbrev pub meaning_aarch64 : ℕ → List ℕ → Option Action
meaning_aarch64 a bs = option_and_then action_of (machine.meaning a (words_of bs))

-- that action, with the value of its operand
abbrev pub effect_aarch64 : Reader → ℕ → List ℕ → Option Effect
effect_aarch64 read a bs = option_and_then (effect read) (meaning_aarch64 a bs)

-- the effect if the fields are filled so that the operand has the value v; what the fields held before does not matter
abbrev pub demand_aarch64 : ℕ → ℕ → List ℕ → Option Effect
demand_aarch64 v a bs = option_and_then (effect (as_value v)) (option_and_then action_of (machine.run (shapes (words_of bs)) a []))
