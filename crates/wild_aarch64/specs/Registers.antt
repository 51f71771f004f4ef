-- The registers that were set, as a list.
--   entries_of registers      the list
--   next_of, next_count       the state of a run, and the number of registers set in it
--   follow_words ws a ks      the first jump, call or conditional branch of the words at an address
use Rattle.std.specs.Prelude.{ℕ, ◌+◌, List, [], ◌∷◌, length, Option, Some, None}
use Rattle.wild_aarch64.specs.declared.operand.Action.{Action}
use Rattle.wild_aarch64.specs.declared.operand.Operand.{Operand}
use Rattle.wild_aarch64.specs.declared.registers.Entry.{Entry}
use Rattle.wild_aarch64.specs.declared.registers.Registers.{Registers}
use Rattle.wild_aarch64.specs.declared.registers.Registers.TheVariants.{Empty, One, Two, Three, Four}
use Rattle.wild_aarch64.specs.declared.machine.NextStep.{NextStep}
use Rattle.wild_aarch64.specs.declared.machine.NextStep.TheVariants as steps
use Rattle.wild_aarch64.specs.Code.{read}
use Rattle.wild_aarch64.specs.Machine.{RegisterValues, Next, On, End, Stuck, step}

abbrev pub entry : Entry → ℕ × Operand
entry e = (e.register, e.operand)

-- the values of the registers that were set, the last one first
abbrev pub entries_of : Registers → RegisterValues
entries_of Empty = []
entries_of (One a) = entry a ∷ []
entries_of (Two a b) = entry a ∷ entry b ∷ []
entries_of (Three a b c) = entry a ∷ entry b ∷ entry c ∷ []
entries_of (Four a b c d) = entry a ∷ entry b ∷ entry c ∷ entry d ∷ []

-- the number of registers that were set
abbrev pub count : Registers → ℕ
count r = length (entries_of r)

abbrev pub next_of : NextStep → Next
next_of (steps.On r) = On (entries_of r)
next_of (steps.End act) = End act
next_of steps.Stuck = Stuck

-- the number of registers that are set if the run continues
abbrev pub next_count : NextStep → ℕ
next_count (steps.On r) = count r
next_count other = 0

abbrev pub branch_or : Next → (RegisterValues → Option Action) → Option Action
branch_or (On ks) rest = rest ks
branch_or (End act) rest = Some act
branch_or Stuck rest = None

-- the first jump, call or conditional branch of the words at an address
abbrev pub follow_words : List ℕ → ℕ → RegisterValues → Option Action
follow_words [] a ks = None
follow_words (w ∷ ws) a ks = branch_or (step a ks (read w)) (λ next. follow_words ws (a + 4) next)
