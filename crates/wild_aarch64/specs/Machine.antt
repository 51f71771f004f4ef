-- The effect of a run of instructions: the registers that it sets are followed, as far as addresses need them.
--   Operand, Deed, Action   the value of a register or a target; what is done with it; both
--   RegisterValues, known r ks       the values of the registers that were set
--   acts a ks c             what the instruction at an address does
--   run cs a ks             the effect of consecutive instructions
--   meaning a ws            the effect of the words at an address
use Rattle.std.specs.Prelude.{ℕ, ◌+◌, ◌*◌, ◌/◌, ◌%◌, ◌^◌, ◌==◌, Bool, true, false, ◌&&◌, ◌||◌, if◌then◌else◌, List, [], ◌∷◌, map, Option, Some, None}
use Rattle.wild_aarch64.specs.declared.operand.Operand.{Operand}
use Rattle.wild_aarch64.specs.declared.operand.Deed.{Deed}
use Rattle.wild_aarch64.specs.declared.operand.Action.{Action}
use Rattle.wild_aarch64.specs.declared.operand.Operand.TheVariants.{Number, Word, Offset, Register, WordOf}
use Rattle.wild_aarch64.specs.declared.operand.Deed.TheVariants.{Sets, Jumps, Calls, MayJump, Nothing}
use Rattle.wild_aarch64.specs.declared.code.Code.{Code}
use Rattle.wild_aarch64.specs.declared.code.Code.TheVariants.{Adr, Adrp, Movz, Movk, Movn, Add, Ldr, Access, Literal, B, Bl, BranchIf, Br, Blr, Hint}
use Rattle.wild_aarch64.specs.declared.code.Shift.{Shift}
use Rattle.wild_aarch64.specs.declared.code.Shift.TheVariants.{By0, By16, By32, By48}
use Rattle.wild_aarch64.specs.Code.{read}

abbrev pub does : Deed → Operand → Action
does deed operand = record { deed = deed; operand = operand }

-- a jump to the address; a jump to the address in the word at the address
abbrev pub jump_to : ℕ → Action
jump_to a = does Jumps (Number a)

abbrev pub jump_through : ℕ → Action
jump_through a = does Jumps (Word a)

-- x + y, modulo 2^64
abbrev pub sum_64 : ℕ → ℕ → ℕ
sum_64 x y = (x + y) % 2 ^ 64

-- the first byte of the page of 4096 bytes that contains an address
abbrev pub page : ℕ → ℕ
page a = a / 4096 * 4096

-- ---- registers

-- the values of the registers that were set, the last one first
abbrev pub RegisterValues : Type 0
RegisterValues = List (ℕ × Operand)

-- the value of a register; one that was not set has its value before the run
abbrev pub register_value : ℕ → RegisterValues → Operand
register_value r [] = Register r 0
register_value r (k ∷ ks) = if k.0 == r then k.1 else register_value r ks

-- no register other than these two was set
abbrev pub only_set : ℕ → ℕ → RegisterValues → Bool
only_set p q [] = true
only_set p q (k ∷ ks) = (k.0 == p || k.0 == q) && only_set p q ks

-- the operand plus a number
abbrev pub plus : ℕ → Operand → Option Operand
plus j (Number x) = Some (Number (sum_64 x j))
plus j (Register r k) = Some (Register r (sum_64 k j))
plus j other = None

-- the word at an address
abbrev pub word_at_operand : Option Operand → Option Operand
word_at_operand (Some (Number x)) = Some (Word x)
word_at_operand (Some (Register r k)) = Some (WordOf r k)
word_at_operand other = None

-- the number, shifted
abbrev pub shifted_immediate : Shift → ℕ → ℕ
shifted_immediate By0 i = i
shifted_immediate By16 i = i * 2 ^ 16
shifted_immediate By32 i = i * 2 ^ 32
shifted_immediate By48 i = i * 2 ^ 48

-- x with 16 of its bits replaced by the number
abbrev pub with_bits : Shift → ℕ → ℕ → ℕ
with_bits By0 i x = x / 2 ^ 16 * 2 ^ 16 + i
with_bits By16 i x = x / 2 ^ 32 * 2 ^ 32 + i * 2 ^ 16 + x % 2 ^ 16
with_bits By32 i x = x / 2 ^ 48 * 2 ^ 48 + i * 2 ^ 32 + x % 2 ^ 32
with_bits By48 i x = i * 2 ^ 48 + x % 2 ^ 48

abbrev pub with_bits_changed : Shift → ℕ → Operand → Option Operand
with_bits_changed s i (Number x) = Some (Number (with_bits s i x))
with_bits_changed s i other = None

-- ---- one instruction

-- the run continues with these registers, ends in a branch, or has an unknown effect
pub data Next : Type 0 where
  On : RegisterValues → Next
  End : Action → Next
  Stuck : Next

-- setting register 31 is unknown: it is lost, or sets the stack pointer (C1.2.5, "Register names")
abbrev pub set : ℕ → RegisterValues → Operand → Next
set r ks x = if r == 31 then Stuck else On ((r, x) ∷ ks)

abbrev pub sets : ℕ → RegisterValues → Option Operand → Next
sets r ks None = Stuck
sets r ks (Some x) = set r ks x

-- a jump or call may have set the two registers that calls leave to linkers (aapcs64, "General-purpose Registers": IP0, IP1)
abbrev pub leaves : RegisterValues → Deed → Operand → Next
leaves ks deed x = if only_set 16 17 ks then End (does deed x) else Stuck

-- the condition may depend on any register, so none may have been set
abbrev pub leaves_if : ℕ → RegisterValues → Operand → Next
leaves_if key [] x = End (does (MayJump key) x)
leaves_if key (k ∷ ks) x = Stuck

-- a target in a register is known if it is a number or a word in memory
abbrev pub goes : RegisterValues → Operand → Next
goes ks (Number x) = leaves ks Jumps (Number x)
goes ks (Word x) = leaves ks Jumps (Word x)
goes ks other = Stuck

-- a descriptor's call: x0 has the descriptor's address before it and the offset after it; the function's address may be in any register
-- ("ELF for the Arm 64-bit Architecture", "Thread Local Storage", "TLS descriptors")
abbrev pub descriptor_result : ℕ → RegisterValues → Operand → Operand → Next
descriptor_result r ks (Word g) (Number h) = if g == h && only_set 0 r ks then On ((0, Offset g) ∷ []) else Stuck
descriptor_result r ks x y = Stuck

-- what the instruction at an address does (C6.2); unknown for `movn`, other loads and stores, and PC-relative loads
abbrev pub acts : ℕ → RegisterValues → Code → Next
acts a ks (Adr r j) = set r ks (Number (sum_64 a j))
acts a ks (Adrp r j) = set r ks (Number (sum_64 (page a) j))
acts a ks (Movz r s i) = set r ks (Number (shifted_immediate s i))
acts a ks (Movk r s i) = sets r ks (with_bits_changed s i (register_value r ks))
acts a ks (Movn r s i) = Stuck
acts a ks (Add r q j) = sets r ks (plus j (register_value q ks))
acts a ks (Ldr r q j) = sets r ks (word_at_operand (plus j (register_value q ks)))
acts a ks (Access key j) = Stuck
acts a ks (Literal key j) = Stuck
acts a ks (B j) = leaves ks Jumps (Number (sum_64 a j))
acts a ks (Bl j) = leaves ks Calls (Number (sum_64 a j))
acts a ks (BranchIf key j) = leaves_if key ks (Number (sum_64 a j))
acts a ks (Br q) = goes ks (register_value q ks)
acts a ks (Blr q) = descriptor_result q ks (register_value q ks) (register_value 0 ks)
acts a ks Hint = On ks

-- what a word does; unknown if it is no known instruction
abbrev pub step : ℕ → RegisterValues → Option Code → Next
step a ks None = Stuck
step a ks (Some c) = acts a ks c

-- ---- a run

-- the effect of a run that does not branch: nothing, or one register that was set
abbrev pub outcome : RegisterValues → Option Action
outcome [] = Some (does Nothing (Number 0))
outcome (k ∷ ks) = if only_set k.0 k.0 ks then Some (does (Sets k.0) k.1) else None

abbrev pub is_hint : Option Code → Bool
is_hint (Some Hint) = true
is_hint other = false

-- all are `nop` or `bti c`
abbrev pub all_hints : List (Option Code) → Bool
all_hints [] = true
all_hints (c ∷ cs) = is_hint c && all_hints cs

abbrev pub goes_on : Next → (RegisterValues → Option Action) → Bool → Option Action
goes_on (On ks) rest ends = rest ks
goes_on (End act) rest ends = if ends then Some act else None
goes_on Stuck rest ends = None

-- consecutive instructions of 4 bytes; after a branch only `nop` and `bti c` may come
abbrev pub run : List (Option Code) → ℕ → RegisterValues → Option Action
run [] a ks = outcome ks
run (c ∷ cs) a ks = goes_on (step a ks c) (λ next. run cs (a + 4) next) (all_hints cs)

-- the effect of the words at an address
abbrev pub meaning : ℕ → List ℕ → Option Action
meaning a ws = run (map read ws) a []
