-- The meaning of code, from its bytes: each instruction is a template, a list of the values that its bytes may have.
--   Cell               the values that one byte may have
--   Operand            a number, or a value in memory
--   Action             what is done with an operand
--   Template           the bytes of an instruction, and what it does at an address with those bytes
--   Idle               an instruction that does nothing, and where it is allowed
--   meaning ts a bs    the action of these bytes of code at an address
--   Reader             the value of each operand
--   effect read act    the deed of an action, with the value of its operand
use Rattle.std.specs.Prelude.{ℕ, zero, suc, ◌+◌, ◌-◌, ◌/◌, ◌%◌, ◌^◌, ◌==◌, Bool, true, false, ◌&&◌, nat_le, nat_lt, if◌then◌else◌, List, [], ◌∷◌, length, drop, Option, Some, None, option_map}
use Rattle.std.specs.Int.RustNames.{bit_and}
use Rattle.wild_words.specs.Words.{number_at}
use Rattle.wild_loader.specs.declared.instruction.Cell.{Cell}
use Rattle.wild_loader.specs.declared.instruction.Cell.TheVariants.{Is, From, Slot, Digit, Any}
use Rattle.wild_loader.specs.declared.instruction.Operand.{Operand}
use Rattle.wild_loader.specs.declared.instruction.Operand.TheVariants.{Word}
use Rattle.wild_loader.specs.declared.instruction.Deed.{Deed}
use Rattle.wild_loader.specs.declared.instruction.Deed.TheVariants.{Jump}
use Rattle.wild_loader.specs.declared.instruction.Action.{Action}

-- one byte, one of a range, a ModRM byte of `[rip + displacement]` and any register, a ModRM byte of a register with that digit
-- in place of the other register, or any byte (Intel SDM, "ModR/M and SIB Bytes")
abbrev pub fits : Cell → ℕ → Bool
fits (Is n) b = b == n
fits (From low high) b = nat_le low b && nat_le b high
fits Slot b = bit_and b 0xc7 == 5
fits (Digit d) b = b / 8 == 24 + d
fits Any b = true

-- the bytes start with values that the cells allow
abbrev pub matches_cells : List Cell → List ℕ → Bool
matches_cells [] bs = true
matches_cells (c ∷ cs) [] = false
matches_cells (c ∷ cs) (b ∷ bs) = fits c b && matches_cells cs bs

-- exactly these bytes
abbrev pub exact_cells : List ℕ → List Cell
exact_cells [] = []
exact_cells (b ∷ bs) = Is b ∷ exact_cells bs

-- the four bytes of a field
abbrev pub field : List Cell
field = Any ∷ Any ∷ Any ∷ Any ∷ []

-- execution continues at the address that is stored at an address
abbrev pub jump_through : ℕ → Action
jump_through a = record { deed = Jump; width = 64; operand = Word a }

-- the bytes of an instruction, or of a sequence of instructions, and its action at an address, given those bytes
pub record Template : Type 0 where
  pub cells : List Cell
  pub action : ℕ → List ℕ → Action

-- a signed 32-bit number, modulo 2^64
abbrev pub signed_32 : ℕ → ℕ
signed_32 n = if nat_lt n (2 ^ 31) then n else n + (2 ^ 64 - 2 ^ 32)

-- the signed 32-bit number in the bytes at an offset
abbrev pub signed_at : List ℕ → ℕ → ℕ
signed_at bs k = signed_32 (number_at bs k 4)

-- x + y, modulo 2^64
abbrev pub sum_64 : ℕ → ℕ → ℕ
sum_64 x y = (x + y) % 2 ^ 64

-- a machine's instruction that does nothing: its bytes, and how often it may precede other code
pub record Idle : Type 0 where
  pub nop : List ℕ
  pub in_front : ℕ

-- the bytes repeat that instruction, after the remainder of one that was begun
abbrev pub are_idle : (nop left : List ℕ) → List ℕ → Bool
are_idle nop [] [] = true
are_idle nop (n ∷ left) [] = false
are_idle nop (n ∷ left) (b ∷ bs) = b == n && are_idle nop left bs
are_idle [] [] (b ∷ bs) = false
are_idle (n ∷ rest) [] (b ∷ bs) = b == n && are_idle (n ∷ rest) rest bs

-- the template matches the start of the bytes, and only instructions that do nothing follow it
abbrev pub template_fills : List ℕ → Template → List ℕ → Bool
template_fills nop t bs = nat_le (length t.cells) (length bs) && (matches_cells t.cells bs && are_idle nop [] (drop (length t.cells) bs))

-- the action of the first template that matches all of the bytes in this way
abbrev pub first_meaning : List ℕ → List Template → ℕ → List ℕ → Option Action
first_meaning nop [] a bs = None
first_meaning nop (t ∷ ts) a bs = if template_fills nop t bs then Some (t.action a bs) else first_meaning nop ts a bs

abbrev pub or_else : Option Action → Option Action → Option Action
or_else None other = other
or_else (Some act) other = Some act

-- the same after up to n instructions that do nothing
abbrev pub meaning_after_nops : ℕ → List ℕ → List Template → ℕ → List ℕ → Option Action
meaning_after_nops zero nop ts a bs = first_meaning nop ts a bs
meaning_after_nops (suc n) nop ts a bs = or_else (first_meaning nop ts a bs) (if matches_cells (exact_cells nop) bs then meaning_after_nops n nop ts (a + length nop) (drop (length nop) bs) else None)

-- the action of these bytes of code at an address
abbrev pub meaning : Idle → List Template → ℕ → List ℕ → Option Action
meaning idle ts a bs = meaning_after_nops idle.in_front idle.nop ts a bs

-- the value of each operand
abbrev pub Reader : Type 0
Reader = Operand → Option ℕ

-- a deed, the number of bits that it works on, and the value of its operand
pub record Effect : Type 0 where
  pub deed : Deed
  pub width : ℕ
  pub value : ℕ

abbrev pub with_value : Action → ℕ → Effect
with_value act v = record { deed = act.deed; width = act.width; value = v % 2 ^ act.width }

abbrev pub effect : Reader → Action → Option Effect
effect read act = option_map (with_value act) (read act.operand)

-- every operand has the value v
abbrev pub as_value : ℕ → Reader
as_value v operand = Some v
