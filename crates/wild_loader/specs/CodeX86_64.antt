-- Instructions of x86-64 with a field (Intel SDM): of one register, and branches.
--   with_slot, with_immediate    the operand is a word in memory, or a number
--   branch                       a call or a jump
--   stub                         the code of a stub
use Rattle.std.specs.Prelude.{ℕ, ◌+◌, ◌*◌, ◌/◌, ◌%◌, ◌++◌, List, [], ◌∷◌, length, map, slice_index}
use Rattle.wild_loader.specs.declared.instruction.Cell.{Cell}
use Rattle.wild_loader.specs.declared.instruction.Cell.TheVariants.{Is, From, Slot, Digit}
use Rattle.wild_loader.specs.declared.instruction.Operand.{Operand}
use Rattle.wild_loader.specs.declared.instruction.Operand.TheVariants.{Number, Word}
use Rattle.wild_loader.specs.declared.instruction.Deed.{Deed}
use Rattle.wild_loader.specs.declared.instruction.Deed.TheVariants.{Set, Add, Subtract, Compare}
use Rattle.wild_loader.specs.Instruction.{Template, exact_cells, field, jump_through, signed_at, sum_64}

-- ---- one register

-- a prefix: its bytes, the register width, and what its bits add to the register numbers in ModRM.reg and ModRM.rm
pub record Prefix : Type 0 where
  pub cells : List Cell
  pub width : List ℕ → ℕ
  pub high_reg : List ℕ → ℕ
  pub high_rm : List ℕ → ℕ

-- no prefix: 32 bits
abbrev pub no_prefix : Prefix
no_prefix = record { cells = []; width = λ bs. 32; high_reg = λ bs. 0; high_rm = λ bs. 0 }

-- 0100 1RXB (Intel SDM, "REX Prefixes")
abbrev pub rex : Prefix
rex = record {
  cells = From 0x48 0x4f ∷ [];
  width = λ bs. 64;
  high_reg = λ bs. 8 * (slice_index bs 0 / 4 % 2);
  high_rm = λ bs. 8 * (slice_index bs 0 % 2);
}

-- d5, and 0 R4 X4 B4 W R3 X3 B3 (Intel APX, "REX2")
abbrev pub rex2 : Prefix
rex2 = record {
  cells = Is 0xd5 ∷ From 0 0x7f ∷ [];
  width = λ bs. 32 + 32 * (slice_index bs 1 / 8 % 2);
  high_reg = λ bs. 8 * (slice_index bs 1 / 4 % 2) + 16 * (slice_index bs 1 / 64 % 2);
  high_rm = λ bs. 8 * (slice_index bs 1 % 2) + 16 * (slice_index bs 1 / 16 % 2);
}

-- an opcode, a register, and `[rip + displacement]`: the word there, or with `lea` the address
abbrev pub with_slot : ℕ → (ℕ → Operand) → (ℕ → Deed) → Prefix → Template
with_slot opcode operand deed p =
    let n = length p.cells in
    record {
      cells = p.cells ++ (Is opcode ∷ Slot ∷ field);
      action = λ a bs. record {
        deed = deed (slice_index bs (n + 1) / 8 % 8 + p.high_reg bs);
        width = p.width bs;
        operand = operand (sum_64 (a + (n + 6)) (signed_at bs (n + 2)));
      };
    }

-- an opcode with a digit, a register, and an immediate of 32 bits
abbrev pub with_immediate : ℕ → ℕ → (ℕ → Deed) → Prefix → Template
with_immediate opcode digit deed p =
    let n = length p.cells in
    record {
      cells = p.cells ++ (Is opcode ∷ Digit digit ∷ field);
      action = λ a bs. record {
        deed = deed (slice_index bs (n + 1) % 8 + p.high_rm bs);
        width = p.width bs;
        operand = Number (signed_at bs (n + 2));
      };
    }

-- Intel SDM, "MOV", "ADD", "SUB", "CMP", "LEA"
abbrev pub one_register : List (Prefix → Template)
one_register =
    with_slot 0x8b Word Set
    ∷ with_slot 0x03 Word Add
    ∷ with_slot 0x2b Word Subtract
    ∷ with_slot 0x3b Word Compare
    ∷ with_slot 0x8d Number Set
    ∷ with_immediate 0xc7 0 Set
    ∷ with_immediate 0x81 0 Add
    ∷ with_immediate 0x81 5 Subtract
    ∷ with_immediate 0x81 7 Compare
    ∷ []

abbrev pub with_prefix : Prefix → List Template
with_prefix p = map (λ form. form p) one_register

-- ---- branches

-- an opcode and a displacement from the instruction's end, to the target or to the slot that holds its address (Intel SDM,
-- "CALL", "JMP"); a prefix 67 does not change a call
abbrev pub branch : List ℕ → (ℕ → Operand) → Deed → Template
branch opcode operand deed =
    let n = length opcode in
    record {
      cells = exact_cells opcode ++ field;
      action = λ a bs. record { deed = deed; width = 64; operand = operand (sum_64 (a + (n + 4)) (signed_at bs n)) };
    }

-- `endbr64`, `bnd jmp [rip + displacement]`, and a `nop` of five bytes: the stub of a slot (x86-64 psABI, "Procedure Linkage
-- Table"; Intel SDM, "ENDBR64", "JMP", "NOP"). The displacement counts from the jump's end.
abbrev pub stub : Template
stub = record {
  cells = exact_cells (0xf3 ∷ 0x0f ∷ 0x1e ∷ 0xfa ∷ 0xf2 ∷ 0xff ∷ 0x25 ∷ []) ++ (field ++ exact_cells (0x0f ∷ 0x1f ∷ 0x44 ∷ 0 ∷ 0 ∷ []));
  action = λ a bs. jump_through (sum_64 (a + 11) (signed_at bs 7));
}
