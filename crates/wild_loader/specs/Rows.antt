-- Templates as rows of data: the bytes of an instruction, and where they encode its register, width and operand.
--   template_of row        the template of a row
--   register_of, width_of  from the prefix and the ModRM byte
--   operand_at             from a field
use Rattle.std.specs.Prelude.{ℕ, ◌+◌, ◌/◌, ◌%◌, List, length, take, slice_index}
use Rattle.wild_loader.specs.declared.template.Prefix as declared-prefix
use Rattle.wild_loader.specs.declared.template.Prefix.TheVariants as prefixes
use Rattle.wild_loader.specs.declared.template.Register.{Register}
use Rattle.wild_loader.specs.declared.template.Register.TheVariants.{Accumulator, Reg, Rm}
use Rattle.wild_loader.specs.declared.template.Operation.{Operation}
use Rattle.wild_loader.specs.declared.template.Operation.TheVariants as operations
use Rattle.wild_loader.specs.declared.template.Sort.{Sort}
use Rattle.wild_loader.specs.declared.template.Sort.TheVariants as sorts
use Rattle.wild_loader.specs.declared.template.Place.{Place}
use Rattle.wild_loader.specs.declared.template.Place.TheVariants.{Relative, Immediate, Absent}
use Rattle.wild_loader.specs.declared.template.Template as rows
use Rattle.wild_loader.specs.declared.instruction.Operand.{Operand}
use Rattle.wild_loader.specs.declared.instruction.Operand.TheVariants.{Number, Word, Pair}
use Rattle.wild_loader.specs.declared.instruction.Deed.{Deed}
use Rattle.wild_loader.specs.declared.instruction.Deed.TheVariants.{Set, Add, Subtract, Compare, Call, Jump, SetThreadAddress, CallDescriptor, Nothing}
use Rattle.wild_loader.specs.Instruction.{Template, signed_at, sum_64}
use Rattle.wild_loader.specs.CodeX86_64.{Prefix, no_prefix, rex, rex2}

abbrev pub prefix_of : declared-prefix.Prefix → Prefix
prefix_of prefixes.NoPrefix = no_prefix
prefix_of prefixes.Rex = rex
prefix_of prefixes.Rex2 = rex2

abbrev pub prefix_length : declared-prefix.Prefix → ℕ
prefix_length p = length (prefix_of p).cells

abbrev pub high_reg_of : declared-prefix.Prefix → List ℕ → ℕ
high_reg_of p bs = (prefix_of p).high_reg bs

abbrev pub high_rm_of : declared-prefix.Prefix → List ℕ → ℕ
high_rm_of p bs = (prefix_of p).high_rm bs

-- the number of the register: ModRM follows the prefix and an opcode (Intel SDM, "ModR/M and SIB Bytes")
abbrev pub register_of : Register → List ℕ → ℕ
register_of Accumulator bs = 0
register_of (Reg p) bs = slice_index bs (prefix_length p + 1) / 8 % 8 + high_reg_of p bs
register_of (Rm p) bs = slice_index bs (prefix_length p + 1) % 8 + high_rm_of p bs

-- the number of bits that the instruction works on
abbrev pub width_of : Register → List ℕ → ℕ
width_of Accumulator bs = 64
width_of (Reg p) bs = (prefix_of p).width bs
width_of (Rm p) bs = (prefix_of p).width bs

abbrev pub deed_of : Operation → ℕ → Deed
deed_of operations.Set r = Set r
deed_of operations.Add r = Add r
deed_of operations.Subtract r = Subtract r
deed_of operations.Compare r = Compare r
deed_of operations.Call r = Call
deed_of operations.Jump r = Jump
deed_of operations.SetThreadAddress r = SetThreadAddress r
deed_of operations.CallDescriptor r = CallDescriptor r
deed_of operations.Nothing r = Nothing

abbrev pub of_sort : Sort → ℕ → Operand
of_sort sorts.Address a = Number a
of_sort sorts.Word a = Word a
of_sort sorts.Pair a = Pair a

-- the operand of bytes at an address; a displacement is relative to the byte `end`
abbrev pub operand_at : Place → ℕ → List ℕ → Operand
operand_at (Relative sort field end) a bs = of_sort sort (sum_64 (a + end) (signed_at bs field))
operand_at (Immediate field) a bs = Number (signed_at bs field)
operand_at Absent a bs = Number 0

-- the template of a row
abbrev pub template_of : rows.Template → Template
template_of row = record {
  cells = take row.length row.cells;
  action = λ a bs. record {
    deed = deed_of row.operation (register_of row.register bs);
    width = width_of row.register bs;
    operand = operand_at row.operand a bs;
  };
}
