-- The x86-64 instructions that relocations refer to, and those that linkers write in their place.
-- Instructions differ in length, so the templates are tried from the longest to the shortest.
-- A `nop` may follow the template, because a linker fills up with it if the new instruction is shorter.
-- A displacement is relative to the end of its instruction, which in a sequence is not the end of the template.
-- A thread-local access is a sequence of up to 22 bytes and has one meaning as a whole.
-- Read Intel SDM, volume 2, for the bytes, x86-64 psABI, "Linker Optimization", for the rewrites, and "ELF Handling For
-- Thread-Local Storage" for the sequences.
--   templates_x86_64      the templates, the longest first
--   meaning_x86_64 a bs   the action of these bytes of code at an address
--   effect_x86_64 ..      that action, with the value of its operand
--   demand_x86_64 v a bs  the effect if the operand has the value v
use Rattle.std.specs.Prelude.{ℕ, ◌++◌, List, [], ◌∷◌, Option, option_and_then}
use Rattle.wild_loader.specs.declared.instruction.Cell.{Cell}
use Rattle.wild_loader.specs.declared.instruction.Operand.TheVariants.{Number, Word}
use Rattle.wild_loader.specs.declared.instruction.Action.{Action}
use Rattle.wild_loader.specs.declared.instruction.Deed.TheVariants.{Call, Jump, CallDescriptor, Nothing}
use Rattle.wild_loader.specs.Instruction.{Template, Reader, Effect, exact_cells, Idle, meaning, effect, as_value}
use Rattle.wild_loader.specs.CodeX86_64.{no_prefix, rex, rex2, with_prefix, branch, stub}
use Rattle.wild_loader.specs.ThreadCodeX86_64.{nop_byte, nops, mov_pointer, lea_number, add_slot, number_template, slot_template, pointer_template, general_call, general_slot_call, far_pair_call, local_call, local_slot_call}

abbrev pub whole_sequences : List Template
whole_sequences =
    far_pair_call
    ∷ number_template (mov_pointer ++ (lea_number ++ nops 6))
    ∷ pointer_template (mov_pointer ++ nops 13)
    ∷ general_call
    ∷ general_slot_call
    ∷ number_template (mov_pointer ++ lea_number)
    ∷ slot_template (mov_pointer ++ add_slot)
    ∷ stub
    ∷ local_slot_call
    ∷ pointer_template (mov_pointer ++ nops 4)
    ∷ local_call
    ∷ pointer_template (exact_cells (0x66 ∷ 0x66 ∷ 0x66 ∷ []) ++ mov_pointer)
    ∷ []

abbrev pub branches : List Template
branches =
    branch (0x67 ∷ 0xe8 ∷ []) Number Call
    ∷ branch (0xff ∷ 0x15 ∷ []) Word Call
    ∷ branch (0xff ∷ 0x25 ∷ []) Word Jump
    ∷ branch (0xe8 ∷ []) Number Call
    ∷ branch (0xe9 ∷ []) Number Jump
    ∷ []

abbrev pub does_nothing : List Cell → Template
does_nothing cells = record { cells = cells; action = λ a bs. record { deed = Nothing; width = 64; operand = Number 0 } }

-- `call [rax]`, with the address of a descriptor in rax ("ELF Handling For Thread-Local Storage", "TLS Descriptors")
abbrev pub descriptor_call : Template
descriptor_call = record { cells = exact_cells (0xff ∷ 0x10 ∷ []); action = λ a bs. record { deed = CallDescriptor 0; width = 64; operand = Number 0 } }

-- the descriptor call, and the instructions that do nothing
abbrev pub short : List Template
short =
    descriptor_call
    ∷ does_nothing (exact_cells (0x66 ∷ nop_byte ∷ []))
    ∷ does_nothing (exact_cells (nop_byte ∷ []))
    ∷ []

-- the longest first
abbrev pub templates_x86_64 : List Template
templates_x86_64 = whole_sequences ++ (with_prefix rex2 ++ (with_prefix rex ++ (with_prefix no_prefix ++ (branches ++ short))))

-- `nop` may follow an instruction that replaces a longer one
abbrev pub idle_x86_64 : Idle
idle_x86_64 = record { nop = nop_byte ∷ []; in_front = 0 }

-- the action of these bytes of code at an address
unfoldable pub meaning_x86_64 : ℕ → List ℕ → Option Action
meaning_x86_64 a bs = meaning idle_x86_64 templates_x86_64 a bs

-- that action, with the value of its operand
abbrev pub effect_x86_64 : Reader → ℕ → List ℕ → Option Effect
effect_x86_64 read a bs = option_and_then (effect read) (meaning_x86_64 a bs)

-- the effect if the operand has the value v
abbrev pub demand_x86_64 : ℕ → ℕ → List ℕ → Option Effect
demand_x86_64 v a bs = effect_x86_64 (as_value v) a bs
