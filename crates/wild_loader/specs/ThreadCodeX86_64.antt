-- x86-64 code that computes addresses of thread-local data in rax ("ELF Handling For Thread-Local Storage", "Thread-Local Storage
-- Access Models").
--   thread_address, pair_template ..   the value in rax
--   general_call, local_call ..  sequences that call `__tls_get_addr` with the address of a pair in rdi
use Rattle.std.specs.Prelude.{ℕ, ◌+◌, ◌++◌, List, [], ◌∷◌, replicate}
use Rattle.wild_loader.specs.declared.instruction.Cell.{Cell}
use Rattle.wild_loader.specs.declared.instruction.Cell.TheVariants.{Is}
use Rattle.wild_loader.specs.declared.instruction.Operand.{Operand}
use Rattle.wild_loader.specs.declared.instruction.Operand.TheVariants.{Number, Word, Pair}
use Rattle.wild_loader.specs.declared.instruction.Deed.TheVariants.{SetThreadAddress}
use Rattle.wild_loader.specs.Instruction.{Template, exact_cells, field, signed_at, sum_64}

-- the one-byte instruction that does nothing (Intel SDM, "NOP": 90)
abbrev pub nop_byte : ℕ
nop_byte = 0x90

abbrev pub nops : ℕ → List Cell
nops n = exact_cells (replicate n nop_byte)

-- `lea rdi, [rip + displacement]`: the address of a pair
abbrev pub lea_rdi : List Cell
lea_rdi = exact_cells (0x48 ∷ 0x8d ∷ 0x3d ∷ []) ++ field

-- `movabs rax, distance; add rax, rbx; call rax`
abbrev pub far_call : List Cell
far_call = exact_cells (0x48 ∷ 0xb8 ∷ []) ++ (field ++ (field ++ exact_cells (0x48 ∷ 0x01 ∷ 0xd8 ∷ 0xff ∷ 0xd0 ∷ [])))

-- `mov rax, fs:0`: the thread pointer
abbrev pub mov_pointer : List Cell
mov_pointer = exact_cells (0x64 ∷ 0x48 ∷ 0x8b ∷ 0x04 ∷ 0x25 ∷ 0 ∷ 0 ∷ 0 ∷ 0 ∷ [])

-- `lea rax, [rax + number]`
abbrev pub lea_number : List Cell
lea_number = exact_cells (0x48 ∷ 0x8d ∷ 0x80 ∷ []) ++ field

-- `add rax, [rip + displacement]`
abbrev pub add_slot : List Cell
add_slot = exact_cells (0x48 ∷ 0x03 ∷ 0x05 ∷ []) ++ field

abbrev pub thread_address : List Cell → (ℕ → List ℕ → Operand) → Template
thread_address cells operand = record { cells = cells; action = λ a bs. record { deed = SetThreadAddress 0; width = 64; operand = operand a bs } }

-- the pair at the address of the first instruction, whose displacement is k bytes after the start
abbrev pub pair_template : ℕ → List Cell → Template
pair_template k cells = thread_address cells (λ a bs. Pair (sum_64 (a + (k + 4)) (signed_at bs k)))

-- the thread pointer and the number, which is 12 bytes after the start
abbrev pub number_template : List Cell → Template
number_template cells = thread_address cells (λ a bs. Number (signed_at bs 12))

-- the thread pointer and the word in the slot
abbrev pub slot_template : List Cell → Template
slot_template cells = thread_address cells (λ a bs. Word (sum_64 (a + 16) (signed_at bs 12)))

-- only the thread pointer
abbrev pub pointer_template : List Cell → Template
pointer_template cells = thread_address cells (λ a bs. Number 0)

-- ---- sequences that call `__tls_get_addr` with the address of a pair in rdi, and leave a thread address in rax

-- by a direct call, and by a call through a slot, with prefixes that make both 16 bytes
abbrev pub general_call : Template
general_call = pair_template 4 (Is 0x66 ∷ (lea_rdi ++ (exact_cells (0x66 ∷ 0x66 ∷ 0x48 ∷ 0xe8 ∷ []) ++ field)))

abbrev pub general_slot_call : Template
general_slot_call = pair_template 4 (Is 0x66 ∷ (lea_rdi ++ (exact_cells (0x66 ∷ 0x48 ∷ 0xff ∷ 0x15 ∷ []) ++ field)))

-- by a call to a distance of 64 bits
abbrev pub far_pair_call : Template
far_pair_call = pair_template 3 (lea_rdi ++ far_call)

-- the same without prefixes
abbrev pub local_call : Template
local_call = pair_template 3 (lea_rdi ++ (exact_cells (0xe8 ∷ []) ++ field))

abbrev pub local_slot_call : Template
local_slot_call = pair_template 3 (lea_rdi ++ (exact_cells (0xff ∷ 0x15 ∷ []) ++ field))
