-- The bytes that rows write: x86-64 instructions (Intel SDM; x86-64 psABI, "Linker Optimization"; "ELF Handling For Thread-Local
-- Storage", "Linker Relaxations"), and AArch64 words.
--   rewrite_of row     the bytes, the offset of the field, its relocation type and its addend
--   info_written row   how the field is written
use Rattle.std.specs.Prelude.{ℕ, ℤ, pos, ◌+◌, ◌*◌, ◌/◌, ◌%◌, ◌^◌, ◌==◌, Bool, ◌||◌, if◌then◌else◌, List, [], ◌∷◌, ◌++◌, slice_index, Option, Some, None, replicate, true, false}
use Rattle.wild_words.specs.Words.{word, number}
use Rattle.wild_records.specs.Abi.Relocation as abi
use Rattle.wild_reloc.specs.Table.{plain}
use Rattle.wild_reloc.specs.TableX86_64.{x86_64_row}
use Rattle.wild_reloc.specs.TableAArch64.{aarch64_row}
use Rattle.wild_reloc.specs.declared.range.Sign.TheVariants.{Signed}
use Rattle.wild_reloc.specs.declared.info.Width.TheVariants.{Zero}
use Rattle.wild_reloc.specs.declared.info.RelocationKind.{RelocationKind}
use Rattle.wild_reloc.specs.declared.info.RelocationKind.TheVariants as kinds
use Rattle.wild_reloc.specs.declared.info.RelocationKindInfo.{RelocationKindInfo}
use Rattle.wild_relax.specs.declared.pattern.Prefix.{Prefix}
use Rattle.wild_relax.specs.declared.pattern.Prefix.TheVariants.{Rex, Rex2}
use Rattle.wild_relax.specs.declared.pattern.Operation.{Operation}
use Rattle.wild_relax.specs.declared.pattern.Operation.TheVariants as operation
use Rattle.wild_relax.specs.declared.pattern.LocalForm.TheVariants as local
use Rattle.wild_relax.specs.declared.row.Row.{Row}
use Rattle.wild_relax.specs.declared.row.Made.{Made}
use Rattle.wild_relax.specs.declared.row.Made.TheVariants.{Kept, Lea, Load, Immediate, MovImmediate, DirectCall, DirectJump, Nop, LocalExec, LocalExecLarge, InitialExec, ThreadPointer, Code}
use Rattle.wild_relax.specs.declared.row.Word.{Word}
use Rattle.wild_relax.specs.declared.row.Word.TheVariants as words
use Rattle.wild_relax.specs.declared.row.Distance.{Distance}
use Rattle.wild_relax.specs.declared.row.Distance.TheVariants as distances
use Rattle.wild_relax.specs.declared.row.Goal.{Goal}
use Rattle.wild_relax.specs.declared.row.Goal.TheVariants as goals
use Rattle.wild_relax.specs.declared.row.Partner.{Partner}
use Rattle.wild_relax.specs.declared.row.Written.{Written}
use Rattle.wild_relax.specs.declared.row.Written.TheVariants as written
use Rattle.wild_relax.specs.declared.rewrite.Change.{Change}
use Rattle.wild_relax.specs.declared.relaxation.RelocationModifier.TheVariants.{Normal, SkipNextRelocation}
use Rattle.wild_relax.specs.declared.relaxation.RelocationModifier.{RelocationModifier}
use Rattle.wild_relax.specs.Rewrite.{Rewrite}

-- ---- bytes

-- The register moves from ModRM.reg to ModRM.rm, so that bit R of the prefix becomes bit B, and R4 becomes B4 (Intel SDM, "REX
-- Prefixes"; Intel APX, "REX2").
abbrev pub immediate_prefix : Prefix → ℕ → ℕ
immediate_prefix Rex b = if b == 0x4c then 0x49 else b
immediate_prefix Rex2 b = if b == 0x48 then 0x18 else if b == 0x4c then 0x19 else if b == 0x0c then 0x09 else b

-- the opcode over an immediate of 32 bits, and its digit in ModRM.reg (Intel SDM, "MOV": c7 /0; "SUB": 81 /5; "CMP": 81 /7;
-- "ADD": 81 /0)
abbrev pub immediate_opcode : Operation → ℕ
immediate_opcode operation.Mov = 0xc7
immediate_opcode other = 0x81

abbrev pub immediate_digit : Operation → ℕ
immediate_digit operation.Mov = 0
immediate_digit operation.Sub = 5
immediate_digit operation.Cmp = 7
immediate_digit operation.Add = 0

-- the ModRM byte of a digit and the register of another ModRM byte
abbrev pub immediate_modrm : ℕ → ℕ → ℕ
immediate_modrm digit m = 0xc0 + 8 * digit + m / 8 % 8

-- the last byte of the prefix, the opcode and the ModRM byte
abbrev pub immediate_bytes : Prefix → Operation → List ℕ → List ℕ
immediate_bytes p o old = immediate_prefix p (slice_index old 0) ∷ immediate_opcode o ∷ immediate_modrm (immediate_digit o) (slice_index old 2) ∷ []

abbrev pub mov_immediate_bytes : List ℕ → List ℕ
mov_immediate_bytes old = 0xc7 ∷ immediate_modrm 0 (slice_index old 1) ∷ []

-- `mov rax, fs:0`: the thread pointer
abbrev pub thread_pointer_bytes : List ℕ
thread_pointer_bytes = 0x64 ∷ 0x48 ∷ 0x8b ∷ 0x04 ∷ 0x25 ∷ 0 ∷ 0 ∷ 0 ∷ 0 ∷ []

-- `lea rax, [rax + number]`
abbrev pub local_exec_bytes : List ℕ
local_exec_bytes = thread_pointer_bytes ++ (0x48 ∷ 0x8d ∷ 0x80 ∷ 0 ∷ 0 ∷ 0 ∷ 0 ∷ [])

-- `add rax, [rip + slot]`
abbrev pub initial_exec_bytes : List ℕ
initial_exec_bytes = thread_pointer_bytes ++ (0x48 ∷ 0x03 ∷ 0x05 ∷ 0 ∷ 0 ∷ 0 ∷ 0 ∷ [])

-- the register that a word of AArch64 sets (Arm Architecture Reference Manual, C4.1: Rd, Rt)
abbrev pub register_set : ℕ → ℕ
register_set w = w % 2 ^ 5

-- `nop`; `movz` of a number shifted by 16, `movk`, `adrp`, `ldr` of 64 bits, `adr` (C6.2)
abbrev pub word_made : Word → ℕ → ℕ
word_made words.Nop w = 0xd503201f
word_made words.MovzX0 w = 0xd2a00000
word_made words.MovkX0 w = 0xf2800000
word_made words.AdrpX0 w = 0x90000000
word_made words.LdrX0 w = 0xf9400000
word_made words.Movz w = 0xd2a00000 + register_set w
word_made words.Movk w = 0xf2800000 + register_set w
word_made words.Adr w = 0x10000000 + register_set w

abbrev pub made_bytes : Made → List ℕ → List ℕ
made_bytes Kept old = []
made_bytes Lea old = 0x8d ∷ []
made_bytes Load old = 0x8b ∷ []
made_bytes (Immediate p o) old = immediate_bytes p o old
made_bytes MovImmediate old = mov_immediate_bytes old
made_bytes DirectCall old = 0x67 ∷ 0xe8 ∷ []
made_bytes DirectJump old = 0xe9 ∷ 0 ∷ 0 ∷ 0 ∷ 0 ∷ 0x90 ∷ []
made_bytes Nop old = 0x66 ∷ 0x90 ∷ []
made_bytes LocalExec old = local_exec_bytes
made_bytes LocalExecLarge old = local_exec_bytes ++ replicate 6 0x90
made_bytes InitialExec old = initial_exec_bytes
made_bytes (ThreadPointer local.Regular) old = 0x66 ∷ 0x66 ∷ 0x66 ∷ thread_pointer_bytes
made_bytes (ThreadPointer local.Large) old = thread_pointer_bytes ++ replicate 13 0x90
made_bytes (ThreadPointer local.NoPlt) old = thread_pointer_bytes ++ replicate 4 0x90
made_bytes (Code w) old = word 4 (word_made w (number old))

-- ---- positions

-- `size` bytes are replaced, from `back` bytes before the field on; afterwards the field is `field` bytes after their start
abbrev pub change : (back size field : ℕ) → (keeps : Bool) → Change
change back size field keeps = record { back = back; size = size; field = field; keeps_addend = keeps }

abbrev pub change_of : Made → Change
change_of Kept = change 0 0 0 true
change_of Lea = change 2 1 2 true
change_of Load = change 2 1 2 true
change_of (Immediate p o) = change 3 3 3 false
change_of MovImmediate = change 2 2 2 false
change_of DirectCall = change 2 2 2 true
change_of DirectJump = change 2 6 1 true
change_of Nop = change 0 2 0 true
change_of LocalExec = change 4 16 12 false
change_of LocalExecLarge = change 3 22 12 false
change_of InitialExec = change 4 16 12 true
change_of (ThreadPointer local.Regular) = change 3 12 3 true
change_of (ThreadPointer local.Large) = change 3 22 3 true
change_of (ThreadPointer local.NoPlt) = change 3 13 3 true
change_of (Code w) = change 0 4 0 true

-- an immediate has addend 0; a distance keeps the addend, as it is relative to the end of its field
abbrev pub addend_by : Bool → ℤ → ℤ
addend_by true a = a
addend_by false a = pos 0

-- ---- rewrites

-- the relocation types of distances of code (aaelf64, "Relocation types")
abbrev pub distance_type : Distance → ℕ
distance_type distances.Jump26 = abi.r_aarch64_jump26
distance_type distances.Call26 = abi.r_aarch64_call26
distance_type distances.CondBr19 = abi.r_aarch64_condbr19
distance_type distances.TstBr14 = abi.r_aarch64_tstbr14
distance_type distances.Plt32 = abi.r_aarch64_plt32

abbrev pub number_written : Written → ℕ
number_written written.Nothing = abi.r_x86_64_none
number_written written.Pc32 = abi.r_x86_64_pc32
number_written written.Plt32 = abi.r_x86_64_plt32
number_written written.Unsigned32 = abi.r_x86_64_32
number_written written.Signed32 = abi.r_x86_64_32s
number_written written.GotTpOff = abi.r_x86_64_gottpoff
number_written written.TpOff32 = abi.r_x86_64_tpoff32
number_written written.GotOff64 = abi.r_x86_64_gotoff64
number_written (written.Code d goal) = distance_type d
number_written written.TlsLeMovwTprelG1 = abi.r_aarch64_tlsle_movw_tprel_g1
number_written written.TlsLeMovwTprelG0Nc = abi.r_aarch64_tlsle_movw_tprel_g0_nc
number_written written.TlsIeAdrGotTprelPage21 = abi.r_aarch64_tlsie_adr_gottprel_page21
number_written written.TlsIeLd64GotTprelLo12Nc = abi.r_aarch64_tlsie_ld64_gottprel_lo12_nc
number_written written.AdrPrelLo21 = abi.r_aarch64_adr_prel_lo21

-- S + A - P, or L + A - P
abbrev pub or_nothing : Option RelocationKindInfo → RelocationKindInfo
or_nothing None = plain kinds.None Zero Signed
or_nothing (Some info) = info

-- the same field, with that kind of value
abbrev pub kind_to : Goal → RelocationKind
kind_to goals.Symbol = kinds.Relative
kind_to goals.Stub = kinds.PltRelative

-- the same field, of that value
abbrev pub of_kind : RelocationKind → RelocationKindInfo → RelocationKindInfo
of_kind kind i = record { kind = kind; size = i.size; mask = i.mask; range = i.range; alignment = i.alignment; bias = i.bias; thunkable = i.thunkable }

-- it is a relocation type of AArch64
abbrev pub is_aarch64 : Written → Bool
is_aarch64 (written.Code d goal) = true
is_aarch64 written.TlsLeMovwTprelG1 = true
is_aarch64 written.TlsLeMovwTprelG0Nc = true
is_aarch64 written.TlsIeAdrGotTprelPage21 = true
is_aarch64 written.TlsIeLd64GotTprelLo12Nc = true
is_aarch64 written.AdrPrelLo21 = true
is_aarch64 other = false

-- the row of the relocation type in the machine's table
abbrev pub type_row : Written → Option RelocationKindInfo
type_row w = if is_aarch64 w then aarch64_row (number_written w) else x86_64_row (number_written w)

-- a code distance has the value for its goal, symbol or stub
abbrev pub going : Written → RelocationKindInfo → RelocationKindInfo
going (written.Code d goal) i = of_kind (kind_to goal) i
going w i = i

abbrev pub info_by : Written → RelocationKindInfo
info_by w = going w (or_nothing (type_row w))

-- how the field is written: its value, its size and its range
abbrev pub info_written : Row → RelocationKindInfo
info_written row = info_by row.written

-- the next relocation is that of the sequence's call
abbrev pub next_by : Option Partner → RelocationModifier
next_by None = Normal
next_by (Some p) = SkipNextRelocation

abbrev pub rewrite_of : Row → Rewrite
rewrite_of row = record {
  back = (change_of row.made).back;
  size = (change_of row.made).size;
  bytes = made_bytes row.made;
  field = (change_of row.made).field;
  number = number_written row.written;
  addend = addend_by (change_of row.made).keeps_addend;
  next = next_by row.partner;
}

-- the field holds the value itself, not a distance
abbrev pub is_number : Row → Bool
is_number row = (rewrite_of row).number == abi.r_x86_64_32 || (rewrite_of row).number == abi.r_x86_64_32s
