-- The effects of worked code are checked.
--   IsWorked ..               the code has a reference with that instruction
--   WorkedBranchesAreChecked    calls and jumps, direct and through slots, of either machine
--   WorkedAddressesAreChecked   an address in a slot or in two words, and a thread address, of either machine
use Rattle.std.specs.Prelude.{◌≡◌, ℕ, true, false, List, [], ◌∷◌, Some, Contains}
use lib.IntN.{pos, negsuc}
use Rattle.wild_records.specs.Abi.Relocation.{r_x86_64_pc32, r_x86_64_plt32, r_x86_64_gotpcrel, r_x86_64_gotpcrelx, r_x86_64_rex_gotpcrelx, r_x86_64_tlsgd, r_aarch64_jump26, r_aarch64_call26, r_aarch64_adr_prel_pg_hi21, r_aarch64_add_abs_lo12_nc, r_aarch64_tlsdesc_adr_page21, r_aarch64_tlsdesc_ld64_lo12, r_aarch64_tlsdesc_add_lo12, r_aarch64_tlsdesc_call}
use Rattle.wild_types.specs.declared.kind.Machine.TheVariants as machine
use Rattle.wild_types.specs.declared.input.InputRelocation.{InputRelocation}
use Rattle.wild_types.specs.declared.layout.Layout.{Layout}
use Rattle.wild_types.specs.Flags.{ifunc, non_interposable, undefined_weak}
use Rattle.wild_meaning.specs.World.{IsExecutable}
use Rattle.wild_meaning.specs.Value.{HasFlag}
use Rattle.wild_types.specs.Item.{Item}
use Rattle.wild_meaning.specs.Item.{IsReference}
use Rattle.wild_loader.specs.declared.instruction.Operand.TheVariants.{Number, Word}
use Rattle.wild_loader.specs.declared.instruction.Deed.{Deed}
use Rattle.wild_loader.specs.declared.instruction.Deed.TheVariants.{Set, Call, Jump}
use Rattle.wild_loader.specs.CodeX86_64.{rex, with_slot, branch}
use Rattle.wild_loader.specs.ThreadCodeX86_64.{general_call}
use Rattle.wild_meaning.specs.Sequence.{Instruction, Target, TargetInSlot, AddressInSlot, SymbolPair, of_field, of_word, of_sequence, of_symbol, by_call, address_pair_words, descriptor_call_words}
use Rattle.wild_meaning.specs.Partners.{NamesGetter}
use Rattle.wild_meaning.specs.Template.{IsTemplate}
use Rattle.wild_sample_layouts.specs.CallingPlans.{branch_reference, branch_bytes}

-- the code of the worked examples: an instruction with four bytes that a relocation fills, and two returns; and a sequence with
-- two such fields
abbrev pub worked_relocation : ℕ → ℕ → ℕ → InputRelocation
worked_relocation offset number symbol = record { offset = offset; number = number; symbol = Some symbol; addend = negsuc 3; malformed = false }

abbrev pub worked_item : ℕ → List ℕ → List InputRelocation → Item
worked_item address bytes rs = record { address = address; flags = 6; bytes = bytes; relocations = rs; thunk_block = 0 }

-- `call` and `jmp`, and the same through a slot; `mov` of an address in a slot
abbrev pub direct_code : ℕ → List ℕ
direct_code opcode = opcode ∷ 0 ∷ 0 ∷ 0 ∷ 0 ∷ 0xc3 ∷ 0xc3 ∷ []

abbrev pub indirect_code : ℕ → List ℕ
indirect_code opcode = 0xff ∷ opcode ∷ 0 ∷ 0 ∷ 0 ∷ 0 ∷ 0xc3 ∷ 0xc3 ∷ []

abbrev pub load_code : List ℕ
load_code = 0x48 ∷ 0x8b ∷ 0x05 ∷ 0 ∷ 0 ∷ 0 ∷ 0 ∷ 0xc3 ∷ 0xc3 ∷ []

-- `lea rdi, [rip + pair]; call __tls_get_addr`, with the prefixes that make it 16 bytes
abbrev pub general_code : List ℕ
general_code = 0x66 ∷ 0x48 ∷ 0x8d ∷ 0x3d ∷ 0 ∷ 0 ∷ 0 ∷ 0 ∷ 0x66 ∷ 0x66 ∷ 0x48 ∷ 0xe8 ∷ 0 ∷ 0 ∷ 0 ∷ 0 ∷ []

-- the instructions of this code
abbrev pub direct_branch : ℕ → Deed → Instruction
direct_branch opcode deed = of_field (branch (opcode ∷ []) Number deed) 1 Target (r_x86_64_pc32 ∷ r_x86_64_plt32 ∷ [])

abbrev pub indirect_branch : ℕ → Deed → Instruction
indirect_branch opcode deed = of_field (branch (0xff ∷ opcode ∷ []) Word deed) 2 TargetInSlot (r_x86_64_gotpcrel ∷ r_x86_64_gotpcrelx ∷ [])

abbrev pub load : Instruction
load = of_field (with_slot 0x8b Word Set rex) 3 AddressInSlot (r_x86_64_rex_gotpcrelx ∷ [])

abbrev pub general : Instruction
general = of_sequence general_call 4 SymbolPair r_x86_64_tlsgd of_symbol (by_call 12)

-- for AArch64: `bl`, and `b` followed by a return
abbrev pub branch_word : Instruction
branch_word = of_word Target r_aarch64_call26

abbrev pub word_relocation : ℕ → ℕ → InputRelocation
word_relocation offset number = record { offset = offset; number = number; symbol = Some 0; addend = pos 0; malformed = false }

abbrev pub jump_code : List ℕ
jump_code = 0 ∷ 0 ∷ 0 ∷ 0x14 ∷ 0xc0 ∷ 0x03 ∷ 0x5f ∷ 0xd6 ∷ []

abbrev pub jump_word : Instruction
jump_word = of_word Target r_aarch64_jump26

-- the code has a reference with that instruction
abbrev pub IsWorked : Layout → ℕ → List ℕ → InputRelocation → Instruction → Type 0
IsWorked l address bytes r o = IsReference (worked_item address bytes (r ∷ [])) r × IsTemplate l (worked_item address bytes (r ∷ [])) r 0 o r

pub record WorkedBranchesAreChecked : Type 0 where
  pub call : (l : Layout) (address : ℕ) → l.machine ≡ machine.X86_64 → IsWorked l address (direct_code 0xe8) (worked_relocation 1 r_x86_64_pc32 0) (direct_branch 0xe8 Call)
  pub jump : (l : Layout) (address : ℕ) → l.machine ≡ machine.X86_64 → IsWorked l address (direct_code 0xe9) (worked_relocation 1 r_x86_64_plt32 0) (direct_branch 0xe9 Jump)
  pub slot_call : (l : Layout) (address : ℕ) → l.machine ≡ machine.X86_64 → IsWorked l address (indirect_code 0x15) (worked_relocation 2 r_x86_64_gotpcrelx 0) (indirect_branch 0x15 Call)
  pub slot_jump : (l : Layout) (address : ℕ) → l.machine ≡ machine.X86_64 → IsWorked l address (indirect_code 0x25) (worked_relocation 2 r_x86_64_gotpcrel 0) (indirect_branch 0x25 Jump)
  pub word : (l : Layout) (address : ℕ) → l.machine ≡ machine.AArch64 → IsWorked l address branch_bytes branch_reference branch_word
  pub word_jump : (l : Layout) (address : ℕ) → l.machine ≡ machine.AArch64 → IsWorked l address jump_code (word_relocation 0 r_aarch64_jump26) jump_word

-- the two relocations of the sequence
abbrev pub pair_relocation : InputRelocation
pair_relocation = worked_relocation 4 r_x86_64_tlsgd 0

abbrev pub getter_relocation : InputRelocation
getter_relocation = worked_relocation 12 r_x86_64_plt32 1

abbrev pub general_item : ℕ → Item
general_item address = worked_item address general_code (pair_relocation ∷ getter_relocation ∷ [])

-- an executable whose symbol 0 is its own and not an IFUNC, and whose symbol 1 returns thread-local addresses
pub record ComputesThreadAddress (l : Layout) : Type 0 where
  pub x86 : l.machine ≡ machine.X86_64
  pub executable : IsExecutable l.kind
  pub plain : HasFlag l 0 ifunc false
  pub own : HasFlag l 0 non_interposable true
  pub getter : NamesGetter l getter_relocation

-- both relocations belong to the sequence, and the first one is that of the pair
abbrev pub IsPaired : Layout → ℕ → InputRelocation → Type 0
IsPaired l address r = IsReference (general_item address) r × IsTemplate l (general_item address) r 0 general pair_relocation

-- on AArch64: `adrp x0, symbol; add x0, x0, symbol`
abbrev pub address_code : List ℕ
address_code = 0 ∷ 0 ∷ 0 ∷ 0x90 ∷ 0 ∷ 0 ∷ 0 ∷ 0x91 ∷ []

abbrev pub page_relocation : InputRelocation
page_relocation = word_relocation 0 r_aarch64_adr_prel_pg_hi21

abbrev pub address_relocations : List InputRelocation
address_relocations = page_relocation ∷ word_relocation 4 r_aarch64_add_abs_lo12_nc ∷ []

-- `adrp x0, descriptor; ldr x1, [x0, descriptor]; add x0, x0, descriptor; blr x1`
abbrev pub descriptor_code : List ℕ
descriptor_code = 0 ∷ 0 ∷ 0 ∷ 0x90 ∷ 0x01 ∷ 0 ∷ 0x40 ∷ 0xf9 ∷ 0 ∷ 0 ∷ 0 ∷ 0x91 ∷ 0x20 ∷ 0 ∷ 0x3f ∷ 0xd6 ∷ []

abbrev pub descriptor_relocation : InputRelocation
descriptor_relocation = word_relocation 0 r_aarch64_tlsdesc_adr_page21

abbrev pub descriptor_relocations : List InputRelocation
descriptor_relocations =
    descriptor_relocation ∷ word_relocation 4 r_aarch64_tlsdesc_ld64_lo12 ∷ word_relocation 8 r_aarch64_tlsdesc_add_lo12 ∷ word_relocation 12 r_aarch64_tlsdesc_call ∷ []

-- each of the relocations belongs to the run of words, and the first of them is the run's first
abbrev pub AreOfRun : Layout → ℕ → List ℕ → List InputRelocation → InputRelocation → Instruction → Type 0
AreOfRun l address bytes rs first o = (r : InputRelocation) → Contains rs r → IsReference (worked_item address bytes rs) r × IsTemplate l (worked_item address bytes rs) r 0 o first

-- code that sets a register to an address, and code that computes a thread-local address
pub record WorkedAddressesAreChecked : Type 0 where
  pub loads : (l : Layout) (address : ℕ) → l.machine ≡ machine.X86_64 → IsWorked l address load_code (worked_relocation 3 r_x86_64_rex_gotpcrelx 0) load
  pub pairs : (l : Layout) (address : ℕ) → ComputesThreadAddress l → IsPaired l address pair_relocation
  pub getters : (l : Layout) (address : ℕ) → ComputesThreadAddress l → IsPaired l address getter_relocation
  pub words : (l : Layout) (address : ℕ) → l.machine ≡ machine.AArch64 → HasFlag l 0 undefined_weak false → AreOfRun l address address_code address_relocations page_relocation address_pair_words
  pub descriptors : (l : Layout) (address : ℕ) → l.machine ≡ machine.AArch64 → AreOfRun l address descriptor_code descriptor_relocations descriptor_relocation descriptor_call_words
