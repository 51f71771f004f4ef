-- The references of an item to which the requirements on fields, calls and jumps apply: by the relocation types, and by the
-- input's bytes.
--   IsLoadedSection l s    an input section with data is loaded, allocated and written
--   IsRelocated s r        a relocation of an item other than R_X86_64_NONE and R_AARCH64_NONE, which are 0
--   address_types m        the types of addresses and distances
--   HasFirstTypes m s      no relocation of the item belongs to an instruction with bytes outside fields, except direct calls and
--                          jumps
--   IsCall, IsJump ..      a relocation is that of a direct call, or of a direct jump
--   IsSlotCall, IsSlotJump ..   the same for one through a slot
--   GivesThreadAddress ..  a relocation is that of a call that returns a thread-local address
use Rattle.std.specs.Prelude.{◌≡◌, ◌≢◌, ℕ, ◌+◌, ◌/◌, ◌%◌, ◌^◌, ◌≤◌, ◌⊎◌, true, false, List, [], ◌∷◌, length, Some, Contains, slice_index, slice_get}
use Rattle.std.specs.Int.{w64, cast_unsigned}
use Rattle.wild_words.specs.Words.{number_at}
use Rattle.wild_records.specs.Abi.Relocation.{r_x86_64_none, r_x86_64_64, r_x86_64_pc32, r_x86_64_plt32, r_x86_64_gotpcrel, r_x86_64_32, r_x86_64_32s, r_x86_64_16, r_x86_64_pc16, r_x86_64_8, r_x86_64_pc8, r_x86_64_tlsgd, r_x86_64_tlsld, r_x86_64_pc64, r_x86_64_pltoff64, r_x86_64_gotpcrelx, r_x86_64_rex_gotpcrelx, r_aarch64_abs64, r_aarch64_abs32, r_aarch64_abs16, r_aarch64_prel64, r_aarch64_prel32, r_aarch64_prel16, r_aarch64_jump26, r_aarch64_call26, r_aarch64_tlsdesc_call}
use Rattle.wild_types.specs.declared.kind.Machine.{Machine}
use Rattle.wild_types.specs.declared.kind.Machine.TheVariants as machine
use Rattle.wild_types.specs.declared.input.Slot.TheVariants as slot
use Rattle.wild_types.specs.declared.input.InputRelocation.{InputRelocation}
use Rattle.wild_types.specs.declared.input.InputSection.{InputSection}
use Rattle.wild_types.specs.declared.file.File.{File}
use Rattle.wild_types.specs.declared.file.Group.{Group}
use Rattle.wild_types.specs.declared.layout.Layout.{Layout}
use Rattle.wild_types.specs.Item.{Item}
use Rattle.wild_types.specs.Lookups.{allocated, executable, is_header_only_part}
use Rattle.wild_loader.specs.declared.world.World.{World}
use Rattle.wild_meaning.specs.Field.{InNoField}
use Rattle.wild_meaning.specs.Partners.{NamesGetter}

-- an input section of the layout that is loaded, allocated, has data and is written
pub record IsLoadedSection (l : Layout) (s : InputSection) : Type 0 where
  pub group : Group
  pub grouped : Contains l.groups group
  pub file : File
  pub filed : Contains group.files file
  pub listed : Contains file.sections s
  pub loaded : s.slot ≡ slot.Loaded
  pub carried : allocated s.flags ≡ true
  pub has_data : s.nobits ≡ false
  pub written : is_header_only_part l s.part ≡ false

-- a relocation of the item other than R_X86_64_NONE and R_AARCH64_NONE
pub record IsRelocated (s : Item) (r : InputRelocation) : Type 0 where
  pub listed : Contains s.relocations r
  pub refers : r.number ≢ r_x86_64_none

-- the types that write S + A or S + A - P as a number (x86-64 psABI, "Relocation Types"; aaelf64, "Static data relocations")
abbrev pub addresses_x86_64 : List ℕ
addresses_x86_64 = r_x86_64_64 ∷ r_x86_64_pc32 ∷ r_x86_64_32 ∷ r_x86_64_32s ∷ r_x86_64_16 ∷ r_x86_64_pc16 ∷ r_x86_64_8 ∷ r_x86_64_pc8 ∷ r_x86_64_pc64 ∷ []

abbrev pub addresses_aarch64 : List ℕ
addresses_aarch64 = r_aarch64_abs64 ∷ r_aarch64_abs32 ∷ r_aarch64_abs16 ∷ r_aarch64_prel64 ∷ r_aarch64_prel32 ∷ r_aarch64_prel16 ∷ []

abbrev pub address_types : Machine → List ℕ
address_types machine.X86_64 = addresses_x86_64
address_types machine.AArch64 = addresses_aarch64

-- on x86-64 the types of a direct call or jump, and of one through a slot
abbrev pub branch_types : List ℕ
branch_types = r_x86_64_pc32 ∷ r_x86_64_plt32 ∷ []

abbrev pub slot_types : List ℕ
slot_types = r_x86_64_gotpcrel ∷ r_x86_64_gotpcrelx ∷ []

-- the types that refer to a pair, and those of the call after them (x86-64 psABI, "Thread-Local Storage")
abbrev pub thread_types : List ℕ
thread_types = r_x86_64_tlsgd ∷ r_x86_64_tlsld ∷ []

abbrev pub call_types : List ℕ
call_types = r_x86_64_pc32 ∷ r_x86_64_plt32 ∷ r_x86_64_gotpcrel ∷ r_x86_64_gotpcrelx ∷ r_x86_64_rex_gotpcrelx ∷ r_x86_64_pltoff64 ∷ []

-- the types of addresses and distances, NONE, and R_X86_64_PLT32
abbrev pub first_types : List ℕ
first_types = r_x86_64_none ∷ r_x86_64_plt32 ∷ addresses_x86_64

-- on AArch64 a field is the whole word; the call through a descriptor has no field
abbrev pub IsFirstType : Machine → ℕ → Type 0
IsFirstType machine.X86_64 n = Contains first_types n
IsFirstType machine.AArch64 n = n ≢ r_aarch64_tlsdesc_call

pub record HasFirstTypes (m : Machine) (s : Item) : Type 0 where
  pub each : (r : InputRelocation) → Contains s.relocations r → IsFirstType m r.number

-- the loaded address of a place in an item
abbrev pub address_at : World → Item → ℕ → ℕ
address_at w s offset = w.base + s.address + offset

-- ---- calls and jumps of x86-64

-- The input's byte at an offset is the opcode of a direct call or jump (Intel SDM, "CALL": e8; "JMP": e9) and is in no field. The
-- field after it is the relocation's, of type R_X86_64_PC32 or R_X86_64_PLT32.
pub record IsBranch (l : Layout) (s : Item) (r : InputRelocation) (k opcode : ℕ) : Type 0 where
  pub code : executable s.flags ≡ true
  pub behind : r.offset ≡ k + 1
  pub begins : slice_index s.bytes k ≡ opcode
  pub number : Contains branch_types r.number
  pub inside : r.offset + 4 ≤ length s.bytes
  pub free : InNoField l s k

-- The input's bytes at an offset are the opcode of a call or a jump through a slot (Intel SDM, "CALL": ff 15; "JMP": ff 25) and
-- are in no field. The field after them is the relocation's, of type R_X86_64_GOTPCREL or R_X86_64_GOTPCRELX, with the addend -4
-- for its four bytes.
pub record IsSlotBranch (l : Layout) (s : Item) (r : InputRelocation) (k opcode : ℕ) : Type 0 where
  pub code : executable s.flags ≡ true
  pub behind : r.offset ≡ k + 2
  pub first : slice_index s.bytes k ≡ 0xff
  pub second : slice_index s.bytes (k + 1) ≡ opcode
  pub number : Contains slot_types r.number
  pub inside : r.offset + 4 ≤ length s.bytes
  pub addend : (cast_unsigned w64 r.addend + 4) % 2 ^ 64 ≡ 0
  pub free : InNoField l s k
  pub free_too : InNoField l s (k + 1)

-- The relocation is that of a call of the function that returns thread-local addresses, directly after one that refers to a pair.
-- Both may be rewritten together.
pub record IsThreadCall (l : Layout) (s : Item) (r : InputRelocation) : Type 0 where
  pub number : Contains call_types r.number
  pub getter : NamesGetter l r
  pub index : ℕ
  pub first : InputRelocation
  pub listed : slice_get s.relocations index ≡ Some first
  pub next : slice_get s.relocations (index + 1) ≡ Some r
  pub asks : Contains thread_types first.number

-- ---- calls and jumps of AArch64

-- the input's word at an offset has the bits 26 to 31 of `bl` or of `b` (Arm ARM, C6.2, "BL": 100101; "B": 000101), and its field is the
-- relocation's, of type R_AARCH64_CALL26 or R_AARCH64_JUMP26
pub record IsBranchWord (s : Item) (r : InputRelocation) (k opcode type : ℕ) : Type 0 where
  pub code : executable s.flags ≡ true
  pub at : r.offset ≡ k
  pub begins : number_at s.bytes k 4 / 2 ^ 26 % 2 ^ 6 ≡ opcode
  pub number : r.number ≡ type
  pub inside : k + 4 ≤ length s.bytes

-- ---- both machines

-- the relocation's field is that of a direct call, or of a direct jump, that starts at an offset
abbrev pub IsCall : Machine → Layout → Item → InputRelocation → ℕ → Type 0
IsCall machine.X86_64 l s r k = IsBranch l s r k 0xe8
IsCall machine.AArch64 l s r k = IsBranchWord s r k 37 r_aarch64_call26

abbrev pub IsJump : Machine → Layout → Item → InputRelocation → ℕ → Type 0
IsJump machine.X86_64 l s r k = IsBranch l s r k 0xe9
IsJump machine.AArch64 l s r k = IsBranchWord s r k 5 r_aarch64_jump26

abbrev pub IsBranchField : Machine → Layout → Item → InputRelocation → Type 0
IsBranchField m l s r = (k : ℕ) × (IsCall m l s r k ⊎ IsJump m l s r k)

-- the same for one through a slot; AArch64 has no single instruction for this
abbrev pub IsSlotCall : Machine → Layout → Item → InputRelocation → ℕ → Type 0
IsSlotCall machine.X86_64 l s r k = IsSlotBranch l s r k 0x15
IsSlotCall machine.AArch64 l s r k = ⊥

abbrev pub IsSlotJump : Machine → Layout → Item → InputRelocation → ℕ → Type 0
IsSlotJump machine.X86_64 l s r k = IsSlotBranch l s r k 0x25
IsSlotJump machine.AArch64 l s r k = ⊥

-- the same for a call that returns a thread-local address; on AArch64 that is only a call through a descriptor, which has no
-- field
abbrev pub GivesThreadAddress : Machine → Layout → Item → InputRelocation → Type 0
GivesThreadAddress machine.X86_64 l s r = IsThreadCall l s r
GivesThreadAddress machine.AArch64 l s r = ⊥
