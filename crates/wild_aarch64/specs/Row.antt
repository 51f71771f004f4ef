-- Rewrites of code as data: the instructions that are replaced, and the words that are written, with their relocated fields ("ELF for
-- the Arm 64-bit Architecture", "Relocation").
--   Part, filled          the value that a relocation writes to a word's field
--   Piece, written        the words at an address, for a register and a value
--   Target, IsValueOf         how the fields are computed, and what they mean in the loaded image
--   Row, rows             the table
--   branches, IsReached   branches, of which only the field is written
use Rattle.std.specs.Prelude.{◌≡◌, ℕ, ◌+◌, ◌-◌, ◌*◌, ◌/◌, ◌%◌, ◌^◌, ◌<◌, ◌≤◌, ◌⊎◌, Bool, true, false, if◌then◌else◌, List, [], ◌∷◌, Some}
use Rattle.wild_aarch64.specs.declared.code.Code.{Code}
use Rattle.wild_aarch64.specs.declared.operand.Operand.TheVariants.{Word}
use Rattle.wild_aarch64.specs.declared.template.Template.TheVariants as templates
use Rattle.wild_aarch64.specs.Slice.{Form}
use Rattle.wild_aarch64.specs.Forms.{branch, call, conditions}
use Rattle.wild_aarch64.specs.Machine.{page}
use Rattle.wild_aarch64.specs.Effect.{Reader}
use Rattle.wild_aarch64.specs.Template.{codes_of}
use Rattle.wild_aarch64.specs.Immediate.{Field, Imm12, Imm14, Imm16, Imm19, Imm21, Imm26, word_with_immediate}

-- s - p, modulo 2^64
abbrev pub distance : ℕ → ℕ → ℕ
distance p s = (s + (2 ^ 64 - p)) % 2 ^ 64

-- ---- the written words

-- the value of a word's field: unchanged; bits 16 to 31 or 0 to 15 of an offset; the page distance of a GOT entry, or the low bits of
-- its address; or a distance
pub data Part : Type 0 where
  Kept : Part
  HighOffset : Part
  LowOffset : Part
  SlotPage : Part
  SlotLow : Part
  Distance : Part

-- the word at a with that part of x in its field
abbrev pub filled : Part → ℕ → ℕ → ℕ → ℕ
filled Kept a x w = w
filled HighOffset a x w = word_with_immediate Imm16 (x % 2 ^ 32 / 2 ^ 16) w
filled LowOffset a x w = word_with_immediate Imm16 (x % 2 ^ 16) w
filled SlotPage a x w = word_with_immediate Imm21 (distance (page a) (page x) % 2 ^ 33 / 2 ^ 12) w
filled SlotLow a x w = word_with_immediate Imm12 (x % 2 ^ 12 / 2 ^ 3) w
filled Distance a x w = word_with_immediate Imm21 (distance a x % 2 ^ 21) w

-- a word to be written: its bits, whether the register's number is added to them, and the value of its field
pub record Piece : Type 0 where
  pub word : ℕ
  pub named : Bool
  pub part : Part

abbrev pub piece : ℕ → Bool → Part → Piece
piece word named part = record { word = word; named = named; part = part }

abbrev pub word_of : Piece → ℕ → ℕ
word_of p r = if p.named then p.word + r else p.word

-- the words at an address
abbrev pub written : List Piece → ℕ → ℕ → ℕ → List ℕ
written [] r a x = []
written (p ∷ ps) r a x = filled p.part a x (word_of p r) ∷ written ps r (a + 4) x

-- ---- the meaning of the fields

-- what the fields are computed from: an offset from the thread pointer, the GOT entry of one, or an address, used k bytes after the code's start
pub data Target : Type 0 where
  ThreadOffset : Target
  OffsetSlot : Target
  Address : ℕ → Target

-- the distance from p to s is at least -half and less than half
pub record Within (half p s : ℕ) : Type 0 where
  pub above : p ≤ s + half
  pub below : s < p + half

-- the same for addresses, which are modulo 2^64
pub record IsNear (half p s : ℕ) : Type 0 where
  pub origin : p ≤ 2 ^ 64
  pub near : (distance p s < half) ⊎ (2 ^ 64 ≤ distance p s + half)

-- v is the loaded address of the linked address x, with the image at load base base
abbrev pub IsPlaced : ℕ → ℕ → ℕ → Type 0
IsPlaced base x v = v ≡ (base + x) % 2 ^ 64

-- the reader gives v for the GOT entry at x; the load base is a multiple of the page size
pub record IsRead (reader : Reader) (base x v : ℕ) : Type 0 where
  pub aligned : x % 8 ≡ 0
  pub pages : base % 4096 ≡ 0
  pub slot : reader (Word ((base + x) % 2 ^ 64)) ≡ Some v

-- v is the meaning of the target; the fields of code at a are computed from x
abbrev pub IsValueOf : Target → Reader → ℕ → ℕ → ℕ → ℕ → Type 0
IsValueOf ThreadOffset reader base a x v = (x < 2 ^ 32) × (v ≡ x)
IsValueOf OffsetSlot reader base a x v = IsRead reader base x v × IsNear (2 ^ 32) (page (a + 8)) (page x)
IsValueOf (Address k) reader base a x v = IsPlaced base x v × IsNear (2 ^ 20) (a + k) x

-- ---- the table

-- a row: the instructions that are replaced, without immediates, for a register from first to 30; the words that are written; their target
pub record Row : Type 0 where
  pub old : ℕ → List Code
  pub first : ℕ
  pub new : List Piece
  pub target : Target

abbrev pub row : (ℕ → List Code) → ℕ → List Piece → Target → Row
row old first new target = record { old = old; first = first; new = new; target = target }

abbrev pub nop : Piece
nop = piece 0xd503201f false Kept

-- a rewrite of a descriptor's call to `movz x0`, `movk x0` of its offset
abbrev pub call_to_offset : Row
call_to_offset = row (codes_of templates.DescriptorCall) 1 (nop ∷ nop ∷ piece 0xd2a00000 false HighOffset ∷ piece 0xf2800000 false LowOffset ∷ []) ThreadOffset

-- a rewrite of a descriptor's call to `adrp x0`, `ldr x0, [x0]` of the GOT entry of its offset
abbrev pub call_to_slot : Row
call_to_slot = row (codes_of templates.DescriptorCall) 1 (nop ∷ nop ∷ piece 0x90000000 false SlotPage ∷ piece 0xf9400000 false SlotLow ∷ []) OffsetSlot

-- a rewrite of a load of an offset's GOT entry to `movz`, `movk` of the offset
abbrev pub slot_to_offset : Row
slot_to_offset = row (codes_of templates.SlotPair) 0 (piece 0xd2a00000 true HighOffset ∷ piece 0xf2800000 true LowOffset ∷ []) ThreadOffset

-- a rewrite of `adrp`, `add` to `nop`, `adr` of the same address
abbrev pub address_to_near : Row
address_to_near = row (codes_of templates.AddressPair) 0 (nop ∷ piece 0x10000000 true Distance ∷ []) (Address 4)

-- the table
abbrev pub rows : List Row
rows = call_to_offset ∷ call_to_slot ∷ slot_to_offset ∷ address_to_near ∷ []

-- ---- branches, of which only the field is written

-- the forms of branches: a signed distance, counted as 4-byte instructions (JUMP26, CALL26; CONDBR19; TSTBR14)
abbrev pub branches : List Form
branches = branch ∷ call ∷ conditions

-- half of the range of a branch with that field
abbrev pub reach_of : Field → ℕ
reach_of Imm14 = 2 ^ 15
reach_of Imm19 = 2 ^ 20
reach_of Imm26 = 2 ^ 27
reach_of other = 0

-- the distance, as the bits of its field
abbrev pub branch_bits : Field → ℕ → ℕ
branch_bits field j = j % (2 * reach_of field) / 2 ^ 2

-- a branch at a to x, linked addresses in an image at load base base; v is the loaded address of x
pub record IsReached (field : Field) (base a x v : ℕ) : Type 0 where
  pub placed : IsPlaced base x v
  pub near : IsNear (reach_of field) a x
  pub start : a % 4 ≡ 0
  pub goal : x % 4 ≡ 0
