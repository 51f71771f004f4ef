-- The bytes that rows match in the input: those of x86-64 (Intel SDM; x86-64 psABI, "Linker Optimization"; "ELF Handling For
-- Thread-Local Storage", "Linker Relaxations"), and the position of AArch64's words.
--   pattern_cells p               the values that each byte of a pattern may have
--   field_of p               the offset of the relocation's field in the pattern
--   pattern_matches_before bs o p     the whole pattern is in the bytes, with its field at o
use Rattle.std.specs.Prelude.{ℕ, ◌+◌, ◌-◌, ◌==◌, Bool, true, false, ◌&&◌, ◌||◌, nat_le, List, [], ◌∷◌, ◌++◌, length, slice_range}
use Rattle.std.specs.Int.RustNames.{bit_and}
use Rattle.wild_relax.specs.declared.pattern.Prefix.{Prefix}
use Rattle.wild_relax.specs.declared.pattern.Prefix.TheVariants.{Rex, Rex2}
use Rattle.wild_relax.specs.declared.pattern.Operation.{Operation}
use Rattle.wild_relax.specs.declared.pattern.Operation.TheVariants as operation
use Rattle.wild_relax.specs.declared.pattern.GeneralForm.TheVariants as general
use Rattle.wild_relax.specs.declared.pattern.LocalForm.TheVariants as local
use Rattle.wild_relax.specs.declared.pattern.Pattern.{Pattern}
use Rattle.wild_relax.specs.declared.pattern.Pattern.TheVariants.{Nothing, Wide, Mov, Call, Jump, General, LocalStart, Local, Lea, DescriptorCall, Among}
use Rattle.wild_relax.specs.declared.pattern.Cell.{Cell}
use Rattle.wild_relax.specs.declared.pattern.Cell.TheVariants.{Is, RexWide, Rex2Wide, Slot, Any}

-- a fixed byte; REX with W and perhaps R; the payload of REX2 with W and perhaps R3 and R4; a ModRM byte with mod 0 and r/m 5,
-- `[rip + displacement]`, and any register (Intel SDM, "REX Prefixes", "ModR/M and SIB Bytes"; Intel APX, "REX2")
abbrev pub fits : Cell → ℕ → Bool
fits (Is n) b = b == n
fits RexWide b = b == 0x48 || b == 0x4c
fits Rex2Wide b = b == 0x08 || b == 0x0c || b == 0x48 || b == 0x4c
fits Slot b = bit_and b 0xc7 == 5
fits Any b = true

-- the bytes start with values that the cells allow
abbrev pub matches_cells : List Cell → List ℕ → Bool
matches_cells [] bs = true
matches_cells (c ∷ cs) [] = false
matches_cells (c ∷ cs) (b ∷ bs) = fits c b && matches_cells cs bs

abbrev pub exact : List ℕ → List Cell
exact [] = []
exact (b ∷ bs) = Is b ∷ exact bs

-- the four bytes of a field
abbrev pub field : List Cell
field = Any ∷ Any ∷ Any ∷ Any ∷ []

-- the prefix of a 64-bit instruction whose register any ModRM byte may encode
abbrev pub prefix_cells : Prefix → List Cell
prefix_cells Rex = RexWide ∷ []
prefix_cells Rex2 = Is 0xd5 ∷ RexWide ∷ []

abbrev pub lea_prefix_cells : Prefix → List Cell
lea_prefix_cells Rex = RexWide ∷ []
lea_prefix_cells Rex2 = Is 0xd5 ∷ Rex2Wide ∷ []

-- operations on a register and memory (Intel SDM, "MOV", "SUB", "CMP", "ADD")
abbrev pub opcode : Operation → ℕ
opcode operation.Mov = 0x8b
opcode operation.Sub = 0x2b
opcode operation.Cmp = 0x3b
opcode operation.Add = 0x03

abbrev pub lea_rdi : List Cell
lea_rdi = exact (0x48 ∷ 0x8d ∷ 0x3d ∷ []) ++ field

abbrev pub large_call : List Cell
large_call = exact (0x48 ∷ 0xb8 ∷ []) ++ (field ++ (field ++ exact (0x48 ∷ 0x01 ∷ 0xd8 ∷ 0xff ∷ 0xd0 ∷ [])))

abbrev pub pattern_cells : Pattern → List Cell
pattern_cells Nothing = []
pattern_cells (Wide p o) = prefix_cells p ++ (Is (opcode o) ∷ Slot ∷ field)
pattern_cells Mov = Is 0x8b ∷ Slot ∷ field
pattern_cells Call = exact (0xff ∷ 0x15 ∷ []) ++ field
pattern_cells Jump = exact (0xff ∷ 0x25 ∷ []) ++ field
pattern_cells (General general.Regular) = Is 0x66 ∷ (lea_rdi ++ (exact (0x66 ∷ 0x66 ∷ 0x48 ∷ 0xe8 ∷ []) ++ field))
pattern_cells (General general.NoPlt) = Is 0x66 ∷ (lea_rdi ++ (exact (0x66 ∷ 0x48 ∷ 0xff ∷ 0x15 ∷ []) ++ field))
pattern_cells (General general.Large) = lea_rdi ++ large_call
pattern_cells (LocalStart local.Regular) = lea_rdi ++ exact (0xe8 ∷ [])
pattern_cells (LocalStart local.Large) = lea_rdi ++ exact (0x48 ∷ 0xb8 ∷ [])
pattern_cells (LocalStart local.NoPlt) = lea_rdi ++ exact (0xff ∷ 0x15 ∷ [])
pattern_cells (Local local.Regular) = lea_rdi ++ (exact (0xe8 ∷ []) ++ field)
pattern_cells (Local local.Large) = lea_rdi ++ large_call
pattern_cells (Local local.NoPlt) = lea_rdi ++ (exact (0xff ∷ 0x15 ∷ []) ++ field)
pattern_cells (Lea p) = lea_prefix_cells p ++ (Is 0x8d ∷ Slot ∷ field)
pattern_cells DescriptorCall = exact (0xff ∷ 0x10 ∷ [])
pattern_cells (Among s k) = field

abbrev pub field_of : Pattern → ℕ
field_of Nothing = 0
field_of (Wide Rex o) = 3
field_of (Wide Rex2 o) = 4
field_of Mov = 2
field_of Call = 2
field_of Jump = 2
field_of (General general.Regular) = 4
field_of (General general.NoPlt) = 4
field_of (General general.Large) = 3
field_of (LocalStart f) = 3
field_of (Local f) = 3
field_of (Lea Rex) = 3
field_of (Lea Rex2) = 4
field_of DescriptorCall = 0
field_of (Among s k) = 0

-- the bytes from start on have values that the cells allow
unfoldable pub cells_match_at : List ℕ → ℕ → List Cell → Bool
cells_match_at bytes start cells = nat_le (start + length cells) (length bytes) && matches_cells cells (slice_range bytes start (start + length cells))

unfoldable pub pattern_matches_before : List ℕ → ℕ → Pattern → Bool
pattern_matches_before bytes offset p = nat_le (field_of p) offset && cells_match_at bytes (offset - field_of p) (pattern_cells p)
