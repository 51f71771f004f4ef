-- The forms of AArch64's instructions, each with its fixed bits (Arm Architecture Reference Manual, C4.1, and the instruction's page in
-- C6.2 or C7.2). Bits 26 to 28 select the class.
--   d w, n w, hw w   the registers of a word, and the shift of a wide move
--   adrp, adr, ..    the forms, by their mnemonics
--   forms            the table
use Rattle.std.specs.Prelude.{ℕ, ◌*◌, ◌==◌, if◌then◌else◌, List, [], ◌∷◌, ◌++◌}
use Rattle.wild_aarch64.specs.declared.code.Code.TheVariants.{Adr, Adrp, Movz, Movk, Movn, Add, Ldr, Access, Literal, B, Bl, BranchIf, Br, Blr, Hint}
use Rattle.wild_aarch64.specs.declared.code.Shift.{Shift}
use Rattle.wild_aarch64.specs.declared.code.Shift.TheVariants.{By0, By16, By32, By48}
use Rattle.wild_aarch64.specs.Immediate.{Imm12, Imm14, Imm16, Imm19, Imm21, Imm26, Nowhere, bits_outside}
use Rattle.wild_aarch64.specs.Slice.{bits, signed, is, Form, form}

-- ---- registers and shifts of a word

-- the register that is set
abbrev pub d : ℕ → ℕ
d w = bits 0 5 w

-- the register that is read
abbrev pub n : ℕ → ℕ
n w = bits 5 5 w

-- the shift of a wide move (C6.2, "MOVZ", `hw`)
abbrev pub shift_of : ℕ → Shift
shift_of i = if i == 0 then By0 else (if i == 1 then By16 else (if i == 2 then By32 else By48))

abbrev pub hw : ℕ → Shift
hw w = shift_of (bits 21 2 w)

-- ---- "Data Processing -- Immediate": `adrp`, `adr`, `add`, `add` with its immediate shifted by 12, `movz`, `movk`, `movn`; each of 64 bits

abbrev pub adrp : Form
adrp = form (is 26 3 4 ∷ is 24 5 16 ∷ is 31 1 1 ∷ []) Imm21 (λ w i. Adrp (d w) (signed 33 (i * 4096)))

abbrev pub adr : Form
adr = form (is 26 3 4 ∷ is 24 5 16 ∷ is 31 1 0 ∷ []) Imm21 (λ w i. Adr (d w) (signed 21 i))

abbrev pub add : Form
add = form (is 26 3 4 ∷ is 24 5 17 ∷ is 22 10 0x244 ∷ []) Imm12 (λ w i. Add (d w) (n w) i)

abbrev pub add_shifted : Form
add_shifted = form (is 26 3 4 ∷ is 24 5 17 ∷ is 22 10 0x245 ∷ []) Imm12 (λ w i. Add (d w) (n w) (i * 4096))

abbrev pub movz : Form
movz = form (is 26 3 4 ∷ is 24 5 18 ∷ is 23 9 0x1a5 ∷ []) Imm16 (λ w i. Movz (d w) (hw w) i)

abbrev pub movk : Form
movk = form (is 26 3 4 ∷ is 24 5 18 ∷ is 23 9 0x1e5 ∷ []) Imm16 (λ w i. Movk (d w) (hw w) i)

abbrev pub movn : Form
movn = form (is 26 3 4 ∷ is 24 5 18 ∷ is 23 9 0x125 ∷ []) Imm16 (λ w i. Movn (d w) (hw w) i)

abbrev pub addresses : List Form
addresses = adrp ∷ adr ∷ add ∷ add_shifted ∷ movz ∷ movk ∷ movn ∷ []

-- ---- "Load/store register (unsigned immediate)", general registers: `ldr` of 64 bits; 8, 16 and 32 bits, `ldrsw`, `str` of 64 bits, `prfm`

abbrev pub ldr : Form
ldr = form (is 26 3 6 ∷ is 24 2 1 ∷ is 29 3 7 ∷ is 22 2 1 ∷ []) Imm12 (λ w i. Ldr (d w) (n w) (i * 8))

abbrev pub byte_access : Form
byte_access = form (is 26 3 6 ∷ is 24 2 1 ∷ is 29 3 1 ∷ []) Imm12 (λ w i. Access (bits_outside Imm12 w) i)

abbrev pub half_access : Form
half_access = form (is 26 3 6 ∷ is 24 2 1 ∷ is 29 3 3 ∷ []) Imm12 (λ w i. Access (bits_outside Imm12 w) (i * 2))

abbrev pub word_access : Form
word_access = form (is 26 3 6 ∷ is 24 2 1 ∷ is 29 3 5 ∷ is 23 1 0 ∷ []) Imm12 (λ w i. Access (bits_outside Imm12 w) (i * 4))

abbrev pub ldrsw : Form
ldrsw = form (is 26 3 6 ∷ is 24 2 1 ∷ is 29 3 5 ∷ is 22 2 2 ∷ []) Imm12 (λ w i. Access (bits_outside Imm12 w) (i * 4))

abbrev pub str : Form
str = form (is 26 3 6 ∷ is 24 2 1 ∷ is 29 3 7 ∷ is 22 2 0 ∷ []) Imm12 (λ w i. Access (bits_outside Imm12 w) (i * 8))

abbrev pub prfm : Form
prfm = form (is 26 3 6 ∷ is 24 2 1 ∷ is 29 3 7 ∷ is 22 2 2 ∷ []) Imm12 (λ w i. Access (bits_outside Imm12 w) (i * 8))

abbrev pub accesses : List Form
accesses = ldr ∷ byte_access ∷ half_access ∷ word_access ∷ ldrsw ∷ str ∷ prfm ∷ []

-- ---- "Load/store register (unsigned immediate)", vector registers: 8, 128, 16, 32 and 64 bits

abbrev pub vector_8 : Form
vector_8 = form (is 26 3 7 ∷ is 24 2 1 ∷ is 29 3 1 ∷ is 23 1 0 ∷ []) Imm12 (λ w i. Access (bits_outside Imm12 w) i)

abbrev pub vector_128 : Form
vector_128 = form (is 26 3 7 ∷ is 24 2 1 ∷ is 29 3 1 ∷ is 23 1 1 ∷ []) Imm12 (λ w i. Access (bits_outside Imm12 w) (i * 16))

abbrev pub vector_16 : Form
vector_16 = form (is 26 3 7 ∷ is 24 2 1 ∷ is 29 3 3 ∷ is 23 1 0 ∷ []) Imm12 (λ w i. Access (bits_outside Imm12 w) (i * 2))

abbrev pub vector_32 : Form
vector_32 = form (is 26 3 7 ∷ is 24 2 1 ∷ is 29 3 5 ∷ is 23 1 0 ∷ []) Imm12 (λ w i. Access (bits_outside Imm12 w) (i * 4))

abbrev pub vector_64 : Form
vector_64 = form (is 26 3 7 ∷ is 24 2 1 ∷ is 29 3 7 ∷ is 23 1 0 ∷ []) Imm12 (λ w i. Access (bits_outside Imm12 w) (i * 8))

abbrev pub vector_accesses : List Form
vector_accesses = vector_8 ∷ vector_128 ∷ vector_16 ∷ vector_32 ∷ vector_64 ∷ []

-- ---- "Load register (literal)": general registers, vector registers of 32 and 64 bits, and of 128 bits

abbrev pub literal : Form
literal = form (is 26 3 6 ∷ is 24 2 0 ∷ is 29 1 0 ∷ []) Imm19 (λ w i. Literal (bits_outside Imm19 w) (signed 21 (i * 4)))

abbrev pub vector_literal : Form
vector_literal = form (is 26 3 7 ∷ is 24 2 0 ∷ is 29 1 0 ∷ is 31 1 0 ∷ []) Imm19 (λ w i. Literal (bits_outside Imm19 w) (signed 21 (i * 4)))

abbrev pub wide_literal : Form
wide_literal = form (is 26 3 7 ∷ is 24 2 0 ∷ is 29 3 4 ∷ []) Imm19 (λ w i. Literal (bits_outside Imm19 w) (signed 21 (i * 4)))

abbrev pub literals : List Form
literals = literal ∷ vector_literal ∷ wide_literal ∷ []

-- ---- "Branches, Exception Generating and System instructions": `br`, `blr`, `nop`, `bti c`, `b`, `bl`

abbrev pub br : Form
br = form (is 26 3 5 ∷ is 26 6 53 ∷ is 10 22 0x3587c0 ∷ is 0 5 0 ∷ []) Nowhere (λ w i. Br (n w))

abbrev pub blr : Form
blr = form (is 26 3 5 ∷ is 26 6 53 ∷ is 10 22 0x358fc0 ∷ is 0 5 0 ∷ []) Nowhere (λ w i. Blr (n w))

abbrev pub nop : Form
nop = form (is 26 3 5 ∷ is 26 6 53 ∷ is 0 32 0xd503201f ∷ []) Nowhere (λ w i. Hint)

abbrev pub bti : Form
bti = form (is 26 3 5 ∷ is 26 6 53 ∷ is 0 32 0xd503245f ∷ []) Nowhere (λ w i. Hint)

abbrev pub branch : Form
branch = form (is 26 3 5 ∷ is 26 6 5 ∷ []) Imm26 (λ w i. B (signed 28 (i * 4)))

abbrev pub call : Form
call = form (is 26 3 5 ∷ is 26 6 37 ∷ []) Imm26 (λ w i. Bl (signed 28 (i * 4)))

abbrev pub transfers : List Form
transfers = br ∷ blr ∷ nop ∷ bti ∷ branch ∷ call ∷ []

-- ---- "Branches, Exception Generating and System instructions": `b.cond`, `cbz` and `cbnz` of 32 and 64 bits, `tbz` and `tbnz` of a low and a high bit

abbrev pub b_cond : Form
b_cond = form (is 26 3 5 ∷ is 26 6 21 ∷ is 24 2 0 ∷ is 4 1 0 ∷ []) Imm19 (λ w i. BranchIf (bits_outside Imm19 w) (signed 21 (i * 4)))

abbrev pub cbz_32 : Form
cbz_32 = form (is 26 3 5 ∷ is 26 6 13 ∷ is 25 1 0 ∷ []) Imm19 (λ w i. BranchIf (bits_outside Imm19 w) (signed 21 (i * 4)))

abbrev pub cbz_64 : Form
cbz_64 = form (is 26 3 5 ∷ is 26 6 45 ∷ is 25 1 0 ∷ []) Imm19 (λ w i. BranchIf (bits_outside Imm19 w) (signed 21 (i * 4)))

abbrev pub tbz_low : Form
tbz_low = form (is 26 3 5 ∷ is 26 6 13 ∷ is 25 1 1 ∷ []) Imm14 (λ w i. BranchIf (bits_outside Imm14 w) (signed 16 (i * 4)))

abbrev pub tbz_high : Form
tbz_high = form (is 26 3 5 ∷ is 26 6 45 ∷ is 25 1 1 ∷ []) Imm14 (λ w i. BranchIf (bits_outside Imm14 w) (signed 16 (i * 4)))

abbrev pub conditions : List Form
conditions = b_cond ∷ cbz_32 ∷ cbz_64 ∷ tbz_low ∷ tbz_high ∷ []

-- the table
abbrev pub forms : List Form
forms = addresses ++ (accesses ++ (vector_accesses ++ (literals ++ (transfers ++ conditions))))
