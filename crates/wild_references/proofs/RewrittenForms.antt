-- The instruction that the reader knows for each row: where the pattern of the row stands, the instruction does.
use Rattle.wild_references.proofs.Common.{◌≡◌, ℕ, Bool, true, false, List, [], ◌∷◌, length, refl, sym, arith, subst, ◌&&◌, ◌||◌, ◌==◌, nat_le, Contains, Option, Some, None, is_some, if◌then◌else◌, list_all, eqb-true, and_parts, nat_tests, Cell, Row, Pattern, rows_x86_64, pattern_of, keeps_bytes, IsChanging, or_other, listed_passes, Number, Word, Set, Subtract, Compare, Call, Jump, Template, no_prefix, rex, rex2, with_slot, branch, general_call, general_slot_call, far_pair_call, local_call, local_slot_call, descriptor_call, Instruction, TargetInSlot, AddressInSlot, OffsetInSlot, SymbolPair, OwnPair, Described, DescribedCall, of_field, by_call, by_slot, by_distance, instructions_of, Sort}
use Rattle.wild_records.specs.Abi.Relocation as abi
use Rattle.wild_types.specs.declared.kind.Machine.TheVariants as machine
use Rattle.wild_relax.specs.declared.pattern.Prefix.TheVariants.{Rex, Rex2}
use Rattle.wild_relax.specs.declared.pattern.Operation.{Operation}
use Rattle.wild_relax.specs.declared.pattern.Operation.TheVariants as operation
use Rattle.wild_relax.specs.declared.pattern.GeneralForm.TheVariants as general
use Rattle.wild_relax.specs.declared.pattern.LocalForm.TheVariants as local
use Rattle.wild_relax.specs.declared.pattern.Cell.TheVariants as cells
use Rattle.wild_relax.specs.Pattern as writer
use Rattle.wild_relax.specs.declared.pattern.Pattern.TheVariants as pattern
use Rattle.wild_loader.specs.Instruction as judge
use Rattle.wild_loader.specs.declared.instruction.Cell as judge-cell
use Rattle.wild_loader.specs.declared.instruction.Cell.TheVariants as judge-cells
use Rattle.wild_loader.specs.declared.instruction.Deed.TheVariants.{Add}
use Rattle.wild_loader.specs.CodeX86_64.{Prefix}
use Rattle.wild_loader.specs.InstructionX86_64.{templates_x86_64}
use Rattle.wild_meaning.specs.Sequence.{any_words, of_sequence, of_output, of_symbol}

-- ---- cells

-- what fits the writer's cell fits the reader's
abbrev pub covers : Cell → judge-cell.Cell → Bool
covers (cells.Is n) (judge-cells.Is k) = n == k
covers cells.RexWide (judge-cells.From low high) = nat_le low 0x48 && nat_le 0x4c high
covers cells.Rex2Wide (judge-cells.From low high) = nat_le low 0x08 && nat_le 0x4c high
covers cells.Slot judge-cells.Slot = true
covers cells.Any judge-cells.Any = true
covers c d = false

fits_is : (n k b : ℕ) → (n == k) ≡ true → (b == n) ≡ true → (b == k) ≡ true
fits_is n k b h e = subst (λ (x : ℕ). (b == x) ≡ true) (eqb-true n k h) e

fits_wide : (low high b : ℕ) → (nat_le low 0x48 && nat_le 0x4c high) ≡ true → (b == 0x48 || b == 0x4c) ≡ true → (nat_le low b && nat_le b high) ≡ true
fits_wide low high b h e = grind (arith, nat_tests)

fits_wide2 : (low high b : ℕ) → (nat_le low 0x08 && nat_le 0x4c high) ≡ true → (b == 0x08 || b == 0x0c || b == 0x48 || b == 0x4c) ≡ true → (nat_le low b && nat_le b high) ≡ true
fits_wide2 low high b h e = grind (arith, nat_tests)

covered : (c : Cell) (d : judge-cell.Cell) (b : ℕ) → covers c d ≡ true → writer.fits c b ≡ true → judge.fits d b ≡ true
covered (cells.Is n) (judge-cells.Is k) b h e = fits_is n k b h e
covered (cells.Is n) (judge-cells.From low high) b h e = cc
covered (cells.Is n) judge-cells.Slot b h e = cc
covered (cells.Is n) (judge-cells.Digit d) b h e = cc
covered (cells.Is n) judge-cells.Any b h e = cc
covered cells.RexWide (judge-cells.From low high) b h e = fits_wide low high b h e
covered cells.RexWide (judge-cells.Is k) b h e = cc
covered cells.RexWide judge-cells.Slot b h e = cc
covered cells.RexWide (judge-cells.Digit d) b h e = cc
covered cells.RexWide judge-cells.Any b h e = cc
covered cells.Rex2Wide (judge-cells.From low high) b h e = fits_wide2 low high b h e
covered cells.Rex2Wide (judge-cells.Is k) b h e = cc
covered cells.Rex2Wide judge-cells.Slot b h e = cc
covered cells.Rex2Wide (judge-cells.Digit d) b h e = cc
covered cells.Rex2Wide judge-cells.Any b h e = cc
covered cells.Slot judge-cells.Slot b h e = e
covered cells.Slot (judge-cells.Is k) b h e = cc
covered cells.Slot (judge-cells.From low high) b h e = cc
covered cells.Slot (judge-cells.Digit d) b h e = cc
covered cells.Slot judge-cells.Any b h e = cc
covered cells.Any judge-cells.Any b h e = refl
covered cells.Any (judge-cells.Is k) b h e = cc
covered cells.Any (judge-cells.From low high) b h e = cc
covered cells.Any judge-cells.Slot b h e = cc
covered cells.Any (judge-cells.Digit d) b h e = cc

abbrev pub covers_all : List Cell → List judge-cell.Cell → Bool
covers_all [] [] = true
covers_all (c ∷ cs) (d ∷ ds) = covers c d && covers_all cs ds
covers_all cs ds = false

pub all_long : (cs : List Cell) (ds : List judge-cell.Cell) → covers_all cs ds ≡ true → length ds ≡ length cs
all_long [] [] h = refl
all_long [] (d ∷ ds) h = cc
all_long (c ∷ cs) [] h = cc
all_long (c ∷ cs) (d ∷ ds) h = (let e = all_long cs ds (and_parts (covers c d) (covers_all cs ds) h).1 in omega (arith, e))

pub all_stand : (cs : List Cell) (ds : List judge-cell.Cell) (bs : List ℕ) → covers_all cs ds ≡ true → writer.matches_cells cs bs ≡ true → judge.matches_cells ds bs ≡ true
all_stand [] [] bs h e = refl
all_stand [] (d ∷ ds) bs h e = cc
all_stand (c ∷ cs) [] bs h e = cc
all_stand (c ∷ cs) (d ∷ ds) [] h e = cc
all_stand (c ∷ cs) (d ∷ ds) (b ∷ bs) h e =
    let x = and_parts (covers c d) (covers_all cs ds) h in
    let y = and_parts (writer.fits c b) (writer.matches_cells cs bs) e in
    rw (covered c d b x.0 y.0, all_stand cs ds bs x.1 y.1) refl

-- ---- rows

abbrev form_of : Operation → Prefix → Template
form_of operation.Mov = with_slot 0x8b Word Set
form_of operation.Sub = with_slot 0x2b Word Subtract
form_of operation.Cmp = with_slot 0x3b Word Compare
form_of operation.Add = with_slot 0x03 Word Add

abbrev pub the_call : Instruction
the_call = record { template = descriptor_call; words = any_words; field = 0; width = 0; sort = DescribedCall; numbers = abi.r_x86_64_tlsdesc_call ∷ []; partners = []; conditions = [] }

-- what reads a slot is about an address, or by its relocation type about an offset from the thread pointer
abbrev slot_sort : ℕ → Sort
slot_sort n = if n == abi.r_x86_64_gottpoff || n == abi.r_x86_64_code_4_gottpoff then OffsetInSlot else AddressInSlot

-- the instruction of a pattern, at a relocation type
abbrev pub instruction_by : Pattern → ℕ → Instruction
instruction_by (pattern.Wide Rex o) n = of_field (form_of o rex) 3 (slot_sort n) (n ∷ [])
instruction_by (pattern.Wide Rex2 o) n = of_field (form_of o rex2) 4 (slot_sort n) (n ∷ [])
instruction_by pattern.Mov n = of_field (with_slot 0x8b Word Set no_prefix) 2 AddressInSlot (n ∷ [])
instruction_by pattern.Call n = of_field (branch (0xff ∷ 0x15 ∷ []) Word Call) 2 TargetInSlot (abi.r_x86_64_gotpcrel ∷ abi.r_x86_64_gotpcrelx ∷ [])
instruction_by pattern.Jump n = of_field (branch (0xff ∷ 0x25 ∷ []) Word Jump) 2 TargetInSlot (abi.r_x86_64_gotpcrel ∷ abi.r_x86_64_gotpcrelx ∷ [])
instruction_by (pattern.General general.Regular) n = of_sequence general_call 4 SymbolPair abi.r_x86_64_tlsgd of_symbol (by_call 12)
instruction_by (pattern.General general.NoPlt) n = of_sequence general_slot_call 4 SymbolPair abi.r_x86_64_tlsgd of_symbol (by_slot 12)
instruction_by (pattern.General general.Large) n = of_sequence far_pair_call 3 SymbolPair abi.r_x86_64_tlsgd of_symbol (by_distance 9)
instruction_by (pattern.Local local.Regular) n = of_sequence local_call 3 OwnPair abi.r_x86_64_tlsld of_output (by_call 8)
instruction_by (pattern.Local local.NoPlt) n = of_sequence local_slot_call 3 OwnPair abi.r_x86_64_tlsld of_output (by_slot 9)
instruction_by (pattern.Local local.Large) n = of_sequence far_pair_call 3 OwnPair abi.r_x86_64_tlsld of_output (by_distance 9)
instruction_by (pattern.Lea Rex) n = of_field (with_slot 0x8d Number Set rex) 3 Described (n ∷ [])
instruction_by (pattern.Lea Rex2) n = of_field (with_slot 0x8d Number Set rex2) 4 Described (n ∷ [])
instruction_by other n = the_call

-- that of a row; one that keeps the bytes around its field has none
abbrev pub instruction_of : Row → Instruction
instruction_of row = instruction_by (pattern_of row) row.number

-- what is known of it: the reader has it, where the pattern stands
pub record InstructionFits (p : Pattern) (n : ℕ) : Type 0 where
  pub known : Contains (instructions_of machine.X86_64) (instruction_by p n)
  pub template : Contains templates_x86_64 (instruction_by p n).template
  pub number : Contains (instruction_by p n).numbers n
  pub field : (instruction_by p n).field ≡ writer.field_of p
  pub covers : covers_all (writer.pattern_cells p) (instruction_by p n).template.cells ≡ true

abbrev pub RowFits : Row → Type 0
RowFits row = InstructionFits (pattern_of row) row.number

-- what a test that passes gives, else another
abbrev pub items_if : {X : Type 0} → (b : Bool) → (b ≡ true → X) → Option X → Option X
items_if true f other = Some (f refl)
items_if false f other = other

abbrev at : (p : Pattern) (k : ℕ) → InstructionFits p k → (n : ℕ) → Option (InstructionFits p n) → Option (InstructionFits p n)
at p k fits n other = items_if (n == k) (λ t. subst (InstructionFits p) (sym (eqb-true n k t)) fits) other

abbrev fits_by : (p : Pattern) (n : ℕ) → Option (InstructionFits p n)
fits_by (pattern.Wide Rex operation.Mov) n = at (pattern.Wide Rex operation.Mov) abi.r_x86_64_rex_gotpcrelx (record { known = (8, omega arith, refl); template = (21, omega arith, refl); number = (0, omega arith, refl); field = refl; covers = refl }) n (at (pattern.Wide Rex operation.Mov) abi.r_x86_64_gottpoff (record { known = (16, omega arith, refl); template = (21, omega arith, refl); number = (0, omega arith, refl); field = refl; covers = refl }) n (at (pattern.Wide Rex operation.Mov) abi.r_x86_64_gotpcrel (record { known = (20, omega arith, refl); template = (21, omega arith, refl); number = (0, omega arith, refl); field = refl; covers = refl }) n None))
fits_by (pattern.Wide Rex operation.Add) n = at (pattern.Wide Rex operation.Add) abi.r_x86_64_gottpoff (record { known = (17, omega arith, refl); template = (22, omega arith, refl); number = (0, omega arith, refl); field = refl; covers = refl }) n None
fits_by (pattern.Wide Rex operation.Sub) n = at (pattern.Wide Rex operation.Sub) abi.r_x86_64_rex_gotpcrelx (record { known = (10, omega arith, refl); template = (23, omega arith, refl); number = (0, omega arith, refl); field = refl; covers = refl }) n None
fits_by (pattern.Wide Rex operation.Cmp) n = at (pattern.Wide Rex operation.Cmp) abi.r_x86_64_rex_gotpcrelx (record { known = (11, omega arith, refl); template = (24, omega arith, refl); number = (0, omega arith, refl); field = refl; covers = refl }) n None
fits_by (pattern.Wide Rex2 operation.Mov) n = at (pattern.Wide Rex2 operation.Mov) abi.r_x86_64_code_4_gotpcrelx (record { known = (12, omega arith, refl); template = (12, omega arith, refl); number = (0, omega arith, refl); field = refl; covers = refl }) n (at (pattern.Wide Rex2 operation.Mov) abi.r_x86_64_code_4_gottpoff (record { known = (18, omega arith, refl); template = (12, omega arith, refl); number = (0, omega arith, refl); field = refl; covers = refl }) n None)
fits_by (pattern.Wide Rex2 operation.Add) n = at (pattern.Wide Rex2 operation.Add) abi.r_x86_64_code_4_gottpoff (record { known = (19, omega arith, refl); template = (13, omega arith, refl); number = (0, omega arith, refl); field = refl; covers = refl }) n None
fits_by (pattern.Wide Rex2 operation.Sub) n = at (pattern.Wide Rex2 operation.Sub) abi.r_x86_64_code_4_gotpcrelx (record { known = (14, omega arith, refl); template = (14, omega arith, refl); number = (0, omega arith, refl); field = refl; covers = refl }) n None
fits_by (pattern.Wide Rex2 operation.Cmp) n = at (pattern.Wide Rex2 operation.Cmp) abi.r_x86_64_code_4_gotpcrelx (record { known = (15, omega arith, refl); template = (15, omega arith, refl); number = (0, omega arith, refl); field = refl; covers = refl }) n None
fits_by pattern.Mov n = at pattern.Mov abi.r_x86_64_gotpcrelx (record { known = (4, omega arith, refl); template = (30, omega arith, refl); number = (0, omega arith, refl); field = refl; covers = refl }) n None
fits_by pattern.Call n = at pattern.Call abi.r_x86_64_gotpcrelx (record { known = (2, omega arith, refl); template = (40, omega arith, refl); number = (1, omega arith, refl); field = refl; covers = refl }) n None
fits_by pattern.Jump n = at pattern.Jump abi.r_x86_64_gotpcrelx (record { known = (3, omega arith, refl); template = (41, omega arith, refl); number = (1, omega arith, refl); field = refl; covers = refl }) n None
fits_by (pattern.General general.Regular) n = at (pattern.General general.Regular) abi.r_x86_64_tlsgd (record { known = (25, omega arith, refl); template = (3, omega arith, refl); number = (0, omega arith, refl); field = refl; covers = refl }) n None
fits_by (pattern.General general.NoPlt) n = at (pattern.General general.NoPlt) abi.r_x86_64_tlsgd (record { known = (26, omega arith, refl); template = (4, omega arith, refl); number = (0, omega arith, refl); field = refl; covers = refl }) n None
fits_by (pattern.General general.Large) n = at (pattern.General general.Large) abi.r_x86_64_tlsgd (record { known = (27, omega arith, refl); template = (0, omega arith, refl); number = (0, omega arith, refl); field = refl; covers = refl }) n None
fits_by (pattern.Local local.Regular) n = at (pattern.Local local.Regular) abi.r_x86_64_tlsld (record { known = (28, omega arith, refl); template = (10, omega arith, refl); number = (0, omega arith, refl); field = refl; covers = refl }) n None
fits_by (pattern.Local local.NoPlt) n = at (pattern.Local local.NoPlt) abi.r_x86_64_tlsld (record { known = (29, omega arith, refl); template = (8, omega arith, refl); number = (0, omega arith, refl); field = refl; covers = refl }) n None
fits_by (pattern.Local local.Large) n = at (pattern.Local local.Large) abi.r_x86_64_tlsld (record { known = (30, omega arith, refl); template = (0, omega arith, refl); number = (0, omega arith, refl); field = refl; covers = refl }) n None
fits_by (pattern.Lea Rex) n = at (pattern.Lea Rex) abi.r_x86_64_gotpc32_tlsdesc (record { known = (22, omega arith, refl); template = (25, omega arith, refl); number = (0, omega arith, refl); field = refl; covers = refl }) n None
fits_by (pattern.Lea Rex2) n = at (pattern.Lea Rex2) abi.r_x86_64_code_4_gotpc32_tlsdesc (record { known = (23, omega arith, refl); template = (16, omega arith, refl); number = (0, omega arith, refl); field = refl; covers = refl }) n None
fits_by pattern.DescriptorCall n = at pattern.DescriptorCall abi.r_x86_64_tlsdesc_call (record { known = (24, omega arith, refl); template = (44, omega arith, refl); number = (0, omega arith, refl); field = refl; covers = refl }) n None
fits_by other n = None

abbrev is_known : Row → Bool
is_known row = keeps_bytes row || is_some (fits_by (pattern_of row) row.number)

each_is_known : list_all is_known rows_x86_64 ≡ true
unfolding rows_x86_64
each_is_known = refl

pub some_of : {X : Type 0} (o : Option X) → is_some o ≡ true → X
some_of None h = cc
some_of (Some x) h = x

pub row_fits : (row : Row) → IsChanging row → RowFits row
row_fits row c = some_of (fits_by (pattern_of row) row.number) (or_other (keeps_bytes row) _ (listed_passes is_known rows_x86_64 row each_is_known c.listed) c.changes)
