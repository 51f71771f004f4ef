-- What the tables of an image fill: places of packed words, and those of entries, each with as many bytes as it changes.
use Rattle.wild_loaded.proofs.Common.{◌≡◌, ℕ, ◌+◌, ◌^◌, ◌<◌, ◌≤◌, List, [], ◌∷◌, length, arith, Some, Ok, w64, word, Rela, Change, DynamicKind, Memory, World, kind_of, change_of, size_of, Holds, loaded_at}
use Rattle.std.specs.Int.{cast_signed}
use Rattle.wild_loader.specs.declared.memory.Machine.{Machine as Processor}

-- ---- fillings

-- packed words, and entries: relative ones, others, and those that stubs go through
pub data Table : Type 0 where
  PackedTable : Table
  RelativeTable : Table
  GeneralTable : Table
  JumpTable : Table

-- what a table fills: the bytes from the entry's place on; of a packed place there is no entry but the place
pub record Filling : Type 0 where
  pub table : Table
  pub entry : Rela
  pub width : ℕ

abbrev pub place_entry : ℕ → Rela
place_entry a = record { offset = a; number = 0; symbol = 0; addend = cast_signed w64 0 }

-- a place whose word is packed
abbrev pub packed_at : ℕ → Filling
packed_at a = record { table = PackedTable; entry = place_entry a; width = 8 }

abbrev pub relative_of : Rela → Filling
relative_of e = record { table = RelativeTable; entry = e; width = 8 }

abbrev pub general_of : Rela → ℕ → Filling
general_of e n = record { table = GeneralTable; entry = e; width = n }

-- ---- where they lie

-- no byte of it has the address
abbrev pub Misses : ℕ → Filling → Type 0
Misses a x = (j : ℕ) → j < x.width → x.entry.offset + j ≡ a → ⊥

-- they have no byte in common
abbrev pub DoNotOverlap : Filling → Filling → Type 0
DoNotOverlap x y = (k : ℕ) → k < x.width → Misses (x.entry.offset + k) y

-- ---- what is known of them

-- the entry makes a loader of the processor change n bytes
pub record HasChange (p : Processor) (w : World) (e : Rela) (n : ℕ) : Type 0 where
  pub kind : DynamicKind
  pub known : kind_of p e.number ≡ Some kind
  pub change : Change
  pub made : change_of w kind e ≡ Ok change
  pub size : size_of change ≡ n

-- memory has a word at a place
pub record HasWord (w : World) (m : Memory) (a : ℕ) : Type 0 where
  pub value : ℕ
  pub fits : value < 2 ^ 64
  pub held : Holds m (loaded_at w a) (word 8 value)

-- the change is known
abbrev pub Makes : World → Memory → Table → Rela → ℕ → Type 0
Makes w m PackedTable e n = (n ≡ 8) × HasWord w m e.offset
Makes w m other e n = HasChange m.machine w e n

-- the bytes do not wrap at the base, memory has them, and the change is known
pub record IsKnown (w : World) (m : Memory) (x : Filling) : Type 0 where
  pub low : 1 ≤ x.width → w.base + x.entry.offset + x.width ≤ 2 ^ 64
  pub old : List ℕ
  pub wide : length old ≡ x.width
  pub held : Holds m (loaded_at w x.entry.offset) old
  pub makes : Makes w m x.table x.entry x.width

-- where they do not wrap
pub loaded_is : (w : World) (x : Filling) → 1 ≤ x.width → (1 ≤ x.width → w.base + x.entry.offset + x.width ≤ 2 ^ 64) → loaded_at w x.entry.offset ≡ w.base + x.entry.offset
loaded_is w x some low = let h = low some in omega (arith, some, h)

-- the same of a word at a place
pub place_loaded : (w : World) (a n : ℕ) → 1 ≤ n → w.base + a + n ≤ 2 ^ 64 → loaded_at w a ≡ w.base + a
place_loaded w a n some low = omega (arith, some, low)

-- ---- their tables

abbrev packed_by : Table → Rela → List ℕ
packed_by PackedTable e = e.offset ∷ []
packed_by other e = []

abbrev relative_by : Table → Rela → List Rela
relative_by RelativeTable e = e ∷ []
relative_by other e = []

abbrev general_by : Table → Rela → List Rela
general_by GeneralTable e = e ∷ []
general_by other e = []

abbrev jump_by : Table → Rela → List Rela
jump_by JumpTable e = e ∷ []
jump_by other e = []

-- the place, where it is packed
abbrev pub packed_in : Filling → List ℕ
packed_in x = packed_by x.table x.entry

-- the entry, where it is one of that table
abbrev pub relative_in : Filling → List Rela
relative_in x = relative_by x.table x.entry

abbrev pub general_in : Filling → List Rela
general_in x = general_by x.table x.entry

abbrev pub jump_in : Filling → List Rela
jump_in x = jump_by x.table x.entry
