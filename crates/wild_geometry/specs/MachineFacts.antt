-- The facts about a machine that the laws need: the layout's definitions agree with the judge's.
--   StoresSize p n z   entries of type n store a size in a field of that size
--   MachineFacts m     the machine number of the header, the types of entries, and the thread pointer
--   RowsAreRead        the row of a relocation type writes what its formula reads
use Rattle.std.specs.Prelude.{◌≡◌, ℕ, ◌%◌, ◌^◌, ◌<◌, ◌⊎◌, ◌==◌, ◌||◌, true, Some}
use Rattle.wild_records.specs.Abi.Header.{em_x86_64, em_aarch64}
use Rattle.wild_records.specs.declared.file_header.FileHeader.{FileHeader}
use Rattle.wild_reloc.specs.Agreement.{Agrees}
use Rattle.wild_reloc.specs.declared.dynamic.DynamicRelocationKind.{DynamicRelocationKind}
use Rattle.wild_reloc.specs.declared.info.RelocationKind.TheVariants as row_kinds
use Rattle.wild_reloc.specs.declared.info.RelocationKindInfo.{RelocationKindInfo}
use Rattle.wild_reloc.specs.declared.info.RelocationSize.{RelocationSize}
use Rattle.wild_reloc.specs.declared.info.RelocationSize.TheVariants.{ByteSize}
use Rattle.wild_reloc.specs.declared.info.Width.TheVariants.{Four, Eight}
use Rattle.wild_types.specs.declared.kind.Machine.{Machine}
use Rattle.wild_types.specs.declared.layout.Tls.{Tls}
use Rattle.wild_types.specs.Rows.{row_of}
use Rattle.wild_slot.specs.SlotParts.{type_of}
use Rattle.wild_slot.specs.Storage.{thread_pointer}
use Rattle.wild_table_formats.specs.Headers.{machine_number}
use Rattle.wild_loader.specs.declared.memory.Machine.{Machine as Processor}
use Rattle.wild_loader.specs.declared.kind.DynamicKind.TheVariants as kinds
use Rattle.wild_loader.specs.Changes.{kind_of}
use Rattle.wild_loader.specs.Headers.{machine_of}
use Rattle.wild_meaning.specs.Field.{formula_of}
use Rattle.wild_meaning.specs.LinkedImage.{processor_of}
use Rattle.wild_meaning.specs.Thread.{control_block_size, rounded_up, thread_pointer_of}
use Rattle.wild_geometry.specs.EntryKinds.{loaded_kind}

-- entries of the type store the size of a symbol in four bytes, or in eight (x86-64 psABI, "Relocation Types")
abbrev pub StoresSize : Processor → ℕ → RelocationSize → Type 0
StoresSize p n z = ((kind_of p n ≡ Some kinds.Size32) × (z ≡ ByteSize Four)) ⊎ ((kind_of p n ≡ Some kinds.Size64) × (z ≡ ByteSize Eight))

-- A loader accepts the machine's e_machine (gABI, "ELF Header"). It knows the entries of each kind by their type, and those for
-- sizes by the type of their row (x86-64 psABI, "Relocation Types"; aaelf64, "Dynamic relocations"). The thread pointer is at the
-- system's place ("ELF Handling For Thread-Local Storage", "Run-Time Handling of TLS").
pub record MachineFacts (m : Machine) : Type 0 where
  pub number : machine_number m < 2 ^ 16
  pub taken : (machine_number m == em_x86_64 || machine_number m == em_aarch64) ≡ true
  pub header : (h : FileHeader) → h.machine ≡ machine_number m → machine_of h ≡ processor_of m
  pub types : (k : DynamicRelocationKind) → type_of m k < 2 ^ 32
  pub entries : (k : DynamicRelocationKind) → kind_of (processor_of m) (type_of m k) ≡ Some (loaded_kind (processor_of m) k)
  pub sizes : (n : ℕ) (row : RelocationKindInfo) → row_of m n ≡ Some row → row.kind ≡ row_kinds.SymbolSize → (n < 2 ^ 32) × StoresSize (processor_of m) n row.size
  pub pointer : (t : Tls) → t.end < 2 ^ 64 → rounded_up control_block_size t.align < 2 ^ 64 → thread_pointer_of m t % 2 ^ 64 ≡ thread_pointer m t

-- the row of each relocation type of a machine agrees with its formula
abbrev pub RowsAreRead : Type 0
RowsAreRead = (m : Machine) (n : ℕ) (row : RelocationKindInfo) → row_of m n ≡ Some row → Agrees row (formula_of m n)
