-- The information in an image's dynamic section for a dynamic linker.
--   IsFlagged ds tag flag           the flag is set in the value of a tag
--   HasCompanionTag ds tag other n         if there is a tag, another tag has that value
--   AreRelativeFirst machine n rs   the first n entries add the base
--   HasWholeSize ds tag n           a table's size is a multiple of n
--   LeadsToTables l ds              tables are where the entries say
--   LeadsToFunctions l ds           so are the functions that a dynamic linker calls
--   DescribesTables ..                 the entries give a dynamic linker the information that it needs
--   InformsLinker l machine image     there is a dynamic section with such entries
use Rattle.std.specs.Prelude.{◌≡◌, ◌≢◌, ℕ, ◌/◌, ◌%◌, ◌<◌, ◌≤◌, ◌==◌, not, ◌&&◌, codes, find, bytes_eq, length, List, Option, Some, Ok, option_map, Contains, slice_get}
use Rattle.wild_records.specs.Abi.Dynamic.{dt_needed, dt_auxiliary, dt_pltrel, dt_jmprel, dt_pltrelsz, dt_hash, dt_gnu_hash, dt_strtab, dt_strsz, dt_symtab, dt_rela, dt_relasz, dt_relaent, dt_syment, dt_init, dt_fini, dt_preinit_array, dt_preinit_arraysz, dt_init_array, dt_init_arraysz, dt_fini_array, dt_fini_arraysz, dt_flags, dt_relr, dt_relrsz, dt_relrent, dt_relacount, dt_flags_1, dt_versym, dt_verdef, dt_verneed, df_bind_now, df_1_now}
use Rattle.wild_records.specs.Abi.Section.{sht_nobits}
use Rattle.wild_records.specs.Dynamic.{dynamic_entry_size}
use Rattle.wild_records.specs.Relocations.{rela_size, relr_size}
use Rattle.wild_records.specs.SymtabEntry.{symtab_entry_size}
use Rattle.wild_records.specs.declared.dynamic.DynamicEntry.{DynamicEntry}
use Rattle.wild_records.specs.declared.program_header.ProgramHeader.{ProgramHeader}
use Rattle.wild_records.specs.declared.relocations.Rela.{Rela}
use Rattle.wild_types.specs.declared.part.Part.{Part}
use Rattle.wild_types.specs.declared.part.Role.{Role}
use Rattle.wild_types.specs.declared.part.Role.TheVariants as role
use Rattle.wild_types.specs.declared.section.Section.{Section}
use Rattle.wild_types.specs.declared.layout.Layout.{Layout}
use Rattle.wild_types.specs.Parts.{part_with}
use Rattle.wild_loader.specs.declared.kind.DynamicKind.TheVariants as kinds
use Rattle.wild_loader.specs.declared.memory.Machine.{Machine}
use Rattle.wild_loader.specs.declared.tables.Tables.{Tables}
use Rattle.wild_loader.specs.Changes.{kind_of}
use Rattle.wild_loader.specs.Tables.{first_dynamic, value_of_tag, section_of, named_tables}
use Rattle.wild_meaning.specs.Section.{IsSet}
use Rattle.wild_meaning.specs.Segments.{headers_in}

-- the flag is set in the value of a tag
pub record IsFlagged (ds : List DynamicEntry) (tag flag : ℕ) : Type 0 where
  pub value : ℕ
  pub there : value_of_tag tag ds ≡ Some value
  pub set : IsSet value flag

-- if there is a tag, another tag has that value
abbrev pub HasCompanionTag : List DynamicEntry → ℕ → ℕ → ℕ → Type 0
HasCompanionTag ds tag other n = (a : ℕ) → value_of_tag tag ds ≡ Some a → value_of_tag other ds ≡ Some n

-- there is an entry k, and it adds the base
pub record IsRelativeAt (machine : Machine) (rs : List Rela) (k : ℕ) : Type 0 where
  pub entry : Rela
  pub there : slice_get rs k ≡ Some entry
  pub kind : kind_of machine entry.number ≡ Some kinds.Relative

-- the first n entries add the base (LSB, "Dynamic Entries", DT_RELACOUNT)
abbrev pub AreRelativeFirst : Machine → ℕ → List Rela → Type 0
AreRelativeFirst machine n rs = (k : ℕ) → k < n → IsRelativeAt machine rs k

-- the size of a table is that of whole entries
abbrev pub HasWholeSize : List DynamicEntry → ℕ → ℕ → Type 0
HasWholeSize ds tag size = (n : ℕ) → value_of_tag tag ds ≡ Some n → n % size ≡ 0

-- an entry of each tag has the value that a reader finds first, so that one who takes the last finds the same. Only libraries and
-- filters may be several (gABI, "Dynamic Section": DT_NEEDED; DT_AUXILIARY).
abbrev pub HasOneValue : List DynamicEntry → Type 0
HasOneValue ds = (d : DynamicEntry) → Contains ds d → d.tag ≢ dt_needed → d.tag ≢ dt_auxiliary → value_of_tag d.tag ds ≡ Some d.value

-- ---- tables

-- a tag has the address of the part of a role, if that has bytes; and no other address
pub record LeadsToPart (l : Layout) (ds : List DynamicEntry) (tag : ℕ) (r : Role) : Type 0 where
  pub there : (p : Part) → part_with r l.parts ≡ Some p → 1 ≤ p.size → value_of_tag tag ds ≡ Some p.address
  pub only : (a : ℕ) → value_of_tag tag ds ≡ Some a → (p : Part) × ((part_with r l.parts ≡ Some p) × (p.address ≡ a))

-- the tables are where the entries say (gABI, "Dynamic Section": DT_STRTAB, DT_STRSZ, DT_SYMTAB, DT_HASH, DT_JMPREL, DT_RELR; GNU
-- Binutils: DT_GNU_HASH; LSB, "Symbol Versioning": DT_VERSYM, DT_VERDEF, DT_VERNEED)
pub record LeadsToTables (l : Layout) (ds : List DynamicEntry) : Type 0 where
  pub strings : LeadsToPart l ds dt_strtab role.Dynstr
  pub string_size : (p : Part) → part_with role.Dynstr l.parts ≡ Some p → 1 ≤ p.size → value_of_tag dt_strsz ds ≡ Some p.size
  pub symbols : LeadsToPart l ds dt_symtab role.Dynsym
  pub hash : LeadsToPart l ds dt_hash role.SysvHash
  pub gnu_hash : LeadsToPart l ds dt_gnu_hash role.GnuHash
  pub versions : LeadsToPart l ds dt_versym role.GnuVersion
  pub definitions : LeadsToPart l ds dt_verdef role.GnuVersionD
  pub needs : LeadsToPart l ds dt_verneed role.GnuVersionR
  pub stubs : LeadsToPart l ds dt_jmprel role.RelaPlt
  pub words : LeadsToPart l ds dt_relr role.RelrDyn

-- ---- functions

-- the first section of a name with bytes in the file
abbrev pub filled_section : Layout → List ℕ → Option Section
filled_section l name = find (λ s. bytes_eq s.name name && not (s.kind == sht_nobits) && not (s.size == 0)) l.sections

abbrev pub address_of_section : Layout → List ℕ → Option ℕ
address_of_section l name = option_map (λ (s : Section). s.address) (filled_section l name)

abbrev pub size_of_section : Layout → List ℕ → Option ℕ
size_of_section l name = option_map (λ (s : Section). s.size) (filled_section l name)

-- the functions that a dynamic linker calls are in the sections of these names (gABI, "Initialization and Termination Functions",
-- "Special Sections")
pub record LeadsToFunctions (l : Layout) (ds : List DynamicEntry) : Type 0 where
  pub init : value_of_tag dt_init ds ≡ address_of_section l (codes ".init")
  pub fini : value_of_tag dt_fini ds ≡ address_of_section l (codes ".fini")
  pub preinit_array : value_of_tag dt_preinit_array ds ≡ address_of_section l (codes ".preinit_array")
  pub preinit_size : value_of_tag dt_preinit_arraysz ds ≡ size_of_section l (codes ".preinit_array")
  pub init_array : value_of_tag dt_init_array ds ≡ address_of_section l (codes ".init_array")
  pub init_size : value_of_tag dt_init_arraysz ds ≡ size_of_section l (codes ".init_array")
  pub fini_array : value_of_tag dt_fini_array ds ≡ address_of_section l (codes ".fini_array")
  pub fini_size : value_of_tag dt_fini_arraysz ds ≡ size_of_section l (codes ".fini_array")

-- ---- the whole

-- The entries say:
-- - all symbols are bound at load time (gABI, DF_BIND_NOW; glibc, `elf.h`: DF_1_NOW);
-- - the entry size of each table that is named, the type of the stubs' entries, and the number of relative entries (gABI,
-- "Dynamic Section": DT_PLTREL, DT_RELAENT, DT_RELRENT, DT_SYMENT);
-- - where tables and functions are.
pub record DescribesTables (l : Layout) (machine : Machine) (image : List ℕ) (ds : List DynamicEntry) : Type 0 where
  pub now : IsFlagged ds dt_flags df_bind_now
  pub now_1 : IsFlagged ds dt_flags_1 df_1_now
  pub stubs : HasCompanionTag ds dt_jmprel dt_pltrel dt_rela
  pub entry_size : HasCompanionTag ds dt_rela dt_relaent rela_size
  pub word_size : HasCompanionTag ds dt_relr dt_relrent relr_size
  pub symbol_size : HasCompanionTag ds dt_symtab dt_syment symtab_entry_size
  pub relative : (n : ℕ) (t : Tables) → value_of_tag dt_relacount ds ≡ Some n → named_tables image (headers_in image) ds ≡ Ok t → AreRelativeFirst machine n t.entries
  pub whole : HasWholeSize ds dt_relasz rela_size
  pub stubs_whole : HasWholeSize ds dt_pltrelsz rela_size
  pub words_whole : HasWholeSize ds dt_relrsz relr_size
  pub one : HasOneValue ds
  pub tables : LeadsToTables l ds
  pub functions : LeadsToFunctions l ds

-- A dynamic linker finds a dynamic section (gABI, "Program Header": PT_DYNAMIC), and its entries have the information that it
-- needs. They are fewer than the section has room for, so a DT_NULL ends them in it.
pub record InformsLinker (l : Layout) (machine : Machine) (image : List ℕ) : Type 0 where
  pub segment : ProgramHeader
  pub first : first_dynamic (headers_in image) ≡ Some segment
  pub entries : List DynamicEntry
  pub read : section_of image segment ≡ Ok entries
  pub ended : length entries < segment.file_size / dynamic_entry_size
  pub told : DescribesTables l machine image entries
