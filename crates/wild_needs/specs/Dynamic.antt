-- The entries of the dynamic section that the last file writes (gABI, "Dynamic Section").
--   dynamic_number tag        the number of an entry
--   dynamic_entry l tag       its value; none if the entry is left out
--   dynamic_entries l         all these entries, in order
--   dynamic_count l           the number of these entries
use Rattle.std.specs.Prelude.{ℕ, Bool, not, ◌&&◌, if◌then◌else◌, List, [], ◌∷◌, ◌++◌, length, All, flat_map, codes, bit_or, Option, Some, None}
use Rattle.wild_records.specs.Abi.Dynamic.{dt_null, dt_pltrelsz, dt_pltgot, dt_pltrel, dt_hash, dt_jmprel, dt_strtab, dt_symtab, dt_rela, dt_relasz, dt_relaent, dt_strsz, dt_syment, dt_init, dt_fini, dt_debug, dt_textrel, dt_aarch64_bti_plt, dt_aarch64_variant_pcs, dt_init_array, dt_fini_array, dt_init_arraysz, dt_fini_arraysz, dt_flags, dt_preinit_array, dt_preinit_arraysz, dt_relrsz, dt_relr, dt_relrent, dt_gnu_hash, dt_versym, dt_relacount, dt_flags_1, dt_verdef, dt_verdefnum, dt_verneed, dt_verneednum, df_origin, df_textrel, df_bind_now, df_static_tls, df_1_now, df_1_nodelete, df_1_origin, df_1_interpose, df_1_pie}
use Rattle.wild_records.specs.Dynamic.{DynamicEntryFits}
use Rattle.wild_records.specs.Relocations.{rela_size, relr_size}
use Rattle.wild_records.specs.SymtabEntry.{symtab_entry_size}
use Rattle.wild_records.specs.declared.dynamic.DynamicEntry.{DynamicEntry}
use Rattle.wild_needs.specs.declared.dynamic.DynamicTag.{DynamicTag}
use Rattle.wild_needs.specs.declared.dynamic.DynamicTag.TheVariants as tags
use Rattle.wild_types.specs.declared.kind.OutputKind.{OutputKind}
use Rattle.wild_types.specs.declared.options.Options.{Options}
use Rattle.wild_types.specs.declared.part.Role.TheVariants as role
use Rattle.wild_types.specs.declared.layout.Layout.{Layout}
use Rattle.wild_types.specs.Kinds.{is_executable, is_shared_object, is_position_independent, needs_dynamic}
use Rattle.wild_needs.specs.DynamicStrings.{named_strings, string_entries, string_start}
use Rattle.wild_types.specs.Parts.{part_with}
use Rattle.wild_needs.specs.DynamicPlaces.{section_address, section_size, part_address, part_size, if_present, filled_part, first_entries, entries_bytes, relative_count, need_number, bti_stubs}

-- the number of an entry
unfoldable pub dynamic_number : DynamicTag → ℕ
dynamic_number tags.Init = dt_init
dynamic_number tags.Fini = dt_fini
dynamic_number tags.InitArray = dt_init_array
dynamic_number tags.InitArraySize = dt_init_arraysz
dynamic_number tags.FiniArray = dt_fini_array
dynamic_number tags.FiniArraySize = dt_fini_arraysz
dynamic_number tags.PreinitArray = dt_preinit_array
dynamic_number tags.PreinitArraySize = dt_preinit_arraysz
dynamic_number tags.StringTable = dt_strtab
dynamic_number tags.StringSize = dt_strsz
dynamic_number tags.SymbolTable = dt_symtab
dynamic_number tags.SymbolSize = dt_syment
dynamic_number tags.PltGot = dt_pltgot
dynamic_number tags.PltRelSize = dt_pltrelsz
dynamic_number tags.PltRel = dt_pltrel
dynamic_number tags.JmpRel = dt_jmprel
dynamic_number tags.Rela = dt_rela
dynamic_number tags.RelaSize = dt_relasz
dynamic_number tags.RelaEntry = dt_relaent
dynamic_number tags.RelaCount = dt_relacount
dynamic_number tags.Relr = dt_relr
dynamic_number tags.RelrSize = dt_relrsz
dynamic_number tags.RelrEntry = dt_relrent
dynamic_number tags.SysvHash = dt_hash
dynamic_number tags.GnuHash = dt_gnu_hash
dynamic_number tags.SymbolVersions = dt_versym
dynamic_number tags.VersionDefinitions = dt_verdef
dynamic_number tags.VersionDefinitionCount = dt_verdefnum
dynamic_number tags.VersionNeeds = dt_verneed
dynamic_number tags.VersionNeedCount = dt_verneednum
dynamic_number tags.Debug = dt_debug
dynamic_number tags.Textrel = dt_textrel
dynamic_number tags.Flags = dt_flags
dynamic_number tags.Flags1 = dt_flags_1
dynamic_number tags.BtiPlt = dt_aarch64_bti_plt
dynamic_number tags.VariantPcs = dt_aarch64_variant_pcs
dynamic_number tags.Null = dt_null

-- ---- flags

abbrev pub only : Bool → ℕ → Option ℕ
only ok n = if ok then Some n else None

abbrev pub flag : Bool → ℕ → ℕ
flag ok n = if ok then n else 0

-- DT_FLAGS: all relocations are processed at load time; only libraries request static TLS space, executables always have it
unfoldable pub dynamic_flags : OutputKind → Options → ℕ
dynamic_flags kind o = bit_or (bit_or (bit_or df_bind_now (flag (not (is_executable kind) && o.static_tls) df_static_tls)) (flag o.textrel df_textrel)) (flag o.origin df_origin)

-- DT_FLAGS_1 (glibc, `elf.h`): two of the flags are only for libraries
unfoldable pub dynamic_flags_1 : OutputKind → Options → ℕ
dynamic_flags_1 kind o =
    bit_or (bit_or (bit_or (bit_or df_1_now (flag (is_executable kind && is_position_independent kind) df_1_pie)) (flag o.origin df_1_origin)) (flag (is_shared_object kind && o.nodelete) df_1_nodelete)) (flag (is_shared_object kind && o.interpose) df_1_interpose)

-- ---- entries

-- the value of an entry; none if it is left out
unfoldable pub dynamic_entry : Layout → DynamicTag → Option ℕ
dynamic_entry l tags.Init = section_address l (codes ".init")
dynamic_entry l tags.Fini = section_address l (codes ".fini")
dynamic_entry l tags.InitArray = section_address l (codes ".init_array")
dynamic_entry l tags.InitArraySize = section_size l (codes ".init_array")
dynamic_entry l tags.FiniArray = section_address l (codes ".fini_array")
dynamic_entry l tags.FiniArraySize = section_size l (codes ".fini_array")
dynamic_entry l tags.PreinitArray = section_address l (codes ".preinit_array")
dynamic_entry l tags.PreinitArraySize = section_size l (codes ".preinit_array")
dynamic_entry l tags.StringTable = part_address (part_with role.Dynstr l.parts)
dynamic_entry l tags.StringSize = part_size (part_with role.Dynstr l.parts)
dynamic_entry l tags.SymbolTable = part_address (part_with role.Dynsym l.parts)
dynamic_entry l tags.SymbolSize = if_present symtab_entry_size (part_with role.Dynsym l.parts)
dynamic_entry l tags.PltGot = if_present l.got_base (filled_part l role.RelaPlt)
dynamic_entry l tags.PltRelSize = part_size (filled_part l role.RelaPlt)
dynamic_entry l tags.PltRel = if_present dt_rela (filled_part l role.RelaPlt)
dynamic_entry l tags.JmpRel = part_address (filled_part l role.RelaPlt)
dynamic_entry l tags.Rela = part_address (first_entries l)
dynamic_entry l tags.RelaSize = if_present (entries_bytes l) (first_entries l)
dynamic_entry l tags.RelaEntry = if_present rela_size (first_entries l)
dynamic_entry l tags.RelaCount = relative_count l
dynamic_entry l tags.Relr = part_address (part_with role.RelrDyn l.parts)
dynamic_entry l tags.RelrSize = part_size (part_with role.RelrDyn l.parts)
dynamic_entry l tags.RelrEntry = if_present relr_size (part_with role.RelrDyn l.parts)
dynamic_entry l tags.SysvHash = part_address (filled_part l role.SysvHash)
dynamic_entry l tags.GnuHash = part_address (filled_part l role.GnuHash)
dynamic_entry l tags.SymbolVersions = part_address (part_with role.GnuVersion l.parts)
dynamic_entry l tags.VersionDefinitions = part_address (part_with role.GnuVersionD l.parts)
dynamic_entry l tags.VersionDefinitionCount = if_present (length l.verdefs) (part_with role.GnuVersionD l.parts)
dynamic_entry l tags.VersionNeeds = part_address (part_with role.GnuVersionR l.parts)
dynamic_entry l tags.VersionNeedCount = if_present (need_number l) (part_with role.GnuVersionR l.parts)
dynamic_entry l tags.Debug = only (is_executable l.kind) 0
dynamic_entry l tags.Textrel = only l.options.textrel 0
dynamic_entry l tags.Flags = Some (dynamic_flags l.kind l.options)
dynamic_entry l tags.Flags1 = Some (dynamic_flags_1 l.kind l.options)
dynamic_entry l tags.BtiPlt = if_present 0 (bti_stubs l l.machine)
dynamic_entry l tags.VariantPcs = only l.options.variant_pcs 0
dynamic_entry l tags.Null = Some 0

-- the entries in their order; those of AArch64 are before Null
unfoldable pub all_tags : List DynamicTag
all_tags =
    tags.Init ∷ tags.Fini ∷ tags.InitArray ∷ tags.InitArraySize ∷ tags.FiniArray ∷ tags.FiniArraySize ∷ tags.PreinitArray ∷ tags.PreinitArraySize
    ∷ tags.StringTable ∷ tags.StringSize ∷ tags.SymbolTable ∷ tags.SymbolSize
    ∷ tags.PltGot ∷ tags.PltRelSize ∷ tags.PltRel ∷ tags.JmpRel
    ∷ tags.Rela ∷ tags.RelaSize ∷ tags.RelaEntry ∷ tags.RelaCount ∷ tags.Relr ∷ tags.RelrSize ∷ tags.RelrEntry
    ∷ tags.SysvHash ∷ tags.GnuHash ∷ tags.SymbolVersions ∷ tags.VersionDefinitions ∷ tags.VersionDefinitionCount ∷ tags.VersionNeeds ∷ tags.VersionNeedCount
    ∷ tags.Debug ∷ tags.Textrel ∷ tags.Flags ∷ tags.Flags1 ∷ tags.BtiPlt ∷ tags.VariantPcs ∷ tags.Null ∷ []

-- an entry, if it has a value
abbrev pub entry_with : ℕ → Option ℕ → List DynamicEntry
entry_with number None = []
entry_with number (Some value) = record { tag = number; value = value } ∷ []

abbrev pub entry_of : Layout → DynamicTag → List DynamicEntry
entry_of l tag = entry_with (dynamic_number tag) (dynamic_entry l tag)

-- ---- the whole

-- the entries other than those for strings, in order
unfoldable pub tag_entries : Layout → List DynamicEntry
tag_entries l = if needs_dynamic l.kind then flat_map (entry_of l) all_tags else []

-- all entries of the last file, in order
unfoldable pub dynamic_entries : Layout → List DynamicEntry
dynamic_entries l = string_entries (string_start l) (named_strings l) ++ tag_entries l

-- the number of these entries
abbrev pub dynamic_count : Layout → ℕ
dynamic_count l = length (dynamic_entries l)

-- the fields of a tag's entry, if it exists, are in their ranges
pub record TagFits (l : Layout) (tag : DynamicTag) : Type 0 where
  pub entry : All DynamicEntryFits (entry_of l tag)
