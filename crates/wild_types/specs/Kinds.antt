-- The kinds of output.
use Rattle.std.specs.Prelude.{Bool, true, false, ◌&&◌}
use Rattle.wild_types.specs.declared.kind.RelocationModel.TheVariants.{NonRelocatable, Relocatable}
use Rattle.wild_types.specs.declared.kind.OutputKind.{OutputKind}
use Rattle.wild_types.specs.declared.kind.OutputKind.TheVariants.{StaticExecutable, DynamicExecutable, SharedObject, PartialObject}

-- an executable, with a dynamic linker or without
abbrev pub is_executable : OutputKind → Bool
is_executable (StaticExecutable model) = true
is_executable (DynamicExecutable model) = true
is_executable SharedObject = false
is_executable PartialObject = false

-- an executable without a dynamic linker
abbrev pub is_static_executable : OutputKind → Bool
is_static_executable (StaticExecutable model) = true
is_static_executable (DynamicExecutable model) = false
is_static_executable SharedObject = false
is_static_executable PartialObject = false

-- a shared object
abbrev pub is_shared_object : OutputKind → Bool
is_shared_object (StaticExecutable model) = false
is_shared_object (DynamicExecutable model) = false
is_shared_object SharedObject = true
is_shared_object PartialObject = false

-- a relocatable object (gABI, "ELF Header": ET_REL)
abbrev pub is_partial_link : OutputKind → Bool
is_partial_link (StaticExecutable model) = false
is_partial_link (DynamicExecutable model) = false
is_partial_link SharedObject = false
is_partial_link PartialObject = true

-- loaded at any page-aligned base (gABI, "Program Loading")
abbrev pub is_position_independent : OutputKind → Bool
is_position_independent (StaticExecutable Relocatable) = true
is_position_independent (StaticExecutable NonRelocatable) = false
is_position_independent (DynamicExecutable Relocatable) = true
is_position_independent (DynamicExecutable NonRelocatable) = false
is_position_independent SharedObject = true
is_position_independent PartialObject = false

-- loaded only at its link-time addresses (gABI, "Program Loading")
abbrev pub has_fixed_load_address : OutputKind → Bool
has_fixed_load_address (StaticExecutable Relocatable) = false
has_fixed_load_address (StaticExecutable NonRelocatable) = true
has_fixed_load_address (DynamicExecutable Relocatable) = false
has_fixed_load_address (DynamicExecutable NonRelocatable) = true
has_fixed_load_address SharedObject = false
has_fixed_load_address PartialObject = false

-- with entries for dynamic linking (gABI, "Dynamic Section"): it is position-independent, or a dynamic linker loads it
abbrev pub needs_dynamic : OutputKind → Bool
needs_dynamic (StaticExecutable Relocatable) = true
needs_dynamic (StaticExecutable NonRelocatable) = false
needs_dynamic (DynamicExecutable model) = true
needs_dynamic SharedObject = true
needs_dynamic PartialObject = false

-- with a dynamic symbol table (gABI, "Dynamic Section": DT_SYMTAB is mandatory)
abbrev pub needs_dynsym : OutputKind → Bool
needs_dynsym kind = needs_dynamic kind

-- an executable without a dynamic linker that is loaded only at its link-time addresses
abbrev pub is_fixed_static : OutputKind → Bool
is_fixed_static kind = is_static_executable kind && has_fixed_load_address kind
