-- Which number of a C struct represents which choice: the index in the list of choices, or the number in the standard. A number that
-- represents nothing counts as the first choice; the tests say which numbers are known.
--   slot_of n        how an input section is written
--   file_role_of n   the kind of a file
--   role_of n        the contents of a part
--   kind_of n        the kind of output
--   machine_of n     the machine (gABI, "ELF Header", e_machine)
--   has_known_..     the number in a struct represents a choice; so do those in all structs that it has
use Rattle.std.specs.Prelude.{ℕ, ◌==◌, Bool, ◌&&◌, ◌||◌, if◌then◌else◌, List, [], ◌∷◌, nat_lt, unwrap_or, slice_get}
use Rattle.std.specs.List.{list_all}
use Rattle.wild_types.specs.declared.file.FileRole.{FileRole}
use Rattle.wild_types.specs.declared.file.FileRole.TheVariants as file_role
use Rattle.wild_types.specs.declared.input.Slot.{Slot}
use Rattle.wild_types.specs.declared.input.Slot.TheVariants as slot
use Rattle.wild_types.specs.declared.kind.Machine.{Machine}
use Rattle.wild_types.specs.declared.kind.Machine.TheVariants as machine
use Rattle.wild_types.specs.declared.kind.OutputKind.{OutputKind}
use Rattle.wild_types.specs.declared.kind.OutputKind.TheVariants as kind
use Rattle.wild_types.specs.declared.kind.RelocationModel.TheVariants.{NonRelocatable, Relocatable}
use Rattle.wild_types.specs.declared.part.Role.{Role}
use Rattle.wild_types.specs.declared.part.Role.TheVariants as role
use Rattle.wild_c_layout.specs.declared.input.CFile.{CFile}
use Rattle.wild_c_layout.specs.declared.input.CGroup.{CGroup}
use Rattle.wild_c_layout.specs.declared.input.CInputSection.{CInputSection}
use Rattle.wild_c_layout.specs.declared.output.CPart.{CPart}
use Rattle.wild_c_layout.specs.declared.symbol.CSymbol.{CSymbol}

abbrev pub slots : List Slot
slots = slot.Discard ∷ slot.Loaded ∷ slot.Sorted ∷ slot.Debug ∷ slot.Frame ∷ slot.Merge ∷ slot.Rela ∷ slot.Group ∷ []

abbrev pub file_roles : List FileRole
file_roles = file_role.Object ∷ file_role.Prelude ∷ file_role.Dynamic ∷ file_role.Script ∷ file_role.Synthetic ∷ file_role.Epilogue ∷ file_role.NotLoaded ∷ []

unfoldable pub roles : List Role
roles = role.Raw ∷ role.FileHeader ∷ role.ProgramHeaders ∷ role.SectionHeaders ∷ role.Shstrtab ∷ role.Got ∷ role.GotRelr ∷ role.PltGot
    ∷ role.RelaPlt ∷ role.RelaDynRelative ∷ role.RelaDynGeneral ∷ role.RelrDyn ∷ role.Dynsym ∷ role.Dynstr
    ∷ role.GnuVersion ∷ role.GnuVersionD ∷ role.GnuVersionR ∷ role.SysvHash ∷ role.GnuHash
    ∷ role.EhFrame ∷ role.EhFrameHdr ∷ role.Dynamic ∷ role.SymtabLocal ∷ role.SymtabGlobal
    ∷ role.SymtabShndxLocal ∷ role.SymtabShndxGlobal ∷ role.Strtab ∷ role.Interp ∷ role.BuildId ∷ role.Property ∷ []

-- an executable without or with a dynamic linker, each fixed or position-independent; a shared object; a relocatable object
abbrev pub kinds : List OutputKind
kinds = kind.StaticExecutable NonRelocatable ∷ kind.StaticExecutable Relocatable ∷ kind.DynamicExecutable NonRelocatable
    ∷ kind.DynamicExecutable Relocatable ∷ kind.SharedObject ∷ kind.PartialObject ∷ []

abbrev pub slot_of : ℕ → Slot
slot_of n = unwrap_or (slice_get slots n) slot.Discard

abbrev pub file_role_of : ℕ → FileRole
file_role_of n = unwrap_or (slice_get file_roles n) file_role.Object

abbrev pub role_of : ℕ → Role
role_of n = unwrap_or (slice_get roles n) role.Raw

abbrev pub kind_of : ℕ → OutputKind
kind_of n = unwrap_or (slice_get kinds n) (kind.StaticExecutable NonRelocatable)

abbrev pub x86_64 : ℕ
x86_64 = 62

abbrev pub aarch64 : ℕ
aarch64 = 183

abbrev pub machine_of : ℕ → Machine
machine_of n = if n == aarch64 then machine.AArch64 else machine.X86_64

abbrev pub is_machine : ℕ → Bool
is_machine n = (n == x86_64) || (n == aarch64)

abbrev pub is_kind : ℕ → Bool
is_kind n = nat_lt n 6

abbrev pub has_known_role : CPart → Bool
has_known_role p = nat_lt p.role 30

abbrev pub has_known_place : CSymbol → Bool
has_known_place s = nat_lt s.place 5

abbrev pub has_known_slot : CInputSection → Bool
has_known_slot s = nat_lt s.slot 8

abbrev pub has_known_sections : CFile → Bool
has_known_sections f = nat_lt f.role 7 && list_all has_known_slot f.sections.now

abbrev pub has_known_files : CGroup → Bool
has_known_files g = list_all has_known_sections g.files.now
