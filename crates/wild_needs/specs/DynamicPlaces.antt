-- The addresses and sizes of the tables and functions to which the dynamic section refers (gABI, "Dynamic Section").
--   section_address l name    the address of a section with bytes; section_size its size
--   part_address l role       the address of the part of a role; part_size its size
--   relative_count l          the number of relative entries, which are the first ones
--   need_number l             the number of libraries from which versions are needed
--   bti_stubs l machine    the part of stubs that begin with a landing pad
use Rattle.std.specs.Prelude.{ℕ, ◌+◌, ◌-◌, ◌/◌, ◌^◌, ◌==◌, Bool, not, ◌&&◌, if◌then◌else◌, min, List, find, bytes_eq, Option, Some, None, option_map}
use Rattle.std.specs.Option.{option_or}
use Rattle.wild_records.specs.Relocations.{rela_size}
use Rattle.wild_types.specs.declared.kind.Machine.{Machine}
use Rattle.wild_types.specs.declared.kind.Machine.TheVariants as machine
use Rattle.wild_types.specs.declared.part.Part.{Part}
use Rattle.wild_types.specs.declared.part.Role.{Role}
use Rattle.wild_types.specs.declared.part.Role.TheVariants as role
use Rattle.wild_types.specs.declared.section.Section.{Section}
use Rattle.wild_types.specs.declared.layout.Layout.{Layout}
use Rattle.wild_types.specs.Lookups.{is_without_data}
use Rattle.wild_types.specs.Parts.{part_with}
use Rattle.wild_needs.specs.Versions.{need_count}

-- the section has the name, and bytes in the file
abbrev pub has_bytes : List ℕ → Section → Bool
has_bytes name s = bytes_eq s.name name && not (is_without_data s) && not (s.size == 0)

-- the first section of a name with bytes in the file (gABI, "Special Sections": .init, .init_array and their like)
unfoldable pub section_named : Layout → List ℕ → Option Section
section_named l name = find (has_bytes name) l.sections

abbrev pub section_address : Layout → List ℕ → Option ℕ
section_address l name = option_map (λ (s : Section). s.address) (section_named l name)

abbrev pub section_size : Layout → List ℕ → Option ℕ
section_size l name = option_map (λ (s : Section). s.size) (section_named l name)

abbrev pub part_address : Option Part → Option ℕ
part_address p = option_map (λ (x : Part). x.address) p

abbrev pub part_size : Option Part → Option ℕ
part_size p = option_map (λ (x : Part). x.size) p

-- a number, if the part exists
abbrev pub if_present : ℕ → Option Part → Option ℕ
if_present n p = option_map (λ (x : Part). n) p

abbrev pub unless_empty : Option Part → Option Part
unless_empty None = None
unless_empty (Some p) = if p.size == 0 then None else Some p

-- the part of a role, if it is not empty
abbrev pub filled_part : Layout → Role → Option Part
filled_part l r = unless_empty (part_with r l.parts)

-- the part at whose start the entries with addends begin: relative entries are the first ones (LSB, "Dynamic Entries", DT_RELACOUNT)
unfoldable pub first_entries : Layout → Option Part
first_entries l = option_or (filled_part l role.RelaDynRelative) (filled_part l role.RelaDynGeneral)

abbrev pub bytes_of : Option Part → ℕ
bytes_of None = 0
bytes_of (Some p) = p.size

-- the size of all entries with addends in bytes, at most 2^64 - 1
unfoldable pub entries_bytes : Layout → ℕ
entries_bytes l = min (2 ^ 64 - 1) (bytes_of (part_with role.RelaDynRelative l.parts) + bytes_of (part_with role.RelaDynGeneral l.parts))

-- the number of relative entries; none if there are none
abbrev pub relative_count : Layout → Option ℕ
relative_count l = option_map (λ (p : Part). p.size / rela_size) (filled_part l role.RelaDynRelative)

-- the number of libraries from which versions are needed, at most 2^64 - 1
unfoldable pub need_number : Layout → ℕ
need_number l = min (2 ^ 64 - 1) (need_count l)

-- the part of AArch64's stubs, if they begin with a landing pad and there are any ("System V ABI for the Arm 64-bit Architecture",
-- "Dynamic Section", DT_AARCH64_BTI_PLT)
abbrev pub bti_stubs : Layout → Machine → Option Part
bti_stubs l machine.AArch64 = if l.options.bti then filled_part l role.PltGot else None
bti_stubs l machine.X86_64 = None
