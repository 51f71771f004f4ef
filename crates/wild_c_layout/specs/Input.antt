-- Which input file, section or relocation a C struct represents.
use Rattle.std.specs.Prelude.{ℕ, if◌then◌else◌, Option, Some, None, map}
use Rattle.wild_types.specs.declared.file.File.{File}
use Rattle.wild_types.specs.declared.file.Group.{Group}
use Rattle.wild_types.specs.declared.file.NeededVersion.{NeededVersion}
use Rattle.wild_types.specs.declared.file.VersionNeeds.{VersionNeeds}
use Rattle.wild_types.specs.declared.input.InputRelocation.{InputRelocation}
use Rattle.wild_types.specs.declared.input.InputSection.{InputSection}
use Rattle.wild_types.specs.declared.input.MergedString.{MergedString}
use Rattle.wild_c_layout.specs.Codes.{slot_of, file_role_of}
use Rattle.wild_c_layout.specs.Values.{is_set, present, index}
use Rattle.wild_c_layout.specs.declared.input.CFile.{CFile}
use Rattle.wild_c_layout.specs.declared.input.CGroup.{CGroup}
use Rattle.wild_c_layout.specs.declared.input.CInputSection.{CInputSection}
use Rattle.wild_c_layout.specs.declared.input.CMergedString.{CMergedString}
use Rattle.wild_c_layout.specs.declared.input.CNeededVersion.{CNeededVersion}
use Rattle.wild_c_layout.specs.declared.input.CRelocation.{CRelocation}

-- a relocation of an input section (gABI, "Relocation")
unfoldable pub relocation_of : CRelocation → InputRelocation
relocation_of r = record { offset = r.offset; number = r.number; symbol = present r.symbol; addend = r.addend; malformed = is_set r.malformed }

-- where a string of a merged section was placed
abbrev pub merged_string_of : CMergedString → MergedString
merged_string_of s = record { offset = s.offset; address = s.address }

-- a section of an input file
unfoldable pub input_section_of : CInputSection → InputSection
input_section_of s = record {
  slot = slot_of s.slot;
  name = s.name.now;
  part = s.part;
  address = s.address;
  size = s.size;
  flags = s.flags;
  nobits = is_set s.nobits;
  reversed = is_set s.reversed;
  singleton = present s.singleton;
  target = s.target;
  members = map index s.members.now;
  bytes = s.bytes.now;
  strings = map merged_string_of s.strings.now;
  relocations = map relocation_of s.relocations.now;
}

-- a version that the output needs from a library
abbrev pub needed_version_of : CNeededVersion → NeededVersion
needed_version_of v = record { name = v.name.now; index = v.index }

-- the versions that the output needs from a library, if there are some
abbrev pub version_needs_of : CFile → Option VersionNeeds
version_needs_of f = if is_set f.has_verneed then Some (record { last = is_set f.verneed_last; versions = map needed_version_of f.verneed.now }) else None

-- an input file
unfoldable pub file_of : CFile → File
file_of f = record {
  role = file_role_of f.role;
  first_symbol = f.first_symbol;
  symbol_count = f.symbol_count;
  sections = map input_section_of f.sections.now;
  thunk_block = f.thunk_block;
  owns_thunk_block = is_set f.owns_thunk_block;
  lib_name = f.lib_name.now;
  copies = map index f.copies.now;
  verneed = version_needs_of f;
}

-- files that are written together
unfoldable pub group_of : CGroup → Group
group_of g = record {
  files = map file_of g.files.now;
  part_sizes = g.part_sizes.now;
  dynstr_start = g.dynstr_start;
  strtab_start = g.strtab_start;
  eh_frame_start = g.eh_frame_start;
  symtab_local_start = g.symtab_local_start;
  symtab_global_start = g.symtab_global_start;
}
