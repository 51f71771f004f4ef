-- The headers of an image (gABI, "ELF Header", "Section Header", "Program Header").
--   file_header l         the file header; file_header_bytes l its bytes
--   program_header l g    the header of a segment; program_header_bytes l the bytes of the whole table
--   section_headers_of l  the section headers; section_header_bytes l their bytes
--   names_of l            the names of the sections
use Rattle.std.specs.Prelude.{ℕ, ◌+◌, ◌-◌, ◌%◌, ◌/◌, ◌^◌, ◌==◌, if◌then◌else◌, nat_lt, max, List, [], ◌∷◌, ◌++◌, length}
use Rattle.std.specs.List.{flat_map}
use Rattle.wild_words.specs.Record.{spell}
use Rattle.wild_records.specs.Abi.Header.{elfmag, elfclass64, elfdata2lsb, ev_current, elfosabi_none, et_rel, et_exec, et_dyn, em_x86_64, em_aarch64}
use Rattle.wild_records.specs.Abi.Section.{sht_null, sht_nobits, shn_undef, shn_loreserve, shn_xindex, shf_compressed}
use Rattle.wild_records.specs.Abi.Segment.{pt_load, pt_gnu_stack, pf_x}
use Rattle.wild_records.specs.declared.file_header.FileHeader.{FileHeader}
use Rattle.wild_records.specs.declared.program_header.ProgramHeader.{ProgramHeader}
use Rattle.wild_records.specs.declared.section_header.SectionHeader.{SectionHeader}
use Rattle.wild_records.specs.FileHeader.{file_header_size, file_header_fields}
use Rattle.wild_records.specs.ProgramHeader.{program_header_size, program_header_fields}
use Rattle.wild_records.specs.SectionHeader.{section_header_size, section_header_fields}
use Rattle.wild_records.specs.SymtabEntry.{symtab_entry_size}
use Rattle.wild_types.specs.declared.kind.Machine.{Machine}
use Rattle.wild_types.specs.declared.kind.Machine.TheVariants as machine
use Rattle.wild_types.specs.declared.kind.RelocationModel.TheVariants as model
use Rattle.wild_types.specs.declared.kind.OutputKind.{OutputKind}
use Rattle.wild_types.specs.declared.kind.OutputKind.TheVariants as output
use Rattle.wild_types.specs.declared.part.Part.{Part}
use Rattle.wild_types.specs.declared.part.Role.{Role}
use Rattle.wild_types.specs.declared.part.Role.TheVariants as role
use Rattle.wild_types.specs.declared.section.Section.{Section}
use Rattle.wild_types.specs.declared.section.Segment.{Segment}
use Rattle.wild_types.specs.declared.layout.Layout.{Layout}
use Rattle.wild_table_formats.specs.declared.section_info.ComputedInfo.{ComputedInfo}
use Rattle.wild_needs.specs.EntryPoint.{entry_point}
use Rattle.wild_types.specs.Kinds.{is_partial_link}
use Rattle.wild_types.specs.Lookups.{bit, is_header_only}
use Rattle.wild_types.specs.Parts.{has_role}
use Rattle.wild_needs.specs.Versions.{need_count}

-- e_type
abbrev pub file_type : OutputKind → ℕ
file_type output.PartialObject = et_rel
file_type output.SharedObject = et_dyn
file_type (output.StaticExecutable model.Relocatable) = et_dyn
file_type (output.DynamicExecutable model.Relocatable) = et_dyn
file_type other = et_exec

-- e_machine
abbrev pub machine_number : Machine → ℕ
machine_number machine.X86_64 = em_x86_64
machine_number machine.AArch64 = em_aarch64

-- e_entry
abbrev pub entry_address : Layout → ℕ
entry_address l = (entry_point l).address

-- the file offset of the first part with a role; 0 without such a part
abbrev pub offset_of_role : Role → List Part → ℕ
offset_of_role r [] = 0
offset_of_role r (p ∷ ps) = if has_role r p then p.offset else offset_of_role r ps

-- the header index of the section of the first part with a role; 0 without such a part
abbrev pub section_of_role : Role → List Part → ℕ
section_of_role r [] = shn_undef
section_of_role r (p ∷ ps) = if has_role r p then p.section else section_of_role r ps

-- the size of the first part with a role; 0 without such a part
abbrev pub size_of_role : Role → List Part → ℕ
size_of_role r [] = 0
size_of_role r (p ∷ ps) = if has_role r p then p.size else size_of_role r ps

-- the header index of .shstrtab
abbrev pub name_table : Layout → ℕ
name_table l = section_of_role role.Shstrtab l.parts

-- a number in the file header: itself below SHN_LORESERVE, the escape from there on
abbrev pub number_or_escape : ℕ → ℕ → ℕ
number_or_escape n escape = if nat_lt n shn_loreserve then n else escape

-- the same number in section header 0: 0 below SHN_LORESERVE, itself from there on
abbrev pub or_none : ℕ → ℕ
or_none n = if nat_lt n shn_loreserve then 0 else n

-- a field that is 0 in a relocatable object, which has no program headers (gABI, "ELF Header": e_phoff, e_phentsize)
abbrev pub zero_if_partial : OutputKind → ℕ → ℕ
zero_if_partial kind n = if is_partial_link kind then 0 else n

unfoldable pub file_header : Layout → FileHeader
file_header l = record {
  magic = elfmag;
  class = elfclass64;
  encoding = elfdata2lsb;
  ident_version = ev_current;
  os_abi = elfosabi_none;
  abi_version = 0;
  file_type = file_type l.kind;
  machine = machine_number l.machine;
  version = ev_current;
  entry = entry_address l;
  program_offset = zero_if_partial l.kind file_header_size;
  section_offset = offset_of_role role.SectionHeaders l.parts;
  flags = 0;
  header_size = file_header_size;
  program_entry_size = zero_if_partial l.kind program_header_size;
  program_count = length l.segments;
  section_entry_size = section_header_size;
  section_count = number_or_escape (length l.sections) shn_undef;
  name_table = number_or_escape (name_table l) shn_xindex;
}

-- p_flags with PF_X set
abbrev pub with_execute : ℕ → ℕ
with_execute flags = if flags / pf_x % 2 == 0 then flags + pf_x else flags

-- p_align of PT_LOAD is at least the page size, that of PT_GNU_STACK 16; PT_GNU_STACK has PF_X if the option execstack is set
unfoldable pub program_header : Layout → Segment → ProgramHeader
program_header l g = record {
  kind = g.kind;
  flags = if g.kind == pt_gnu_stack then (if l.options.execstack then with_execute g.flags else g.flags) else g.flags;
  offset = g.offset;
  address = g.address;
  physical = g.physical;
  file_size = g.file_size;
  mem_size = g.mem_size;
  align = if g.kind == pt_load then max l.page_size g.align else (if g.kind == pt_gnu_stack then 16 else g.align);
}

-- section header 0: the numbers that do not fit in the file header
unfoldable pub null_header : Layout → SectionHeader
null_header l = record {
  name = 0;
  kind = sht_null;
  flags = 0;
  address = 0;
  offset = 0;
  size = or_none (length l.sections);
  link = or_none (name_table l);
  info = 0;
  align = 0;
  entry_size = 0;
}

-- sh_flags with SHF_COMPRESSED cleared
abbrev pub uncompressed_flags : ℕ → ℕ
uncompressed_flags flags = if bit flags shf_compressed then flags - shf_compressed else flags

-- sh_info of the section that holds the part with a role: a number modulo 2^32
abbrev pub computed_info : Layout → Role → ℕ → ComputedInfo
computed_info l r info = record { section = section_of_role r l.parts; info = info % 2 ^ 32 }

-- the number of local symbols in .symtab: the size of their part, counted in entries
abbrev pub local_symbols : Layout → ℕ
local_symbols l = size_of_role role.SymtabLocal l.parts / symtab_entry_size

-- every sh_info that is not the layout's (gABI, "Sections", sh_link and sh_info; LSB, "Symbol Versioning"):
-- .dynsym has one local symbol, the null symbol; .symtab has its number of local symbols, which come first; .rela.plt has the section
-- of the GOT words; .gnu.version_d and .gnu.version_r have the number of their records
unfoldable pub computed_infos : Layout → List ComputedInfo
computed_infos l =
    computed_info l role.Dynsym 1 ∷ computed_info l role.RelaPlt (section_of_role role.Got l.parts) ∷ computed_info l role.SymtabLocal (local_symbols l)
    ∷ computed_info l role.GnuVersionD (length l.verdefs) ∷ computed_info l role.GnuVersionR (need_count l) ∷ []

-- sh_info of section i: the first computed value for it, otherwise the layout's
abbrev pub info_at : List ComputedInfo → ℕ → ℕ → ℕ
info_at [] i given = given
info_at (t ∷ ts) i given = if i == t.section then t.info else info_at ts i given

-- sh_type: SHT_NOBITS for a section of which only the header is written, otherwise the layout's
abbrev pub section_type : Layout → Section → ℕ
section_type l s = if is_header_only l s then sht_nobits else s.kind

-- the header of a section other than section 0, with its sh_info and sh_name; in a relocatable object sh_addr is 0 (gABI,
-- "Section Header", sh_addr)
unfoldable pub section_header : Layout → ℕ → ℕ → Section → SectionHeader
section_header l info name s = record {
  name = name;
  kind = section_type l s;
  flags = uncompressed_flags s.flags;
  address = zero_if_partial l.kind s.address;
  offset = s.offset;
  size = s.size;
  link = s.link;
  info = info;
  align = s.align;
  entry_size = s.entsize;
}

-- the headers of a list of sections, whose first has index i and its name at offset name of .shstrtab
abbrev pub headers_from : Layout → List ComputedInfo → ℕ → ℕ → List Section → List SectionHeader
headers_from l told i name [] = []
headers_from l told i name (s ∷ ss) = section_header l (info_at told i s.info) name s ∷ headers_from l told (i + 1) (name + length s.name + 1) ss

-- all section headers, section header 0 first
abbrev pub section_headers_of : Layout → List Section → List SectionHeader
section_headers_of l [] = []
section_headers_of l (s ∷ ss) = null_header l ∷ headers_from l (computed_infos l) 1 (length s.name + 1) ss

abbrev pub file_header_bytes : Layout → List ℕ
file_header_bytes l = spell (file_header_fields (file_header l))

abbrev pub program_header_bytes : Layout → List ℕ
program_header_bytes l = flat_map (λ g. spell (program_header_fields (program_header l g))) l.segments

abbrev pub section_header_bytes : Layout → List ℕ
section_header_bytes l = flat_map (λ h. spell (section_header_fields h)) (section_headers_of l l.sections)

-- the names of the sections, each with a zero at its end (gABI, "String Table")
abbrev pub names_of : Layout → List ℕ
names_of l = flat_map (λ s. s.name ++ 0 ∷ []) l.sections
