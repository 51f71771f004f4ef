-- A small program with a dynamic linker that can be loaded at any base. It has a copy of a library's data, and code that reads it.
--   copied_data     the library's symbol, with its address in the program
--   reading_code    the code
--   copy_file       the layout
--   data_bytes      the library's data
--   copy_world      a world with base 0x10000, where the loader copies them
use Rattle.std.specs.Prelude.{ℕ, false, true, List, [], ◌∷◌, codes, map, None, Some}
use lib.IntN.{pos, negsuc}
use Rattle.wild_records.specs.Abi.Relocation.{r_x86_64_pc32}
use Rattle.wild_records.specs.Abi.Section.{sht_null, sht_progbits, sht_strtab, sht_rela, sht_dynamic, sht_dynsym, sht_nobits}
use Rattle.wild_records.specs.Abi.Segment.{pt_load, pt_dynamic}
use Rattle.wild_records.specs.Abi.Symbol.{stt_object}
use Rattle.wild_types.specs.Defaults.{no_options}
use Rattle.wild_types.specs.Empty.{empty_layout}
use Rattle.wild_types.specs.declared.kind.Machine.TheVariants as machine
use Rattle.wild_types.specs.declared.kind.OutputKind.TheVariants as output
use Rattle.wild_types.specs.declared.kind.RelocationModel.TheVariants.{Relocatable}
use Rattle.wild_types.specs.declared.part.Part.{Part}
use Rattle.wild_types.specs.declared.part.Role.TheVariants as role
use Rattle.wild_types.specs.declared.section.Section.{Section}
use Rattle.wild_types.specs.declared.section.Segment.{Segment}
use Rattle.wild_types.specs.declared.symbol.Place.TheVariants as at
use Rattle.wild_types.specs.declared.symbol.Symbol.{Symbol}
use Rattle.wild_types.specs.declared.input.InputRelocation.{InputRelocation}
use Rattle.wild_types.specs.declared.input.InputSection.{InputSection}
use Rattle.wild_types.specs.declared.input.Slot.TheVariants as slot
use Rattle.wild_types.specs.declared.file.File.{File}
use Rattle.wild_types.specs.declared.file.FileRole.TheVariants as file_role
use Rattle.wild_types.specs.declared.file.Group.{Group}
use Rattle.wild_types.specs.declared.layout.Layout.{Layout}
use Rattle.wild_loader.specs.declared.world.Answer.{Answer}
use Rattle.wild_loader.specs.declared.world.World.{World}
use Rattle.wild_sample_layouts.specs.PlanOfGroups.{file_with, plain_file, part_with, section_with}

-- the copied symbol (DYNAMIC, COPY_RELOCATION)
abbrev pub copied_data : Symbol
copied_data = record {
  name = codes "v";
  definition = None;
  info = stt_object;
  other = 0;
  size = 8;
  value = 0;
  place = at.Absolute;
  flags = record { 0 = 1026 };
  version = 0;
  emit = false;
  resolution = Some (record { raw_value = 456; flags = record { 0 = 1026 }; dynamic_symbol_index = Some 1; got_address = None; plt_address = None });
}

-- `mov eax, [rip + distance]`, and two returns
abbrev pub data_reference : InputRelocation
data_reference = record { offset = 2; number = r_x86_64_pc32; symbol = Some 0; addend = negsuc 3; malformed = false }

abbrev pub reading_code : InputSection
reading_code = record {
  slot = slot.Loaded;
  name = [];
  part = 5;
  address = 256;
  size = 8;
  flags = 6;
  nobits = false;
  reversed = false;
  singleton = None;
  target = 0;
  members = [];
  bytes = 0x8b ∷ 0x05 ∷ 0 ∷ 0 ∷ 0 ∷ 0 ∷ 0xc3 ∷ 0xc3 ∷ [];
  strings = [];
  relocations = data_reference ∷ [];
}

abbrev pub copy_parts : List Part
copy_parts =
    part_with role.FileHeader 0 0 0 64 8
    ∷ part_with role.ProgramHeaders 0 64 64 112 8
    ∷ part_with role.Dynsym 1 176 176 48 8
    ∷ part_with role.Dynstr 2 224 224 5 1
    ∷ part_with role.RelaDynGeneral 3 232 232 24 8
    ∷ part_with role.Raw 4 256 256 8 8
    ∷ part_with role.Dynamic 5 264 264 192 8
    ∷ part_with role.Raw 6 456 456 8 8
    ∷ part_with role.Shstrtab 7 456 0 57 1
    ∷ part_with role.SectionHeaders 0 520 0 512 8
    ∷ []

abbrev pub copy_sections : List Section
copy_sections =
    section_with [] sht_null 0 0 0 0 0
    ∷ section_with (codes ".dynsym") sht_dynsym 2 176 176 48 8
    ∷ section_with (codes ".dynstr") sht_strtab 2 224 224 5 1
    ∷ section_with (codes ".rela.dyn") sht_rela 2 232 232 24 8
    ∷ section_with (codes ".text") sht_progbits 6 256 256 8 8
    ∷ section_with (codes ".dynamic") sht_dynamic 3 264 264 192 8
    ∷ section_with (codes ".bss") sht_nobits 3 456 456 8 8
    ∷ section_with (codes ".shstrtab") sht_strtab 0 0 456 57 1
    ∷ []

-- one loaded segment, whose memory ends with the copy, and that of the dynamic section
abbrev pub copy_segments : List Segment
copy_segments =
    record { kind = pt_load; flags = 7; offset = 0; address = 0; physical = 0; file_size = 456; mem_size = 464; align = 4096 }
    ∷ record { kind = pt_dynamic; flags = 6; offset = 264; address = 264; physical = 264; file_size = 192; mem_size = 192; align = 8 }
    ∷ []

abbrev pub reading_object : File
reading_object = file_with file_role.Object 0 0 (reading_code ∷ [])

abbrev pub data_library : File
data_library = record (file_with file_role.Dynamic 0 1 []) { lib_name = codes "l"; copies = 0 ∷ [] }

abbrev pub copy_files : List File
copy_files = plain_file file_role.Prelude ∷ reading_object ∷ data_library ∷ file_with file_role.Epilogue 1 0 [] ∷ []

abbrev pub copy_group : Group
copy_group = record {
  files = copy_files;
  part_sizes = map (λ (p : Part). p.size) copy_parts;
  dynstr_start = 0;
  strtab_start = 0;
  eh_frame_start = 0;
  symtab_local_start = 0;
  symtab_global_start = 0;
}

unfoldable pub copy_file : Layout
copy_file = record empty_layout {
  machine = machine.X86_64;
  kind = output.DynamicExecutable Relocatable;
  options = record no_options { strip_all = true };
  page_size = 4096;
  parts = copy_parts;
  sections = copy_sections;
  segments = copy_segments;
  symbols = copied_data ∷ [];
  groups = copy_group ∷ [];
  dynsyms = record { symbol = 0; name = codes "v"; version = 0 } ∷ [];
}

-- ---- the world

abbrev pub data_bytes : List ℕ
data_bytes = 1 ∷ 2 ∷ 3 ∷ 4 ∷ 5 ∷ 6 ∷ 7 ∷ 8 ∷ []

-- for index 0, and for the copied symbol: its address is that of the copy
abbrev pub no_answer : Answer
no_answer = record { address = 0; «module» = 1; offset = 0; size = 0; bytes = [] }

abbrev pub data_answer : Answer
data_answer = record { address = 0x101c8; «module» = 1; offset = 456; size = 8; bytes = data_bytes }

abbrev pub copy_world : World
copy_world = record { base = 0x10000; symbols = no_answer ∷ data_answer ∷ []; resolvers = []; modules = (1, pos 0) ∷ []; own_module = 1 }
