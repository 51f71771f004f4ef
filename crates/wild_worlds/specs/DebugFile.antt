-- A small layout only for debuggers, of a program that can be loaded at any base: it has a note about its function, and code that
-- is not written.
--   note_distance    the note holds the distance of the function
--   note_address     the note also holds its address, which moves with the base
--   note, code       the input sections
--   debug_file       the layout
use Rattle.std.specs.Prelude.{ℕ, false, true, List, [], ◌∷◌, codes, map, None, Some}
use lib.IntN.{pos, negsuc}
use Rattle.wild_records.specs.Abi.Relocation.{r_x86_64_64, r_x86_64_pc32}
use Rattle.wild_records.specs.Abi.Section.{sht_null, sht_progbits, sht_strtab, sht_rela, sht_dynamic, sht_note, sht_dynsym}
use Rattle.wild_records.specs.Abi.Segment.{pt_load, pt_dynamic}
use Rattle.wild_records.specs.Abi.Symbol.{stt_func}
use Rattle.wild_types.specs.Defaults.{no_options}
use Rattle.wild_types.specs.Empty.{empty_layout}
use Rattle.wild_types.specs.Flags.{non_interposable}
use Rattle.wild_types.specs.declared.kind.Machine.TheVariants as machine
use Rattle.wild_types.specs.declared.kind.OutputKind.TheVariants as output
use Rattle.wild_types.specs.declared.kind.RelocationModel.TheVariants.{Relocatable}
use Rattle.wild_types.specs.declared.part.Part.{Part}
use Rattle.wild_types.specs.declared.part.Role.TheVariants as role
use Rattle.wild_types.specs.declared.section.Section.{Section}
use Rattle.wild_types.specs.declared.section.Segment.{Segment}
use Rattle.wild_types.specs.declared.symbol.Place.TheVariants as at
use Rattle.wild_types.specs.declared.symbol.Symbol.{Symbol}
use Rattle.wild_types.specs.declared.input.InputRelocation.{InputRelocation}
use Rattle.wild_types.specs.declared.input.InputSection.{InputSection}
use Rattle.wild_types.specs.declared.input.Slot.TheVariants as slot
use Rattle.wild_types.specs.declared.file.File.{File}
use Rattle.wild_types.specs.declared.file.FileRole.TheVariants as file_role
use Rattle.wild_types.specs.declared.file.Group.{Group}
use Rattle.wild_types.specs.declared.layout.Layout.{Layout}
use Rattle.wild_sample_layouts.specs.PlanOfGroups.{file_with, plain_file, part_with, section_with}

-- ---- the function, the second return of the code

abbrev pub function_at : ℕ
function_at = 262

abbrev pub function : Symbol
function = record {
  name = codes "f";
  definition = None;
  info = stt_func;
  other = 0;
  size = 0;
  value = 6;
  place = at.Section 1;
  flags = record { 0 = non_interposable };
  version = 0;
  emit = false;
  resolution = Some (record { raw_value = function_at; flags = record { 0 = non_interposable }; dynamic_symbol_index = None; got_address = None; plt_address = None });
}

-- ---- the note: without a name, with 12 bytes of type 1 (gABI, "Note Section")

abbrev pub note_distance : InputRelocation
note_distance = record { offset = 12; number = r_x86_64_pc32; symbol = Some 0; addend = pos 0; malformed = false }

abbrev pub note_address : InputRelocation
note_address = record { offset = 16; number = r_x86_64_64; symbol = Some 0; addend = pos 0; malformed = false }

abbrev pub note_bytes : List ℕ
note_bytes = 0 ∷ 0 ∷ 0 ∷ 0 ∷ 12 ∷ 0 ∷ 0 ∷ 0 ∷ 1 ∷ 0 ∷ 0 ∷ 0 ∷ 0 ∷ 0 ∷ 0 ∷ 0 ∷ 0 ∷ 0 ∷ 0 ∷ 0 ∷ 0 ∷ 0 ∷ 0 ∷ 0 ∷ []

abbrev pub note : InputSection
note = record {
  slot = slot.Loaded;
  name = [];
  part = 2;
  address = 176;
  size = 24;
  flags = 3;
  nobits = false;
  reversed = false;
  singleton = None;
  target = 0;
  members = [];
  bytes = note_bytes;
  strings = [];
  relocations = note_distance ∷ note_address ∷ [];
}

-- ---- the code: a call, and returns

abbrev pub code_call : InputRelocation
code_call = record { offset = 1; number = r_x86_64_pc32; symbol = Some 0; addend = negsuc 3; malformed = false }

abbrev pub code : InputSection
code = record {
  slot = slot.Loaded;
  name = [];
  part = 6;
  address = 256;
  size = 8;
  flags = 6;
  nobits = false;
  reversed = false;
  singleton = None;
  target = 0;
  members = [];
  bytes = 0xe8 ∷ 0 ∷ 0 ∷ 0 ∷ 0 ∷ 0xc3 ∷ 0xc3 ∷ 0xc3 ∷ [];
  strings = [];
  relocations = code_call ∷ [];
}

-- ---- the layout: the names of sections are where the program has its dynamic symbols

abbrev pub note_part : Part
note_part = part_with role.Raw 1 176 176 24 4

abbrev pub code_part : Part
code_part = part_with role.Raw 5 256 256 8 8

abbrev pub debug_parts : List Part
debug_parts =
    part_with role.FileHeader 0 0 0 64 8
    ∷ part_with role.ProgramHeaders 0 64 64 112 8
    ∷ note_part
    ∷ part_with role.Dynsym 2 200 200 24 8
    ∷ part_with role.Dynstr 3 224 224 1 1
    ∷ part_with role.RelaDynRelative 4 232 232 24 8
    ∷ code_part
    ∷ part_with role.Dynamic 6 264 264 256 8
    ∷ part_with role.Shstrtab 7 200 0 58 1
    ∷ part_with role.SectionHeaders 0 264 0 512 8
    ∷ []

abbrev pub note_section : Section
note_section = section_with (codes ".note") sht_note 3 176 176 24 4

abbrev pub code_section : Section
code_section = section_with (codes ".text") sht_progbits 6 256 256 8 8

abbrev pub debug_sections : List Section
debug_sections =
    section_with [] sht_null 0 0 0 0 0
    ∷ note_section
    ∷ section_with (codes ".dynsym") sht_dynsym 2 200 200 24 8
    ∷ section_with (codes ".dynstr") sht_strtab 2 224 224 1 1
    ∷ section_with (codes ".rela.dyn") sht_rela 2 232 232 24 8
    ∷ code_section
    ∷ section_with (codes ".dynamic") sht_dynamic 3 264 264 256 8
    ∷ section_with (codes ".shstrtab") sht_strtab 0 0 200 58 1
    ∷ []

-- one segment that is loaded, with file bytes up to the end of the note, and the dynamic section, which has none
abbrev pub debug_segments : List Segment
debug_segments =
    record { kind = pt_load; flags = 7; offset = 0; address = 0; physical = 0; file_size = 200; mem_size = 520; align = 4096 }
    ∷ record { kind = pt_dynamic; flags = 6; offset = 264; address = 264; physical = 264; file_size = 0; mem_size = 256; align = 8 }
    ∷ []

abbrev pub debug_object : File
debug_object = file_with file_role.Object 0 1 (note ∷ code ∷ [])

abbrev pub debug_files : List File
debug_files = plain_file file_role.Prelude ∷ debug_object ∷ plain_file file_role.Epilogue ∷ []

abbrev pub debug_group : Group
debug_group = record {
  files = debug_files;
  part_sizes = map (λ (p : Part). p.size) debug_parts;
  dynstr_start = 0;
  strtab_start = 0;
  eh_frame_start = 0;
  symtab_local_start = 0;
  symtab_global_start = 0;
}

unfoldable pub debug_file : Layout
debug_file = record empty_layout {
  machine = machine.X86_64;
  kind = output.StaticExecutable Relocatable;
  options = record no_options { strip_all = true; only_keep_debug = true };
  page_size = 4096;
  parts = debug_parts;
  sections = debug_sections;
  segments = debug_segments;
  symbols = function ∷ [];
  groups = debug_group ∷ [];
}
