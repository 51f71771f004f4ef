-- A small program without a dynamic linker that can be loaded at any base. It has a function that a resolver chooses, thread-local
-- data with a slot, a merged string, the string's address in a sorted section, and a frame.
--   code          a call through the function's slot, a load of the thread-local offset, and two returns: a function, and the resolver
--   thread_data, strings, sorted, frames   its other input sections
--   mixed_file    the layout
use Rattle.std.specs.Prelude.{ℕ, false, true, List, [], ◌∷◌, codes, map, None, Some}
use lib.IntN.{pos, negsuc}
use Rattle.wild_records.specs.Abi.Relocation.{r_x86_64_64, r_x86_64_pc32, r_x86_64_gottpoff, r_x86_64_gotpcrelx}
use Rattle.wild_records.specs.Abi.Section.{sht_null, sht_progbits, sht_strtab, sht_rela, sht_dynamic, sht_dynsym}
use Rattle.wild_records.specs.Abi.Segment.{pt_load, pt_dynamic, pt_tls}
use Rattle.wild_records.specs.Abi.Symbol.{stt_func, stt_section, stt_tls}
use Rattle.wild_types.specs.Defaults.{no_options}
use Rattle.wild_types.specs.Empty.{empty_layout}
use Rattle.wild_types.specs.Flags.{non_interposable}
use Rattle.wild_types.specs.declared.kind.Machine.TheVariants as machine
use Rattle.wild_types.specs.declared.kind.OutputKind.TheVariants as output
use Rattle.wild_types.specs.declared.kind.RelocationModel.TheVariants.{Relocatable}
use Rattle.wild_types.specs.declared.part.Part.{Part}
use Rattle.wild_types.specs.declared.part.Role.TheVariants as role
use Rattle.wild_types.specs.declared.section.Section.{Section}
use Rattle.wild_types.specs.declared.section.Segment.{Segment}
use Rattle.wild_types.specs.declared.symbol.Place.TheVariants as at
use Rattle.wild_types.specs.declared.symbol.Symbol.{Symbol}
use Rattle.wild_types.specs.declared.input.InputRelocation.{InputRelocation}
use Rattle.wild_types.specs.declared.input.InputSection.{InputSection}
use Rattle.wild_types.specs.declared.input.Slot.TheVariants as slot
use Rattle.wild_types.specs.declared.file.File.{File}
use Rattle.wild_types.specs.declared.file.FileRole.TheVariants as file_role
use Rattle.wild_types.specs.declared.file.Group.{Group}
use Rattle.wild_types.specs.declared.layout.Layout.{Layout}
use Rattle.wild_types.specs.declared.layout.Merged.{Merged}
use Rattle.wild_sample_layouts.specs.PlanOfGroups.{file_with, plain_file, part_with, section_with}

-- ---- symbols

-- the resolver's symbol (NON_INTERPOSABLE, IFUNC, GOT), with its slot
abbrev pub resolver : Symbol
resolver = record {
  name = codes "f";
  definition = None;
  info = stt_func;
  other = 0;
  size = 0;
  value = 14;
  place = at.Section 0;
  flags = record { 0 = 44 };
  version = 0;
  emit = false;
  resolution = Some (record { raw_value = 326; flags = record { 0 = 44 }; dynamic_symbol_index = None; got_address = Some 376; plt_address = None });
}

-- thread-local data (NON_INTERPOSABLE, GOT_TLS_OFFSET), with its slot
abbrev pub thread : Symbol
thread = record {
  name = codes "t";
  definition = None;
  info = stt_tls;
  other = 0;
  size = 0;
  value = 0;
  place = at.Section 1;
  flags = record { 0 = 136 };
  version = 0;
  emit = false;
  resolution = Some (record { raw_value = 368; flags = record { 0 = 136 }; dynamic_symbol_index = None; got_address = Some 384; plt_address = None });
}

-- the symbol of the section of strings
abbrev pub string_section : Symbol
string_section = record {
  name = [];
  definition = None;
  info = stt_section;
  other = 0;
  size = 0;
  value = 0;
  place = at.Section 2;
  flags = record { 0 = non_interposable };
  version = 0;
  emit = false;
  resolution = None;
}

-- the function that the frame describes
abbrev pub function : Symbol
function = record {
  name = codes "g";
  definition = None;
  info = stt_func;
  other = 0;
  size = 0;
  value = 13;
  place = at.Section 0;
  flags = record { 0 = non_interposable };
  version = 0;
  emit = false;
  resolution = Some (record { raw_value = 325; flags = record { 0 = non_interposable }; dynamic_symbol_index = None; got_address = None; plt_address = None });
}

abbrev pub mixed_symbols : List Symbol
mixed_symbols = resolver ∷ thread ∷ string_section ∷ function ∷ []

-- ---- input sections

-- `call [rip + slot]`, `mov rax, [rip + slot]` and two returns
abbrev pub slot_call : InputRelocation
slot_call = record { offset = 2; number = r_x86_64_gotpcrelx; symbol = Some 0; addend = negsuc 3; malformed = false }

abbrev pub offset_load : InputRelocation
offset_load = record { offset = 9; number = r_x86_64_gottpoff; symbol = Some 1; addend = negsuc 3; malformed = false }

abbrev pub code_bytes : List ℕ
code_bytes = 0xff ∷ 0x15 ∷ 0 ∷ 0 ∷ 0 ∷ 0 ∷ 0x48 ∷ 0x8b ∷ 0x05 ∷ 0 ∷ 0 ∷ 0 ∷ 0 ∷ 0xc3 ∷ 0xc3 ∷ []

abbrev pub code : InputSection
code = record {
  slot = slot.Loaded;
  name = [];
  part = 6;
  address = 312;
  size = 15;
  flags = 6;
  nobits = false;
  reversed = false;
  singleton = None;
  target = 0;
  members = [];
  bytes = code_bytes;
  strings = [];
  relocations = slot_call ∷ offset_load ∷ [];
}

-- allocated, writable, thread-local
abbrev pub thread_data : InputSection
thread_data = record code { part = 10; address = 368; size = 8; flags = 0x403; bytes = 5 ∷ 0 ∷ 0 ∷ 0 ∷ 0 ∷ 0 ∷ 0 ∷ 0 ∷ []; relocations = [] }

-- one string, which is merged into part 8; allocated, with SHF_MERGE and SHF_STRINGS
abbrev pub strings : InputSection
strings = record code { slot = slot.Merge; part = 8; address = 0; size = 4; flags = 0x32; bytes = []; strings = record { offset = 0; address = 356 } ∷ []; relocations = [] }

-- the address of the string's second byte
abbrev pub string_address : InputRelocation
string_address = record { offset = 0; number = r_x86_64_64; symbol = Some 2; addend = pos 1; malformed = false }

abbrev pub sorted : InputSection
sorted = record code { slot = slot.Sorted; part = 9; address = 360; size = 8; flags = 3; bytes = 0 ∷ 0 ∷ 0 ∷ 0 ∷ 0 ∷ 0 ∷ 0 ∷ 0 ∷ []; relocations = string_address ∷ [] }

-- a CIE of 12 bytes, and an FDE of 16
abbrev pub function_distance : InputRelocation
function_distance = record { offset = 20; number = r_x86_64_pc32; symbol = Some 3; addend = pos 0; malformed = false }

abbrev pub frame_bytes : List ℕ
frame_bytes = 8 ∷ 0 ∷ 0 ∷ 0 ∷ 0 ∷ 0 ∷ 0 ∷ 0 ∷ 1 ∷ 0 ∷ 0 ∷ 0 ∷ 12 ∷ 0 ∷ 0 ∷ 0 ∷ 16 ∷ 0 ∷ 0 ∷ 0 ∷ 0 ∷ 0 ∷ 0 ∷ 0 ∷ 2 ∷ 0 ∷ 0 ∷ 0 ∷ []

abbrev pub frames : InputSection
frames = record code { slot = slot.Frame; part = 7; address = 0; size = 28; flags = 2; bytes = frame_bytes; relocations = function_distance ∷ [] }

abbrev pub mixed_inputs : List InputSection
mixed_inputs = code ∷ thread_data ∷ strings ∷ sorted ∷ frames ∷ []

-- ---- the layout

abbrev pub mixed_parts : List Part
mixed_parts =
    part_with role.FileHeader 0 0 0 64 8
    ∷ part_with role.ProgramHeaders 0 64 64 168 8
    ∷ part_with role.Dynsym 1 232 232 24 8
    ∷ part_with role.Dynstr 2 256 256 1 1
    ∷ part_with role.RelaPlt 3 264 264 24 8
    ∷ part_with role.RelaDynRelative 4 288 288 24 8
    ∷ part_with role.Raw 5 312 312 15 8
    ∷ part_with role.EhFrame 6 328 328 28 8
    ∷ part_with role.Raw 7 356 356 4 1
    ∷ part_with role.Raw 8 360 360 8 8
    ∷ part_with role.Raw 9 368 368 8 8
    ∷ part_with role.Got 10 376 376 16 8
    ∷ part_with role.Dynamic 11 392 392 288 8
    ∷ part_with role.Shstrtab 12 680 0 104 1
    ∷ part_with role.SectionHeaders 0 784 0 832 8
    ∷ []

abbrev pub mixed_sections : List Section
mixed_sections =
    section_with [] sht_null 0 0 0 0 0
    ∷ section_with (codes ".dynsym") sht_dynsym 2 232 232 24 8
    ∷ section_with (codes ".dynstr") sht_strtab 2 256 256 1 1
    ∷ section_with (codes ".rela.plt") sht_rela 2 264 264 24 8
    ∷ section_with (codes ".rela.dyn") sht_rela 2 288 288 24 8
    ∷ section_with (codes ".text") sht_progbits 6 312 312 15 8
    ∷ section_with (codes ".eh_frame") sht_progbits 2 328 328 28 8
    ∷ section_with (codes ".rodata") sht_progbits 2 356 356 4 1
    ∷ section_with (codes ".init_array") sht_progbits 3 360 360 8 8
    ∷ section_with (codes ".tdata") sht_progbits 0x403 368 368 8 8
    ∷ section_with (codes ".got") sht_progbits 3 376 376 16 8
    ∷ section_with (codes ".dynamic") sht_dynamic 3 392 392 288 8
    ∷ section_with (codes ".shstrtab") sht_strtab 0 0 680 104 1
    ∷ []

-- one loaded segment, that of the dynamic section, and that of thread-local data
abbrev pub mixed_segments : List Segment
mixed_segments =
    record { kind = pt_load; flags = 7; offset = 0; address = 0; physical = 0; file_size = 680; mem_size = 680; align = 4096 }
    ∷ record { kind = pt_dynamic; flags = 6; offset = 392; address = 392; physical = 392; file_size = 288; mem_size = 288; align = 8 }
    ∷ record { kind = pt_tls; flags = 4; offset = 368; address = 368; physical = 368; file_size = 8; mem_size = 8; align = 8 }
    ∷ []

abbrev pub mixed_object : File
mixed_object = file_with file_role.Object 0 4 mixed_inputs

abbrev pub mixed_files : List File
mixed_files = plain_file file_role.Prelude ∷ mixed_object ∷ file_with file_role.Epilogue 4 0 [] ∷ []

abbrev pub mixed_group : Group
mixed_group = record {
  files = mixed_files;
  part_sizes = map (λ (p : Part). p.size) mixed_parts;
  dynstr_start = 0;
  strtab_start = 0;
  eh_frame_start = 0;
  symtab_local_start = 0;
  symtab_global_start = 0;
}

-- the string "one" with its null byte
abbrev pub merged_string : Merged
merged_string = record { part = 8; strings = (0x6f ∷ 0x6e ∷ 0x65 ∷ 0 ∷ []) ∷ [] }

unfoldable pub mixed_file : Layout
mixed_file = record empty_layout {
  machine = machine.X86_64;
  kind = output.StaticExecutable Relocatable;
  options = record no_options { strip_all = true };
  page_size = 4096;
  parts = mixed_parts;
  sections = mixed_sections;
  segments = mixed_segments;
  tls = record { start = 368; end = 376; align = 8 };
  got_base = 376;
  symbols = mixed_symbols;
  groups = mixed_group ∷ [];
  sorted = record { group = 0; file = 1; section = 3 } ∷ [];
  merged = merged_string ∷ [];
}
