-- A program and a library for which the conditions hold. The code of the program calls a function of the library through its slot.
--   library_layout     a shared object that defines the function, with a hash table
--   program_layout     a program that needs the library, without a hash table
--   worked_images      their images, at two bases
--   ConditionsAreMet   the two images are bound to each other, and each has its layout
use Rattle.std.specs.Prelude.{◌≡◌, ℕ, ◌+◌, true, false, List, [], ◌∷◌, codes, map, Some, None, Ok}
use lib.IntN.{pos}
use Rattle.wild_records.specs.Abi.Section.{sht_null, sht_progbits, sht_strtab, sht_rela, sht_dynamic, sht_dynsym, sht_hash}
use Rattle.wild_records.specs.Abi.Segment.{pt_load, pt_dynamic}
use Rattle.wild_records.specs.Abi.Symbol.{stt_func}
use Rattle.wild_types.specs.Defaults.{no_options}
use Rattle.wild_types.specs.Empty.{empty_layout}
use Rattle.wild_types.specs.declared.kind.OutputKind.TheVariants as kind
use Rattle.wild_types.specs.declared.kind.RelocationModel.TheVariants.{Relocatable}
use Rattle.wild_types.specs.declared.part.Part.{Part}
use Rattle.wild_types.specs.declared.part.Role.TheVariants as role
use Rattle.wild_types.specs.declared.section.Section.{Section}
use Rattle.wild_types.specs.declared.section.Segment.{Segment}
use Rattle.wild_types.specs.declared.symbol.Place.TheVariants as at
use Rattle.wild_types.specs.declared.symbol.Symbol.{Symbol}
use Rattle.wild_types.specs.declared.input.InputRelocation.{InputRelocation}
use Rattle.wild_types.specs.declared.input.InputSection.{InputSection}
use Rattle.wild_types.specs.declared.input.Slot.TheVariants as slot
use Rattle.wild_types.specs.declared.file.File.{File}
use Rattle.wild_types.specs.declared.file.FileRole.TheVariants as file_role
use Rattle.wild_types.specs.declared.file.Group.{Group}
use Rattle.wild_types.specs.declared.layout.Layout.{Layout}
use Rattle.wild_layout.specs.Image.{bytes as image_bytes}
use Rattle.wild_sample_layouts.specs.PlanOfGroups.{file_with, plain_file, part_with, section_with}
use Rattle.wild_sample_layouts.specs.CallingPlans.{call_bytes, call_reference}
use Rattle.wild_space.specs.declared.image.NamedImage.{NamedImage}
use Rattle.wild_space.specs.declared.space.Bound.{Bound}
use Rattle.wild_space.specs.Binds.{bind}
use Rattle.wild_space.specs.Bound.{bound}
use Rattle.wild_bound.specs.Premises.{HasLayout}

-- code at address 256 with these bytes and relocations
abbrev pub code_section : List ℕ → List InputRelocation → InputSection
code_section code relocations = record {
  slot = slot.Loaded;
  name = [];
  part = 5;
  address = 256;
  size = 8;
  flags = 6;
  nobits = false;
  reversed = false;
  singleton = None;
  target = 0;
  members = [];
  bytes = code;
  strings = [];
  relocations = relocations;
}

-- one group with these files and parts
abbrev pub one_group : List File → List Part → List Group
one_group files parts = record {
  files = files;
  part_sizes = map (λ (p : Part). p.size) parts;
  dynstr_start = 0;
  strtab_start = 0;
  eh_frame_start = 0;
  symtab_local_start = 0;
  symtab_global_start = 0;
} ∷ []

-- one loaded segment to a file offset, and the one of the dynamic section, which ends there
abbrev pub worked_segments : ℕ → ℕ → ℕ → List Segment
worked_segments end dynamic size =
    record { kind = pt_load; flags = 7; offset = 0; address = 0; physical = 0; file_size = end; mem_size = end; align = 4096 }
    ∷ record { kind = pt_dynamic; flags = 6; offset = dynamic; address = dynamic; physical = dynamic; file_size = size; mem_size = size; align = 8 }
    ∷ []

-- ---- the library

-- its function, of protected visibility (NON_INTERPOSABLE, EXPORT_DYNAMIC)
abbrev pub exported_function : Symbol
exported_function = record {
  name = codes "f";
  definition = None;
  info = 16 + stt_func;
  other = 3;
  size = 0;
  value = 0;
  place = at.Section 0;
  flags = record { 0 = 0x808 };
  version = 0;
  emit = false;
  resolution = Some (record { raw_value = 256; flags = record { 0 = 0x808 }; dynamic_symbol_index = Some 1; got_address = None; plt_address = None });
}

abbrev pub library_parts : List Part
library_parts =
    part_with role.FileHeader 0 0 0 64 8
    ∷ part_with role.ProgramHeaders 0 64 64 112 8
    ∷ part_with role.Dynsym 1 176 176 48 8
    ∷ part_with role.Dynstr 2 224 224 3 1
    ∷ part_with role.SysvHash 3 232 232 20 8
    ∷ part_with role.Raw 4 256 256 8 8
    ∷ part_with role.Dynamic 5 264 264 208 8
    ∷ part_with role.Shstrtab 6 472 0 48 1
    ∷ part_with role.SectionHeaders 0 520 0 448 8
    ∷ []

abbrev pub library_sections : List Section
library_sections =
    section_with [] sht_null 0 0 0 0 0
    ∷ section_with (codes ".dynsym") sht_dynsym 2 176 176 48 8
    ∷ section_with (codes ".dynstr") sht_strtab 2 224 224 3 1
    ∷ section_with (codes ".hash") sht_hash 2 232 232 20 8
    ∷ section_with (codes ".text") sht_progbits 6 256 256 8 8
    ∷ section_with (codes ".dynamic") sht_dynamic 3 264 264 208 8
    ∷ section_with (codes ".shstrtab") sht_strtab 0 0 472 48 1
    ∷ []

-- eight returns; the first is the function
abbrev pub return_bytes : List ℕ
return_bytes = 0xc3 ∷ 0xc3 ∷ 0xc3 ∷ 0xc3 ∷ 0xc3 ∷ 0xc3 ∷ 0xc3 ∷ 0xc3 ∷ []

abbrev pub library_files : List File
library_files = plain_file file_role.Prelude ∷ file_with file_role.Object 0 1 (code_section return_bytes [] ∷ []) ∷ plain_file file_role.Epilogue ∷ []

unfoldable pub library_layout : Layout
library_layout = record empty_layout {
  kind = kind.SharedObject;
  options = record no_options { strip_all = true };
  page_size = 4096;
  parts = library_parts;
  sections = library_sections;
  segments = worked_segments 472 264 208;
  symbols = exported_function ∷ [];
  dynsyms = record { symbol = 0; name = codes "f"; version = 0 } ∷ [];
  sysv_hash = Some (record { buckets = 1 });
  groups = one_group library_files library_parts;
}

-- ---- the program

-- the function that it calls, with a slot at 264 (DYNAMIC, GOT)
abbrev pub needed_function : Symbol
needed_function = record {
  name = codes "f";
  definition = None;
  info = stt_func;
  other = 0;
  size = 0;
  value = 0;
  place = at.Undefined;
  flags = record { 0 = 0x22 };
  version = 0;
  emit = false;
  resolution = Some (record { raw_value = 0; flags = record { 0 = 0x22 }; dynamic_symbol_index = Some 1; got_address = Some 264; plt_address = None });
}

-- the library as a file of the program
abbrev pub needed_library : File
needed_library = record (plain_file file_role.Dynamic) { lib_name = codes "b" }

abbrev pub program_parts : List Part
program_parts =
    part_with role.FileHeader 0 0 0 64 8
    ∷ part_with role.ProgramHeaders 0 64 64 112 8
    ∷ part_with role.Dynsym 1 176 176 48 8
    ∷ part_with role.Dynstr 2 224 224 5 1
    ∷ part_with role.RelaDynGeneral 3 232 232 24 8
    ∷ part_with role.Raw 4 256 256 8 8
    ∷ part_with role.Got 5 264 264 8 8
    ∷ part_with role.Dynamic 6 272 272 272 8
    ∷ part_with role.Shstrtab 7 544 0 57 1
    ∷ part_with role.SectionHeaders 0 608 0 512 8
    ∷ []

abbrev pub program_sections : List Section
program_sections =
    section_with [] sht_null 0 0 0 0 0
    ∷ section_with (codes ".dynsym") sht_dynsym 2 176 176 48 8
    ∷ section_with (codes ".dynstr") sht_strtab 2 224 224 5 1
    ∷ section_with (codes ".rela.dyn") sht_rela 2 232 232 24 8
    ∷ section_with (codes ".text") sht_progbits 6 256 256 8 8
    ∷ section_with (codes ".got") sht_progbits 3 264 264 8 8
    ∷ section_with (codes ".dynamic") sht_dynamic 3 272 272 272 8
    ∷ section_with (codes ".shstrtab") sht_strtab 0 0 544 57 1
    ∷ []

-- its code is `call [rip + slot]`
abbrev pub program_files : List File
program_files = plain_file file_role.Prelude ∷ file_with file_role.Object 0 1 (code_section call_bytes (call_reference ∷ []) ∷ []) ∷ needed_library ∷ plain_file file_role.Epilogue ∷ []

unfoldable pub program_layout : Layout
program_layout = record empty_layout {
  kind = kind.DynamicExecutable Relocatable;
  options = record no_options { strip_all = true };
  page_size = 4096;
  parts = program_parts;
  sections = program_sections;
  segments = worked_segments 544 272 272;
  got_base = 264;
  symbols = needed_function ∷ [];
  groups = one_group program_files program_parts;
}

-- ---- the space

abbrev pub worked_image : List ℕ → List ℕ → ℕ → NamedImage
worked_image name bytes base = record { name = name; bytes = bytes; base = base; distance = pos 0 }

-- the program is the first; it needs the name `b`
abbrev pub worked_images : List NamedImage
worked_images = worked_image (codes "a") (image_bytes program_layout) 0x10000 ∷ worked_image (codes "b") (image_bytes library_layout) 0x20000 ∷ []

-- the images are bound to each other, each is that of its layout, and the function that the program calls is the library's
pub record ConditionsAreMet : Type 0 where
  pub space : Bound
  pub bound_as : bound worked_images [] ≡ Ok space
  pub program : HasLayout worked_images [] space 0 program_layout
  pub library : HasLayout worked_images [] space 1 library_layout
  pub call : bind worked_images space.order 0 1 ≡ Ok (Some (record { image = 1; index = 1 }))
