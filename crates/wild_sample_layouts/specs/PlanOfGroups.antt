-- The plan of n groups: the smallest executable, with a group for each number below n.
--   made_symbol i           symbol i, at the start of group i's code
--   made_relocation n i j   relocation j of group i
--   made_section n i        the code of group i: eight calls
--   made_files n i          its files: the prelude is in the first group, the epilogue in the last
--   plan_of_groups n                  the layout
use Rattle.std.specs.Prelude.{ℕ, ◌+◌, ◌*◌, ◌%◌, ◌==◌, true, false, if◌then◌else◌, List, [], ◌∷◌, ◌++◌, map, codes, Some, None}
use Rattle.std.specs.List.{flat_map, range_with_len}
use lib.IntN.{negsuc}
use Rattle.wild_records.specs.Abi.Relocation.{r_x86_64_pc32}
use Rattle.wild_records.specs.Abi.Section.{sht_null, sht_progbits, sht_strtab}
use Rattle.wild_records.specs.Abi.Segment.{pt_load}
use Rattle.wild_records.specs.Abi.Symbol.{stt_func}
use Rattle.wild_types.specs.Defaults.{no_options}
use Rattle.wild_types.specs.Empty.{empty_layout}
use Rattle.wild_types.specs.Flags.{non_interposable}
use Rattle.wild_types.specs.declared.kind.Machine.TheVariants as machine
use Rattle.wild_types.specs.declared.kind.OutputKind.TheVariants as kind
use Rattle.wild_types.specs.declared.kind.RelocationModel.TheVariants.{NonRelocatable}
use Rattle.wild_types.specs.declared.part.Part.{Part}
use Rattle.wild_types.specs.declared.part.Role.{Role}
use Rattle.wild_types.specs.declared.part.Role.TheVariants as role
use Rattle.wild_types.specs.declared.section.Section.{Section}
use Rattle.wild_types.specs.declared.section.Segment.{Segment}
use Rattle.wild_types.specs.declared.symbol.Place.TheVariants as at
use Rattle.wild_types.specs.declared.symbol.Symbol.{Symbol}
use Rattle.wild_types.specs.declared.input.InputRelocation.{InputRelocation}
use Rattle.wild_types.specs.declared.input.InputSection.{InputSection}
use Rattle.wild_types.specs.declared.input.Slot.TheVariants as slot
use Rattle.wild_types.specs.declared.file.FileRole.{FileRole}
use Rattle.wild_types.specs.declared.file.FileRole.TheVariants as file_role
use Rattle.wild_types.specs.declared.file.File.{File}
use Rattle.wild_types.specs.declared.file.Group.{Group}
use Rattle.wild_types.specs.declared.layout.Entry.TheVariants as entry
use Rattle.wild_types.specs.declared.layout.Layout.{Layout}

-- where group i's code begins
abbrev pub start_of : ℕ → ℕ
start_of i = 4194432 + 64 * i

-- symbol i, at the start of group i's code
abbrev pub made_symbol : ℕ → Symbol
made_symbol i = record {
  name = [];
  definition = None;
  info = stt_func;
  other = 0;
  size = 0;
  value = 0;
  place = at.Section 0;
  flags = record { 0 = non_interposable };
  version = 0;
  emit = false;
  resolution = Some (record { raw_value = start_of i; flags = record { 0 = non_interposable }; dynamic_symbol_index = None; got_address = None; plt_address = None });
}

-- the symbol that call j of group i calls
abbrev pub callee : ℕ → ℕ → ℕ → ℕ
callee n i j = (5 * (8 * i + j) + 3) % n

-- its relocation
abbrev pub made_relocation : ℕ → ℕ → ℕ → InputRelocation
made_relocation n i j = record { offset = 8 * j + 1; number = r_x86_64_pc32; symbol = Some (callee n i j); addend = negsuc 3; malformed = false }

-- a call and three `nop`s
abbrev pub call_bytes : List ℕ
call_bytes = 0xe8 ∷ 0 ∷ 0 ∷ 0 ∷ 0 ∷ 0x90 ∷ 0x90 ∷ 0x90 ∷ []

-- eight calls
abbrev pub code : List ℕ
code = flat_map (λ (j : ℕ). call_bytes) (range_with_len 0 8)

-- the code of group i
unfoldable pub made_section : ℕ → ℕ → InputSection
made_section n i = record {
  slot = slot.Loaded;
  name = [];
  part = 2;
  address = start_of i;
  size = 64;
  flags = 6;
  nobits = false;
  reversed = false;
  singleton = None;
  target = 0;
  members = [];
  bytes = code;
  strings = [];
  relocations = map (made_relocation n i) (range_with_len 0 8);
}

-- a file with these symbols and sections
abbrev pub file_with : FileRole → ℕ → ℕ → List InputSection → File
file_with role first count sections = record {
  role = role;
  first_symbol = first;
  symbol_count = count;
  sections = sections;
  thunk_block = 0;
  owns_thunk_block = false;
  lib_name = [];
  copies = [];
  verneed = None;
}

-- a file without symbols and sections
abbrev pub plain_file : FileRole → File
plain_file role = file_with role 0 0 []

-- the object of group i
abbrev pub made_object : ℕ → ℕ → File
made_object n i = file_with file_role.Object i 1 (made_section n i ∷ [])

-- the files of group i of n
abbrev pub made_files : ℕ → ℕ → List File
made_files n i =
    (if i == 0 then plain_file file_role.Prelude ∷ [] else [])
    ++ (made_object n i ∷ (if i + 1 == n then plain_file file_role.Epilogue ∷ [] else []))

-- group i's share of each part, in bytes
abbrev pub made_sizes : ℕ → List ℕ
made_sizes i = if i == 0 then 64 ∷ 56 ∷ 64 ∷ 17 ∷ 192 ∷ [] else 0 ∷ 0 ∷ 64 ∷ 0 ∷ 0 ∷ []

-- group i
abbrev pub made_group : ℕ → ℕ → Group
made_group n i = record {
  files = made_files n i;
  part_sizes = made_sizes i;
  dynstr_start = 0;
  strtab_start = 0;
  eh_frame_start = 0;
  symtab_local_start = 0;
  symtab_global_start = 0;
}

abbrev pub part_with : Role → ℕ → ℕ → ℕ → ℕ → ℕ → Part
part_with role section offset address size align = record { role = role; section = section; offset = offset; address = address; size = size; align = align }

abbrev pub made_parts : ℕ → List Part
made_parts n =
    part_with role.FileHeader 0 0 4194304 64 8
    ∷ part_with role.ProgramHeaders 0 64 4194368 56 8
    ∷ part_with role.Raw 1 128 4194432 (64 * n) 16
    ∷ part_with role.Shstrtab 2 (128 + 64 * n) 0 17 1
    ∷ part_with role.SectionHeaders 0 (152 + 64 * n) 0 192 8
    ∷ []

abbrev pub section_with : List ℕ → ℕ → ℕ → ℕ → ℕ → ℕ → ℕ → Section
section_with name kind flags address offset size align = record {
  name = name;
  kind = kind;
  flags = flags;
  address = address;
  offset = offset;
  size = size;
  link = 0;
  info = 0;
  align = align;
  entsize = 0;
  fill = None;
  section_symbol = false;
}

abbrev pub made_sections : ℕ → List Section
made_sections n =
    section_with [] sht_null 0 0 0 0 0
    ∷ section_with (codes ".text") sht_progbits 6 4194432 128 (64 * n) 16
    ∷ section_with (codes ".shstrtab") sht_strtab 0 0 (128 + 64 * n) 17 1
    ∷ []

abbrev pub made_segment : ℕ → Segment
made_segment n = record {
  kind = pt_load;
  flags = 5;
  offset = 0;
  address = 4194304;
  physical = 4194304;
  file_size = 128 + 64 * n;
  mem_size = 128 + 64 * n;
  align = 4096;
}

-- the layout of n groups
unfoldable pub plan_of_groups : ℕ → Layout
plan_of_groups n = record empty_layout {
  machine = machine.X86_64;
  kind = kind.StaticExecutable NonRelocatable;
  options = record no_options { relax = true; strip_all = true };
  page_size = 4096;
  parts = made_parts n;
  sections = made_sections n;
  segments = made_segment n ∷ [];
  symbols = map made_symbol (range_with_len 0 n);
  groups = map (made_group n) (range_with_len 0 n);
  entry = Some (entry.Address 4194432);
}
