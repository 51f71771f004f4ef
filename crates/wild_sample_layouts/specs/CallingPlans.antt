-- Small layouts of position-independent outputs whose code calls a function: on x86-64 through its GOT slot, on AArch64 through its
-- stub.
--   by_slot, by_stub, by_branch   the code, its relocation, and the size of the stub after it
--   calling_code c       the code as an input section
--   calling_static       a program without a dynamic linker, which defines the function
--   calling_dynamic      a program with a dynamic linker; another module defines the function
--   calling_shared       a shared object; another module defines the function
--   calling_words, calling_words_static, calling_words_shared   the same three for AArch64
use Rattle.std.specs.Prelude.{ℕ, zero, suc, ◌+◌, ◌-◌, true, false, List, [], ◌∷◌, ◌++◌, codes, map, Option, Some, None}
use lib.IntN.{pos, negsuc}
use Rattle.wild_records.specs.Abi.Relocation.{r_x86_64_gotpcrelx, r_aarch64_call26}
use Rattle.wild_records.specs.Abi.Section.{sht_null, sht_progbits, sht_strtab, sht_rela, sht_dynamic, sht_dynsym}
use Rattle.wild_records.specs.Abi.Segment.{pt_load, pt_dynamic}
use Rattle.wild_records.specs.Abi.Symbol.{stt_func}
use Rattle.wild_types.specs.Defaults.{no_options}
use Rattle.wild_types.specs.Empty.{empty_layout}
use Rattle.wild_types.specs.declared.kind.Machine.{Machine}
use Rattle.wild_types.specs.declared.kind.Machine.TheVariants as machine
use Rattle.wild_types.specs.declared.kind.OutputKind.{OutputKind}
use Rattle.wild_types.specs.declared.kind.OutputKind.TheVariants as kind
use Rattle.wild_types.specs.declared.kind.RelocationModel.TheVariants.{Relocatable}
use Rattle.wild_types.specs.declared.part.Part.{Part}
use Rattle.wild_types.specs.declared.part.Role.{Role}
use Rattle.wild_types.specs.declared.part.Role.TheVariants as role
use Rattle.wild_types.specs.declared.section.Section.{Section}
use Rattle.wild_types.specs.declared.section.Segment.{Segment}
use Rattle.wild_types.specs.declared.symbol.Place.{Place}
use Rattle.wild_types.specs.declared.symbol.Place.TheVariants as at
use Rattle.wild_types.specs.declared.symbol.Symbol.{Symbol}
use Rattle.wild_types.specs.declared.input.InputRelocation.{InputRelocation}
use Rattle.wild_types.specs.declared.input.InputSection.{InputSection}
use Rattle.wild_types.specs.declared.input.Slot.TheVariants as slot
use Rattle.wild_types.specs.declared.file.FileRole.TheVariants as file_role
use Rattle.wild_types.specs.declared.layout.Layout.{Layout}
use Rattle.wild_sample_layouts.specs.PlanOfGroups.{file_with, plain_file, part_with, section_with}

-- code of a machine with one relocation, and the size of the stub after it
pub record Code : Type 0 where
  pub machine : Machine
  pub bytes : List ℕ
  pub reference : InputRelocation
  pub stub : ℕ

-- addresses of the code, its stub, and the slot
abbrev pub code_at : ℕ
code_at = 256

abbrev pub stub_at : ℕ
stub_at = 264

abbrev pub slot_at : Code → ℕ
slot_at c = stub_at + c.stub

-- the function, with its flags, its place, its address, its index in the dynamic symbol table, and its stub
abbrev pub called_function : Code → ℕ → Place → ℕ → Option ℕ → Option ℕ → Symbol
called_function c flags place raw index stub = record {
  name = codes "f";
  definition = None;
  info = stt_func;
  other = 0;
  size = 0;
  value = raw - code_at;
  place = place;
  flags = record { 0 = flags };
  version = 0;
  emit = false;
  resolution = Some (record { raw_value = raw; flags = record { 0 = flags }; dynamic_symbol_index = index; got_address = Some (slot_at c); plt_address = stub });
}

-- `call [rip + slot]`, and two returns; the second is the function if the output defines it
abbrev pub call_reference : InputRelocation
call_reference = record { offset = 2; number = r_x86_64_gotpcrelx; symbol = Some 0; addend = negsuc 3; malformed = false }

abbrev pub call_bytes : List ℕ
call_bytes = 0xff ∷ 0x15 ∷ 0 ∷ 0 ∷ 0 ∷ 0 ∷ 0xc3 ∷ 0xc3 ∷ []

abbrev pub by_slot : Code
by_slot = record { machine = machine.X86_64; bytes = call_bytes; reference = call_reference; stub = 0 }

-- `bl`, and a return
abbrev pub branch_reference : InputRelocation
branch_reference = record { offset = 0; number = r_aarch64_call26; symbol = Some 0; addend = pos 0; malformed = false }

abbrev pub branch_bytes : List ℕ
branch_bytes = 0 ∷ 0 ∷ 0 ∷ 0x94 ∷ 0xc0 ∷ 0x03 ∷ 0x5f ∷ 0xd6 ∷ []

abbrev pub of_words : ℕ → Code
of_words stub = record { machine = machine.AArch64; bytes = branch_bytes; reference = branch_reference; stub = stub }

abbrev pub by_stub : Code
by_stub = of_words 16

abbrev pub by_branch : Code
by_branch = of_words 0

abbrev pub calling_code : Code → InputSection
calling_code c = record {
  slot = slot.Loaded;
  name = [];
  part = 5;
  address = code_at;
  size = 8;
  flags = 6;
  nobits = false;
  reversed = false;
  singleton = None;
  target = 0;
  members = [];
  bytes = c.bytes;
  strings = [];
  relocations = c.reference ∷ [];
}

-- the part of the stub, if there is one
abbrev pub stub_part : ℕ → List Part
stub_part zero = []
stub_part (suc n) = part_with role.PltGot 4 stub_at stub_at (suc n) 8 ∷ []

-- the parts; `entries` is the role of the part with the slot's relocation entry, `symbols` and `strings` are the sizes of .dynsym
-- and .dynstr
abbrev pub calling_parts : Code → Role → ℕ → ℕ → List Part
calling_parts c entries symbols strings =
    part_with role.FileHeader 0 0 0 64 8
    ∷ part_with role.ProgramHeaders 0 64 64 112 8
    ∷ part_with role.Dynsym 1 176 176 symbols 8
    ∷ part_with role.Dynstr 2 224 224 strings 1
    ∷ part_with entries 3 232 232 24 8
    ∷ part_with role.Raw 4 code_at code_at 8 8
    ∷ (
    stub_part c.stub
    ++ (
    part_with role.Got 5 (slot_at c) (slot_at c) 8 8
    ∷ part_with role.Dynamic 6 (slot_at c + 8) (slot_at c + 8) 256 8
    ∷ part_with role.Shstrtab 7 (slot_at c + 264) 0 57 1
    ∷ part_with role.SectionHeaders 0 (slot_at c + 328) 0 512 8
    ∷ []
    )
    )

abbrev pub calling_sections : Code → ℕ → ℕ → List Section
calling_sections c symbols strings =
    section_with [] sht_null 0 0 0 0 0
    ∷ section_with (codes ".dynsym") sht_dynsym 2 176 176 symbols 8
    ∷ section_with (codes ".dynstr") sht_strtab 2 224 224 strings 1
    ∷ section_with (codes ".rela.dyn") sht_rela 2 232 232 24 8
    ∷ section_with (codes ".text") sht_progbits 6 code_at code_at (8 + c.stub) 8
    ∷ section_with (codes ".got") sht_progbits 3 (slot_at c) (slot_at c) 8 8
    ∷ section_with (codes ".dynamic") sht_dynamic 3 (slot_at c + 8) (slot_at c + 8) 256 8
    ∷ section_with (codes ".shstrtab") sht_strtab 0 0 (slot_at c + 264) 57 1
    ∷ []

-- one loaded segment, and the one of the dynamic section
abbrev pub calling_segments : Code → List Segment
calling_segments c =
    record { kind = pt_load; flags = 7; offset = 0; address = 0; physical = 0; file_size = slot_at c + 264; mem_size = slot_at c + 264; align = 4096 }
    ∷ record { kind = pt_dynamic; flags = 6; offset = slot_at c + 8; address = slot_at c + 8; physical = slot_at c + 8; file_size = 256; mem_size = 256; align = 8 }
    ∷ []

-- a layout of that kind with that code; its only symbol is the function
abbrev pub calling_layout : Code → OutputKind → Role → ℕ → ℕ → Symbol → Layout
calling_layout code kind entries symbols strings function = record empty_layout {
  machine = code.machine;
  kind = kind;
  options = record no_options { strip_all = true };
  page_size = 4096;
  parts = calling_parts code entries symbols strings;
  sections = calling_sections code symbols strings;
  segments = calling_segments code;
  got_base = slot_at code;
  symbols = function ∷ [];
  groups = record {
    files = plain_file file_role.Prelude ∷ file_with file_role.Object 0 1 (calling_code code ∷ []) ∷ plain_file file_role.Epilogue ∷ [];
    part_sizes = map (λ (p : Part). p.size) (calling_parts code entries symbols strings);
    dynstr_start = 0;
    strtab_start = 0;
    eh_frame_start = 0;
    symtab_local_start = 0;
    symtab_global_start = 0;
  } ∷ [];
}

-- a program without a dynamic linker: it defines the function (NON_INTERPOSABLE, GOT), and the address in the slot moves with the
-- base
unfoldable pub calling_static : Layout
calling_static = calling_layout by_slot (kind.StaticExecutable Relocatable) role.RelaDynRelative 24 1 (called_function by_slot 0x28 (at.Section 0) 262 None None)

-- a program with a dynamic linker, and a shared object: another module defines the function (DYNAMIC, GOT)
unfoldable pub calling_dynamic : Layout
calling_dynamic = calling_layout by_slot (kind.DynamicExecutable Relocatable) role.RelaDynGeneral 48 3 (called_function by_slot 0x22 at.Undefined 0 (Some 1) None)

unfoldable pub calling_shared : Layout
calling_shared = calling_layout by_slot kind.SharedObject role.RelaDynGeneral 48 3 (called_function by_slot 0x22 at.Undefined 0 (Some 1) None)

-- a program of AArch64 without a dynamic linker: it defines the function, which is the return after the branch
unfoldable pub calling_words_static : Layout
calling_words_static = calling_layout by_branch (kind.StaticExecutable Relocatable) role.RelaDynRelative 24 1 (called_function by_branch 0x28 (at.Section 0) 260 None None)

-- one with a dynamic linker, and a shared object: another module defines the function, which has a stub (DYNAMIC, GOT, PLT)
unfoldable pub calling_words : Layout
calling_words = calling_layout by_stub (kind.DynamicExecutable Relocatable) role.RelaDynGeneral 48 3 (called_function by_stub 0x62 at.Undefined stub_at (Some 1) (Some stub_at))

unfoldable pub calling_words_shared : Layout
calling_words_shared = calling_layout by_stub kind.SharedObject role.RelaDynGeneral 48 3 (called_function by_stub 0x62 at.Undefined stub_at (Some 1) (Some stub_at))
