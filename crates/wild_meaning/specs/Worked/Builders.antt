-- The building blocks of the worked layouts.
--   resolved_symbol flags raw size index got plt   a symbol with these flags and this resolution
--   reference offset number symbol add   a relocation
--   input address flags bytes rs         an input section with data
--   section_without_data address size                   an input section without data
--   loaded_segment address file_size mem_size    a segment that is loaded
--   dynamic_at address size              the segment of a dynamic section
--   one_file file                        the groups of a single file
--   IsRightImage l w image               the image describes the layout's output, and is linked in a world
--   Refuses l w Wrong                    no image of a layout is linked in a world if memory is wrong in that way
use Rattle.std.specs.Prelude.{ℕ, ℤ, true, false, List, [], ◌∷◌, length, Option, Some, None}
use Rattle.wild_records.specs.Abi.Segment.{pt_load, pt_dynamic}
use Rattle.wild_types.specs.declared.section.Segment.{Segment}
use Rattle.wild_types.specs.declared.symbol.Place.TheVariants as at
use Rattle.wild_types.specs.declared.symbol.Symbol.{Symbol}
use Rattle.wild_types.specs.declared.input.InputRelocation.{InputRelocation}
use Rattle.wild_types.specs.declared.input.InputSection.{InputSection}
use Rattle.wild_types.specs.declared.input.Slot.TheVariants as slot
use Rattle.wild_types.specs.declared.file.FileRole.{FileRole}
use Rattle.wild_types.specs.declared.file.FileRole.TheVariants as file_role
use Rattle.wild_types.specs.declared.file.File.{File}
use Rattle.wild_types.specs.declared.file.Group.{Group}
use Rattle.wild_types.specs.declared.layout.Layout.{Layout}
use Rattle.wild_loader.specs.declared.memory.Memory.{Memory}
use Rattle.wild_loader.specs.declared.world.World.{World}
use Rattle.wild_meaning.specs.LinkedImage.{DescribesOutput, IsLinked}

-- a symbol with these flags and this resolution
abbrev pub resolved_symbol : ℕ → ℕ → ℕ → Option ℕ → Option ℕ → Option ℕ → Symbol
resolved_symbol flags raw size index got plt = record {
  name = [];
  definition = None;
  info = 0;
  other = 0;
  size = size;
  value = 0;
  place = at.Section 0;
  flags = record { 0 = flags };
  version = 0;
  emit = false;
  resolution = Some (record { raw_value = raw; flags = record { 0 = flags }; dynamic_symbol_index = index; got_address = got; plt_address = plt });
}

-- a relocation
abbrev pub reference : ℕ → ℕ → ℕ → ℤ → InputRelocation
reference offset number symbol addend = record { offset = offset; number = number; symbol = Some symbol; addend = addend; malformed = false }

-- an input section with data
abbrev pub input : ℕ → ℕ → List ℕ → List InputRelocation → InputSection
input address flags bytes relocations = record {
  slot = slot.Loaded;
  name = [];
  part = 0;
  address = address;
  size = length bytes;
  flags = flags;
  nobits = false;
  reversed = false;
  singleton = None;
  target = 0;
  members = [];
  bytes = bytes;
  strings = [];
  relocations = relocations;
}

-- a file with sections, and with symbols that are copied from it
abbrev pub file_of : FileRole → List InputSection → List ℕ → File
file_of role sections copies = record {
  role = role;
  first_symbol = 0;
  symbol_count = 0;
  sections = sections;
  thunk_block = 0;
  owns_thunk_block = false;
  lib_name = [];
  copies = copies;
  verneed = None;
}

abbrev pub group_of : List File → Group
group_of files = record {
  files = files;
  part_sizes = [];
  dynstr_start = 0;
  strtab_start = 0;
  eh_frame_start = 0;
  symtab_local_start = 0;
  symtab_global_start = 0;
}

-- an input section without data
abbrev pub section_without_data : ℕ → ℕ → InputSection
section_without_data address size = record {
  slot = slot.Loaded;
  name = [];
  part = 0;
  address = address;
  size = size;
  flags = 3;
  nobits = true;
  reversed = false;
  singleton = None;
  target = 0;
  members = [];
  bytes = [];
  strings = [];
  relocations = [];
}

-- the groups of a single file, an object with these sections
abbrev pub one_file : List InputSection → List Group
one_file sections = group_of (file_of file_role.Object sections [] ∷ []) ∷ []

-- a segment that is loaded
abbrev pub loaded_segment : ℕ → ℕ → ℕ → Segment
loaded_segment address file_size mem_size = record {
  kind = pt_load;
  flags = 7;
  offset = address;
  address = address;
  physical = address;
  file_size = file_size;
  mem_size = mem_size;
  align = 0x1000;
}

-- a segment with the dynamic section
abbrev pub dynamic_at : ℕ → ℕ → Segment
dynamic_at address size = record (loaded_segment address size size) { kind = pt_dynamic; flags = 6; align = 8 }

-- the image describes the layout's output, and is linked in the world
abbrev pub IsRightImage : Layout → World → List ℕ → Type 0
IsRightImage l w image = DescribesOutput l image × IsLinked l w image

-- no image of the layout is linked in the world if memory is wrong in that way
abbrev pub Refuses : Layout → World → (Memory → Type 0) → Type 0
Refuses l w Wrong = (image : List ℕ) (h : IsLinked l w image) → Wrong h.memory → ⊥
