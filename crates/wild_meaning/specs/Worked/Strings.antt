-- A worked program with merged strings, the path of an interpreter, and words that are written in reverse order.
--   pointer_item   an address of a byte in the middle of a string
--   reversed_item    two words; in the input the address is first
--   strings_layout         the layout
--   merged_texts, path_text   its merged strings, and the path
--   strings_content  its data as loaded
--   strings_memory  the memory into which a loader turns it in the world of the program without a dynamic linker
use Rattle.std.specs.Prelude.{ℕ, List, [], ◌∷◌, None, true, false}
use lib.IntN.{pos}
use Rattle.wild_records.specs.Abi.Relocation.{r_x86_64_64}
use Rattle.wild_records.specs.Abi.Section.{sht_null, sht_progbits, shf_alloc}
use Rattle.wild_records.specs.Abi.Symbol.{stt_section}
use Rattle.wild_types.specs.declared.part.Part.{Part}
use Rattle.wild_types.specs.declared.part.Role.{Role}
use Rattle.wild_types.specs.declared.part.Role.TheVariants as role
use Rattle.wild_types.specs.declared.section.Section.{Section}
use Rattle.wild_types.specs.declared.symbol.Place.TheVariants as at
use Rattle.wild_types.specs.declared.symbol.Symbol.{Symbol}
use Rattle.wild_types.specs.declared.input.InputRelocation.{InputRelocation}
use Rattle.wild_types.specs.declared.input.InputSection.{InputSection}
use Rattle.wild_types.specs.declared.input.MergedString.{MergedString}
use Rattle.wild_types.specs.declared.input.Slot.TheVariants as slot
use Rattle.wild_types.specs.declared.file.FileRole.TheVariants as file_role
use Rattle.wild_types.specs.declared.file.File.{File}
use Rattle.wild_types.specs.declared.layout.Layout.{Layout}
use Rattle.wild_types.specs.declared.layout.Merged.{Merged}
use Rattle.wild_loader.specs.declared.memory.Machine.TheVariants as processors
use Rattle.wild_loader.specs.declared.memory.Memory.{Memory}
use Rattle.wild_types.specs.Item.{Item}
use Rattle.wild_meaning.specs.Item.{placed_item}
use Rattle.wild_meaning.specs.Worked.Builders.{reference, input, file_of, group_of, loaded_segment}
use Rattle.wild_meaning.specs.Worked.Static.{static_pie, second_function}

-- two strings that were placed in another order: five bytes of the input from 0 on, and the four bytes after them
abbrev pub first_string : MergedString
first_string = record { offset = 0; address = 0x1124 }

abbrev pub second_string : MergedString
second_string = record { offset = 5; address = 0x1120 }

abbrev pub string_section : InputSection
string_section = record (input 0 0x32 [] []) { slot = slot.Merge; part = 1; strings = first_string ∷ second_string ∷ [] }

-- the section's symbol (NON_INTERPOSABLE)
abbrev pub string_symbol : Symbol
string_symbol = record second_function { info = stt_section; place = at.Section 2; flags = record { 0 = 8 }; resolution = None }

-- byte 7 of the section: byte 2 of the second string
abbrev pub string_reference : InputRelocation
string_reference = reference 0 r_x86_64_64 0 (pos 7)

abbrev pub pointer_data : InputSection
pointer_data = input 0x1100 3 (0 ∷ 0 ∷ 0 ∷ 0 ∷ 0 ∷ 0 ∷ 0 ∷ 0 ∷ []) (string_reference ∷ [])

-- an address, and a word without a relocation; in the output the word is first
abbrev pub reversed_data : InputSection
reversed_data = record (input 0x1110 3 (0 ∷ 0 ∷ 0 ∷ 0 ∷ 0 ∷ 0 ∷ 0 ∷ 0 ∷ 7 ∷ 0 ∷ 0 ∷ 0 ∷ 0 ∷ 0 ∷ 0 ∷ 0 ∷ []) (reference 0 r_x86_64_64 1 (pos 0) ∷ [])) { reversed = true }

abbrev pub strings_file : File
strings_file = record (file_of file_role.Object (pointer_data ∷ reversed_data ∷ string_section ∷ []) []) { symbol_count = 2 }

-- a section of the output that has memory
abbrev pub allocated_section : Section
allocated_section = record {
  name = [];
  kind = sht_progbits;
  flags = shf_alloc;
  address = 0x1100;
  offset = 0x1100;
  size = 0x2c;
  link = 0;
  info = 0;
  align = 8;
  entsize = 0;
  fill = None;
  section_symbol = false;
}

abbrev pub null_section : Section
null_section = record allocated_section { kind = sht_null; flags = 0; address = 0; offset = 0; size = 0; align = 0 }

-- a part of that section
abbrev pub part_at : Role → ℕ → ℕ → Part
part_at role address size = record { role = role; section = 1; offset = address; address = address; size = size; align = 1 }

-- the strings: "two" and "ones", each with a null byte
abbrev pub merged_texts : Merged
merged_texts = record { part = 1; strings = (0x74 ∷ 0x77 ∷ 0x6f ∷ 0 ∷ []) ∷ (0x6f ∷ 0x6e ∷ 0x65 ∷ 0x73 ∷ 0 ∷ []) ∷ [] }

-- the path: "/l"
abbrev pub path_text : List ℕ
path_text = 0x2f ∷ 0x6c ∷ 0 ∷ []

-- its data from 0x1100 to 0x112c are loaded: sections, strings and the path
abbrev pub strings_layout : Layout
strings_layout = record static_pie {
  parts = part_at role.Raw 0x1100 0x20 ∷ part_at role.Raw 0x1120 9 ∷ part_at role.Interp 0x1129 3 ∷ [];
  sections = null_section ∷ allocated_section ∷ [];
  segments = loaded_segment 0x1100 0x2c 0x2c ∷ [];
  symbols = string_symbol ∷ second_function ∷ [];
  groups = group_of (strings_file ∷ []) ∷ [];
  merged = merged_texts ∷ [];
  interp = path_text;
  entry = None;
}

abbrev pub pointer_item : Item
pointer_item = placed_item strings_layout strings_file pointer_data

abbrev pub reversed_item : Item
reversed_item = placed_item strings_layout strings_file reversed_data

-- the address of the byte in the string, at base 0x40000; the word without a relocation, and the function's address; the strings
-- and the path
abbrev pub strings_content : List ℕ
strings_content =
    0x22 ∷ 0x11 ∷ 0x04 ∷ 0 ∷ 0 ∷ 0 ∷ 0 ∷ 0 ∷ 0 ∷ 0 ∷ 0 ∷ 0 ∷ 0 ∷ 0 ∷ 0 ∷ 0
    ∷ 7 ∷ 0 ∷ 0 ∷ 0 ∷ 0 ∷ 0 ∷ 0 ∷ 0 ∷ 0x10 ∷ 0x12 ∷ 0x04 ∷ 0 ∷ 0 ∷ 0 ∷ 0 ∷ 0
    ∷ 0x74 ∷ 0x77 ∷ 0x6f ∷ 0 ∷ 0x6f ∷ 0x6e ∷ 0x65 ∷ 0x73 ∷ 0 ∷ 0x2f ∷ 0x6c ∷ 0
    ∷ []

abbrev pub strings_memory : Memory
strings_memory = record { machine = processors.X86_64; runs = record { start = 0x41100; bytes = strings_content } ∷ []; descriptors = [] }
