-- A worked program that can be loaded at any base, with a library's symbol that is copied into it.
--   copied_bytes     the library's bytes of the symbol
--   copying_layout          the layout
--   copying_world    a world with base 0x20000, in which the bytes to copy are not all 0
--   roomless_layout, roomless_world   the same without room for a copy, and a world with no bytes to copy
use Rattle.std.specs.Prelude.{ℕ, List, [], ◌∷◌, Some, None}
use lib.IntN.{pos}
use Rattle.wild_records.specs.Abi.Relocation.{r_x86_64_64}
use Rattle.wild_types.specs.Empty.{empty_layout}
use Rattle.wild_types.specs.declared.kind.OutputKind.TheVariants as output
use Rattle.wild_types.specs.declared.kind.RelocationModel.TheVariants as model
use Rattle.wild_types.specs.declared.section.Segment.{Segment}
use Rattle.wild_types.specs.declared.symbol.Symbol.{Symbol}
use Rattle.wild_types.specs.declared.input.InputSection.{InputSection}
use Rattle.wild_types.specs.declared.file.FileRole.TheVariants as file_role
use Rattle.wild_types.specs.declared.file.File.{File}
use Rattle.wild_types.specs.declared.layout.Entry.TheVariants as entry
use Rattle.wild_types.specs.declared.layout.Layout.{Layout}
use Rattle.wild_loader.specs.declared.world.Answer.{Answer}
use Rattle.wild_loader.specs.declared.world.World.{World}
use Rattle.wild_types.specs.Item.{Item, item_with}
use Rattle.wild_meaning.specs.Worked.Builders.{resolved_symbol, reference, input, section_without_data, file_of, group_of, loaded_segment, dynamic_at}

-- a library's symbol of 8 bytes, which is copied (DYNAMIC, COPY_RELOCATION)
abbrev pub copied_symbol : Symbol
copied_symbol = resolved_symbol 0x402 0x3100 8 (Some 1) None None

-- the program's entry (NON_INTERPOSABLE)
abbrev pub start_symbol : Symbol
start_symbol = resolved_symbol 8 0x1100 0 None None None

-- data with the address of the copied symbol
abbrev pub copying_data : InputSection
copying_data = input 0x1000 3 (0 ∷ 0 ∷ 0 ∷ 0 ∷ 0 ∷ 0 ∷ 0 ∷ 0 ∷ []) (reference 0 r_x86_64_64 0 (pos 0) ∷ [])

abbrev pub copying_item : Item
copying_item = item_with 0 copying_data

-- zero data after file bytes, which contain the copied symbol
abbrev pub copying_blank : InputSection
copying_blank = section_without_data 0x3000 0x200

abbrev pub copying_object : File
copying_object = file_of file_role.Object (copying_data ∷ copying_blank ∷ []) []

abbrev pub copying_library : File
copying_library = file_of file_role.Dynamic [] (0 ∷ [])

-- the segment of the zero data
abbrev pub copying_room : Segment
copying_room = record (loaded_segment 0x3000 0 0x200) { offset = 0x1000 }

-- a layout of these sections with these segments
abbrev pub copying_with : List Segment → Layout
copying_with segments = record empty_layout {
  kind = output.DynamicExecutable model.Relocatable;
  page_size = 0x1000;
  segments = segments;
  symbols = copied_symbol ∷ start_symbol ∷ [];
  groups = group_of (copying_object ∷ copying_library ∷ []) ∷ [];
  entry = Some (entry.Symbol 1);
}

-- the layout: data from 0x1000 on, with the dynamic section, and zeros from 0x3000 to 0x3200
abbrev pub copying_layout : Layout
copying_layout = copying_with (loaded_segment 0x1000 0x80 0x80 ∷ copying_room ∷ dynamic_at 0x1020 0x60 ∷ [])

-- the same without the zeros, so that no memory is after file bytes
abbrev pub roomless_layout : Layout
roomless_layout = copying_with (loaded_segment 0x1000 0x80 0x80 ∷ dynamic_at 0x1020 0x60 ∷ [])

-- the library's bytes of the symbol
abbrev pub copied_bytes : List ℕ
copied_bytes = 1 ∷ 2 ∷ 3 ∷ 4 ∷ 5 ∷ 6 ∷ 7 ∷ 8 ∷ []

abbrev pub null_answer : Answer
null_answer = record { address = 0; «module» = 1; offset = 0; size = 0; bytes = [] }

-- the symbol is the program's own, at its address there; the library has these bytes of it
abbrev pub answer_with : List ℕ → Answer
answer_with bytes = record { address = 0x23100; «module» = 1; offset = 0x3100; size = 8; bytes = bytes }

abbrev pub copied_answer : Answer
copied_answer = answer_with copied_bytes

-- a world with base 0x20000 and that answer
abbrev pub world_with : List ℕ → World
world_with bytes = record { base = 0x20000; symbols = null_answer ∷ answer_with bytes ∷ []; resolvers = []; modules = (1, pos 0) ∷ []; own_module = 1 }

abbrev pub copying_world : World
copying_world = world_with copied_bytes

-- the library has no bytes of the symbol
abbrev pub roomless_world : World
roomless_world = world_with []
