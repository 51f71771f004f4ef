-- A worked shared object with an own symbol, an interposable one, own thread-local data and those of another module, a function with
-- a stub, and a slot of each sort. In its world other modules have definitions of the interposable symbols.
--   shared_data, shared_item   its data, and their required content
--   shared_code, code_item     its code
--   shared_near, near_item     its data with a distance that only its own symbol can have
--   shared_layout                     the layout
--   shared_world               a world with base 0x10000, where it is module 2
use Rattle.std.specs.Prelude.{ℕ, List, [], ◌∷◌, Some, None}
use lib.IntN.{pos, negsuc}
use Rattle.wild_records.specs.Abi.Relocation.{r_x86_64_64, r_x86_64_pc64, r_x86_64_gotpcrel64, r_x86_64_tpoff64, r_x86_64_dtpoff64, r_x86_64_size64, r_x86_64_tlsgd, r_x86_64_tlsld, r_x86_64_gottpoff, r_x86_64_gotpc32_tlsdesc}
use Rattle.wild_types.specs.Empty.{empty_layout}
use Rattle.wild_types.specs.declared.kind.OutputKind.TheVariants as output
use Rattle.wild_types.specs.declared.symbol.Symbol.{Symbol}
use Rattle.wild_types.specs.declared.input.InputRelocation.{InputRelocation}
use Rattle.wild_types.specs.declared.input.InputSection.{InputSection}
use Rattle.wild_types.specs.declared.layout.Layout.{Layout}
use Rattle.wild_loader.specs.declared.world.Answer.{Answer}
use Rattle.wild_loader.specs.declared.world.World.{World}
use Rattle.wild_types.specs.Item.{Item, item_with}
use Rattle.wild_meaning.specs.Worked.Builders.{resolved_symbol, reference, input, one_file, loaded_segment, dynamic_at}

-- its own symbol, with a slot (NON_INTERPOSABLE, GOT)
abbrev pub own_symbol : Symbol
own_symbol = resolved_symbol 0x28 0x1100 8 None (Some 0x2000) None

-- an own symbol that is interposable, with a slot (EXPORT_DYNAMIC, GOT)
abbrev pub open_symbol : Symbol
open_symbol = resolved_symbol 0x820 0x1110 16 (Some 1) (Some 0x2008) None

-- its own thread-local data, with an offset, a pair and a descriptor (NON_INTERPOSABLE, GOT_TLS_OFFSET, GOT_TLS_MODULE,
-- GOT_TLS_DESCRIPTOR)
abbrev pub own_thread : Symbol
own_thread = resolved_symbol 0x388 0x3008 8 None (Some 0x2010) None

-- thread-local data of another module, with an offset and a pair (DYNAMIC, GOT_TLS_OFFSET, GOT_TLS_MODULE)
abbrev pub other_thread : Symbol
other_thread = resolved_symbol 0x182 0 8 (Some 2) (Some 0x2038) None

-- a function with a slot and a stub (NON_INTERPOSABLE, GOT, PLT)
abbrev pub stubbed_function : Symbol
stubbed_function = resolved_symbol 0x68 0x1088 1 None (Some 0x20d8) (Some 0x20e0)

-- a reference of each sort, in data
abbrev pub shared_references : List InputRelocation
shared_references =
    reference 0 r_x86_64_gotpcrel64 0 (pos 0)
    ∷ reference 8 r_x86_64_64 1 (pos 0)
    ∷ reference 16 r_x86_64_64 0 (pos 4)
    ∷ reference 24 r_x86_64_tpoff64 2 (pos 0)
    ∷ reference 32 r_x86_64_tlsgd 2 (pos 0)
    ∷ reference 36 r_x86_64_gottpoff 2 (pos 0)
    ∷ reference 40 r_x86_64_gotpc32_tlsdesc 2 (pos 0)
    ∷ reference 44 r_x86_64_tlsld 2 (pos 0)
    ∷ reference 48 r_x86_64_size64 1 (pos 0)
    ∷ reference 56 r_x86_64_gotpcrel64 1 (pos 0)
    ∷ reference 64 r_x86_64_dtpoff64 2 (pos 0)
    ∷ reference 72 r_x86_64_tlsgd 3 (pos 0)
    ∷ reference 76 r_x86_64_gottpoff 3 (pos 0)
    ∷ []

-- 80 bytes of fields, and 4 others
abbrev pub shared_bytes : List ℕ
shared_bytes =
    0 ∷ 0 ∷ 0 ∷ 0 ∷ 0 ∷ 0 ∷ 0 ∷ 0 ∷ 0 ∷ 0 ∷ 0 ∷ 0 ∷ 0 ∷ 0 ∷ 0 ∷ 0 ∷ 0 ∷ 0 ∷ 0 ∷ 0 ∷ 0 ∷ 0 ∷ 0 ∷ 0 ∷ 0 ∷ 0 ∷ 0 ∷ 0 ∷ 0 ∷ 0 ∷ 0 ∷ 0 ∷ 0 ∷ 0 ∷ 0 ∷ 0 ∷ 0 ∷ 0 ∷ 0 ∷ 0
    ∷ 0 ∷ 0 ∷ 0 ∷ 0 ∷ 0 ∷ 0 ∷ 0 ∷ 0 ∷ 0 ∷ 0 ∷ 0 ∷ 0 ∷ 0 ∷ 0 ∷ 0 ∷ 0 ∷ 0 ∷ 0 ∷ 0 ∷ 0 ∷ 0 ∷ 0 ∷ 0 ∷ 0 ∷ 0 ∷ 0 ∷ 0 ∷ 0 ∷ 0 ∷ 0 ∷ 0 ∷ 0 ∷ 0 ∷ 0 ∷ 0 ∷ 0 ∷ 0 ∷ 0 ∷ 0 ∷ 0
    ∷ 1 ∷ 2 ∷ 3 ∷ 4 ∷ []

-- data that may be written to
abbrev pub shared_data : InputSection
shared_data = input 0x1000 3 shared_bytes shared_references

abbrev pub shared_item : Item
shared_item = item_with 0 shared_data

-- `lea rax, [rip + descriptor]`
abbrev pub shared_reference : InputRelocation
shared_reference = reference 3 r_x86_64_gotpc32_tlsdesc 2 (negsuc 3)

abbrev pub shared_code : InputSection
shared_code = input 0x1080 6 (0x48 ∷ 0x8d ∷ 0x05 ∷ 0 ∷ 0 ∷ 0 ∷ 0 ∷ 0xc3 ∷ 0xc3 ∷ []) (shared_reference ∷ [])

abbrev pub code_item : Item
code_item = item_with 0 shared_code

-- the distance of the interposable symbol from the field, which no loader fills
abbrev pub near_reference : InputRelocation
near_reference = reference 0 r_x86_64_pc64 1 (pos 0)

-- data that may not be written to
abbrev pub shared_near : InputSection
shared_near = input 0x1060 2 (0 ∷ 0 ∷ 0 ∷ 0 ∷ 0 ∷ 0 ∷ 0 ∷ 0 ∷ []) (near_reference ∷ [])

abbrev pub near_item : Item
near_item = item_with 0 shared_near

-- the layout: data and code from 0x1000 on, slots from 0x2000 to 0x2060, then the dynamic section with 6 entries, the function's slot at
-- 0x20d8 and its stub at 0x20e0, then other words; thread-local data from 0x3000 to 0x3010
abbrev pub shared_layout : Layout
shared_layout = record empty_layout {
  kind = output.SharedObject;
  page_size = 0x1000;
  segments = loaded_segment 0x1000 0x90 0x90 ∷ loaded_segment 0x2000 0x110 0x110 ∷ dynamic_at 0x2060 0x60 ∷ [];
  tls = record { start = 0x3000; end = 0x3010; align = 8 };
  got_base = 0x2000;
  tlsld = Some 0x2050;
  symbols = own_symbol ∷ open_symbol ∷ own_thread ∷ other_thread ∷ stubbed_function ∷ [];
  groups = one_file (shared_data ∷ shared_code ∷ shared_near ∷ []);
}

-- definitions in other modules: data in module 3, and thread-local data in module 4
abbrev pub answer_of_module : ℕ → ℕ → ℕ → ℕ → Answer
answer_of_module address owner offset size = record { address = address; «module» = owner; offset = offset; size = size; bytes = [] }

-- a world with base 0x10000: the output is module 2, module 3 has the interposable symbol, with another size, and module 4 has
-- the thread-local data
abbrev pub shared_world : World
shared_world = record {
  base = 0x10000;
  symbols = answer_of_module 0 3 0 0 ∷ answer_of_module 0x700010 3 0 24 ∷ answer_of_module 0 4 0x20 8 ∷ [];
  resolvers = [];
  modules = (2, negsuc 0x5f) ∷ (3, negsuc 0xfff) ∷ (4, negsuc 0x1fff) ∷ [];
  own_module = 2;
}
