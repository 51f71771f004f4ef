-- A worked program without a dynamic linker that can be loaded at any base. Its code has a branch, a load from a slot, a
-- thread-local sequence and a descriptor; its data have an address and an offset.
--   branch_item ..      the required content of its input sections
--   static_pie          the layout
--   static_pie_world    a world with base 0x40000
use Rattle.std.specs.Prelude.{[], ◌∷◌, Some, None, true}
use lib.IntN.{pos, negsuc}
use Rattle.wild_records.specs.Abi.Relocation.{r_x86_64_64, r_x86_64_plt32, r_x86_64_tpoff64, r_x86_64_rex_gotpcrelx, r_x86_64_tlsgd, r_x86_64_gotpc32_tlsdesc}
use Rattle.wild_types.specs.Defaults.{no_options}
use Rattle.wild_types.specs.Empty.{empty_layout}
use Rattle.wild_types.specs.declared.kind.OutputKind.TheVariants as output
use Rattle.wild_types.specs.declared.kind.RelocationModel.TheVariants as model
use Rattle.wild_types.specs.declared.symbol.Symbol.{Symbol}
use Rattle.wild_types.specs.declared.input.InputRelocation.{InputRelocation}
use Rattle.wild_types.specs.declared.input.InputSection.{InputSection}
use Rattle.wild_types.specs.declared.layout.Entry.TheVariants as entry
use Rattle.wild_types.specs.declared.layout.Layout.{Layout}
use Rattle.wild_loader.specs.declared.world.World.{World}
use Rattle.wild_types.specs.Item.{Item, item_with}
use Rattle.wild_meaning.specs.Partners.{tls_get_addr}
use Rattle.wild_meaning.specs.Worked.Builders.{resolved_symbol, reference, input, one_file, loaded_segment}

-- functions: one with a slot (NON_INTERPOSABLE, GOT), and one without
abbrev pub first_function : Symbol
first_function = resolved_symbol 0x28 0x1200 8 None (Some 0x2000) None

abbrev pub second_function : Symbol
second_function = resolved_symbol 8 0x1210 8 None None None

-- thread-local data, with a pair and a descriptor (NON_INTERPOSABLE, GOT_TLS_MODULE, GOT_TLS_DESCRIPTOR)
abbrev pub thread_symbol : Symbol
thread_symbol = resolved_symbol 0x308 0x3008 8 None (Some 0x2008) None

-- the function that returns thread-local addresses
abbrev pub getter_symbol : Symbol
getter_symbol = record (resolved_symbol 8 0x1220 8 None None None) { name = tls_get_addr }

-- `call`
abbrev pub branch_reference : InputRelocation
branch_reference = reference 1 r_x86_64_plt32 0 (negsuc 3)

abbrev pub branch_code : InputSection
branch_code = input 0x1000 6 (0xe8 ∷ 0 ∷ 0 ∷ 0 ∷ 0 ∷ 0xc3 ∷ 0xc3 ∷ []) (branch_reference ∷ [])

-- `mov rax, [rip + slot]`
abbrev pub load_reference : InputRelocation
load_reference = reference 3 r_x86_64_rex_gotpcrelx 0 (negsuc 3)

abbrev pub load_code : InputSection
load_code = input 0x1010 6 (0x48 ∷ 0x8b ∷ 0x05 ∷ 0 ∷ 0 ∷ 0 ∷ 0 ∷ 0xc3 ∷ 0xc3 ∷ []) (load_reference ∷ [])

-- `lea rdi, [rip + pair]; call __tls_get_addr`, with the prefixes that make it 16 bytes
abbrev pub pair_reference : InputRelocation
pair_reference = reference 4 r_x86_64_tlsgd 2 (negsuc 3)

abbrev pub getter_reference : InputRelocation
getter_reference = reference 12 r_x86_64_plt32 3 (negsuc 3)

abbrev pub general_code : InputSection
general_code = input 0x1020 6 (0x66 ∷ 0x48 ∷ 0x8d ∷ 0x3d ∷ 0 ∷ 0 ∷ 0 ∷ 0 ∷ 0x66 ∷ 0x66 ∷ 0x48 ∷ 0xe8 ∷ 0 ∷ 0 ∷ 0 ∷ 0 ∷ []) (pair_reference ∷ getter_reference ∷ [])

-- `lea rax, [rip + descriptor]`
abbrev pub described_reference : InputRelocation
described_reference = reference 3 r_x86_64_gotpc32_tlsdesc 2 (negsuc 3)

abbrev pub described_code : InputSection
described_code = input 0x1040 6 (0x48 ∷ 0x8d ∷ 0x05 ∷ 0 ∷ 0 ∷ 0 ∷ 0 ∷ 0xc3 ∷ 0xc3 ∷ []) (described_reference ∷ [])

-- an address, and an offset from the thread pointer
abbrev pub static_data : InputSection
static_data = input 0x1100 3 (0 ∷ 0 ∷ 0 ∷ 0 ∷ 0 ∷ 0 ∷ 0 ∷ 0 ∷ 0 ∷ 0 ∷ 0 ∷ 0 ∷ 0 ∷ 0 ∷ 0 ∷ 0 ∷ []) (reference 0 r_x86_64_64 1 (pos 0) ∷ reference 8 r_x86_64_tpoff64 2 (pos 0) ∷ [])

abbrev pub branch_item : Item
branch_item = item_with 0 branch_code

abbrev pub load_item : Item
load_item = item_with 0 load_code

abbrev pub general_item : Item
general_item = item_with 0 general_code

abbrev pub described_item : Item
described_item = item_with 0 described_code

abbrev pub static_item : Item
static_item = item_with 0 static_data

-- the layout: code and data from 0x1000 on, slots at 0x2000, thread-local data from 0x3000 to 0x3010
abbrev pub static_pie : Layout
static_pie = record empty_layout {
  kind = output.StaticExecutable model.Relocatable;
  options = record no_options { relax = true };
  page_size = 0x1000;
  segments = loaded_segment 0x1000 0x110 0x110 ∷ [];
  tls = record { start = 0x3000; end = 0x3010; align = 16 };
  got_base = 0x2000;
  symbols = first_function ∷ second_function ∷ thread_symbol ∷ getter_symbol ∷ [];
  groups = one_file (branch_code ∷ load_code ∷ general_code ∷ described_code ∷ static_data ∷ []);
  entry = Some (entry.Address 0x1000);
}

-- a world with base 0x40000; the thread pointer is after the thread-local data
abbrev pub static_pie_world : World
static_pie_world = record { base = 0x40000; symbols = []; resolvers = []; modules = (1, negsuc 15) ∷ []; own_module = 1 }
