-- A worked AArch64 program that is loaded at its own addresses. It has addresses in two instructions, one of which is kept, a
-- load from a slot, branches, one of them through a thunk, and a descriptor call.
--   address_item ..   the required content of its input sections
--   words_static      the layout
--   words_world       its world
use Rattle.std.specs.Prelude.{[], ◌∷◌, Some, None, true}
use lib.IntN.{pos}
use Rattle.wild_records.specs.Abi.Relocation.{r_aarch64_adr_prel_pg_hi21, r_aarch64_add_abs_lo12_nc, r_aarch64_adr_got_page, r_aarch64_ld64_got_lo12_nc, r_aarch64_call26, r_aarch64_tlsdesc_adr_page21, r_aarch64_tlsdesc_ld64_lo12, r_aarch64_tlsdesc_add_lo12, r_aarch64_tlsdesc_call}
use Rattle.wild_types.specs.Defaults.{no_options}
use Rattle.wild_types.specs.Empty.{empty_layout}
use Rattle.wild_types.specs.declared.kind.Machine.TheVariants as machine
use Rattle.wild_types.specs.declared.kind.OutputKind.TheVariants as output
use Rattle.wild_types.specs.declared.kind.RelocationModel.TheVariants as model
use Rattle.wild_types.specs.declared.symbol.Symbol.{Symbol}
use Rattle.wild_types.specs.declared.input.InputRelocation.{InputRelocation}
use Rattle.wild_types.specs.declared.input.InputSection.{InputSection}
use Rattle.wild_types.specs.declared.layout.Entry.TheVariants as entry
use Rattle.wild_types.specs.declared.layout.Layout.{Layout}
use Rattle.wild_loader.specs.declared.world.World.{World}
use Rattle.wild_types.specs.Item.{Item, item_with}
use Rattle.wild_meaning.specs.Worked.Builders.{resolved_symbol, reference, input, one_file, loaded_segment}

-- a function with a slot (NON_INTERPOSABLE, GOT), and thread-local data (NON_INTERPOSABLE)
abbrev pub near_function : Symbol
near_function = resolved_symbol 0x28 0x11200 8 None (Some 0x11080) None

abbrev pub local_data : Symbol
local_data = resolved_symbol 8 0x30008 8 None None None

-- `adrp x0; add x0, x0`
abbrev pub page_reference : InputRelocation
page_reference = reference 0 r_aarch64_adr_prel_pg_hi21 0 (pos 0)

abbrev pub low_reference : InputRelocation
low_reference = reference 4 r_aarch64_add_abs_lo12_nc 0 (pos 0)

abbrev pub address_code : InputSection
address_code = input 0x11000 6 (0 ∷ 0 ∷ 0 ∷ 0x90 ∷ 0 ∷ 0 ∷ 0 ∷ 0x91 ∷ []) (page_reference ∷ low_reference ∷ [])

-- `adrp x0; ldr x0, [x0]` of the slot
abbrev pub slot_page_reference : InputRelocation
slot_page_reference = reference 0 r_aarch64_adr_got_page 0 (pos 0)

abbrev pub slot_low_reference : InputRelocation
slot_low_reference = reference 4 r_aarch64_ld64_got_lo12_nc 0 (pos 0)

abbrev pub slot_code : InputSection
slot_code = input 0x11010 6 (0 ∷ 0 ∷ 0 ∷ 0x90 ∷ 0 ∷ 0 ∷ 0x40 ∷ 0xf9 ∷ []) (slot_page_reference ∷ slot_low_reference ∷ [])

-- `bl` to the function, and `bl` to the instruction after its first one, followed by `ret`
abbrev pub call_reference : InputRelocation
call_reference = reference 0 r_aarch64_call26 0 (pos 0)

abbrev pub call_code : InputSection
call_code = input 0x11020 6 (0 ∷ 0 ∷ 0 ∷ 0x94 ∷ []) (call_reference ∷ [])

abbrev pub past_reference : InputRelocation
past_reference = reference 0 r_aarch64_call26 0 (pos 4)

abbrev pub past_code : InputSection
past_code = input 0x11024 6 (0 ∷ 0 ∷ 0 ∷ 0x94 ∷ 0xc0 ∷ 0x03 ∷ 0x5f ∷ 0xd6 ∷ []) (past_reference ∷ [])

-- `adrp x0; ldr x1, [x0]; add x0, x0; blr x1` of the descriptor
abbrev pub descriptor_page : InputRelocation
descriptor_page = reference 0 r_aarch64_tlsdesc_adr_page21 1 (pos 0)

abbrev pub descriptor_load : InputRelocation
descriptor_load = reference 4 r_aarch64_tlsdesc_ld64_lo12 1 (pos 0)

abbrev pub descriptor_low : InputRelocation
descriptor_low = reference 8 r_aarch64_tlsdesc_add_lo12 1 (pos 0)

abbrev pub descriptor_call : InputRelocation
descriptor_call = reference 12 r_aarch64_tlsdesc_call 1 (pos 0)

abbrev pub descriptor_code : InputSection
descriptor_code =
    input 0x11030 6 (0 ∷ 0 ∷ 0 ∷ 0x90 ∷ 0x01 ∷ 0 ∷ 0x40 ∷ 0xf9 ∷ 0 ∷ 0 ∷ 0 ∷ 0x91 ∷ 0x20 ∷ 0 ∷ 0x3f ∷ 0xd6 ∷ []) (descriptor_page ∷ descriptor_load ∷ descriptor_low ∷ descriptor_call ∷ [])

-- `adrp x0; add x0, x0`, which is kept
abbrev pub kept_code : InputSection
kept_code = input 0x11040 6 (0 ∷ 0 ∷ 0 ∷ 0x90 ∷ 0 ∷ 0 ∷ 0 ∷ 0x91 ∷ []) (page_reference ∷ low_reference ∷ [])

abbrev pub address_item : Item
address_item = item_with 0 address_code

abbrev pub slot_item : Item
slot_item = item_with 0 slot_code

abbrev pub call_item : Item
call_item = item_with 0 call_code

abbrev pub past_item : Item
past_item = item_with 0 past_code

abbrev pub descriptor_item : Item
descriptor_item = item_with 0 descriptor_code

abbrev pub kept_item : Item
kept_item = item_with 0 kept_code

-- the layout: code from 0x11000 on, a thunk at 0x11060, slots at 0x11080, thread-local data from 0x30000 to 0x30010
abbrev pub words_static : Layout
words_static = record empty_layout {
  machine = machine.AArch64;
  kind = output.StaticExecutable model.NonRelocatable;
  options = record no_options { relax = true };
  page_size = 0x1000;
  segments = record (loaded_segment 0x11000 0x88 0x88) { offset = 0x1000 } ∷ [];
  tls = record { start = 0x30000; end = 0x30010; align = 16 };
  got_base = 0x11080;
  symbols = near_function ∷ local_data ∷ [];
  groups = one_file (address_code ∷ slot_code ∷ call_code ∷ past_code ∷ descriptor_code ∷ kept_code ∷ []);
  entry = Some (entry.Address 0x11000);
}

-- its world: the thread pointer is 16 bytes below the thread-local data
abbrev pub words_world : World
words_world = record { base = 0; symbols = []; resolvers = []; modules = (1, pos 16) ∷ []; own_module = 1 }
