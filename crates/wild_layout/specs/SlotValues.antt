-- GOT and PLT entries of symbols (x86-64 psABI, "Procedure Linkage Table", "Global Offset Table (GOT)").
--   address_of l r        S: the address of the symbol, or of its stub for an IFUNC
--   index_of l i          the index of the symbol in the dynamic symbol table
--   stub_of l i           L: the address of the symbol's PLT stub
--   slot_of l sort i      G: the address of the symbol's GOT entry of that sort
use Rattle.std.specs.Prelude.{ℕ, ◌+◌, ◌%◌, ◌^◌, ◌||◌, Bool, if◌then◌else◌, Option, Some, None, Result, Ok, option_and_then, option_map}
use Rattle.wild_types.specs.declared.fault.Fault.{Fault}
use Rattle.wild_types.specs.declared.fault.Missing.TheVariants as missing
use Rattle.wild_types.specs.declared.symbol.Symbol.{Symbol}
use Rattle.wild_types.specs.declared.symbol.Resolution.{Resolution}
use Rattle.wild_types.specs.declared.symbol.ValueFlags.{ValueFlags}
use Rattle.wild_types.specs.declared.layout.Layout.{Layout}
use Rattle.wild_types.specs.Addresses.{raw_value}
use Rattle.wild_types.specs.Flags.{has_flag, ifunc, got_tls_offset, got_tls_module, got_tls_descriptor, ifunc_got_for_address, canonical_plt_got_for_address}
use Rattle.wild_types.specs.SymbolSlots.{has_thread_slot}
use Rattle.wild_slot.specs.Treatment.{flags_at}
use Rattle.wild_reloc.specs.declared.expression.SlotSort.{SlotSort}
use Rattle.wild_reloc.specs.declared.expression.SlotSort.TheVariants as sorts
use Rattle.wild_layout.specs.SymbolValues.{definition_of, resolved_address, raw_address}

-- the resolution of the symbol's definition
abbrev pub resolution_of : Layout → ℕ → Option Resolution
resolution_of l i = option_and_then (λ (s : Symbol). s.resolution) (definition_of l i)

-- the index of the symbol's definition in the dynamic symbol table
abbrev pub index_of : Layout → ℕ → Option ℕ
index_of l i = option_and_then (λ (r : Resolution). r.dynamic_symbol_index) (resolution_of l i)

-- the address in the symbol's resolution, or the fault that it has none
abbrev pub decided_address : Layout → ℕ → Result ℕ Fault
decided_address l i = resolved_address missing.Address i (option_map (λ (r : Resolution). r.raw_value) (resolution_of l i))

abbrev pub stub_of : Layout → ℕ → Option ℕ
stub_of l i = option_and_then (λ (r : Resolution). r.plt_address) (resolution_of l i)

-- the symbol is an IFUNC: its address is its stub's
abbrev pub symbol_is_ifunc : Layout → ℕ → Bool
symbol_is_ifunc l i = has_flag (flags_at l i) ifunc

-- S: the address of the symbol; 0 without a symbol
abbrev pub address_of : Layout → Option ℕ → Result ℕ Fault
address_of l None = Ok 0
address_of l (Some i) = if symbol_is_ifunc l i then resolved_address missing.Stub i (stub_of l i) else raw_address l (Some i)

-- L: the address of the symbol's PLT stub
abbrev pub stub_address : Layout → Option ℕ → Result ℕ Fault
stub_address l None = Ok 0
stub_address l (Some i) = resolved_address missing.Stub i (stub_of l i)

abbrev pub has_second_slot : ValueFlags → Bool
has_second_slot f = has_flag f ifunc_got_for_address || has_flag f canonical_plt_got_for_address

abbrev pub after_word : Bool → ℕ → ℕ
after_word b at = if b then (at + 8) % 2 ^ 64 else at

abbrev pub after_pair : Bool → ℕ → ℕ
after_pair b at = if b then (at + 16) % 2 ^ 64 else at

-- the address of a GOT entry of a sort, for a symbol with these flags whose first GOT entry is at `at`. References to an address use the
-- second entry if there are two; the module pair follows the offset, and the descriptor follows both
abbrev pub slot_from_first : SlotSort → ValueFlags → ℕ → Option ℕ
slot_from_first sorts.TpOff f at = if has_flag f got_tls_offset then Some at else None
slot_from_first sorts.TlsGd f at = if has_flag f got_tls_module then Some (after_word (has_flag f got_tls_offset) at) else None
slot_from_first sorts.TlsDesc f at = if has_flag f got_tls_descriptor then Some (after_pair (has_flag f got_tls_module) (after_word (has_flag f got_tls_offset) at)) else None
slot_from_first other f at = if has_thread_slot f then None else Some (after_word (has_second_slot f) at)

abbrev pub slot_in_resolution : SlotSort → Option Resolution → Option ℕ
slot_in_resolution sort None = None
slot_in_resolution sort (Some r) = option_and_then (slot_from_first sort r.flags) r.got_address

-- G, by the sort; the pair for the output's own data exists once
abbrev pub slot_of : Layout → SlotSort → ℕ → Option ℕ
slot_of l sorts.TlsLd i = l.tlsld
slot_of l sort i = slot_in_resolution sort (resolution_of l i)

abbrev pub slot_address : Layout → SlotSort → Option ℕ → Result ℕ Fault
slot_address l sort None = Ok 0
slot_address l sort (Some i) = resolved_address missing.Slot i (slot_of l sort i)
