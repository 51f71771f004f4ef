-- The GOT slots and the PLT stub of a symbol.
--   got_of s, plt_of s      the address of the first slot and of the stub; none if there is none
--   has_dynamic_symbol f    a loader looks the symbol up by name
--   has_thread_slot f       a slot or pair for a thread-local symbol
--   slots_address s           the address of the symbol's first slot; 0 without one
--   lacks_slots s         the symbol has no slot
--   names_slot, names_stub   its slot, or its stub, has a name in `.symtab`
use Rattle.std.specs.Prelude.{ℕ, ◌==◌, Bool, true, not, ◌&&◌, ◌||◌, Option, Some, None, is_some, unwrap_or}
use Rattle.wild_types.specs.declared.symbol.Symbol.{Symbol}
use Rattle.wild_types.specs.declared.layout.Layout.{Layout}
use Rattle.wild_types.specs.declared.symbol.Resolution.{Resolution}
use Rattle.wild_types.specs.declared.symbol.ValueFlags.{ValueFlags}
use Rattle.wild_types.specs.Flags.{has_flag, interposable, dynamic, export_dynamic, got_tls_offset, got_tls_module, got_tls_descriptor, got_slot, plt_stub}

abbrev pub resolved_got : Option Resolution → Option ℕ
resolved_got None = None
resolved_got (Some r) = r.got_address

-- the address of the first slot
abbrev pub got_of : Symbol → Option ℕ
got_of s = resolved_got s.resolution

abbrev pub resolved_plt : Option Resolution → Option ℕ
resolved_plt None = None
resolved_plt (Some r) = r.plt_address

-- the address of the stub
abbrev pub plt_of : Symbol → Option ℕ
plt_of s = resolved_plt s.resolution

-- a loader looks the symbol up in dynamic symbol tables: another module may define it (gABI, "Symbol Visibility")
abbrev pub has_dynamic_symbol : ValueFlags → Bool
has_dynamic_symbol f = has_flag f dynamic || (has_flag f export_dynamic && interposable f)

-- a slot or pair for a thread-local symbol
abbrev pub has_thread_slot : ValueFlags → Bool
has_thread_slot f = has_flag f got_tls_offset || (has_flag f got_tls_module || has_flag f got_tls_descriptor)

-- the symbol has no slot, so no file writes one for it
abbrev pub lacks_slots : Symbol → Bool
lacks_slots s = not (is_some (got_of s))

-- the address of its first slot; 0 without one
abbrev pub slots_address : Symbol → ℕ
slots_address s = unwrap_or (got_of s) 0

-- no other symbol defines it
abbrev pub is_own : Option ℕ → ℕ → Bool
is_own None i = true
is_own (Some j) i = j == i

-- its slot has a name, if the option for such names is set
abbrev pub names_slot : Layout → ℕ → Symbol → Bool
names_slot l i s = l.options.got_plt_syms && (is_own s.definition i && (has_flag s.flags got_slot && is_some (got_of s)))

-- its stub has a name, if it has both a slot and a stub
abbrev pub names_stub : Layout → ℕ → Symbol → Bool
names_stub l i s = names_slot l i s && (has_flag s.flags plt_stub && is_some (plt_of s))
