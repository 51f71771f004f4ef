-- The properties of a symbol's value. The bits are this project's own.
--   has_flag flags bit           the bit is set
--   interposable flags           another module's definition may replace this one at run time
--   has_link_time_address flags  the value is an address in this output
use Rattle.std.specs.Prelude.{ℕ, Bool, not, ◌==◌, ◌&&◌}
use Rattle.std.specs.Int.RustNames.{bit_and}
use Rattle.wild_types.specs.declared.symbol.ValueFlags.{ValueFlags}

-- the bit is set
unfoldable pub has_flag : ValueFlags → ℕ → Bool
has_flag f bit = bit_and f.0 bit == bit

-- ABSOLUTE: the value does not change with the load bias
abbrev pub absolute : ℕ
absolute = 1

-- DYNAMIC: another module defines the symbol
abbrev pub dynamic : ℕ
dynamic = 2

-- IFUNC: the value is the address of a resolver, which returns the address of the code
abbrev pub ifunc : ℕ
ifunc = 4

-- NON_INTERPOSABLE: no other module's definition may replace this one
abbrev pub non_interposable : ℕ
non_interposable = 8

-- UNDEFINED_WEAK: the symbol is undefined and weak, so that no definition is needed
abbrev pub undefined_weak : ℕ
undefined_weak = 16

-- GOT: a slot holds the symbol's address
abbrev pub got_slot : ℕ
got_slot = 32

-- PLT: the symbol has a PLT stub
abbrev pub plt_stub : ℕ
plt_stub = 64

-- GOT_TLS_OFFSET: a slot holds the symbol's offset from the thread pointer
abbrev pub got_tls_offset : ℕ
got_tls_offset = 128

-- GOT_TLS_MODULE: a pair of slots holds the symbol's module and its offset in that module
abbrev pub got_tls_module : ℕ
got_tls_module = 256

-- GOT_TLS_DESCRIPTOR: a pair of slots is the symbol's TLS descriptor
abbrev pub got_tls_descriptor : ℕ
got_tls_descriptor = 512

-- COPY_RELOCATION: the loader copies the symbol's bytes into this output
abbrev pub copy_relocation : ℕ
copy_relocation = 1024

-- EXPORT_DYNAMIC: the dynamic symbol table exports the symbol to other modules
abbrev pub export_dynamic : ℕ
export_dynamic = 2048

-- DOWNGRADE_TO_LOCAL: the symbol table lists the symbol as a local one
abbrev pub downgrade_to_local : ℕ
downgrade_to_local = 4096

-- CANONICAL_PLT: the stub's address is the symbol's address in every module
abbrev pub canonical_plt : ℕ
canonical_plt = 8192

-- IFUNC_GOT_FOR_ADDRESS: a second slot holds the stub's address, for references to an IFUNC's address
abbrev pub ifunc_got_for_address : ℕ
ifunc_got_for_address = 16384

-- CANONICAL_PLT_GOT_FOR_ADDRESS: a second slot holds the stub's address, for references to the address of a symbol with CANONICAL_PLT
abbrev pub canonical_plt_got_for_address : ℕ
canonical_plt_got_for_address = 32768

-- another module's definition may replace this one at run time (gABI, "Symbol Visibility")
abbrev pub interposable : ValueFlags → Bool
interposable f = not (has_flag f non_interposable)

-- the value is an address in this output: neither absolute nor in another module
abbrev pub has_link_time_address : ValueFlags → Bool
has_link_time_address f = not (has_flag f absolute) && not (has_flag f dynamic)
