-- Values of symbols and places, as relocation formulas use them.
--   sum s a               S + A
--   displacement s a p    S + A - P
--   thread_pointer m t    the address of the thread pointer, relative to the thread-local data
use Rattle.std.specs.Prelude.{ℕ, ℤ, ◌+◌, ◌-◌, ◌%◌, ◌^◌, ◌&&◌, Bool, true, false, if◌then◌else◌, Option, Some, None, Result, Ok, Err, option_map, unwrap_or, slice_get}
use Rattle.std.specs.Int.{w64, cast_unsigned}
use Rattle.wild_types.specs.declared.kind.Machine.{Machine}
use Rattle.wild_types.specs.declared.kind.Machine.TheVariants as machine
use Rattle.wild_types.specs.declared.fault.Fault.{Fault}
use Rattle.wild_types.specs.declared.fault.Fault.TheVariants as faults
use Rattle.wild_types.specs.declared.fault.Missing.TheVariants as missing
use Rattle.wild_types.specs.declared.symbol.Place.{Place}
use Rattle.wild_types.specs.declared.symbol.Place.TheVariants as at
use Rattle.wild_types.specs.declared.symbol.Symbol.{Symbol}
use Rattle.wild_types.specs.declared.layout.Layout.{Layout}
use Rattle.wild_types.specs.declared.layout.Tls.{Tls}
use Rattle.wild_types.specs.declared.fault.Missing.{Missing}
use Rattle.wild_types.specs.Addresses.{raw_value}
use Rattle.wild_types.specs.Kinds.{is_executable}
use Rattle.wild_slot.specs.Storage as storage
use Rattle.wild_types.specs.Lookups.{canonical}

-- S + A, modulo 2^64
abbrev pub sum : ℕ → ℤ → ℕ
sum s a = (s + cast_unsigned w64 a) % 2 ^ 64

-- S + A - P, modulo 2^64
abbrev pub displacement : ℕ → ℤ → ℕ → ℕ
displacement s a p = (sum s a + (2 ^ 64 - p)) % 2 ^ 64

-- a - b, modulo 2^64
abbrev pub minus : ℕ → ℕ → ℕ
minus a b = storage.minus a b

-- the address of the thread pointer
abbrev pub thread_pointer : Machine → Tls → ℕ
thread_pointer m t = storage.thread_pointer m t

-- the address that offsets in a module's thread-local storage are relative to: code of x86-64 executables is rewritten to use the
-- thread pointer (x86-64 psABI, "Thread-Local Storage", local dynamic to local exec)
abbrev pub storage_start : Layout → ℕ
storage_start l = if is_x86_64 l.machine && is_executable l.kind then thread_pointer l.machine l.tls else l.tls.start
  where
    is_x86_64 : Machine → Bool
    is_x86_64 machine.X86_64 = true
    is_x86_64 machine.AArch64 = false

abbrev pub definition_of : Layout → ℕ → Option Symbol
definition_of l i = slice_get l.symbols (canonical l i)

abbrev pub is_nowhere : Place → Bool
is_nowhere at.Undefined = true
is_nowhere other = false

-- the symbol's definition is undefined
abbrev pub is_undefined : Layout → ℕ → Bool
is_undefined l i = unwrap_or (option_map (λ (s : Symbol). is_nowhere s.place) (definition_of l i)) false

-- the size of the symbol's definition in bytes
abbrev pub symbol_size : Layout → ℕ → ℕ
symbol_size l i = unwrap_or (option_map (λ (s : Symbol). s.size) (definition_of l i)) 0

-- an address, or the fault that symbol i has none of this kind
abbrev pub resolved_address : Missing → ℕ → Option ℕ → Result ℕ Fault
resolved_address what i None = Err (faults.MissingResolution what i)
resolved_address what i (Some a) = Ok a

-- the address of the symbol, by its resolution or by its place; 0 without a symbol
abbrev pub raw_address : Layout → Option ℕ → Result ℕ Fault
raw_address l None = Ok 0
raw_address l (Some i) = resolved_address missing.Address i (raw_value l i)
