-- The entry point of the program (gABI, "ELF Header", e_entry).
--   text_start l      the address of `.text`; none if it is missing or empty
--   entry_point l     the address, and the warning about it
use Rattle.std.specs.Prelude.{ℕ, ◌==◌, if◌then◌else◌, bytes_eq, codes, find, Option, Some, None, option_and_then, slice_get}
use Rattle.wild_types.specs.declared.layout.Entry.{Entry}
use Rattle.wild_types.specs.declared.layout.Entry.TheVariants as entry
use Rattle.wild_types.specs.declared.section.Section.{Section}
use Rattle.wild_types.specs.declared.warning.EntryWarning.{EntryWarning}
use Rattle.wild_types.specs.declared.warning.EntryWarning.TheVariants as warning
use Rattle.wild_types.specs.declared.layout.Layout.{Layout}
use Rattle.wild_types.specs.Addresses.{raw_value}
use Rattle.wild_types.specs.Flags.{has_flag, ifunc}
use Rattle.wild_types.specs.Lookups.{canonical}
use Rattle.wild_types.specs.SymbolSlots.{plt_of}
use Rattle.wild_slot.specs.Treatment.{flags_at}
use Rattle.wild_types.specs.Kinds.{is_partial_link, is_shared_object}

pub record EntryPoint : Type 0 where
  pub address : ℕ
  pub warning : Option EntryWarning

abbrev pub start_of : Option Section → Option ℕ
start_of None = None
start_of (Some s) = if s.size == 0 then None else Some s.address

-- the address of the first section of that name, unless it is empty
unfoldable pub text_start : Layout → Option ℕ
text_start l = start_of (find (λ (s : Section). bytes_eq s.name (codes ".text")) l.sections)

-- the entry point for symbol i, which has no address
abbrev pub default_entry : ℕ → Option ℕ → EntryPoint
default_entry i None = record { address = 0; warning = Some (warning.EmptyText i) }
default_entry i (Some a) = record { address = a; warning = Some (warning.Defaulted i a) }

abbrev pub without_warning : ℕ → EntryPoint
without_warning a = record { address = a; warning = None }

-- the address of symbol i as entry point: for an IFUNC that of its stub
abbrev pub entry_value : Layout → ℕ → Option ℕ
entry_value l i = if has_flag (flags_at l i) ifunc then option_and_then plt_of (slice_get l.symbols (canonical l i)) else raw_value l i

-- a library does not need an entry point
abbrev pub entry_at : Layout → ℕ → Option ℕ → EntryPoint
entry_at l i (Some a) = without_warning a
entry_at l i None = if is_shared_object l.kind then without_warning 0 else default_entry i (text_start l)

abbrev pub entry_by : Layout → Option Entry → EntryPoint
entry_by l None = without_warning 0
entry_by l (Some (entry.Address a)) = without_warning a
entry_by l (Some (entry.Symbol i)) = entry_at l i (entry_value l i)

-- a relocatable object does not run
unfoldable pub entry_point : Layout → EntryPoint
entry_point l = if is_partial_link l.kind then without_warning 0 else entry_by l l.entry
