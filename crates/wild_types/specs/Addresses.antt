-- The addresses of symbols.
--   placed_value l i   the address of symbol i by its place: its value counted from the address of its input section
--   raw_value l i      the address of symbol i in the layout; none if it has none
use Rattle.std.specs.Prelude.{ℕ, ◌+◌, ◌%◌, ◌^◌, if◌then◌else◌, Option, Some, None, option_and_then, option_map, slice_get}
use Rattle.wild_types.specs.declared.symbol.Place.{Place}
use Rattle.wild_types.specs.declared.symbol.Place.TheVariants as at
use Rattle.wild_types.specs.declared.symbol.Symbol.{Symbol}
use Rattle.wild_types.specs.declared.input.InputSection.{InputSection}
use Rattle.wild_types.specs.declared.file.File.{File}
use Rattle.wild_types.specs.declared.layout.Layout.{Layout}
use Rattle.wild_types.specs.Lookups.{canonical, has_address, files_of, file_of}

abbrev pub address_in_section : Layout → ℕ → Option InputSection → Option ℕ
address_in_section l value None = None
address_in_section l value (Some s) = if has_address l s then Some ((s.address + value) % 2 ^ 64) else None

abbrev pub address_in_file : Layout → ℕ → ℕ → Option File → Option ℕ
address_in_file l k value None = None
address_in_file l k value (Some f) = address_in_section l value (slice_get f.sections k)

abbrev pub address_at : Layout → ℕ → ℕ → Place → Option ℕ
address_at l i value (at.Section k) = address_in_file l k value (file_of (files_of l.groups) i)
address_at l i value other = None

-- the address of symbol i by its place: its value counted from the address of its input section
abbrev pub placed_value : Layout → ℕ → Option ℕ
placed_value l i = option_and_then (λ (s : Symbol). address_at l i s.value s.place) (slice_get l.symbols i)

abbrev pub resolved_or : Option ℕ → Option ℕ → Option ℕ
resolved_or (Some v) placed = Some v
resolved_or None placed = placed

-- the resolved value of the symbol's definition, else the address of the symbol's place
unfoldable pub raw_value : Layout → ℕ → Option ℕ
raw_value l i = resolved_or (option_and_then (λ (s : Symbol). option_map (λ r. r.raw_value) s.resolution) (slice_get l.symbols (canonical l i))) (placed_value l i)
