-- Which symbol a C struct represents.
use Rattle.std.specs.Prelude.{ℕ, ◌==◌, if◌then◌else◌, Option, Some, None}
use Rattle.wild_types.specs.declared.symbol.Place.{Place}
use Rattle.wild_types.specs.declared.symbol.Place.TheVariants as place
use Rattle.wild_types.specs.declared.symbol.Resolution.{Resolution}
use Rattle.wild_types.specs.declared.symbol.Symbol.{Symbol}
use Rattle.wild_c_layout.specs.Values.{is_set, present}
use Rattle.wild_c_layout.specs.declared.symbol.CSymbol.{CSymbol}

-- where a symbol is defined: undefined, absolute, common, in an input section of its file, in an output section
abbrev pub place_of : ℕ → ℕ → Place
place_of n index =
    if n == 1 then place.Absolute
    else if n == 2 then place.Common
    else if n == 3 then place.Section index
    else if n == 4 then place.Output index
    else place.Undefined

-- the resolution of a symbol, if it has one; its flags are the symbol's
abbrev pub resolution_of : CSymbol → Option Resolution
resolution_of s = if is_set s.has_resolution
    then Some (record {
      raw_value = s.raw_value;
      flags = record { 0 = s.flags };
      dynamic_symbol_index = present s.dynamic_symbol_index;
      got_address = present s.got_address;
      plt_address = present s.plt_address;
    })
    else None

-- a symbol (gABI, "Symbol Table")
unfoldable pub symbol_of : CSymbol → Symbol
symbol_of s = record {
  name = s.name.now;
  definition = present s.definition;
  info = s.info;
  other = s.other;
  size = s.size;
  value = s.value;
  place = place_of s.place s.place_index;
  flags = record { 0 = s.flags };
  version = s.version;
  emit = is_set s.emit;
  resolution = resolution_of s;
}
