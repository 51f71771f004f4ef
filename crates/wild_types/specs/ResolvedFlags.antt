-- The flags of a resolution are those of its symbol.
--   HasItsFlags s       this holds for the symbol
--   HaveTheirFlags l    this holds for each symbol
use Rattle.std.specs.Prelude.{◌≡◌, Some, All}
use Rattle.wild_types.specs.declared.symbol.Resolution.{Resolution}
use Rattle.wild_types.specs.declared.symbol.Symbol.{Symbol}
use Rattle.wild_types.specs.declared.layout.Layout.{Layout}

abbrev pub HasItsFlags : Symbol → Type 0
HasItsFlags s = (r : Resolution) → s.resolution ≡ Some r → r.flags ≡ s.flags

abbrev pub HaveTheirFlags : Layout → Type 0
HaveTheirFlags l = All HasItsFlags l.symbols
