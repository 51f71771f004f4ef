-- The table of the values of all symbols.
use Rattle.std.specs.Prelude.{◌≡◌, ℕ, List, map, length, Option}
use Rattle.std.specs.List.{range_with_len}
use Rattle.wild_types.specs.declared.layout.Layout.{Layout}
use Rattle.wild_types.specs.Addresses.{raw_value}

pub record HasValues (l : Layout) (values : List (Option ℕ)) : Type 0 where
  pub all : values ≡ map (raw_value l) (range_with_len 0 (length l.symbols))
