-- The indexes of the symbols of a relocatable output in its `.symtab`.
--   HasIndexes l indexes   a table of these for all symbols, if the output is relocatable
use Rattle.std.specs.Prelude.{◌≡◌, ℕ, true, List, map, length, Option}
use Rattle.std.specs.List.{range_with_len}
use Rattle.wild_types.specs.declared.layout.Layout.{Layout}
use Rattle.wild_types.specs.Kinds.{is_partial_link}
use Rattle.wild_table_formats.specs.SectionSymbols.{symbol_index}

-- the table of these, if there is one
pub record HasIndexes (l : Layout) (indexes : List (Option ℕ)) : Type 0 where
  pub all : is_partial_link l.kind ≡ true → indexes ≡ map (symbol_index l) (range_with_len 0 (length l.symbols))
