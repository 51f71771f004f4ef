-- The properties of a layout's symbols, computed once.
--   HasSymbolTables l t   t has the properties of the symbols of that layout
use Rattle.std.specs.Prelude.{◌≡◌, true}
use Rattle.wild_types.specs.declared.layout.Layout.{Layout}
use Rattle.wild_table_formats.specs.DynamicFields.{named_sections}
use Rattle.wild_sections.specs.DefiningFiles.{HasDefiningFiles}
use Rattle.wild_sections.specs.Indexes.{HasIndexes}
use Rattle.wild_sections.specs.Strings.{all_ascend}
use Rattle.wild_sections.specs.SymbolFiles.{HasSymbolFiles}
use Rattle.wild_sections.specs.Targets.{HasTargets}
use Rattle.wild_sections.specs.Values.{HasValues}
use Rattle.wild_sections.specs.declared.values.SymbolTables.{SymbolTables}

-- the tables are those of the layout; `ascend` may be false although all strings ascend
pub record HasSymbolTables (l : Layout) (t : SymbolTables) : Type 0 where
  pub named : t.named ≡ named_sections l
  pub values : HasValues l t.values.items
  pub targets : HasTargets l t.targets.items
  pub symbol_files : HasSymbolFiles l t.symbol_files.items
  pub owners : HasDefiningFiles l t.owners.items
  pub indexes : HasIndexes l t.indexes.items
  pub ascend : t.ascend ≡ true → all_ascend l ≡ true
