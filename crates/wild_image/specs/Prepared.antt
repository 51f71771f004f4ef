-- What the writers of all groups need of a layout, computed once.
--   HasGroupStarts l ss   for each group, the number of bytes that the groups before it write of each part
--   IsPrepared l p        p has all of it for that layout
use Rattle.std.specs.Prelude.{◌≡◌, ℕ, ◌<◌, List, [], length, slice_index_or}
use Rattle.wild_types.specs.declared.layout.Layout.{Layout}
use Rattle.wild_sections.specs.SymbolTables.{HasSymbolTables}
use Rattle.wild_contents.specs.SearchTable.{IsSearchTable}
use Rattle.wild_image.specs.Append.{HasStarts}
use Rattle.wild_image.specs.LayoutFacts.{AreFactsOf}
use Rattle.wild_image.specs.declared.prepared.Prepared.{Prepared}

-- for each group, the number of bytes that the groups before it write of each part
pub record HasGroupStarts (l : Layout) (starts : List (List ℕ)) : Type 0 where
  pub count : length starts ≡ length l.groups
  pub each : (j : ℕ) → j < length starts → HasStarts l j (slice_index_or starts j [])

pub record IsPrepared (l : Layout) (p : Prepared) : Type 0 where
  pub facts : AreFactsOf l p.facts
  pub symbols : HasSymbolTables l p.symbols
  pub table : IsSearchTable l p.table
  pub starts : HasGroupStarts l p.starts
