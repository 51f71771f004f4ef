-- Outputs whose slots are all written.
--   SlotsAreWhole l   each file writes all words of its symbols' slots
--   HasWholeSlots l   in addition, slots are consecutive
use Rattle.std.specs.Prelude.{◌≡◌, None, All}
use Rattle.wild_types.specs.declared.file.File.{File}
use Rattle.wild_types.specs.declared.file.Group.{Group}
use Rattle.wild_types.specs.declared.symbol.Symbol.{Symbol}
use Rattle.wild_types.specs.declared.layout.Layout.{Layout}
use Rattle.wild_types.specs.FileSymbols.{own_symbols}
use Rattle.wild_slot.specs.SymbolWords.{slots_of}
use Rattle.wild_layout.specs.SlotOrder.{HasSlotsInOrder}

abbrev pub SlotsAreWhole : Layout → Type 0
SlotsAreWhole l = All (λ (g : Group). All (λ (f : File). All (λ (s : Symbol). (slots_of l s).fault ≡ None) (own_symbols l f)) g.files) l.groups

-- the slots and stubs of files are consecutive, and all of them are written
pub record HasWholeSlots (l : Layout) : Type 0 where
  pub order : HasSlotsInOrder l
  pub whole : SlotsAreWhole l
