-- The names of slots and stubs among a file's entries.
use Rattle.std.proofs.Common.{◌≡◌, ℕ, Bool, true, false, List, [], ◌∷◌, ◌++◌, map, refl}
use Rattle.wild_types.specs.declared.symbol.Symbol.{Symbol}
use Rattle.wild_needs.specs.declared.table.SymtabName.TheVariants as named
use Rattle.wild_types.specs.declared.file.File.{File}
use Rattle.wild_types.specs.declared.layout.Layout.{Layout}
use Rattle.wild_needs.specs.TableSymbols.{TableSymbol, item, item_if, item_name}
use Rattle.wild_types.specs.SymbolSlots.{names_slot, names_stub}
use Rattle.wild_table_formats.specs.TableEntries.{table_fields}
use Rattle.wild_symbols.specs.SlotNames.{local_entry, slot_entry, where_named, SlotNamesAreItems}

by_tests : (l : Layout) (f : File) (i : ℕ) (s : Symbol) (a b : Bool)
    → where_named a (slot_entry l i s named.Slot) ++ where_named b (slot_entry l i s named.Stub) ≡ map (λ (x : TableSymbol). local_entry (item_name x) (table_fields l f x)) (item_if a (item named.Slot i s) ++ item_if b (item named.Stub i s))
unfolding table_fields
by_tests l f i s true true = refl
by_tests l f i s true false = refl
by_tests l f i s false true = refl
by_tests l f i s false false = refl

pub slot_names_are : SlotNamesAreItems
slot_names_are l f i s = by_tests l f i s (names_slot l i s) (names_stub l i s)
