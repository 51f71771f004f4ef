-- Counts of what the parts of `.symtab` need for symbols (gABI, "Symbol Table", "String Table").
--   taken part x   1 for an entry or an index, if the symbol is of the part's side; for the strings, the bytes of its name
--   Counts a x b   a count grows by the amount that its part needs for a symbol, to at most 2^64 - 1
use Rattle.std.specs.Prelude.{◌≡◌, ℕ, ◌+◌, ◌-◌, ◌^◌, min, if◌then◌else◌}
use Rattle.wild_needs.specs.declared.table.TablePart.{TablePart}
use Rattle.wild_needs.specs.declared.table.TablePart.TheVariants.{Entries, Long, Strings}
use Rattle.wild_needs.specs.declared.table.Count.{Count}
use Rattle.wild_needs.specs.DynamicStrings.{text_room}
use Rattle.wild_needs.specs.TableSymbols.{TableSymbol, item_name, is_on_side}

-- 1 for an entry or an index, if the symbol is of the part's side; for the strings, the bytes of its name
abbrev pub taken : TablePart → TableSymbol → ℕ
taken (Entries local) x = if is_on_side local x then 1 else 0
taken (Long local) x = if is_on_side local x then 1 else 0
taken Strings x = text_room (item_name x)

-- a count grows by the amount that its part needs for a symbol
pub record Counts (a : Count) (x : TableSymbol) (b : Count) : Type 0 where
  pub added : b.sum ≡ min (2 ^ 64 - 1) (a.sum + taken a.part x)
  pub same : b.part ≡ a.part
