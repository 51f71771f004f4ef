-- The symbols of the dynamic symbol table (gABI, "Symbol Table").
--   IsEntry table c p   entry p of a table is that of symbol c; entry 0 is the null symbol's
--   IsThere l d         an exported symbol is a symbol of the layout
--   AreExported l         each symbol's index is that of its entry, and each exported symbol is in the layout and has a name
use Rattle.std.specs.Prelude.{◌≡◌, ℕ, suc, List, Some, All, slice_get}
use Rattle.wild_types.specs.declared.symbol.Resolution.{Resolution}
use Rattle.wild_types.specs.declared.symbol.Symbol.{Symbol}
use Rattle.wild_types.specs.declared.layout.DynamicSymbol.{DynamicSymbol}
use Rattle.wild_types.specs.declared.layout.Layout.{Layout}
use Rattle.wild_needs.specs.DynamicSymbols.{dynamic_symbols}
use Rattle.wild_hashes.specs.Reading.{HasNoZero}

-- entry p of a table is that of symbol c; entry 0 is the null symbol's
abbrev pub IsEntry : List ℕ → ℕ → ℕ → Type 0
IsEntry table c p = (k : ℕ) × (p ≡ suc k) × (slice_get table k ≡ Some c)

-- an exported symbol is a symbol of the layout
abbrev pub IsThere : Layout → DynamicSymbol → Type 0
IsThere l d = (s : Symbol) × (slice_get l.symbols d.symbol ≡ Some s)

-- each symbol's index is that of its entry; each exported symbol is a symbol of the layout, and its name has no zero
pub record AreExported (l : Layout) : Type 0 where
  pub indexed : (c p : ℕ) (s : Symbol) (r : Resolution) → slice_get l.symbols c ≡ Some s → s.resolution ≡ Some r → r.dynamic_symbol_index ≡ Some p → IsEntry (dynamic_symbols l) c p
  pub there : All (IsThere l) l.dynsyms
  pub named : All (λ (d : DynamicSymbol). HasNoZero d.name) l.dynsyms
