-- Symbols that another module's definition may replace.
--   DynamicIsReplaceable    a symbol of another module that is not copied
--   ExportedIsReplaceable   a library's own symbol that is visible and interposable
--   AnswersAreTaken         its value is then the world's answer, whatever that is
use Rattle.std.specs.Prelude.{◌≡◌, ℕ, true, false, None}
use Rattle.wild_types.specs.declared.kind.OutputKind.TheVariants as output
use Rattle.wild_types.specs.declared.symbol.Symbol.{Symbol}
use Rattle.wild_types.specs.declared.layout.Layout.{Layout}
use Rattle.wild_types.specs.Flags.{has_flag, dynamic, copy_relocation, export_dynamic, non_interposable}
use Rattle.wild_meaning.specs.Value.{IsSymbol, IsReplaceable, HasValue}
use Rattle.wild_meaning.specs.Worked.Shared.{shared_layout, shared_world}

-- a symbol of another module that is not copied into this one
abbrev pub DynamicIsReplaceable : Type 0
DynamicIsReplaceable = (l : Layout) (i : ℕ) (s : Symbol) → IsSymbol l i s → s.definition ≡ None → has_flag s.flags dynamic ≡ true → has_flag s.flags copy_relocation ≡ false → IsReplaceable l i true

-- a library's symbol that is visible and interposable (gABI, "Symbol Visibility": STV_DEFAULT)
abbrev pub ExportedIsReplaceable : Type 0
ExportedIsReplaceable = (l : Layout) (i : ℕ) (s : Symbol) → IsSymbol l i s → s.definition ≡ None → l.kind ≡ output.SharedObject → has_flag s.flags export_dynamic ≡ true → has_flag s.flags non_interposable ≡ false → IsReplaceable l i true

-- in a legal world such a symbol of the output has another module's address, not its own
pub record AnswersAreTaken : Type 0 where
  pub value : HasValue shared_layout shared_world 1 0x700010
  pub not_own : HasValue shared_layout shared_world 1 0x11110 → ⊥
