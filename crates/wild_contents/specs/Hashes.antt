-- The number of undefined dynamic symbols.
--   symbol_undefined role s    1 for such a symbol, else 0; file_undefined, group_undefined: the number in a file, in a group
use Rattle.std.specs.Prelude.{ℕ, if◌then◌else◌}
use Rattle.wild_types.specs.declared.symbol.Symbol.{Symbol}
use Rattle.wild_types.specs.declared.file.FileRole.{FileRole}
use Rattle.wild_types.specs.declared.file.File.{File}
use Rattle.wild_types.specs.declared.file.Group.{Group}
use Rattle.wild_types.specs.declared.layout.Layout.{Layout}
use Rattle.wild_types.specs.FileSymbols.{range_of}
use Rattle.wild_needs.specs.DynamicSymbols.{is_undefined_entry}
use Rattle.wild_types.specs.Lists.{total}

-- 1 for an undefined dynamic symbol of a file of that role
abbrev pub symbol_undefined : FileRole → Symbol → ℕ
symbol_undefined role s = if is_undefined_entry role s then 1 else 0

-- the number in a file
abbrev pub file_undefined : Layout → File → ℕ
file_undefined l f = total (symbol_undefined f.role) (range_of l.symbols f)

-- the number in a group
abbrev pub group_undefined : Layout → Group → ℕ
group_undefined l g = total (file_undefined l) g.files
