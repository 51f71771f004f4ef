-- The rows of one relocation type.
use Rattle.std.specs.Prelude.{ℕ, ◌==◌, List}
use Rattle.std.specs.List.{filter}
use Rattle.wild_relax.specs.declared.row.Row.{Row}
use Rattle.wild_relax.specs.Rows.{rows_x86_64}

-- the rows of that type, in table order
unfoldable pub rows_with : ℕ → List Row
rows_with number = filter (λ (row : Row). number == row.number) rows_x86_64
