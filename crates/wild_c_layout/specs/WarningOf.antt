-- How a C struct says the first of the warnings about an image.
use Rattle.std.specs.Prelude.{ℕ, List, [], ◌∷◌}
use Rattle.wild_types.specs.declared.warning.EntryWarning.{EntryWarning}
use Rattle.wild_types.specs.declared.warning.EntryWarning.TheVariants as entry
use Rattle.wild_c_layout.specs.declared.warning.CWarning.{CWarning}

-- none; execution begins at the start of `.text`; `.text` is empty
abbrev pub warning_of : List EntryWarning → CWarning
warning_of [] = record { warning = 0; symbol = 0; address = 0 }
warning_of (entry.Defaulted symbol address ∷ ws) = record { warning = 1; symbol = symbol; address = address }
warning_of (entry.EmptyText symbol ∷ ws) = record { warning = 2; symbol = symbol; address = 0 }
