-- Offsets and sizes of relocations in memory, by index.
use Rattle.std.specs.Prelude.{ℕ, List, Option, None, false, slice_index_or}
use lib.IntN.{pos}
use Rattle.wild_types.specs.declared.input.InputRelocation.{InputRelocation}
use Rattle.wild_shards.specs.InOrder.{Rule}

abbrev pub nothing : InputRelocation
nothing = record { offset = 0; number = 0; symbol = None; addend = pos 0; malformed = false }

-- the relocation with that index
abbrev pub relocation_at : List InputRelocation → ℕ → InputRelocation
relocation_at rs i = slice_index_or rs i nothing

abbrev pub offset_in : List InputRelocation → ℕ → ℕ
offset_in rs i = (relocation_at rs i).offset

abbrev pub size_in : Rule → List InputRelocation → ℕ → Option ℕ
size_in rule rs i = rule.sized (relocation_at rs i)
