-- Places of fields.
use Rattle.std.specs.Prelude.{◌≡◌, ℕ, ◌+◌, ◌≤◌, ◌⊎◌}
use Rattle.wild_types.specs.declared.kind.Machine.{Machine}
use Rattle.wild_types.specs.declared.input.InputRelocation.{InputRelocation}
use Rattle.wild_types.specs.Rows.{field_bytes}

-- an empty part, or one that is within n bytes
abbrev pub LiesAt : ℕ → ℕ → ℕ → Type 0
LiesAt a w n = (w ≡ 0) ⊎ (a + w ≤ n)

-- the relocation is at offset base or after it, and writes no field, or one that ends within n bytes from base
abbrev pub FieldLiesFrom : Machine → ℕ → ℕ → InputRelocation → Type 0
FieldLiesFrom m base n r = (base ≤ r.offset) × ((field_bytes m r.number ≡ 0) ⊎ (r.offset + field_bytes m r.number ≤ base + n))
