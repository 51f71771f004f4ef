-- The instruction of a word: that of the first form that matches.
--   read w   the instruction
use Rattle.std.specs.Prelude.{ℕ, if◌then◌else◌, List, [], ◌∷◌, Option, Some, None}
use Rattle.wild_aarch64.specs.declared.code.Code.{Code}
use Rattle.wild_aarch64.specs.Immediate.{immediate}
use Rattle.wild_aarch64.specs.Slice.{Form, has_fixed_bits}
use Rattle.wild_aarch64.specs.Forms.{addresses, accesses, vector_accesses, literals, transfers, conditions}

-- the instruction of a word: that of the first form that matches
abbrev pub read_by : List Form → ℕ → Option Code
read_by [] w = None
read_by (f ∷ fs) w = if has_fixed_bits f.fixed w then Some (f.code w (immediate f.field w)) else read_by fs w

abbrev pub or_else : Option Code → Option Code → Option Code
or_else (Some c) other = Some c
or_else None other = other

unfoldable pub read_address : ℕ → Option Code
read_address w = read_by addresses w

unfoldable pub read_access : ℕ → Option Code
read_access w = read_by accesses w

unfoldable pub read_vector_access : ℕ → Option Code
read_vector_access w = read_by vector_accesses w

unfoldable pub read_literal : ℕ → Option Code
read_literal w = read_by literals w

unfoldable pub read_transfer : ℕ → Option Code
read_transfer w = read_by transfers w

unfoldable pub read_condition : ℕ → Option Code
read_condition w = read_by conditions w

-- the instruction of a word
unfoldable pub read : ℕ → Option Code
read w = or_else (read_address w) (or_else (read_access w) (or_else (read_vector_access w) (or_else (read_literal w) (or_else (read_transfer w) (read_condition w)))))
