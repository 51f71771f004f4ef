-- What plain numbers and bytes of a C struct represent.
--   is_set n            the flag is set: it is not 0
--   present n           the number; none if it is the one that says so
--   present_bytes n bs  the bytes, if the flag is set
--   index n             an index in a list: the number itself
use Rattle.std.specs.Prelude.{ℕ, ◌-◌, ◌^◌, ◌==◌, Bool, not, if◌then◌else◌, List, Option, Some, None}

-- the number that says that there is none
abbrev pub absent : ℕ
absent = 2 ^ 64 - 1

abbrev pub is_set : ℕ → Bool
is_set n = not (n == 0)

abbrev pub present : ℕ → Option ℕ
present n = if n == absent then None else Some n

abbrev pub present_bytes : ℕ → List ℕ → Option (List ℕ)
present_bytes n bs = if is_set n then Some bs else None

-- an index in a list
abbrev pub index : ℕ → ℕ
index n = n
