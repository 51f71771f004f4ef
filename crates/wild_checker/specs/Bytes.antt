-- Bytes that memory has in every world.
--   first_changed t a k bs    the first of bytes from an address on that memory does not have in every world
--   has_bytes t a bs          memory has these bytes in every world
--   changed_between t s n k  the same for the bytes of a section from offset n to offset k
use Rattle.std.specs.Prelude.{ℕ, ◌+◌, ◌==◌, Bool, true, false, not, if◌then◌else◌, nat_le, min, length, slice_range, List, [], ◌∷◌, Option, Some, None, is_some}
use Rattle.wild_types.specs.declared.input.InputRelocation.{InputRelocation}
use Rattle.wild_types.specs.declared.input.InputSection.{InputSection}
use Rattle.wild_types.specs.declared.kind.Machine.{Machine}
use Rattle.wild_types.specs.Rows.{field_bytes}
use Rattle.wild_terms.specs.Symbolic.{Symbolic, known_byte}

abbrev pub is_same : Option ℕ → ℕ → Bool
is_same None b = false
is_same (Some x) b = x == b

-- memory has the byte at an address in every world
abbrev pub is_byte : Symbolic → ℕ → ℕ → Bool
is_byte t a b = is_same (known_byte t a) b

-- the first of bytes from an address on that memory does not have in every world; offsets count from k
abbrev pub first_changed : Symbolic → ℕ → ℕ → List ℕ → Option ℕ
first_changed t a k [] = None
first_changed t a k (b ∷ bs) = if is_byte t (a + k) b then first_changed t a (k + 1) bs else Some k

-- memory has these bytes in every world
abbrev pub has_bytes : Symbolic → ℕ → List ℕ → Bool
has_bytes t a bs = not (is_some (first_changed t a 0 bs))

-- the end of a relocation's field
abbrev pub field_end : Machine → InputRelocation → ℕ
field_end m r = r.offset + field_bytes m r.number

-- each field starts at or after the end of the one before it
abbrev pub are_in_order : Machine → ℕ → List InputRelocation → Bool
are_in_order m n [] = true
are_in_order m n (r ∷ rs) = if nat_le n r.offset then are_in_order m (field_end m r) rs else false

-- the first changed byte between two offsets
abbrev pub changed_between : Symbolic → InputSection → ℕ → ℕ → Option ℕ
changed_between t s n to = first_changed t s.address n (slice_range s.bytes n (min to (length s.bytes)))
