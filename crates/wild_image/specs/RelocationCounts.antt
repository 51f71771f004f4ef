-- Pairs of a section and a count, which may be added to the previous pair.
--   with_more join k n p     the count of pair p plus n, if `join` is set, p is of section k, and the sum is below 2^64
--   with_pair join ps x      the pairs with x: added to the last pair if with_more has a value, otherwise appended
--   with_pairs join ps xs    the pairs with each pair of xs in turn
use Rattle.std.specs.Prelude.{ℕ, ◌+◌, ◌-◌, ◌^◌, ◌==◌, ◌&&◌, Bool, nat_lt, if◌then◌else◌, List, [], ◌∷◌, ◌++◌, length, set, Option, None, Some, slice_get}

abbrev pub with_more : Bool → ℕ → ℕ → Option (ℕ × ℕ) → Option ℕ
with_more join k n None = None
with_more join k n (Some p) = if join && ((p.0 == k) && nat_lt (p.1 + n) (2 ^ 64)) then Some (p.1 + n) else None

-- the pairs with x appended, or with the last one's count replaced
abbrev pub put_pair : List (ℕ × ℕ) → ℕ × ℕ → Option ℕ → List (ℕ × ℕ)
put_pair ps x None = ps ++ x ∷ []
put_pair ps x (Some sum) = set ps (length ps - 1) (x.0, sum)

unfoldable pub with_pair : Bool → List (ℕ × ℕ) → ℕ × ℕ → List (ℕ × ℕ)
with_pair join ps x = put_pair ps x (with_more join x.0 x.1 (slice_get ps (length ps - 1)))

abbrev pub with_pairs : Bool → List (ℕ × ℕ) → List (ℕ × ℕ) → List (ℕ × ℕ)
with_pairs join ps [] = ps
with_pairs join ps (x ∷ xs) = with_pairs join (with_pair join ps x) xs
