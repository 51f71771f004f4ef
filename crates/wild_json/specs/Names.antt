-- Names of members.
--   unknown_name names d   the first member's name that is not among the names, in the order of bytes
use Rattle.std.specs.Prelude.{ℕ, List, map, if◌then◌else◌, Option, Some, None, option_and_then}
use Rattle.std.specs.Borrow.{Bor}
use Rattle.std.specs.List.{list_any}
use Rattle.std.specs.Str.{bytes_eq}
use Rattle.std.specs.Ordering.{nat_cmp, match_ordering}
use Rattle.std.specs.Cmp.Lexicographic.{slice_cmp}
use Rattle.serde_json.specs.Data.{Data, Members, no_members, member}
use Rattle.serde_json.specs.Find.{as_object}

-- the first of the members that are none of the names
abbrev pub first_unknown : List (List ℕ) → Members → Option (List ℕ)
first_unknown names no_members = None
first_unknown names (member k d ms) = if list_any (λ n. bytes_eq n k) names then first_unknown names ms else Some k

-- the name that comes first in the order of bytes, of two
abbrev pub earlier_name : Option (List ℕ) → List ℕ → List ℕ
earlier_name None name = name
earlier_name (Some least) name = match_ordering (slice_cmp nat_cmp name least) name least least

-- the first unknown name of those before, and of one more name
abbrev pub with_name : List (List ℕ) → List ℕ → Option (List ℕ) → Option (List ℕ)
with_name names name found = if list_any (λ n. bytes_eq n name) names then found else Some (earlier_name found name)

-- the same for a value; one that is no object has no members
abbrev pub unknown_name : List (List ℕ) → Data → Option (List ℕ)
unknown_name names d = option_and_then (first_unknown names) (as_object d)

-- names, in the form that the code has them
abbrev pub texts : List (Bor (List ℕ)) → List (List ℕ)
texts names = map (λ n. n.now) names
