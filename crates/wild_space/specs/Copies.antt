-- A set of the symbols that are copied.
--   IsCopySet set ks    the set has exactly the numbers of the list
use Rattle.std.specs.Prelude.{◌≡◌, ℕ, List, nat_eq}
use Rattle.std.specs.HashSet.{HashSet, contains}
use Rattle.wild_space.specs.Order.{has}

-- the set has exactly the numbers of the list
abbrev pub IsCopySet : {S : Type 0} → HashSet ℕ S → List ℕ → Type 0
IsCopySet set ks = (k : ℕ) → contains nat_eq set k ≡ has ks k
