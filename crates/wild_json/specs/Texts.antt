-- The data that the tokens of a text begin with, and the tokens after it.
--   value_at depth ts             a value in which arrays and objects nest at most so deep
--   items_at n depth ts           the items of an array that is open, to its end; n bounds their number
--   members_at n depth found ts   the members of an object that is open, to its end, after those that were found
use Rattle.std.specs.Prelude.{◌≡◌, ◌-◌, ◌<◌, ◌≤◌, ℕ, List, length, Option, Some}
use Rattle.json.specs.Token.{Token}
use Rattle.json.specs.Json.{value, items, members, parse_map}
use Rattle.serde_json.specs.Data.{Data, array, object, Items, item, no_items, Members, no_members, put}
use Rattle.serde_json.specs.Read.{of_json, of_items, of_members, converted}

unfoldable pub value_at : ℕ → List Token → Option (Data × List Token)
value_at depth ts = converted of_json (value depth ts)

unfoldable pub items_at : ℕ → ℕ → List Token → Option (Items × List Token)
items_at n depth ts = converted of_items (items (value depth) n ts)

unfoldable pub members_at : ℕ → ℕ → Members → List Token → Option (Members × List Token)
members_at n depth found ts = converted (λ ms. of_members ms found) (members (value depth) n ts)

-- an array begins, and after its bracket are the new tokens
abbrev pub OpensArray : ℕ → List Token → List Token → Type 0
OpensArray depth old new = value_at depth old ≡ parse_map array (items_at (length new) (depth - 1) new)

-- an object begins, and after its brace are the new tokens
abbrev pub OpensObject : ℕ → List Token → List Token → Type 0
OpensObject depth old new = value_at depth old ≡ parse_map object (members_at (length new) (depth - 1) no_members new)

-- an item of that data is next
abbrev pub IsItemNext : ℕ → List Token → Data → List Token → Type 0
IsItemNext depth old d new = (n : ℕ) → 0 < n → items_at n depth old ≡ parse_map (item d) (items_at (n - 1) depth new)

-- the bracket at the end of an array is next
abbrev pub IsArrayEnd : ℕ → List Token → List Token → Type 0
IsArrayEnd depth old new = (n : ℕ) → length old ≤ n → items_at n depth old ≡ Some (no_items, new)

-- the name of a member is next, and then its value
abbrev pub IsNameNext : List Token → List ℕ → List Token → Type 0
IsNameNext old name new = (n depth : ℕ) (found : Members) (d : Data) (rest : List Token) → 0 < n → value_at depth new ≡ Some (d, rest)
    → members_at n depth found old ≡ members_at (n - 1) depth (put name d found) rest

-- the brace at the end of an object is next
abbrev pub IsObjectEnd : List Token → List Token → Type 0
IsObjectEnd old new = (n depth : ℕ) (found : Members) → length old ≤ n → members_at n depth found old ≡ Some (found, new)
