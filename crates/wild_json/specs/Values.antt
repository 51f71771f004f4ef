-- The data of a JSON value that borrows its texts (`json`), as `serde_json` defines it.
--   data_of j    the data of a value of the grammar; of two members with one name the last counts
--   has_data j   each number is in the range of floats; no other value is data (`of_json` of `serde_json`)
--   view v       the data of a value in memory
use Rattle.std.specs.Prelude.{ℕ, List, ◌&&◌, Bool, true, false, is_some, unwrap_or}
use Rattle.std.specs.Borrow.{Bor}
use Rattle.std.specs.declared.alloc.Global.{Global}
use Rattle.fast_float.specs.Text.{scan, nearest}
use Rattle.std.specs.Float.{binary64}
use Rattle.json.specs.Json as json
use Rattle.json.specs.Value.{value_view, items_view as json_items, members_view as json_members}
use Rattle.json.specs.declared.value.Value.{Value}
use Rattle.serde_json.specs.Data.{Num, float, Data, null, boolean, number, string, array, object, Items, no_items, item, Members, no_members, put}
use Rattle.serde_json.specs.Read.{number_of}

-- the number of a text; one that is out of range is the float nearest to it, which is infinite
abbrev pub number_in : List ℕ → Num
number_in s = unwrap_or (number_of s) (float (nearest binary64 false (scan s)))

abbrev mutual
  pub data_of : json.Json → Data
  data_of json.null = null
  data_of (json.boolean b) = boolean b
  data_of (json.number s) = number (number_in s)
  data_of (json.string s) = string s
  data_of (json.array js) = array (items_of js)
  data_of (json.object ms) = object (members_from ms no_members)

  pub items_of : json.Items → Items
  items_of json.no_items = no_items
  items_of (json.item j js) = item (data_of j) (items_of js)

  -- the members found before, and then these
  pub members_from : json.Members → Members → Members
  members_from json.no_members found = found
  members_from (json.member k j ms) found = members_from ms (put k (data_of j) found)

abbrev mutual
  pub has_data : json.Json → Bool
  has_data json.null = true
  has_data (json.boolean b) = true
  has_data (json.number s) = is_some (number_of s)
  has_data (json.string s) = true
  has_data (json.array js) = items_have_data js
  has_data (json.object ms) = members_have_data ms

  pub items_have_data : json.Items → Bool
  items_have_data json.no_items = true
  items_have_data (json.item j js) = has_data j && items_have_data js

  pub members_have_data : json.Members → Bool
  members_have_data json.no_members = true
  members_have_data (json.member k j ms) = has_data j && members_have_data ms

-- the data of a value in memory
abbrev pub view : Value Global → Data
view v = data_of (value_view v)

-- the data of values in memory
abbrev pub items_view : List (Value Global) → Items
items_view vs = items_of (json_items vs)

-- the data of members in memory
abbrev pub members_view : List (Bor (List ℕ) × Value Global) → Members
members_view ms = members_from (json_members ms) no_members
