-- What is data, and what is found in it.
use Rattle.std.proofs.Common.{◌≡◌, ℕ, List, [], ◌∷◌, ◌++◌, drop, Bool, true, false, cond, ◌&&◌, bytes_eq, is_eq, is_some, Option, Some, None, option_map, option_and_then, Bor, Vec, true≢false, refl, sym, ap, ◌∙◌}
use Rattle.std.specs.Prelude.{unwrap_or, if◌then◌else◌}
use Rattle.std.specs.Ordering.{nat_cmp, match_ordering}
use Rattle.std.specs.Cmp.Lexicographic.{slice_cmp}
use Rattle.std.specs.declared.alloc.Global.{Global}
use Rattle.std.proofs.lemmas.Slice.Eq.{bytes_eq-Decides}
use Rattle.json.specs.Json as json
use Rattle.json.specs.Find as json_find
use Rattle.json.specs.Value.{value_view, items_view as json_items, members_view as json_members}
use Rattle.json.specs.declared.value.Value.{Value, Array, Object}
use Rattle.json.proofs.Trees.{view-Array, view-Object}
use Rattle.serde_json.specs.Data.{Num, Data, null, boolean, number, string, array, object, Items, no_items, item, Members, no_members, member, put}
use Rattle.serde_json.specs.Find.{get, get_member, as_u64, as_i64, as_null, as_number, as_bool, as_str, as_array, as_object}
use Rattle.serde_json.specs.Read.{number_of, of_json, of_items, of_members}
use Rattle.serde_json.proofs.Views.{get_member-put, get_member-put_other}
use Rattle.wild_json.specs.Values.{number_in, data_of, items_of, members_from, has_data, items_have_data, members_have_data, view, items_view, members_view}

-- ---- a value is data where its numbers are in range

number_is : (o : Option Num) (f : Num) → option_map number o ≡ (if is_some o then Some (number (unwrap_or o f)) else None)
number_is None f = refl
number_is (Some n) f = refl

under : {A B : Type 0} (f : A → B) (b : Bool) (a : A) → option_map f (if b then Some a else None) ≡ (if b then Some (f a) else None)
under f true a = refl
under f false a = refl

both : (b c : Bool) (d : Data) (ds : Items) → option_and_then (λ e. option_map (item e) (if c then Some ds else None)) (if b then Some d else None) ≡ (if b && c then Some (item d ds) else None)
both true true d ds = refl
both true false d ds = refl
both false c d ds = refl

after : (b c : Bool) (d : Data) (f : Data → Option Members) (ms : Members) → f d ≡ (if c then Some ms else None) → option_and_then f (if b then Some d else None) ≡ (if b && c then Some ms else None)
after true c d f ms e = e
after false c d f ms e = refl

mutual
  of_json_is : (j : json.Json) → of_json j ≡ (if has_data j then Some (data_of j) else None)
  of_json_is json.null = refl
  of_json_is (json.boolean b) = refl
  of_json_is (json.number s) = number_is (number_of s) _
  of_json_is (json.string s) = refl
  of_json_is (json.array js) = ap (option_map array) (of_items_is js) ∙ under array (items_have_data js) (items_of js)
  of_json_is (json.object ms) = ap (option_map object) (of_members_is ms no_members) ∙ under object (members_have_data ms) (members_from ms no_members)

  of_items_is : (js : json.Items) → of_items js ≡ (if items_have_data js then Some (items_of js) else None)
  of_items_is json.no_items = refl
  of_items_is (json.item j js) = rw (of_json_is j, of_items_is js) (both (has_data j) (items_have_data js) (data_of j) (items_of js))

  of_members_is : (ms : json.Members) (found : Members) → of_members ms found ≡ (if members_have_data ms then Some (members_from ms found) else None)
  of_members_is json.no_members found = refl
  of_members_is (json.member k j ms) found = rw (of_json_is j) (after (has_data j) (members_have_data ms) (data_of j) (λ d. of_members ms (put k d found)) (members_from ms (put k (data_of j) found)) (of_members_is ms (put k (data_of j) found)))

pub is_data : (j : json.Json) → has_data j ≡ true → of_json j ≡ Some (data_of j)
is_data j e = of_json_is j ∙ ap (λ b. if b then Some (data_of j) else None) e

pub no_data : (j : json.Json) → has_data j ≡ false → of_json j ≡ None
no_data j e = of_json_is j ∙ ap (λ b. if b then Some (data_of j) else None) e

-- ---- kinds of values

pub null_is : (j : json.Json) → json_find.is_null j ≡ is_some (as_null (data_of j))
null_is json.null = refl
null_is (json.boolean b) = refl
null_is (json.number s) = refl
null_is (json.string s) = refl
null_is (json.array js) = refl
null_is (json.object ms) = refl

pub bool_is : (j : json.Json) → json_find.as_bool j ≡ as_bool (data_of j)
bool_is json.null = refl
bool_is (json.boolean b) = refl
bool_is (json.number s) = refl
bool_is (json.string s) = refl
bool_is (json.array js) = refl
bool_is (json.object ms) = refl

pub str_is : (j : json.Json) → json_find.as_str j ≡ as_str (data_of j)
str_is json.null = refl
str_is (json.boolean b) = refl
str_is (json.number s) = refl
str_is (json.string s) = refl
str_is (json.array js) = refl
str_is (json.object ms) = refl

pub as_number_is : (j : json.Json) → option_map number_in (json_find.as_number j) ≡ as_number (data_of j)
as_number_is json.null = refl
as_number_is (json.boolean b) = refl
as_number_is (json.number s) = refl
as_number_is (json.string s) = refl
as_number_is (json.array js) = refl
as_number_is (json.object ms) = refl

-- ---- numbers

unsigned_in : (o : Option Num) (f : Num) → as_u64 f ≡ None → option_and_then as_u64 o ≡ as_u64 (unwrap_or o f)
unsigned_in None f e = sym e
unsigned_in (Some n) f e = refl

signed_in : (o : Option Num) (f : Num) → as_i64 f ≡ None → option_and_then as_i64 o ≡ as_i64 (unwrap_or o f)
signed_in None f e = sym e
signed_in (Some n) f e = refl

pub unsigned_is : (j : json.Json) (s : List ℕ) → Some s ≡ json_find.as_number j → option_and_then as_u64 (number_of s) ≡ option_and_then as_u64 (as_number (data_of j))
unsigned_is j s e = unsigned_in (number_of s) _ refl ∙ ap (λ o. option_and_then as_u64 (option_map number_in o)) e ∙ ap (option_and_then as_u64) (as_number_is j)

pub signed_is : (j : json.Json) (s : List ℕ) → Some s ≡ json_find.as_number j → option_and_then as_i64 (number_of s) ≡ option_and_then as_i64 (as_number (data_of j))
signed_is j s e = signed_in (number_of s) _ refl ∙ ap (λ o. option_and_then as_i64 (option_map number_in o)) e ∙ ap (option_and_then as_i64) (as_number_is j)

pub no_number : (j : json.Json) → None ≡ json_find.as_number j → None ≡ as_number (data_of j)
no_number j e = ap (option_map number_in) e ∙ as_number_is j

-- ---- members by their names

abbrev later : Option Data → Option Data → Option Data
later None earlier = earlier
later (Some d) earlier = Some d

chosen : (b : Bool) (q k : List ℕ) (d : Data) (found : Members) → bytes_eq k q ≡ b → get_member q (put k d found) ≡ later (if b then Some d else None) (get_member q found)
chosen true q k d found e =
    let same : k ≡ q = (bytes_eq-Decides k q).0 e in
    rw same (get_member-put q d found)
chosen false q k d found e = get_member-put_other q k d found (λ h. true≢false (sym ((bytes_eq-Decides k q).1 (sym h)) ∙ e))

in_turn : (a b c : Option Data) → later a (later b c) ≡ later (later a b) c
in_turn None b c = refl
in_turn (Some d) b c = refl

mapped : (o : Option json.Json) (b : Bool) (j : json.Json) → later (option_map data_of o) (if b then Some (data_of j) else None) ≡ option_map data_of (json_find.later_or o (cond b (Some j) None))
mapped None true j = refl
mapped None false j = refl
mapped (Some i) b j = refl

found_in : (q : List ℕ) (ms : json.Members) (found : Members) → get_member q (members_from ms found) ≡ later (option_map data_of (json_find.get_member q ms)) (get_member q found)
found_in q json.no_members found = refl
found_in q (json.member k j ms) found =
    found_in q ms (put k (data_of j) found)
    ∙ ap (later (option_map data_of (json_find.get_member q ms))) (chosen (bytes_eq k q) q k (data_of j) found refl)
    ∙ in_turn (option_map data_of (json_find.get_member q ms)) (if bytes_eq k q then Some (data_of j) else None) (get_member q found)
    ∙ ap (λ o. later o (get_member q found)) (mapped (json_find.get_member q ms) (bytes_eq k q) j)

nothing_before : (o : Option Data) → later o None ≡ o
nothing_before None = refl
nothing_before (Some d) = refl

pub get_is : (q : List ℕ) (j : json.Json) → option_map data_of (json_find.get q j) ≡ get q (data_of j)
get_is q json.null = refl
get_is q (json.boolean b) = refl
get_is q (json.number s) = refl
get_is q (json.string s) = refl
get_is q (json.array js) = refl
get_is q (json.object ms) = sym (found_in q ms no_members ∙ nothing_before (option_map data_of (json_find.get_member q ms)))

pub of_found : (r : Option (Bor (Value Global))) → option_map (λ v. view v.now) r ≡ option_map data_of (option_map (λ v. value_view v.now) r)
of_found None = refl
of_found (Some v) = refl

-- ---- lists

pub view_array : (v : Vec (Value Global) Global) → view (Array v) ≡ array (items_view v.items)
view_array v = ap data_of (view-Array v)

pub view_object : (v : Vec (Bor (List ℕ) × Value Global) Global) → view (Object v) ≡ object (members_view v.items)
view_object v = ap data_of (view-Object v)
