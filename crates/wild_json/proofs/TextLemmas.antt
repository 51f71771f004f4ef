-- The data of values in turn.
use Rattle.std.proofs.Common.{◌≡◌, ℕ, zero, suc, ◌-◌, ◌<◌, ◌≤◌, List, [], ◌∷◌, length, Bool, true, false, Option, Some, None, option_map, option_and_then, refl, ap, ◌∙◌}
use Rattle.json.specs.Token.{Token}
use Rattle.json.specs.Lex.{tokens}
use Rattle.json.specs.Json as json
use Rattle.json.specs.Json.{parse_map, after_end_array, read_key, value}
use Rattle.json.proofs.Grammar.{value-begin_array, value-begin_object, items_more, items_end, members_more, members_end}
use Rattle.json.specs.Value.{value_view}
use Rattle.json.specs.declared.value.Value.{Value}
use Rattle.std.specs.declared.alloc.Global.{Global}
use Rattle.serde_json.specs.Data.{Data, array, object, item, Members, no_members, put}
use Rattle.serde_json.specs.Read.{of_json, of_items, of_members, converted, read}
use Rattle.wild_json.specs.Values.{data_of, has_data, view}
use Rattle.wild_json.specs.Texts.{value_at, items_at, members_at, IsItemNext, IsArrayEnd, IsNameNext, IsObjectEnd}
use Rattle.wild_json.proofs.DataLemmas.{is_data, no_data}

pub value_read : (depth : ℕ) (ts r : List Token) (v : Value Global) → value depth ts ≡ Some (value_view v, r) → has_data (value_view v) ≡ true → value_at depth ts ≡ Some (view v, r)
unfolding value_at
value_read depth ts r v e h = rw (e, is_data (value_view v) h) refl

pub value_not_data : (depth : ℕ) (ts r : List Token) (v : Value Global) → value depth ts ≡ Some (value_view v, r) → has_data (value_view v) ≡ false → value_at depth ts ≡ None
unfolding value_at
value_not_data depth ts r v e h = rw (e, no_data (value_view v) h) refl

pub no_value : (depth : ℕ) (ts : List Token) → value depth ts ≡ None → value_at depth ts ≡ None
unfolding value_at
no_value depth ts e = rw e refl

-- ---- the whole text

abbrev pub whole : Option (json.Json × List Token) → Option Data
whole o = option_and_then of_json (option_and_then (λ p. json.if_last p.0 p.1) o)

abbrev pick : {A : Type 0} → A → Option A → A
pick d None = d
pick d (Some a) = a

found : {A B : Type 0} (a : A) (r s : List Token) (x : Option B) (b : B) → option_map {U = B × List Token} (λ y. (y, r)) x ≡ Some (b, s) → (r ≡ s) × (x ≡ Some b)
found a r s None b e = absurd cc
found a r s (Some y) b e = let same = ap (pick (y, r)) e in (ap (λ p. p.1) same, ap (λ p. Some p.0) same)

some_first : {A B : Type 0} (f : A → Option B) (o : Option (A × List Token)) (b : B) (r : List Token) → converted f o ≡ Some (b, r) → (a : A) × (o ≡ Some (a, r)) × (f a ≡ Some b)
some_first f None b r e = absurd cc
some_first f (Some p) b r e = let both = found p.0 p.1 r (f p.0) b e in (p.0, ap (λ s. Some (p.0, s)) both.0, both.1)

refused : {B : Type 0} (r : List Token) (x : Option B) → option_map {U = B × List Token} (λ y. (y, r)) x ≡ None → x ≡ None
refused r None e = refl
refused r (Some y) e = absurd cc

whole_read : (o : Option (json.Json × List Token)) (d : Data) → converted of_json o ≡ Some (d, []) → whole o ≡ Some d
whole_read o d e = let j = some_first of_json o d [] e in ap whole j.1 ∙ j.2

whole_and_more : (o : Option (json.Json × List Token)) (d : Data) (t : Token) (r : List Token) → converted of_json o ≡ Some (d, t ∷ r) → whole o ≡ None
whole_and_more o d t r e = ap whole (some_first of_json o d (t ∷ r) e).1

whole_refused : (o : Option (json.Json × List Token)) → converted of_json o ≡ None → whole o ≡ None
whole_refused None e = refl
whole_refused (Some (j, [])) e = refused [] (of_json j) e
whole_refused (Some (j, t ∷ r)) e = refl

pub text_read : (text : List ℕ) (d : Data) → value_at 127 (tokens text) ≡ Some (d, []) → read text ≡ Some d
unfolding value_at
text_read text d e = whole_read (value 127 (tokens text)) d e

pub text_refused : (text : List ℕ) → value_at 127 (tokens text) ≡ None → read text ≡ None
unfolding value_at
text_refused text e = whole_refused (value 127 (tokens text)) e

pub text_and_more : (text : List ℕ) (d : Data) (t : Token) (r : List Token) → value_at 127 (tokens text) ≡ Some (d, t ∷ r) → read text ≡ None
unfolding value_at
text_and_more text d t r e = whole_and_more (value 127 (tokens text)) d t r e

-- ---- items and members in turn

twice : {A B : Type 0} (g : A → B) (r : List Token) (x : Option A) → option_map (λ b. (b, r)) (option_map g x) ≡ parse_map g (option_map (λ a. (a, r)) x)
twice g r None = refl
twice g r (Some a) = refl

of_array : (o : Option (json.Items × List Token)) → converted of_json (parse_map json.array o) ≡ parse_map array (converted of_items o)
of_array None = refl
of_array (Some p) = twice array p.1 (of_items p.0)

of_object : (o : Option (json.Members × List Token)) → converted of_json (parse_map json.object o) ≡ parse_map object (converted (λ ms. of_members ms no_members) o)
of_object None = refl
of_object (Some p) = twice object p.1 (of_members p.0 no_members)

with_item : (j : json.Json) (d : Data) → of_json j ≡ Some d → (o : Option (json.Items × List Token)) → converted of_items (parse_map (json.item j) o) ≡ parse_map (item d) (converted of_items o)
with_item j d e None = refl
with_item j d e (Some p) = rw e (twice (item d) p.1 (of_items p.0))

with_member : (k : List ℕ) (j : json.Json) (d : Data) (old : Members) → of_json j ≡ Some d → (o : Option (json.Members × List Token))
    → converted (λ ms. of_members ms old) (parse_map (json.member k j) o) ≡ converted (λ ms. of_members ms (put k d old)) o
with_member k j d old e None = refl
with_member k j d old e (Some p) = rw e refl

pub array_opens : (depth : ℕ) (ts : List Token) → 0 < depth → value_at depth (Token.begin_array ∷ ts) ≡ parse_map array (items_at (length ts) (depth - 1) ts)
unfolding value_at items_at
array_opens depth ts h = ap (converted of_json) (value-begin_array depth ts h) ∙ of_array (json.items (value (depth - 1)) (length ts) ts)

pub object_opens : (depth : ℕ) (ts : List Token) → 0 < depth → value_at depth (Token.begin_object ∷ ts) ≡ parse_map object (members_at (length ts) (depth - 1) no_members ts)
unfolding value_at members_at
object_opens depth ts h = ap (converted of_json) (value-begin_object depth ts h) ∙ of_object (json.members (value (depth - 1)) (length ts) ts)

pub item_next : (depth : ℕ) (ts r : List Token) (d : Data) → after_end_array ts ≡ None → value_at depth ts ≡ Some (d, r) → IsItemNext depth ts d r
unfolding value_at items_at
item_next depth ts r d going e n some =
    let j = some_first of_json (value depth ts) d r e in
    ap (converted of_items) (items_more (value depth) n ts r j.0 some going j.1) ∙ with_item j.0 d j.2 _

pub array_end : (depth : ℕ) (ts r : List Token) → after_end_array ts ≡ Some r → IsArrayEnd depth ts r
unfolding items_at
array_end depth ts r e n enough = ap (converted of_items) (items_end (value depth) n ts r enough e)

pub name_next : (ts s : List Token) (k : List ℕ) → read_key ts ≡ Some (Some k, s) → IsNameNext ts k s
unfolding value_at members_at
name_next ts s k key n depth found d r some e =
    let j = some_first of_json (value depth s) d r e in
    ap (converted (λ ms. of_members ms found)) (members_more (value depth) n k ts s r j.0 some key j.1) ∙ with_member k j.0 d found j.2 _

pub object_end : (ts r : List Token) → read_key ts ≡ Some (None, r) → IsObjectEnd ts r
unfolding members_at
object_end ts r e n depth found enough = ap (converted (λ ms. of_members ms found)) (members_end (value depth) n ts r enough e)
