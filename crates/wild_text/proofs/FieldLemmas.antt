-- What holds of the values that readers give, because it holds of each item or default.
use Rattle.std.proofs.Common.{◌≡◌, ℕ, ◌+◌, List, [], ◌∷◌, Result, Ok, Err, Option, Some, None, refl, subst, Bool, true, false, decimal}
use Rattle.std.specs.Prelude.{All, is_some}
use Rattle.std.proofs.lemmas.List.Elements.{All-nil, All-cons}
use Rattle.serde_json.specs.Data.{Data, Items, no_items, item}
use Rattle.serde_json.specs.Find.{get, as_array, as_null}
use Rattle.wild_text.specs.Reads.{◌>>=◌, in_member}
use Rattle.wild_text.specs.Values.{unless_null, nullable, items_from, all_items, list_in}
use Rattle.wild_text.specs.Members.{field, or_default}

-- a step that gave a value had one to start with
pub first_step : {A B : Type 0} (r : Result A (List ℕ)) (f : A → Result B (List ℕ)) (y : B) → r >>= f ≡ Ok y → (x : A) × (r ≡ Ok x) × (f x ≡ Ok y)
first_step (Ok x) f y e = (x, refl, e)
first_step (Err p) f y e = absurd cc

-- what is given is given once
pub given_same : {X : Type 0} (x y : X) → ◌≡◌ {A = Result X (List ℕ)} (Ok x) (Ok y) → x ≡ y
given_same x y e = cc

-- what a member encodes, its value encodes
pub above : {X : Type 0} (name : List ℕ) (r : Result X (List ℕ)) (x : X) → in_member name r ≡ Ok x → r ≡ Ok x
above name (Ok y) x e = e
above name (Err p) x e = absurd cc

-- ---- members

defaulted : {X : Type 0} (P : X → Type 0) (read : Data → Result X (List ℕ)) (default : X) → P default → ((d : Data) (x : X) → read d ≡ Ok x → P x)
    → (d : Option Data) (x : X) → or_default read default d ≡ Ok x → P x
defaulted P read default p each None x e =
    let same : default ≡ x = cc in
    subst P same p
defaulted P read default p each (Some d) x e = each d x e

pub field_given : {X : Type 0} (P : X → Type 0) (name : List ℕ) (read : Data → Result X (List ℕ)) (default : X) → P default → ((d : Data) (x : X) → read d ≡ Ok x → P x)
    → (d : Data) (x : X) → field name read default d ≡ Ok x → P x
field_given P name read default p each d x e = defaulted P read default p each (get name d) x (above name (or_default read default (get name d)) x e)

-- ---- lists

items_given : {X : Type 0} (P : X → Type 0) (read : Data → Result X (List ℕ)) → ((d : Data) (x : X) → read d ≡ Ok x → P x)
    → (i : ℕ) (ds : Items) (xs : List X) → items_from read i ds ≡ Ok xs → All P xs
items_given P read each i no_items xs e =
    let same : [] ≡ xs = cc in
    subst (λ (ys : List _). All P ys) same (All-nil P)
items_given P read each i (item d ds) xs e =
    let one = first_step (in_member (decimal i) (read d)) _ xs e in
    let rest = first_step (items_from read (i + 1) ds) _ xs one.2 in
    subst (λ (ys : List _). All P ys) (given_same (one.0 ∷ rest.0) xs rest.2) (All-cons P one.0 rest.0 (each d one.0 (above (decimal i) (read d) one.0 one.1)) (items_given P read each (i + 1) ds rest.0 rest.1))

all_given : {X : Type 0} (P : X → Type 0) (read : Data → Result X (List ℕ)) → ((d : Data) (x : X) → read d ≡ Ok x → P x)
    → (ds : Option Items) (xs : List X) → all_items read ds ≡ Ok xs → All P xs
all_given P read each None xs e = absurd cc
all_given P read each (Some ds) xs e = items_given P read each 0 ds xs e

pub list_given : {X : Type 0} (P : X → Type 0) (read : Data → Result X (List ℕ)) → ((d : Data) (x : X) → read d ≡ Ok x → P x)
    → (d : Data) (xs : List X) → list_in read d ≡ Ok xs → All P xs
list_given P read each d = all_given P read each (as_array d)

-- ---- values that may be null

unless_null_given : {X : Type 0} (P : X → Type 0) (r : Result X (List ℕ)) → ((x : X) → r ≡ Ok x → P x)
    → (null : Bool) (found : Option X) → unless_null null r ≡ Ok found → (x : X) → found ≡ Some x → P x
unless_null_given P r each true found e x is = absurd cc
unless_null_given P r each false found e x is =
    let read = first_step r _ found e in
    let same : read.0 ≡ x = cc in
    subst P same (each read.0 read.1)

pub nullable_given : {X : Type 0} (P : X → Type 0) (read : Data → Result X (List ℕ)) → ((d : Data) (x : X) → read d ≡ Ok x → P x)
    → (d : Data) (found : Option X) → nullable read d ≡ Ok found → (x : X) → found ≡ Some x → P x
nullable_given P read each d = unless_null_given P (read d) (each d) (is_some (as_null d))
