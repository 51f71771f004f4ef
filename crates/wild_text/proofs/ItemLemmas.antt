-- Reading items one after another, as a loop does.
use Rattle.std.proofs.Common.{◌≡◌, ℕ, ◌+◌, ◌<◌, ◌≤◌, List, [], ◌∷◌, ◌++◌, length, get_or, drop, Result, Ok, Err, refl, sym, ap, ◌∙◌, append_assoc, decimal, add-one, drop-cons, string_bytes}
use Rattle.std.proofs.Math.ListN.{drop_of_length-le}
use Rattle.std.proofs.lemmas.List.{append-nil}
use Rattle.serde_json.specs.Data.{Data, item}
use Rattle.std.specs.declared.alloc.Global.{Global}
use Rattle.json.specs.declared.value.Value.{Value}
use Rattle.wild_json.specs.Values.{view, items_view}
use Rattle.wild_text.specs.declared.fault.PlanFault.{PlanFault}
use Rattle.wild_text.specs.declared.fault.PlanFault.TheVariants as faults
use Rattle.wild_text.specs.Reads.{◌>>=◌, Fails, IsInMember}
use Rattle.wild_text.specs.Values.{items_from}

-- what was read before, and what is still read
abbrev pub with_front : {X : Type 0} → List X → Result (List X) (List ℕ) → Result (List X) (List ℕ)
with_front front read = read >>= λ xs. Ok (front ++ xs)

pub regroup : {X : Type 0} (front : List X) (x : X) (read : Result (List X) (List ℕ)) → with_front front (read >>= λ xs. Ok (x ∷ xs)) ≡ with_front (front ++ x ∷ []) read
regroup front x (Ok xs) = ap (λ (ys : List _). Ok ys) (sym (append_assoc front (x ∷ []) xs))
regroup front x (Err p) = refl

at_item : (vs : List (Value Global)) (i : ℕ) (d : Value Global) → i < length vs → items_view (drop i vs) ≡ item (view (get_or vs i d)) (items_view (drop (i + 1) vs))
at_item vs i d lt = rw (add-one, drop-cons vs i d) refl

pub goes_on : {X : Type 0} (read : Data → Result X (List ℕ)) (front : List X) (vs : List (Value Global)) (i : ℕ) (d : Value Global) (x : X) (total : Result (List X) (List ℕ)) → i < length vs → read (view (get_or vs i d)) ≡ Ok x
    → with_front front (items_from read i (items_view (drop i vs))) ≡ total → with_front (front ++ x ∷ []) (items_from read (i + 1) (items_view (drop (i + 1) vs))) ≡ total
goes_on read front vs i d x total lt h so_far =
    let one : with_front front (items_from read i (items_view (drop i vs))) ≡ with_front (front ++ x ∷ []) (items_from read (i + 1) (items_view (drop (i + 1) vs))) = rw (at_item vs i d lt, h) (regroup front x (items_from read (i + 1) (items_view (drop (i + 1) vs)))) in
    sym one ∙ so_far

-- a fault in an item is the list's, under its index
pub ends : {X : Type 0} (read : Data → Result X (List ℕ)) (inner fault : PlanFault) (front : List X) (vs : List (Value Global)) (i : ℕ) (d : Value Global) (total : Result (List X) (List ℕ)) → i < length vs → Fails inner (read (view (get_or vs i d))) → IsInMember (decimal i) inner fault
    → with_front front (items_from read i (items_view (drop i vs))) ≡ total → Fails fault total
ends read inner faults.OutOfMemory front vs i d total lt h u so_far = tt
ends read faults.OutOfMemory (faults.At path) front vs i d total lt h u so_far = absurd u
ends read (faults.At inner) (faults.At path) front vs i d total lt h u so_far =
    let failed : read (view (get_or vs i d)) ≡ Err (string_bytes inner) = h in
    let named : string_bytes path ≡ 47 ∷ (decimal i ++ string_bytes inner) = u in
    let one : with_front front (items_from read i (items_view (drop i vs))) ≡ Err (47 ∷ (decimal i ++ string_bytes inner)) = rw (at_item vs i d lt, failed) refl in
    sym so_far ∙ one ∙ ap (λ (p : List ℕ). Err p) (sym named)

pub is_done : {X : Type 0} (read : Data → Result X (List ℕ)) (front : List X) (vs : List (Value Global)) (i : ℕ) (total : Result (List X) (List ℕ)) → length vs ≤ i → with_front front (items_from read i (items_view (drop i vs))) ≡ total → total ≡ Ok front
is_done read front vs i total le so_far =
    let one : with_front front (items_from read i (items_view (drop i vs))) ≡ Ok front = rw (drop_of_length-le vs le) (ap (λ (xs : List _). Ok xs) (append-nil front)) in
    sym so_far ∙ one
