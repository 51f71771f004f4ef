-- The order is breadth first, and a name that is reported as missing is missing.
use Rattle.std.proofs.Common.{◌≡◌, ℕ, zero, suc, ◌+◌, ◌<◌, ◌≤◌, List, [], ◌∷◌, ◌++◌, length, take, get_or, refl, sym, ap, ◌∙◌, arith, subst, inl, inr, true, false}
use Rattle.std.specs.Prelude.{Option, Some, None, Result, Ok, Err, bytes_eq, slice_get, nat_eq, All}
use Rattle.std.specs.List.{IsDistinct}
use Rattle.std.proofs.lemmas.Cmp.{nat_eq_equiv}
use Rattle.std.proofs.lemmas.Bool.{cases_Bool, cases_lt, or_cases, or_left, or_right, eqb-true, eq-eqb}
use Rattle.std.proofs.lemmas.List.{append_assoc, append-nil, take_more, take-append-le, take_all, length-append, get_or_append_left, get_or_push}
use Rattle.std.proofs.lemmas.List.Elements.{All-nil, All-cons}
use Rattle.std.proofs.lemmas.List.Folds.{list_any-append}
use Rattle.std.proofs.lemmas.Map.Keys.{IsDistinct-push}
use Rattle.std.proofs.lemmas.Map.Steps.{length-le_from_distinct_below}
use Rattle.std.proofs.lemmas.Option.{slice_get_within, get_or_from_slice_get, slice_get_cases}
use Rattle.wild_hashes.specs.declared.fault.ImageFault.{ImageFault}
use Rattle.wild_hashes.specs.declared.tables.ImageTables.{ImageTables}
use Rattle.wild_hashes.specs.ImageTables.{image_tables, text_at}
use Rattle.wild_imports.specs.Imports.{needed_offsets}
use Rattle.wild_space.specs.declared.fault.BindFault.{BindFault}
use Rattle.wild_space.specs.declared.fault.BindFault.TheVariants as faults
use Rattle.wild_space.specs.declared.image.NamedImage.{NamedImage}
use Rattle.wild_space.specs.Given.{◌>>=◌, Fails, known, look}
use Rattle.wild_space.specs.Names.{named_from, named}
use Rattle.wild_space.specs.Order.{bytes_at, tables_of, target, has, with_image, with_targets, with_needed, with_next, walk, order_of}
use Rattle.wild_space.specs.OrderLaws.{targets_from, targets, all_targets, tables_after, firsts_after, firsts, IsReached, OrdersAreReached, IsMissing, OrdersAreBreadthFirst, OrdersAreShort, MissingIsMissing}
use Rattle.wild_space.proofs.Loops.{named_before}

-- ---- what entries need

record Needs (xs : List NamedImage) (i : ℕ) (t : ImageTables) (k : ℕ) (ats order more : List ℕ) : Type 0 where
  all : List ℕ
  are : targets_from xs i t k ats ≡ Ok all
  is : more ≡ firsts_after order all

targets_needed : (xs : List NamedImage) (i : ℕ) (t : ImageTables) (k : ℕ) (ats order more : List ℕ) → with_targets xs i t k ats order ≡ Ok more → Needs xs i t k ats order more
unfolding with_targets targets_from
targets_needed xs i t k [] order more h = record { all = []; are = refl; is = (let e : order ≡ more = cc in sym e) }
targets_needed xs i t k (at ∷ ats) order more h = by_target (λ (j : ℕ). targets_needed xs i t (k + 1) ats (with_image order j) more) (target xs i t k at) refl h
  where
    by_target : ((j : ℕ) → with_targets xs i t (k + 1) ats (with_image order j) ≡ Ok more → Needs xs i t (k + 1) ats (with_image order j) more) → (r : Result ℕ BindFault) → target xs i t k at ≡ r → (r >>= λ j. with_targets xs i t (k + 1) ats (with_image order j)) ≡ Ok more → Needs xs i t k (at ∷ ats) order more
    by_target further (Err e) is h = (let no : ⊥ = cc in absurd no)
    by_target further (Ok j) is h = (let r = further j h in record { all = j ∷ r.all; are = rw (is, r.are) refl; is = r.is })

-- ---- lists of firsts

firsts_append : (order vs bs : List ℕ) → firsts_after order (vs ++ bs) ≡ firsts_after (firsts_after order vs) bs
firsts_append order [] bs = refl
firsts_append order (a ∷ vs) bs = firsts_append (with_image order a) vs bs

record Extends (order more : List ℕ) : Type 0 where
  rest : List ℕ
  is : more ≡ order ++ rest

extends_with_image : (order : List ℕ) (j : ℕ) → Extends order (with_image order j)
extends_with_image order j =
    elim (cases_Bool (has order j)) [
      | inl t ↦ record { rest = []; is = rw t (sym (append-nil order)) }
      | inr f ↦ record { rest = j ∷ []; is = rw f refl }
    ]

extends : (order js : List ℕ) → Extends order (firsts_after order js)
extends order [] = record { rest = []; is = sym (append-nil order) }
extends order (j ∷ js) =
    let a = extends_with_image order j in
    let b = extends (with_image order j) js in
    record { rest = a.rest ++ b.rest; is = b.is ∙ ap (λ (t : List ℕ). t ++ b.rest) a.is ∙ append_assoc order a.rest b.rest }

all_append : (xs : List NamedImage) (is js vs bs : List ℕ) → all_targets xs is ≡ Ok vs → all_targets xs js ≡ Ok bs → all_targets xs (is ++ js) ≡ Ok (vs ++ bs)
unfolding all_targets
all_append xs [] js vs bs h g = (let e : [] ≡ vs = cc in g ∙ ap (λ (t : List ℕ). Ok (t ++ bs)) e)
all_append xs (i ∷ is) js vs bs h g = by_targets (λ (u : List ℕ) (e : all_targets xs is ≡ Ok u). all_append xs is js u bs e g) (targets xs i) refl h
  where
    by_rest : ((u : List ℕ) → all_targets xs is ≡ Ok u → all_targets xs (is ++ js) ≡ Ok (u ++ bs)) → (t u : List ℕ) → all_targets xs is ≡ Ok u → t ++ u ≡ vs → targets xs i ≡ Ok t → all_targets xs ((i ∷ is) ++ js) ≡ Ok (vs ++ bs)
    by_rest further t u rest whole own = rw (own, further u rest) (ap (λ (q : List ℕ). Ok q) (sym (append_assoc t u bs) ∙ ap (λ (q : List ℕ). q ++ bs) whole))

    by_all : ((u : List ℕ) → all_targets xs is ≡ Ok u → all_targets xs (is ++ js) ≡ Ok (u ++ bs)) → (t : List ℕ) (r : Result (List ℕ) BindFault) → all_targets xs is ≡ r → targets xs i ≡ Ok t → (r >>= λ rest. Ok (t ++ rest)) ≡ Ok vs → all_targets xs ((i ∷ is) ++ js) ≡ Ok (vs ++ bs)
    by_all further t (Err e) is own h = (let no : ⊥ = cc in absurd no)
    by_all further t (Ok u) is own h = (let whole : t ++ u ≡ vs = cc in by_rest further t u is whole own)

    by_targets : ((u : List ℕ) → all_targets xs is ≡ Ok u → all_targets xs (is ++ js) ≡ Ok (u ++ bs)) → (t : Result (List ℕ) BindFault) → targets xs i ≡ t → (t >>= λ own. all_targets xs is >>= λ rest. Ok (own ++ rest)) ≡ Ok vs → all_targets xs ((i ∷ is) ++ js) ≡ Ok (vs ++ bs)
    by_targets further (Err e) own h = (let no : ⊥ = cc in absurd no)
    by_targets further (Ok t) own h = by_all further t (all_targets xs is) refl own h

-- ---- no image twice

record Kept (n : ℕ) (order : List ℕ) : Type 0 where
  distinct : IsDistinct nat_eq order
  below : (q : ℕ) → has order q ≡ true → q < n

one : (j q : ℕ) → has (j ∷ []) q ≡ true → q ≡ j
one j q h =
    elim (or_cases (nat_eq q j) false h) [
      | inl t ↦ eqb-true q j t
      | inr f ↦ (let no : ⊥ = cc in absurd no)
    ]

has_push : (order : List ℕ) (j q : ℕ) → has (order ++ j ∷ []) q ≡ true → (has order q ≡ false → q ≡ j)
has_push order j q h f =
    elim (or_cases (has order q) (has (j ∷ []) q) (sym (list_any-append (nat_eq q) order (j ∷ [])) ∙ h)) [
      | inl t ↦ (let no : true ≡ false = sym t ∙ f in cc)
      | inr t ↦ one j q t
    ]

kept_with_image : (n : ℕ) (order : List ℕ) (j : ℕ) → j < n → Kept n order → Kept n (with_image order j)
kept_with_image n order j lt kept =
    elim (cases_Bool (has order j)) [
      | inl t ↦ rw t kept
      | inr f ↦ rw f (record {
        distinct = IsDistinct-push nat_eq_equiv order j kept.distinct f;
        below = λ q h. elim (cases_Bool (has order q)) [
          | inl t ↦ kept.below q t
          | inr g ↦ (let e : q ≡ j = has_push order j q h g in omega (arith, e, lt))
        ];
      })
    ]

target_below : (xs : List NamedImage) (i : ℕ) (t : ImageTables) (k at j : ℕ) → target xs i t k at ≡ Ok j → j < length xs
unfolding target
target_below xs i t k at j h = by_text (text_at (bytes_at xs i) t at) h
  where
    by_named : (name : List ℕ) (o : Option ℕ) → named xs name ≡ o → known o (faults.Missing i k) ≡ Ok j → j < length xs
    by_named name None is h = (let no : ⊥ = cc in absurd no)
    by_named name (Some p) is h = (let e : p ≡ j = cc in let b = named_before xs 0 name p is in omega (arith, e, b))

    by_text : (r : Result (List ℕ) ImageFault) → (look i r >>= λ name. known (named xs name) (faults.Missing i k)) ≡ Ok j → j < length xs
    by_text (Err e) h = (let no : ⊥ = cc in absurd no)
    by_text (Ok name) h = by_named name (named xs name) refl h

targets_kept : (xs : List NamedImage) (i : ℕ) (t : ImageTables) (k : ℕ) (ats order more : List ℕ) → with_targets xs i t k ats order ≡ Ok more → Kept (length xs) order → Kept (length xs) more
unfolding with_targets
targets_kept xs i t k [] order more h kept = (let e : order ≡ more = cc in subst (Kept (length xs)) e kept)
targets_kept xs i t k (at ∷ ats) order more h kept = by_target (λ (j : ℕ). targets_kept xs i t (k + 1) ats (with_image order j) more) (target xs i t k at) refl h
  where
    by_target : ((j : ℕ) → with_targets xs i t (k + 1) ats (with_image order j) ≡ Ok more → Kept (length xs) (with_image order j) → Kept (length xs) more) → (r : Result ℕ BindFault) → target xs i t k at ≡ r → (r >>= λ j. with_targets xs i t (k + 1) ats (with_image order j)) ≡ Ok more → Kept (length xs) more
    by_target further (Err e) is h = (let no : ⊥ = cc in absurd no)
    by_target further (Ok j) is h = further j h (kept_with_image (length xs) order j (target_below xs i t k at j is) kept)

-- what an image needs, and the order with it
record NeedsAll (xs : List NamedImage) (i : ℕ) (order more : List ℕ) : Type 0 where
  all : List ℕ
  are : targets xs i ≡ Ok all
  is : more ≡ firsts_after order all
  kept : Kept (length xs) order → Kept (length xs) more

image_needs : (xs : List NamedImage) (i : ℕ) (order more : List ℕ) → with_needed xs i order ≡ Ok more → NeedsAll xs i order more
unfolding with_needed targets
image_needs xs i order more h = by_tables (tables_of xs i) refl h
  where
    by_tables : (r : Result ImageTables BindFault) → tables_of xs i ≡ r → (r >>= λ t. with_targets xs i t 0 (needed_offsets (bytes_at xs i) t) order) ≡ Ok more → NeedsAll xs i order more
    by_tables (Err e) is h = (let no : ⊥ = cc in absurd no)
    by_tables (Ok t) is h =
        let n = targets_needed xs i t 0 (needed_offsets (bytes_at xs i) t) order more h in
        record { all = n.all; are = rw is n.are; is = n.is; kept = targets_kept xs i t 0 (needed_offsets (bytes_at xs i) t) order more h }

-- ---- each is needed

same_number : (j : ℕ) (js : List ℕ) → has (j ∷ js) j ≡ true
same_number j js = or_left (nat_eq j j) (has js j) (eq-eqb j j refl)

-- a number after an order is among the numbers that were added
new_needed : (order js : List ℕ) (r : ℕ) → length order ≤ r → r < length (firsts_after order js) → has js (get_or (firsts_after order js) r 0) ≡ true
new_needed order [] r from to = absurd (omega (arith, from, to))
new_needed order (j ∷ js) r from to =
    elim (cases_Bool (has order j)) [
      | inl t ↦ (
          let same : with_image order j ≡ order = rw t refl in
          let P : List ℕ → Type 0 = λ q. r < length (firsts_after q js) → has (j ∷ js) (get_or (firsts_after q js) r 0) ≡ true in
          let here : P order = λ l. or_right (nat_eq (get_or (firsts_after order js) r 0) j) (has js (get_or (firsts_after order js) r 0)) (new_needed order js r from l) in
          subst P (sym same) here to)
      | inr f ↦ (
          let same : with_image order j ≡ order ++ j ∷ [] = rw f refl in
          let P : List ℕ → Type 0 = λ q. r < length (firsts_after q js) → has (j ∷ js) (get_or (firsts_after q js) r 0) ≡ true in
          let long = length-append order (j ∷ []) in
          let here : P (order ++ j ∷ []) = λ l. elim (cases_lt (length order) r) [
            | inl after ↦ or_right (nat_eq (get_or (firsts_after (order ++ j ∷ []) js) r 0) j) (has js (get_or (firsts_after (order ++ j ∷ []) js) r 0)) (new_needed (order ++ j ∷ []) js r (omega (arith, after, long)) l)
            | inr at ↦ (
                let x = extends (order ++ j ∷ []) js in
                let place : length order ≡ r = omega (arith, from, at) in
                let read : get_or (firsts_after (order ++ j ∷ []) js) r 0 ≡ j = ap (λ (q : List ℕ). get_or q r 0) x.is ∙ get_or_append_left (order ++ j ∷ []) x.rest 0 r (omega (arith, place, long)) ∙ get_or_push order j 0 r place in
                subst (λ q. has (j ∷ js) q ≡ true) (sym read) (same_number j js))
          ] in
          subst P (sym same) here to)
    ]

-- ---- the walk

-- the order so far, with what the images before place p need
record SoFar (xs : List NamedImage) (p : ℕ) (order : List ℕ) : Type 0 where
  all : List ℕ
  are : all_targets xs (take p order) ≡ Ok all
  is : order ≡ firsts (0 ∷ all)
  kept : Kept (length xs) order
  reached : (r : ℕ) → 1 ≤ r → r < length order → IsReached xs order r

reached_longer : (xs : List NamedImage) (order rest more : List ℕ) (r : ℕ) → more ≡ order ++ rest → r < length order → IsReached xs order r → IsReached xs more r
reached_longer xs order rest more r is lt h =
    let b = h.before in
    let source : get_or more h.place 0 ≡ get_or order h.place 0 = ap (λ (q : List ℕ). get_or q h.place 0) is ∙ get_or_append_left order rest 0 h.place (omega (arith, b, lt)) in
    let goal : get_or more r 0 ≡ get_or order r 0 = ap (λ (q : List ℕ). get_or q r 0) is ∙ get_or_append_left order rest 0 r lt in
    record {
      place = h.place;
      before = h.before;
      needed = h.needed;
      are = ap (targets xs) source ∙ h.are;
      has_it = ap (has h.needed) goal ∙ h.has_it;
    }

one_target : (xs : List NamedImage) (i : ℕ) (ts : List ℕ) → targets xs i ≡ Ok ts → all_targets xs (i ∷ []) ≡ Ok ts
unfolding all_targets
one_target xs i ts h = rw h (ap (λ (q : List ℕ). Ok q) (append-nil ts))

so_far_needed : (xs : List NamedImage) (p i : ℕ) (order more : List ℕ) → slice_get order p ≡ Some i → with_needed xs i order ≡ Ok more → SoFar xs p order → SoFar xs (p + 1) more
so_far_needed xs p i order more here h s =
    let a = image_needs xs i order more h in
    let x = extends order a.all in
    let inside : p < length order = slice_get_within order p i here in
    let read : get_or order p 0 ≡ i = get_or_from_slice_get order p i 0 here in
    let front : take (p + 1) more ≡ take p order ++ i ∷ [] =
    ap (λ (t : List ℕ). take (p + 1) t) (a.is ∙ x.is) ∙ take-append-le (p + 1) order x.rest (omega (arith, inside)) ∙ take_more order p 0 inside ∙ ap (λ (q : ℕ). take p order ++ q ∷ []) read in
    record {
      all = s.all ++ a.all;
      are = ap (all_targets xs) front ∙ all_append xs (take p order) (i ∷ []) s.all a.all s.are (one_target xs i a.all a.are);
      is = a.is ∙ ap (λ (t : List ℕ). firsts_after t a.all) s.is ∙ sym (firsts_append [] (0 ∷ s.all) a.all);
      kept = a.kept s.kept;
      reached = λ r some lt. elim (cases_lt r (length order)) [
        | inl old ↦ reached_longer xs order x.rest more r (a.is ∙ x.is) old (s.reached r some old)
        | inr new ↦ record {
          place = p;
          before = omega (arith, inside, new);
          needed = a.all;
          are = ap (targets xs) (ap (λ (q : List ℕ). get_or q p 0) (a.is ∙ x.is) ∙ get_or_append_left order x.rest 0 p inside ∙ read) ∙ a.are;
          has_it = subst (λ (q : List ℕ). has a.all (get_or q r 0) ≡ true) (sym a.is) (new_needed order a.all r new (subst (λ (q : List ℕ). r < length q) a.is lt));
        }
      ];
    }

so_far_past : (xs : List NamedImage) (p : ℕ) (order : List ℕ) → length order ≤ p → SoFar xs p order → SoFar xs (p + 1) order
so_far_past xs p order h s =
    let e : take (p + 1) order ≡ take p order = take_all (p + 1) order (omega (arith, h)) ∙ sym (take_all p order h) in
    record { all = s.all; are = ap (all_targets xs) e ∙ s.are; is = s.is; kept = s.kept; reached = s.reached }

past : (order : List ℕ) (p : ℕ) → slice_get order p ≡ None → length order ≤ p
past order p none =
    elim (slice_get_cases order p).1 [
      | inl s ↦ (let no : Some s.0 ≡ None = sym s.2 ∙ none in cc)
      | inr b ↦ b.0
    ]

walk_so_far : (xs : List NamedImage) (left p : ℕ) (order o : List ℕ) → walk xs left p order ≡ Ok o → SoFar xs p order → SoFar xs (p + left) o
unfolding walk
walk_so_far xs zero p order o h s = (let e : order ≡ o = cc in let n : p ≡ p + 0 = omega arith in subst (λ q. SoFar xs q o) n (subst (SoFar xs p) e s))
walk_so_far xs (suc left) p order o h s =
    let n : p + 1 + left ≡ p + suc left = omega arith in
    subst (λ q. SoFar xs q o) n (by_place (λ (more : List ℕ). walk_so_far xs left (p + 1) more o) (slice_get order p) refl h)
  where
    Further : Type 0
    Further = (more : List ℕ) → walk xs left (p + 1) more ≡ Ok o → SoFar xs (p + 1) more → SoFar xs (p + 1 + left) o

    by_needed : Further → (i : ℕ) (r : Result (List ℕ) BindFault) → slice_get order p ≡ Some i → with_needed xs i order ≡ r → (r >>= λ more. walk xs left (p + 1) more) ≡ Ok o → SoFar xs (p + 1 + left) o
    by_needed further i (Err e) here is h = (let no : ⊥ = cc in absurd no)
    by_needed further i (Ok more) here is h = further more h (so_far_needed xs p i order more here is s)

    by_place : Further → (q : Option ℕ) → slice_get order p ≡ q → (with_next xs order q >>= λ more. walk xs left (p + 1) more) ≡ Ok o → SoFar xs (p + 1 + left) o
    by_place further None none h = further order h (so_far_past xs p order (past order p none) s)
    by_place further (Some i) here h = by_needed further i (with_needed xs i order) here refl h

start : (xs : List NamedImage) → 1 ≤ length xs → SoFar xs 0 (0 ∷ [])
unfolding all_targets IsDistinct
start xs some = record {
  all = [];
  are = refl;
  is = refl;
  kept = record { distinct = (tt, tt); below = λ q h. (let e = one 0 q h in omega (arith, e, some)) };
  reached = λ r one lt. absurd (omega (arith, one, lt));
}

whole : (xs : List NamedImage) (order : List ℕ) → 1 ≤ length xs → order_of xs ≡ Ok order → SoFar xs (length xs) order
unfolding order_of
whole xs order some h = (let n : 0 + length xs ≡ length xs = omega arith in subst (λ q. SoFar xs q order) n (walk_so_far xs (length xs) 0 (0 ∷ []) order h (start xs some)))

pub orders_short : OrdersAreShort
orders_short = λ xs order some h.
    let s = whole xs order some h in
    record { distinct = s.kept.distinct; few = length-le_from_distinct_below order (length xs) s.kept.distinct s.kept.below }

pub orders_breadth_first : OrdersAreBreadthFirst
orders_breadth_first = λ xs order some h.
    let s = whole xs order some h in
    let few = (orders_short xs order some h).few in
    record { needed = s.all; are = ap (all_targets xs) (sym (take_all (length xs) order few)) ∙ s.are; is = s.is }

-- image 0 is in each order
pub order_some : (xs : List NamedImage) (order : List ℕ) → 1 ≤ length xs → order_of xs ≡ Ok order → 1 ≤ length order
order_some xs order some h =
    let b = orders_breadth_first xs order some h in
    let x = extends (0 ∷ []) b.needed in
    let e : order ≡ 0 ∷ x.rest = b.is ∙ x.is in
    let l : length order ≡ suc (length x.rest) = ap length e in
    omega (arith, l)

pub orders_reached : OrdersAreReached
orders_reached = λ xs order some h. (whole xs order some h).reached

-- ---- what is missing

named_none : (xs : List NamedImage) (i : ℕ) (name : List ℕ) → named_from i xs name ≡ None → All (λ (x : NamedImage). bytes_eq x.name name ≡ false) xs
unfolding named_from
named_none [] i name h = All-nil (λ (x : NamedImage). bytes_eq x.name name ≡ false)
named_none (x ∷ xs) i name h =
    elim (cases_Bool (bytes_eq x.name name)) [
      | inl t ↦ (let e : Some i ≡ None = rw t at h in let no : ⊥ = cc in absurd no)
      | inr f ↦ All-cons (λ (y : NamedImage). bytes_eq y.name name ≡ false) x xs f (named_none xs (i + 1) name (rw f at h))
    ]

-- among entries of image i, of which the first has number k, one has a name that no image has
record Vain (xs : List NamedImage) (i : ℕ) (t : ImageTables) (k : ℕ) (ats : List ℕ) (image needed : ℕ) : Type 0 where
  same : image ≡ i
  place : ℕ
  number : needed ≡ k + place
  at : ℕ
  entry : slice_get ats place ≡ Some at
  name : List ℕ
  text : text_at (bytes_at xs i) t at ≡ Ok name
  none : named xs name ≡ None

record VainHere (xs : List NamedImage) (i : ℕ) (t : ImageTables) (k at image needed : ℕ) : Type 0 where
  same : image ≡ i
  number : needed ≡ k
  name : List ℕ
  text : text_at (bytes_at xs i) t at ≡ Ok name
  none : named xs name ≡ None

target_vain : (xs : List NamedImage) (i : ℕ) (t : ImageTables) (k at image needed : ℕ) → target xs i t k at ≡ Err (faults.Missing image needed) → VainHere xs i t k at image needed
unfolding target
target_vain xs i t k at image needed h = by_text (text_at (bytes_at xs i) t at) refl h
  where
    by_named : (name : List ℕ) (o : Option ℕ) → text_at (bytes_at xs i) t at ≡ Ok name → named xs name ≡ o → known o (faults.Missing i k) ≡ Err (faults.Missing image needed) → VainHere xs i t k at image needed
    by_named name None text is h = record { same = (let e : i ≡ image = cc in sym e); number = (let e : k ≡ needed = cc in sym e); name = name; text = text; none = is }
    by_named name (Some p) text is h = (let no : ⊥ = cc in absurd no)

    by_text : (r : Result (List ℕ) ImageFault) → text_at (bytes_at xs i) t at ≡ r → (look i r >>= λ name. known (named xs name) (faults.Missing i k)) ≡ Err (faults.Missing image needed) → VainHere xs i t k at image needed
    by_text (Err e) text h = (let no : ⊥ = cc in absurd no)
    by_text (Ok name) text h = by_named name (named xs name) text refl h

targets_vain : (xs : List NamedImage) (i : ℕ) (t : ImageTables) (k : ℕ) (ats order : List ℕ) (image needed : ℕ) → with_targets xs i t k ats order ≡ Err (faults.Missing image needed) → Vain xs i t k ats image needed
unfolding with_targets
targets_vain xs i t k [] order image needed h = (let no : ⊥ = cc in absurd no)
targets_vain xs i t k (at ∷ ats) order image needed h = by_target (λ (j : ℕ). targets_vain xs i t (k + 1) ats (with_image order j) image needed) (target xs i t k at) refl h
  where
    by_target : ((j : ℕ) → with_targets xs i t (k + 1) ats (with_image order j) ≡ Err (faults.Missing image needed) → Vain xs i t (k + 1) ats image needed) → (r : Result ℕ BindFault) → target xs i t k at ≡ r → (r >>= λ j. with_targets xs i t (k + 1) ats (with_image order j)) ≡ Err (faults.Missing image needed) → Vain xs i t k (at ∷ ats) image needed
    by_target further (Err e) is h =
        let same : e ≡ faults.Missing image needed = cc in
        let v = target_vain xs i t k at image needed (is ∙ ap (λ (f : BindFault). Err f) same) in
        let n = v.number in
        record { same = v.same; place = 0; number = omega (arith, n); at = at; entry = refl; name = v.name; text = v.text; none = v.none }
    by_target further (Ok j) is h =
        let v = further j h in
        let n = v.number in
        record { same = v.same; place = suc v.place; number = omega (arith, n); at = v.at; entry = v.entry; name = v.name; text = v.text; none = v.none }

missing_at : (xs : List NamedImage) (i : ℕ) (t : ImageTables) (image needed : ℕ) → tables_of xs i ≡ Ok t → Vain xs i t 0 (needed_offsets (bytes_at xs i) t) image needed → IsMissing xs image needed
missing_at xs i t image needed opened v =
    let P : ℕ → Type 0 = λ q. IsMissing xs q needed in
    let n = v.number in
    let place : v.place ≡ needed = omega (arith, n) in
    let here : IsMissing xs i needed = record { tables = t; opened = opened; at = v.at; entry = subst (λ q. slice_get (needed_offsets (bytes_at xs i) t) q ≡ Some v.at) place v.entry; name = v.name; text = v.text; none = named_none xs 0 v.name v.none } in
    subst P (sym v.same) here

-- where the tables of an image are never is the fault of a missing name
tables_never : (xs : List NamedImage) (i image needed : ℕ) → tables_of xs i ≡ Err (faults.Missing image needed) → ⊥
unfolding tables_of
tables_never xs i image needed h = by_look (image_tables (bytes_at xs i)) h
  where
    by_look : (r : Result ImageTables ImageFault) → look i r ≡ Err (faults.Missing image needed) → ⊥
    by_look (Ok t) h = cc
    by_look (Err e) h = cc

needed_vain : (xs : List NamedImage) (i : ℕ) (order : List ℕ) (image needed : ℕ) → with_needed xs i order ≡ Err (faults.Missing image needed) → IsMissing xs image needed
unfolding with_needed
needed_vain xs i order image needed h = by_tables (tables_of xs i) refl h
  where
    by_tables : (r : Result ImageTables BindFault) → tables_of xs i ≡ r → (r >>= λ t. with_targets xs i t 0 (needed_offsets (bytes_at xs i) t) order) ≡ Err (faults.Missing image needed) → IsMissing xs image needed
    by_tables (Err e) is h = (let same : e ≡ faults.Missing image needed = cc in absurd (tables_never xs i image needed (is ∙ ap (λ (f : BindFault). Err f) same)))
    by_tables (Ok t) is h = missing_at xs i t image needed is (targets_vain xs i t 0 (needed_offsets (bytes_at xs i) t) order image needed h)

walk_vain : (xs : List NamedImage) (left p : ℕ) (order : List ℕ) (image needed : ℕ) → walk xs left p order ≡ Err (faults.Missing image needed) → IsMissing xs image needed
unfolding walk
walk_vain xs zero p order image needed h = (let no : ⊥ = cc in absurd no)
walk_vain xs (suc left) p order image needed h = by_place (λ (more : List ℕ). walk_vain xs left (p + 1) more image needed) (slice_get order p) h
  where
    Further : Type 0
    Further = (more : List ℕ) → walk xs left (p + 1) more ≡ Err (faults.Missing image needed) → IsMissing xs image needed

    by_needed : Further → (i : ℕ) (r : Result (List ℕ) BindFault) → with_needed xs i order ≡ r → (r >>= λ more. walk xs left (p + 1) more) ≡ Err (faults.Missing image needed) → IsMissing xs image needed
    by_needed further i (Err e) is h =
        let same : e ≡ faults.Missing image needed = cc in
        needed_vain xs i order image needed (is ∙ ap (λ (f : BindFault). Err f) same)
    by_needed further i (Ok more) is h = further more h

    by_place : Further → (q : Option ℕ) → (with_next xs order q >>= λ more. walk xs left (p + 1) more) ≡ Err (faults.Missing image needed) → IsMissing xs image needed
    by_place further None h = further order h
    by_place further (Some i) h = by_needed further i (with_needed xs i order) refl h

pub missing_missing : MissingIsMissing
unfolding order_of
missing_missing = λ xs i k h. walk_vain xs (length xs) 0 (0 ∷ []) i k h

-- ---- the tables of an order

record Opened (xs : List NamedImage) (js : List ℕ) (ts : List ImageTables) : Type 0 where
  all : List ImageTables
  are : tables_after xs js ts ≡ Ok all

opened : (xs : List NamedImage) (js : List ℕ) (ts : List ImageTables) (needed : List ℕ) → all_targets xs js ≡ Ok needed → Opened xs js ts
unfolding all_targets targets tables_after
opened xs [] ts needed h = record { all = ts; are = refl }
opened xs (j ∷ js) ts needed h = by_tables (λ (t : ImageTables) (others : List ℕ). opened xs js (ts ++ t ∷ []) others) (tables_of xs j) refl h
  where
    Further : Type 0
    Further = (t : ImageTables) (others : List ℕ) → all_targets xs js ≡ Ok others → Opened xs js (ts ++ t ∷ [])

    by_rest : Further → (t : ImageTables) → tables_of xs j ≡ Ok t → (r : Result (List ℕ) BindFault) → all_targets xs js ≡ r → (own : List ℕ) → (r >>= λ rest. Ok (own ++ rest)) ≡ Ok needed → Opened xs (j ∷ js) ts
    by_rest further t is (Err e) rest own h = (let no : ⊥ = cc in absurd no)
    by_rest further t is (Ok others) rest own h = (let o = further t others rest in record { all = o.all; are = rw is o.are })

    by_targets : Further → (t : ImageTables) → tables_of xs j ≡ Ok t → (r : Result (List ℕ) BindFault) → (r >>= λ own. all_targets xs js >>= λ rest. Ok (own ++ rest)) ≡ Ok needed → Opened xs (j ∷ js) ts
    by_targets further t is (Err e) h = (let no : ⊥ = cc in absurd no)
    by_targets further t is (Ok own) h = by_rest further t is (all_targets xs js) refl own h

    by_tables : Further → (r : Result ImageTables BindFault) → tables_of xs j ≡ r → ((r >>= λ t. targets_from xs j t 0 (needed_offsets (bytes_at xs j) t)) >>= λ own. all_targets xs js >>= λ rest. Ok (own ++ rest)) ≡ Ok needed → Opened xs (j ∷ js) ts
    by_tables further (Err e) is h = (let no : ⊥ = cc in absurd no)
    by_tables further (Ok t) is h = by_targets further t is (targets_from xs j t 0 (needed_offsets (bytes_at xs j) t)) h

-- each image of an order has tables
pub order_has_tables : (xs : List NamedImage) (order : List ℕ) (e : BindFault) → 1 ≤ length xs → order_of xs ≡ Ok order → tables_after xs order [] ≡ Err e → ⊥
order_has_tables xs order e some is h =
    let b = orders_breadth_first xs order some is in
    let o = opened xs order [] b.needed b.are in
    let no : Err e ≡ Ok o.all = sym h ∙ o.are in
    cc

-- so reading them fails only if memory runs out
pub only_memory : (xs : List NamedImage) (order : List ℕ) (e : BindFault) → 1 ≤ length xs → order_of xs ≡ Ok order → Fails e (tables_after xs order []) → e ≡ faults.OutOfMemory
only_memory xs order (faults.Load i f) some is h = absurd (order_has_tables xs order (faults.Load i f) some is h)
only_memory xs order (faults.LookUp i f) some is h = absurd (order_has_tables xs order (faults.LookUp i f) some is h)
only_memory xs order (faults.Missing i k) some is h = absurd (order_has_tables xs order (faults.Missing i k) some is h)
only_memory xs order (faults.CopyInLibrary i k) some is h = absurd (order_has_tables xs order (faults.CopyInLibrary i k) some is h)
only_memory xs order (faults.Undefined i k) some is h = absurd (order_has_tables xs order (faults.Undefined i k) some is h)
only_memory xs order (faults.NoAnswer v) some is h = absurd (order_has_tables xs order (faults.NoAnswer v) some is h)
only_memory xs order (faults.Overlap a) some is h = absurd (order_has_tables xs order (faults.Overlap a) some is h)
only_memory xs order faults.OutOfMemory some is h = refl
