-- Groups that need nothing but their input sections.
use Rattle.wild_image.proofs.Common.{◌≡◌, ℕ, zero, suc, ◌+◌, ◌<◌, ◌≤◌, inl, inr, Bool, true, false, List, [], ◌∷◌, length, get_or, refl, sym, ap, ◌∙◌, arith, subst, min, ◌-◌, ◌^◌, ◌&&◌, take, Ok, Some, slice_get, list_all, cases_Bool, cases_order, eqb-true, and_parts, get_or_from_slice_get, slice_get_within, Group, Layout, Part, Role, given, total, has_role, first_clause, flat_map_from, share_faults, part_faults, has_all}
use Rattle.std.proofs.lemmas.Bool.{le-ltb}
use Rattle.wild_types.specs.declared.part.Role.TheVariants as role
use Rattle.wild_geometry.proofs.ClauseLemmas.{NoneFails-from_first_clause, SharesHold-from_check}
use Rattle.wild_geometry.proofs.ShareLemmas.{size_from_shares}
use Rattle.wild_geometry.proofs.TableLemmas.{role_place-0}
use Rattle.wild_needs.specs.Needs.{group_share, needs_of, needs, has_no_dynamic_tables, group_needs_no_tables, inner_groups, inner_groups_need_no_tables}
use Rattle.wild_needs.proofs.NoTableLemmas.{bare_needs}
use Rattle.wild_layout.specs.Faults.{has_spare, share_errors}
use Rattle.wild_image.specs.Steps.{OthersHaveNone}

-- ---- what they need

zero_least : (n : ℕ) → n ≡ 0 → min (2 ^ 64 - 1) n ≡ 0
zero_least n e = rw e refl

need_none : (l : Layout) (r : Role) (i : ℕ) (g : Group) → given i g ≡ 0 → ((q : Role) → group_share l q g ≡ 0) → needs_of l r i g ≡ 0
need_none l role.Raw i g zero_is none = zero_is
need_none l other i g zero_is none = zero_least (group_share l other g) (none other)

needs_none : (l : Layout) (i j : ℕ) (p : Part) (g : Group) → slice_get l.parts i ≡ Some p → slice_get l.groups j ≡ Some g → given i g ≡ 0 → ((q : Role) → group_share l q g ≡ 0) → needs l i j ≡ 0
unfolding needs
needs_none l i j p g part group zero_is none = rw (part, group) (need_none l p.role i g zero_is none)

errors_none : (spare : Bool) (i j has needed : ℕ) → has ≡ 0 → needed ≡ 0 → share_errors spare i j has needed ≡ []
errors_none true i j has needed a b = rw (a, b) refl
errors_none false i j has needed a b = rw (a, b) refl

pub share_plain : (l : Layout) (i j : ℕ) (p : Part) (g : Group) → slice_get l.parts i ≡ Some p → slice_get l.groups j ≡ Some g → given i g ≡ 0 → ((q : Role) → group_share l q g ≡ 0) → share_faults l i p j g ≡ []
unfolding share_faults
share_plain l i j p g part group zero_is none = errors_none (has_spare p g) i j (given i g) (needs l i j) zero_is (needs_none l i j p g part group zero_is none)

-- a raw part needs what is given
same_none : (spare : Bool) (i j n : ℕ) → share_errors spare i j n n ≡ []
same_none spare i j n = let e = le-ltb n n (omega arith) in rw e refl

raw_needed : (l : Layout) (i j : ℕ) (p : Part) (g : Group) → slice_get l.parts i ≡ Some p → slice_get l.groups j ≡ Some g → p.role ≡ role.Raw → needs l i j ≡ given i g
unfolding needs
raw_needed l i j p g part group raw = rw (part, group, raw) refl

pub share_raw : (l : Layout) (i j : ℕ) (p : Part) (g : Group) → slice_get l.parts i ≡ Some p → slice_get l.groups j ≡ Some g → has_role role.Raw p ≡ true → share_faults l i p j g ≡ []
unfolding share_faults
share_raw l i j p g part group raw =
    ap (share_errors (has_spare p g) i j (given i g)) (raw_needed l i j p g part group (role_place-0 p.role (eqb-true _ _ raw))) ∙ same_none (has_spare p g) i j (given i g)

-- in an output that is bare inside the groups between the first and the last need nothing
front_at : {X : Type 0} (test : X → Bool) (xs : List X) (n i : ℕ) (x : X) → list_all test (take n xs) ≡ true → slice_get xs i ≡ Some x → i < n → test x ≡ true
front_at test [] n i x h e low = cc
front_at test (y ∷ ys) zero i x h e low = absurd (omega (arith, low))
front_at test (y ∷ ys) (suc n) zero x h e low = (let same : y ≡ x = cc in ap test (sym same) ∙ (and_parts (test y) (list_all test (take n ys)) h).0)
front_at test (y ∷ ys) (suc n) (suc i) x h e low = front_at test ys n i x (and_parts (test y) (list_all test (take n ys)) h).1 e (omega (arith, low))

inner_at : (gs : List Group) (j : ℕ) (g : Group) → list_all group_needs_no_tables (inner_groups gs) ≡ true → slice_get gs j ≡ Some g → 1 ≤ j → j < length gs - 1 → group_needs_no_tables g ≡ true
inner_at [] j g h e behind before = cc
inner_at (x ∷ ys) zero g h e behind before = absurd (omega (arith, behind))
inner_at (x ∷ ys) (suc j) g h e behind before = front_at group_needs_no_tables ys (length (x ∷ ys) - 1 - 1) j g h e (omega (arith, before))

pub inner_plain : (l : Layout) (j : ℕ) (g : Group) → inner_groups_need_no_tables l ≡ true → slice_get l.groups j ≡ Some g → 1 ≤ j → j < length l.groups - 1 → (r : Role) → group_share l r g ≡ 0
inner_plain l j g h e behind before =
    let p = and_parts (has_no_dynamic_tables l) (list_all group_needs_no_tables (inner_groups l.groups)) h in
    bare_needs l g true (sym (inner_at l.groups j g p.1 e behind before)) p.0 refl

-- where the first group is given all, the others are given nothing
none_of_none : {X : Type 0} (f : X → ℕ) (xs : List X) (j : ℕ) (x : X) → slice_get xs j ≡ Some x → total f xs ≡ 0 → f x ≡ 0
none_of_none f [] j x e none = cc
none_of_none f (y ∷ ys) zero x e none = (let same : y ≡ x = cc in let a = ap f same in omega (arith, a, none))
none_of_none f (y ∷ ys) (suc j) x e none = none_of_none f ys j x e (omega (arith, none))

none_behind_all : {X : Type 0} (f : X → ℕ) (xs : List X) (j size : ℕ) (first x : X) → slice_get xs 0 ≡ Some first → slice_get xs j ≡ Some x → 1 ≤ j → f first ≡ size → total f xs ≡ size → f x ≡ 0
none_behind_all f [] j size first x is e behind all sum = cc
none_behind_all f (y ∷ ys) zero size first x is e behind all sum = absurd (omega (arith, behind))
none_behind_all f (y ∷ ys) (suc j) size first x is e behind all sum = none_of_none f ys j x e (let same : y ≡ first = cc in let a = ap f same in omega (arith, a, all, sum))

sums_hold : (l : Layout) → first_clause l ≡ Ok tt → (i : ℕ) (p : Part) → slice_get l.parts i ≡ Some p → total (given i) l.groups ≡ p.size
sums_hold l h i p at =
    let sums = (SharesHold-from_check l (NoneFails-from_first_clause l h).shares).sums in
    size_from_shares l.groups 0 l.parts sums i i p (omega arith) (slice_get_within l.parts i p at) ∙ ap (λ (q : Part). q.size) (get_or_from_slice_get l.parts i p p at)

pub others_have_none : (l : Layout) (first : Group) → first_clause l ≡ Ok tt → slice_get l.groups 0 ≡ Some first → ((i : ℕ) (p : Part) → slice_get l.parts i ≡ Some p → has_all i p first ≡ true) → OthersHaveNone l
others_have_none l first h is all = λ i j p g part group behind raw.
    (let size : given i first ≡ p.size = eqb-true _ _ (rw raw at (all i p part)) in
    none_behind_all (given i) l.groups j p.size first g is group behind size (sums_hold l h i p part))

-- one more item
pub item_more : {X : Type 0} (F : ℕ → X → Type 0) (xs items : List X) (i : ℕ) (d : X) → items ≡ xs → i < length items → ((k : ℕ) (x : X) → k < i → slice_get xs k ≡ Some x → F k x) → F i (get_or items i d) → (k : ℕ) (x : X) → k < i + 1 → slice_get xs k ≡ Some x → F k x
item_more {X} F xs items i d same inside before here k x low at = elim (cases_order k i) [
  | inl e ↦
      (let there : get_or items k d ≡ x = ap (λ (ys : List X). get_or ys k d) same ∙ get_or_from_slice_get xs k x d at in
      subst (λ (y : X). F k y) there (subst (λ (n : ℕ). F n (get_or items n d)) (sym e) here))
  | inr (inl b) ↦ before k x b at
  | inr (inr c) ↦ absurd (omega (arith, c, low))
]

pub all_more : (l : Layout) (first : Group) (items : List Part) (i : ℕ) (d : Part) → items ≡ l.parts → i < length items → ((k : ℕ) (p : Part) → k < i → slice_get l.parts k ≡ Some p → has_all k p first ≡ true) → has_all i (get_or items i d) first ≡ true → (k : ℕ) (p : Part) → k < i + 1 → slice_get l.parts k ≡ Some p → has_all k p first ≡ true
all_more l first = item_more (λ k p. has_all k p first ≡ true) l.parts

-- no part of a group behind the first that needs nothing has a fault
pub others_plain : (l : Layout) (i j : ℕ) (p : Part) (g : Group) → slice_get l.parts i ≡ Some p → slice_get l.groups j ≡ Some g → OthersHaveNone l → 1 ≤ j → ((q : Role) → group_share l q g ≡ 0) → share_faults l i p j g ≡ []
others_plain l i j p g part group others behind none = elim (cases_Bool (has_role role.Raw p)) [
  | inl raw ↦ share_raw l i j p g part group raw
  | inr other ↦ share_plain l i j p g part group (others i j p g part group behind other) none
]

-- ---- no share has a fault

none_each : {X Y : Type 0} (f : ℕ → X → List Y) (n : ℕ) (xs : List X) → ((k m : ℕ) (x : X) → m ≡ n + k → slice_get xs k ≡ Some x → f m x ≡ []) → flat_map_from f n xs ≡ []
none_each f n [] h = refl
none_each f n (x ∷ xs) h =
    let a = h 0 n x (omega arith) refl in
    let b = none_each f (n + 1) xs (λ k m y e at. h (suc k) m y (omega arith) at) in
    rw (a, b) refl

pub shares_none : (l : Layout) → ((j : ℕ) (g : Group) → slice_get l.groups j ≡ Some g → (i : ℕ) (p : Part) → slice_get l.parts i ≡ Some p → share_faults l i p j g ≡ []) → flat_map_from (part_faults l) 0 l.parts ≡ []
unfolding part_faults
shares_none l h =
    none_each (part_faults l) 0 l.parts (λ i m p e at.
    none_each (share_faults l m p) 0 l.groups (λ j n g d found.
    (let x : m ≡ i = omega arith in let y : n ≡ j = omega arith in rw (x, y) (h j g found i p at))))

pub share_more : (l : Layout) (j : ℕ) (g : Group) (items : List Part) (i : ℕ) (d : Part) → items ≡ l.parts → i < length items → ((k : ℕ) (p : Part) → k < i → slice_get l.parts k ≡ Some p → share_faults l k p j g ≡ []) → share_faults l i (get_or items i d) j g ≡ [] → (k : ℕ) (p : Part) → k < i + 1 → slice_get l.parts k ≡ Some p → share_faults l k p j g ≡ []
share_more l j g = item_more (λ k p. share_faults l k p j g ≡ []) l.parts
