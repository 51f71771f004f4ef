-- Relocations in order of their offsets, and the CIE at an offset.
use Rattle.std.proofs.Common.{◌≡◌, ℕ, zero, suc, ◌+◌, ◌<◌, ◌≤◌, inl, inr, Bool, true, false, List, [], ◌∷◌, length, take, drop, get_or, All, AllPairs, Some, None, refl, ap, sym, ◌∙◌, arith, subst}
use Rattle.std.specs.Prelude.{nat_lt, nat_le, ◌==◌}
use Rattle.std.specs.List.{filter}
use Rattle.std.specs.List.Sorted.{IsPartitionedBy, IsPartitionPoint}
use Rattle.std.proofs.lemmas.Bool.{cases_Bool, cases_lt, le-leb, lt-ltb, ltb-true}
use Rattle.std.proofs.lemmas.Bool.Decides.{nat_tests}
use Rattle.std.proofs.lemmas.List.Elements.{All-nil, All-cons, All-head, All-tail, filter-append}
use Rattle.std.proofs.lemmas.List.{take_more, drop_more, drop_all, take-append-drop, append-nil, get_or_default}
use Rattle.wild_types.specs.declared.input.InputRelocation.{InputRelocation}
use Rattle.wild_frames.specs.declared.entry.Cie.{Cie}
use Rattle.wild_frames.specs.Frames.{unsorted_in, cie_at}
use Rattle.wild_frames.specs.Walks.{IsSorted}

-- in order: each at or behind the reach
pub at_reach : (m : ℕ) (rs : List InputRelocation) → unsorted_in m rs ≡ None → All (λ r. m ≤ r.offset) rs
unfolding unsorted_in
at_reach m [] h = All-nil (λ r. m ≤ r.offset)
at_reach m (r ∷ rs) h =
    elim (cases_lt r.offset m) [
      | inl lt ↦ (let t : nat_lt r.offset m ≡ true = lt-ltb r.offset m lt in let g = rw t at h in cc)
      | inr le ↦
          (let f : nat_lt r.offset m ≡ false = grind (arith, nat_tests) in
          let g = rw f at h in
          All-cons (λ x. m ≤ x.offset) r rs le (λ k d l. let a = at_reach r.offset rs g k d l in omega arith))
    ]

pub sorted_tail : (m : ℕ) (r : InputRelocation) (rs : List InputRelocation) → unsorted_in m (r ∷ rs) ≡ None → unsorted_in r.offset rs ≡ None
unfolding unsorted_in
sorted_tail m r rs h =
    elim (cases_Bool (nat_lt r.offset m)) [
      | inl t ↦ (let g = rw t at h in cc)
      | inr f ↦ rw f at h
    ]

pub sorted_drop : (i : ℕ) (rs : List InputRelocation) → IsSorted rs → IsSorted (drop i rs)
sorted_drop zero rs s = s
sorted_drop (suc i) [] s = s
sorted_drop (suc i) (r ∷ rs) s = sorted_drop i rs (record { reach = r.offset; none = sorted_tail s.reach r rs s.none })

-- all stand before an offset
pub record Before (end : ℕ) (xs : List InputRelocation) : Type 0 where
  pub own : filter (λ r. nat_lt r.offset end) xs ≡ xs
  pub behind : filter (λ r. nat_le end r.offset) xs ≡ []

pub before_none : (end : ℕ) (xs : List InputRelocation) → Before end (take 0 xs)
before_none end xs = record { own = refl; behind = refl }

pub before_more : (end i : ℕ) (xs : List InputRelocation) (x : InputRelocation) → i < length xs → (get_or xs i x).offset < end → Before end (take i xs) → Before end (take (i + 1) xs)
before_more end i xs x l h b =
    let y = get_or xs i x in
    let t : nat_lt y.offset end ≡ true = lt-ltb y.offset end h in
    let f : nat_le end y.offset ≡ false = grind (arith, nat_tests) in
    let e = take_more xs i x l in
    rw e (record {
      own = rw (filter-append (λ r. nat_lt r.offset end) (take i xs) (y ∷ []), b.own, t) refl;
      behind = rw (filter-append (λ r. nat_le end r.offset) (take i xs) (y ∷ []), b.behind, f) refl;
    })

none_before : (end : ℕ) (xs : List InputRelocation) → All (λ r. end ≤ r.offset) xs → filter (λ r. nat_lt r.offset end) xs ≡ []
none_before end [] a = refl
none_before end (x ∷ xs) a =
    let h = All-head (λ r. end ≤ r.offset) x xs a in
    let f : nat_lt x.offset end ≡ false = grind (arith, nat_tests) in
    rw f (none_before end xs (All-tail (λ r. end ≤ r.offset) x xs a))

pub all_behind : (end : ℕ) (xs : List InputRelocation) → All (λ r. end ≤ r.offset) xs → filter (λ r. nat_le end r.offset) xs ≡ xs
all_behind end [] a = refl
all_behind end (x ∷ xs) a =
    let t : nat_le end x.offset ≡ true = le-leb end x.offset (All-head (λ r. end ≤ r.offset) x xs a) in
    rw t (ap (λ ys. x ∷ ys) (all_behind end xs (All-tail (λ r. end ≤ r.offset) x xs a)))

-- a list in order is cut where an offset is reached
pub record Cut (end i : ℕ) (xs : List InputRelocation) : Type 0 where
  pub own : take i xs ≡ filter (λ r. nat_lt r.offset end) xs
  pub behind : drop i xs ≡ filter (λ r. nat_le end r.offset) xs

cut_all : (end i : ℕ) (xs : List InputRelocation) → Before end (take i xs) → All (λ r. end ≤ r.offset) (drop i xs) → Cut end i xs
cut_all end i xs b a =
    let j = take-append-drop i xs in
    let e = sym (ap (filter (λ r. nat_lt r.offset end)) j) ∙ filter-append (λ r. nat_lt r.offset end) (take i xs) (drop i xs) in
    let g = sym (ap (filter (λ r. nat_le end r.offset)) j) ∙ filter-append (λ r. nat_le end r.offset) (take i xs) (drop i xs) in
    record {
      own = sym (rw (b.own, none_before end (drop i xs) a, append-nil (take i xs)) at e);
      behind = sym (rw (b.behind, all_behind end (drop i xs) a) at g);
    }

pub cut_at : (end i : ℕ) (xs : List InputRelocation) (x : InputRelocation) → IsSorted xs → i < length xs → end ≤ (get_or xs i x).offset → Before end (take i xs) → Cut end i xs
cut_at end i xs x s l h b =
    let rest = sorted_drop i xs s in
    let e = drop_more xs i x l in
    let next : unsorted_in rest.reach (get_or xs i x ∷ drop (i + 1) xs) ≡ None = subst (λ (ys : List InputRelocation). unsorted_in rest.reach ys ≡ None) e rest.none in
    let a = at_reach (get_or xs i x).offset (drop (i + 1) xs) (sorted_tail rest.reach (get_or xs i x) (drop (i + 1) xs) next) in
    cut_all end i xs b (rw e (All-cons (λ r. end ≤ r.offset) (get_or xs i x) (drop (i + 1) xs) h (λ k d m. let q = a k d m in omega arith)))

pub cut_end : (end : ℕ) (xs : List InputRelocation) → Before end (take (length xs) xs) → Cut end (length xs) xs
cut_end end xs b = cut_all end (length xs) xs b (rw (drop_all (length xs) xs (omega arith)) (All-nil (λ r. end ≤ r.offset)))

-- ---- CIEs

pub cie_none : (x : ℕ) (cs : List Cie) → All (λ c. c.from ≡ x → ⊥) cs → cie_at x cs ≡ None
cie_none x [] a = refl
cie_none x (c ∷ cs) a =
    let h = All-head (λ d. d.from ≡ x → ⊥) c cs a in
    let f : c.from == x ≡ false = grind (arith, nat_tests) in
    rw f (cie_none x cs (All-tail (λ d. d.from ≡ x → ⊥) c cs a))

pub cie_found : (x i : ℕ) (cs : List Cie) (d : Cie) → ((k : ℕ) (e : Cie) → k < i → (get_or cs k e).from < x) → i < length cs → (get_or cs i d).from ≡ x → cie_at x cs ≡ Some (get_or cs i d).to
cie_found x i [] d b l h = absurd (omega arith)
cie_found x zero (c ∷ cs) d b l h =
    let t : c.from == x ≡ true = grind (arith, nat_tests) in
    rw t refl
cie_found x (suc i) (c ∷ cs) d b l h =
    let k = b 0 d (omega arith) in
    let f : c.from == x ≡ false = grind (arith, nat_tests) in
    rw f (cie_found x i cs d (λ m e n. b (suc m) e (omega arith)) (omega arith) h)

-- none at the place where it would be
pub cie_absent : (x i : ℕ) (cs : List Cie) (d : Cie) → AllPairs (λ a b. a.from < b.from) cs → ((k : ℕ) (e : Cie) → k < i → (get_or cs k e).from < x) → (i < length cs → x < (get_or cs i d).from) → cie_at x cs ≡ None
cie_absent x i cs d p b h =
    cie_none x cs (λ k e l q. elim (cases_lt k i) [
      | inl lt ↦ absurd (let m = b k e lt in omega arith)
      | inr ge ↦ elim (cases_lt i k) [
        | inl m ↦ absurd (let above = h (omega arith) in let later = p i k e m l in let same = get_or_default cs i d e (omega arith) in let z = ap (λ (c : Cie). c.from) same in omega (arith, above, later, z, q))
        | inr n ↦ absurd (let s : k ≡ i = omega arith in let above = h (omega arith) in let same = get_or_default cs i d e (omega arith) in let z = ap (λ (c : Cie). c.from) same in let w = ap (λ (j : ℕ). (get_or cs j e).from) s in omega (arith, above, z, q, w))
      ]
    ])

-- the test of a search by halves
abbrev pub stands_before : ℕ → Cie → Bool
stands_before x c = nat_lt c.from x

pub parted : (x : ℕ) (cs : List Cie) → AllPairs (λ a b. a.from < b.from) cs → IsPartitionedBy (stands_before x) cs
parted x cs p i j d l m t =
    elim (cases_lt i j) [
      | inl lt ↦ (let h = p i j d lt m in let b : (get_or cs j d).from < x = ltb-true _ _ t in lt-ltb (get_or cs i d).from x (omega arith))
      | inr ge ↦ (let e : i ≡ j = omega arith in rw e t)
    ]

abbrev pub IsPoint : ℕ → List Cie → ℕ → Type 0
IsPoint x cs i = IsPartitionPoint (λ c. stands_before x c ≡ true) (λ c. stands_before x c ≡ false) cs i

pub below_point : (x i : ℕ) (cs : List Cie) → IsPoint x cs i → (k : ℕ) (e : Cie) → k < i → (get_or cs k e).from < x
below_point x i cs h k e l = ltb-true _ _ (h.0 k e (omega arith) l)

pub at_point : (x i : ℕ) (cs : List Cie) (d : Cie) → IsPoint x cs i → i < length cs → x ≤ (get_or cs i d).from
at_point x i cs d h l = let f : nat_lt (get_or cs i d).from x ≡ false = h.1 i d (omega arith) l in grind (arith, nat_tests)
