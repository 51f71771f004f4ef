-- The least number that is in two lists is found over lists that are cut.
use Rattle.std.proofs.Common.{◌≡◌, ℕ, ◌+◌, ◌<◌, ◌≤◌, inl, inr, List, [], ◌∷◌, ◌++◌, length, drop, take, get_or, refl, sym, ap, ◌∙◌, arith, max, min, subst}
use Rattle.std.specs.Prelude.{Option, nat_le}
use Rattle.std.specs.List.Sorted.{IsPermutation, IsNonDecreasingBy}
use Rattle.std.proofs.lemmas.Bool.{cases_Bool, cases_lt, leb-true}
use Rattle.std.proofs.lemmas.List.{drop_more, drop_all, append_assoc, append-nil, take_more, map-append}
use Rattle.std.proofs.lemmas.List.Sorted.{sum_by-IsPermutation}
use Rattle.wild_words.specs.declared.extents.Extent.{Extent}
use Rattle.wild_words.specs.Extents.{least, shared_among, least_extent, covers, total}
use Rattle.wild_words.proofs.ExtentLemmas.{IsLeastOf, one-least, least-same, least-or, covers-in, covers-low, covers-high, total-sum, among-least, pairs-least, RisesFrom, total-low, rises-from}
use Rattle.wild_space.specs.declared.image.NamedImage.{NamedImage}
use Rattle.wild_space.specs.Overlaps.{extents_in, placed, shared_lists, shared_with, least_in_two}
use Rattle.wild_space.specs.Counts.{kept, cut, has_number, count, LeastIsLeast, NoneIsInOne}

-- ---- the loop

pub cut_step : (reach : ℕ) (es : List Extent) (i : ℕ) (e : Extent) → i < length es → e ≡ get_or es i e → cut reach (drop i es) ≡ kept reach e ++ cut (max reach e.end) (drop (i + 1) es)
unfolding cut
cut_step reach es i e lt is =
    let rest : drop i es ≡ e ∷ drop (i + 1) es = drop_more es i e lt ∙ ap (λ (q : Extent). q ∷ drop (i + 1) es) (sym is) in
    rw rest refl

pub cut_end : (reach : ℕ) (es : List Extent) (i : ℕ) → length es ≤ i → cut reach (drop i es) ≡ []
unfolding cut
cut_end reach es i h = rw (drop_all i es h) refl

-- ---- a cut list has each number once

record CutHas (a reach : ℕ) (es : List Extent) : Type 0 where
  low : a < reach → total a (cut reach es) ≡ 0
  high : reach ≤ a → total a (cut reach es) ≡ min 1 (total a es)

kept_low : (a reach : ℕ) (e : Extent) → a < reach → total a (kept reach e) ≡ 0
kept_low a reach e l =
    elim (cases_Bool (nat_le e.end reach)) [
      | inl t ↦ rw t refl
      | inr f ↦ (let none = covers-low (record { start = max e.start reach; end = e.end }) a (omega (arith, l)) in rw f (omega (arith, none)))
    ]

kept_high : (a reach : ℕ) (e : Extent) → reach ≤ a → total a (kept reach e) ≡ covers e a
kept_high a reach e l =
    elim (cases_Bool (nat_le e.end reach)) [
      | inl t ↦ (let short = leb-true e.end reach t in let none = covers-high e a (omega (arith, short, l)) in rw t (sym none))
      | inr f ↦ rw f (elim (cases_lt a e.start) [
        | inl before ↦ (let none = covers-low (record { start = max e.start reach; end = e.end }) a (omega (arith, before)) in let own = covers-low e a before in omega (arith, none, own))
        | inr from ↦ elim (cases_lt a e.end) [
          | inl inside ↦ (let one = covers-in (record { start = max e.start reach; end = e.end }) a (omega (arith, from, l)) inside in let own = covers-in e a from inside in omega (arith, one, own))
          | inr past ↦ (let none = covers-high (record { start = max e.start reach; end = e.end }) a past in let own = covers-high e a past in omega (arith, none, own))
        ]
      ])
    ]

total_append : (a : ℕ) (es fs : List Extent) → total a (es ++ fs) ≡ total a es + total a fs
total_append a [] fs = omega arith
total_append a (e ∷ es) fs = (let r = total_append a es fs in omega (arith, r))

cut_has : (a reach s : ℕ) (es : List Extent) → RisesFrom s es → CutHas a reach es
unfolding cut
cut_has a reach s [] rises = record { low = λ l. refl; high = λ l. omega arith }
cut_has a reach s (e ∷ es) rises =
    let rest = cut_has a (max reach e.end) e.start es rises.1 in
    let joined = total_append a (kept reach e) (cut (max reach e.end) es) in
    record {
      low = λ l. (let own = kept_low a reach e l in let after = rest.low (omega (arith, l)) in omega (arith, joined, own, after));
      high = λ l. (
          let own = kept_high a reach e l in
          elim (cases_lt a e.end) [
            | inl high ↦ (
                let after = rest.low (omega (arith, high)) in
                elim (cases_lt a e.start) [
                  | inl before ↦ (let none = covers-low e a before in let others = total-low e.start a es rises.1 before in omega (arith, joined, own, after, none, others))
                  | inr from ↦ (let one = covers-in e a from high in omega (arith, joined, own, after, one))
                ])
            | inr past ↦ (let after = rest.high (omega (arith, past, l)) in let none = covers-high e a past in omega (arith, joined, own, after, none))
          ]);
    }

pub list_added : (all new list own : List Extent) → IsPermutation list own → IsNonDecreasingBy (λ e. e.start) own → new ≡ all ++ cut 0 own → (a : ℕ) → total a new ≡ total a all + has_number list a
list_added all new list own moved sorted is a =
    let c = cut_has a 0 0 own (rises-from 0 own sorted (λ d l. omega arith)) in
    let same : total a own ≡ total a list = total-sum a own ∙ sum_by-IsPermutation (λ e. covers e a) list own moved ∙ sym (total-sum a list) in
    let joined = total_append a all (cut 0 own) in
    let each = c.high (omega arith) in
    ap (total a) is ∙ omega (arith, same, joined, each)

-- ---- the least of two lists

lists_least : (es fs : List Extent) → IsLeastOf (shared_lists es fs) (λ a. (1 ≤ total a es) × (1 ≤ total a fs))
lists_least [] fs = λ a h. let x = h.0 in omega (arith, x)
lists_least (e ∷ es) fs =
    least-or (λ a. (1 ≤ covers e a) × (1 ≤ total a fs)) (λ a. (1 ≤ total a es) × (1 ≤ total a fs)) (λ a. (1 ≤ covers e a + total a es) × (1 ≤ total a fs)) (shared_among e fs) (shared_lists es fs)
    (λ a h. ((let x = h.0 in omega (arith, x)), h.1))
    (λ a h. ((let x = h.0 in omega (arith, x)), h.1))
    (λ a h. elim (cases_lt 0 (covers e a)) [ inl l ↦ inl (l, h.1) | inr z ↦ inr ((let x = h.0 in omega (arith, x, z)), h.1) ])
    (among-least e fs)
    (lists_least es fs)

with_least : (es : List Extent) (fss : List (List Extent)) → IsLeastOf (shared_with es fss) (λ a. (1 ≤ total a es) × (1 ≤ count a fss))
with_least es [] = λ a h. let x = h.1 in omega (arith, x)
with_least es (fs ∷ fss) =
    least-or (λ a. (1 ≤ total a es) × (1 ≤ total a fs)) (λ a. (1 ≤ total a es) × (1 ≤ count a fss)) (λ a. (1 ≤ total a es) × (1 ≤ has_number fs a + count a fss)) (shared_lists es fs) (shared_with es fss)
    (λ a h. (h.0, (let x = h.1 in omega (arith, x))))
    (λ a h. (h.0, (let x = h.1 in omega (arith, x))))
    (λ a h. elim (cases_lt 0 (total a fs)) [ inl l ↦ inl (h.0, l) | inr z ↦ inr (h.0, (let x = h.1 in omega (arith, x, z))) ])
    (lists_least es fs)
    (with_least es fss)

pub two_least : (ess : List (List Extent)) → IsLeastOf (least_in_two ess) (λ a. 2 ≤ count a ess)
unfolding least_in_two
two_least [] = λ a h. omega (arith, h)
two_least (es ∷ ess) =
    least-or (λ a. (1 ≤ total a es) × (1 ≤ count a ess)) (λ a. 2 ≤ count a ess) (λ a. 2 ≤ has_number es a + count a ess) (shared_with es ess) (least_in_two ess)
    (λ a h. let x = h.0 in let y = h.1 in omega (arith, x, y))
    (λ a h. omega (arith, h))
    (λ a h. elim (cases_lt 1 (count a ess)) [ inl l ↦ inr l | inr z ↦ inl (omega (arith, h, z), omega (arith, h)) ])
    (with_least es ess)
    (two_least ess)

pub found_is : (all : List Extent) (ess : List (List Extent)) → ((a : ℕ) → total a all ≡ count a ess) → least_extent all ≡ least_in_two ess
found_is all ess same =
    one-least (λ a. 2 ≤ count a ess) (least_extent all) (least_in_two ess)
    (least-same (λ a. 2 ≤ total a all) (λ a. 2 ≤ count a ess) (least_extent all) (λ a h. let e = same a in omega (arith, h, e)) (λ a h. let e = same a in omega (arith, h, e)) (pairs-least all))
    (two_least ess)

pub least_least : LeastIsLeast
least_least = λ ess a h.
    let least = subst (λ (o : Option ℕ). IsLeastOf o (λ b. 2 ≤ count b ess)) h (two_least ess) in
    record { two = least.0; lower = least.1 }

pub none_in_two : NoneIsInOne
none_in_two = λ ess h a.
    let least = subst (λ (o : Option ℕ). IsLeastOf o (λ b. 2 ≤ count b ess)) h (two_least ess) in
    elim (cases_lt 1 (count a ess)) [ inl l ↦ absurd (least a l) | inr z ↦ z ]

-- ---- the images of an order

count_append : (a : ℕ) (ess fss : List (List Extent)) → count a (ess ++ fss) ≡ count a ess + count a fss
count_append a [] fss = omega arith
count_append a (es ∷ ess) fss = (let r = count_append a ess fss in omega (arith, r))

pub count_more : (xs : List NamedImage) (a n : ℕ) (order : List ℕ) → n < length order → count a (placed xs (take (n + 1) order)) ≡ count a (placed xs (take n order)) + has_number (extents_in xs (get_or order n 0)) a
count_more xs a n order lt =
    let i = get_or order n 0 in
    let split : placed xs (take n order ++ i ∷ []) ≡ placed xs (take n order) ++ extents_in xs i ∷ [] = map-append (λ (j : ℕ). extents_in xs j) (take n order) (i ∷ []) in
    let joined = count_append a (placed xs (take n order)) (extents_in xs i ∷ []) in
    ap (λ (q : List ℕ). count a (placed xs q)) (take_more order n 0 lt) ∙ ap (count a) split ∙ omega (arith, joined)

-- ---- the loop that cuts

pub cut_next : (reach next : ℕ) (es : List Extent) (i : ℕ) (d : Extent) (all more whole : List Extent) → i < length es → more ≡ all ++ kept reach (get_or es i d) → next ≡ max reach (get_or es i d).end → all ++ cut reach (drop i es) ≡ whole → more ++ cut next (drop (i + 1) es) ≡ whole
unfolding cut
cut_next reach next es i d all more whole lt is to on =
    let e = get_or es i d in
    let step : cut reach (drop i es) ≡ kept reach e ++ cut (max reach e.end) (drop (i + 1) es) = rw (drop_more es i d lt) refl in
    ap (λ (q : List Extent). q ++ cut next (drop (i + 1) es)) is ∙ append_assoc all (kept reach e) (cut next (drop (i + 1) es)) ∙ ap (λ (q : ℕ). all ++ (kept reach e ++ cut q (drop (i + 1) es))) to ∙ ap (λ (q : List Extent). all ++ q) (sym step) ∙ on

pub cut_done : (reach : ℕ) (es : List Extent) (i : ℕ) (all whole : List Extent) → length es ≤ i → all ++ cut reach (drop i es) ≡ whole → all ≡ whole
cut_done reach es i all whole h on = sym (append-nil all) ∙ ap (λ (q : List Extent). all ++ q) (sym (cut_end reach es i h)) ∙ on
