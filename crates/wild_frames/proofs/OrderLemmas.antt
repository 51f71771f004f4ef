-- A stable sort of entries by their code gives one list.
use Rattle.std.proofs.Common.{◌≡◌, ℕ, zero, suc, ◌<◌, ◌≤◌, Bool, true, false, cond, List, [], ◌∷◌, ◌++◌, length, map, flat_map, get_or, filter, nat_cmp, is_lt, refl, sym, ap, ◌∙◌, subst, arith, inl, inr, suc-le-suc, zero-le}
use Rattle.std.specs.Prelude.{nat_lt}
use Rattle.std.proofs.lemmas.Bool.{cond-true, cond-false, cases_Bool, ltb-true}
use Rattle.std.proofs.lemmas.Bool.Decides.{nat_tests}
use Rattle.std.specs.List.Sorted.{ties, IsPermutation, IsNonDecreasingBy, IsStableByKey}
use Rattle.wild_records.specs.declared.frames.EhFrameHdrEntry.{EhFrameHdrEntry}
use Rattle.wild_frames.specs.declared.table.Fde.{Fde}
use Rattle.wild_frames.specs.Table.{entry_of, header_of, hdr_bytes, entry_bytes, IsTable, table_of, rank_of, put_in_order, in_order}

abbrev same_rank : EhFrameHdrEntry → EhFrameHdrEntry → Bool
same_rank = ties (λ x y. is_lt (nat_cmp (rank_of x) (rank_of y)))

ties_at : (m n : ℕ) → (ties (λ x y. is_lt (nat_cmp x y)) m n ≡ true → m ≡ n) × (m ≡ n → ties (λ x y. is_lt (nat_cmp x y)) m n ≡ true)
ties_at m n = (λ h. grind (arith, nat_tests), λ h. grind (arith, nat_tests))

same_rank-true : (x y : EhFrameHdrEntry) → same_rank x y ≡ true → rank_of x ≡ rank_of y
same_rank-true x y = (ties_at (rank_of x) (rank_of y)).0

same_rank_from : (x y : EhFrameHdrEntry) → rank_of x ≡ rank_of y → same_rank x y ≡ true
same_rank_from x y = (ties_at (rank_of x) (rank_of y)).1

filter-kept : (p : EhFrameHdrEntry → Bool) (y : EhFrameHdrEntry) (ys : List EhFrameHdrEntry) → p y ≡ true → filter p (y ∷ ys) ≡ y ∷ filter p ys
filter-kept p y ys h = cond-true _ _ _ h

filter-dropped : (p : EhFrameHdrEntry → Bool) (y : EhFrameHdrEntry) (ys : List EhFrameHdrEntry) → p y ≡ false → filter p (y ∷ ys) ≡ filter p ys
filter-dropped p y ys h = cond-false _ _ _ h

-- ---- order

abbrev AreAtLeast : ℕ → List EhFrameHdrEntry → Type 0
AreAtLeast n [] = Unit {0}
AreAtLeast n (y ∷ ys) = (n ≤ rank_of y) × AreAtLeast n ys

abbrev Rises : List EhFrameHdrEntry → Type 0
Rises [] = Unit {0}
Rises (y ∷ ys) = AreAtLeast (rank_of y) ys × Rises ys

AreAtLeast-le : (n m : ℕ) (ys : List EhFrameHdrEntry) → n ≤ m → AreAtLeast m ys → AreAtLeast n ys
AreAtLeast-le n m [] le h = tt
AreAtLeast-le n m (y ∷ ys) le h = let first = h.0 in (omega (arith, le, first), AreAtLeast-le n m ys le h.1)

AreAtLeast-at : (n : ℕ) (ys : List EhFrameHdrEntry) → ((j : ℕ) (d : EhFrameHdrEntry) → j < length ys → n ≤ rank_of (get_or ys j d)) → AreAtLeast n ys
AreAtLeast-at n [] h = tt
AreAtLeast-at n (y ∷ ys) h = (h zero y (suc-le-suc zero-le), AreAtLeast-at n ys (λ j d lt. h (suc j) d (suc-le-suc lt)))

Rises-from_sort : (ys : List EhFrameHdrEntry) → IsNonDecreasingBy rank_of ys → Rises ys
Rises-from_sort [] h = tt
Rises-from_sort (y ∷ ys) h = (
  AreAtLeast-at (rank_of y) ys (λ j d lt. h zero (suc j) d zero-le (suc-le-suc lt)),
  Rises-from_sort ys (λ i j d le lt. h (suc i) (suc j) d (suc-le-suc le) (suc-le-suc lt)),
)

AreAtLeast-put : (n : ℕ) (e : EhFrameHdrEntry) (ys : List EhFrameHdrEntry) → n ≤ rank_of e → AreAtLeast n ys → AreAtLeast n (put_in_order e ys)
AreAtLeast-put n e [] le h = (le, tt)
AreAtLeast-put n e (y ∷ ys) le h = elim (cases_Bool (nat_lt (rank_of y) (rank_of e))) [ inl t ↦ rw t (h.0, AreAtLeast-put n e ys le h.1) | inr f ↦ rw f (le, h) ]

Rises-put : (e : EhFrameHdrEntry) (ys : List EhFrameHdrEntry) → Rises ys → Rises (put_in_order e ys)
Rises-put e [] h = (tt, tt)
Rises-put e (y ∷ ys) h = elim (cases_Bool (nat_lt (rank_of y) (rank_of e))) [
  | inl t ↦ (let l = ltb-true _ _ t in rw t (AreAtLeast-put (rank_of y) e ys (omega (arith, l)) h.0, Rises-put e ys h.1))
  | inr f ↦ (let l : rank_of e ≤ rank_of y = grind (arith, nat_tests) in rw f ((l, AreAtLeast-le (rank_of e) (rank_of y) ys l h.0), h))
]

Rises-in_order : (es : List EhFrameHdrEntry) → Rises (in_order es)
unfolding in_order
Rises-in_order [] = tt
Rises-in_order (e ∷ es) = Rises-put e (in_order es) (Rises-in_order es)

-- ---- those of one place

filter-put : (x e : EhFrameHdrEntry) (ys : List EhFrameHdrEntry) → filter (same_rank x) (put_in_order e ys) ≡ filter (same_rank x) (e ∷ ys)
filter-put x e [] = refl
filter-put x e (y ∷ ys) =
    let p = same_rank x in
    elim (cases_Bool (nat_lt (rank_of y) (rank_of e))) [
      | inr f ↦ rw f refl
      | inl t ↦ (
          let less = ltb-true _ _ t in
          rw t (elim (cases_Bool (p y)) [
            | inr without ↦ filter-dropped p y (put_in_order e ys) without ∙ filter-put x e ys ∙ ap (λ l. cond (p e) (e ∷ l) l) (sym (filter-dropped p y ys without))
            | inl with ↦ elim (cases_Bool (p e)) [
              | inl both ↦ absurd (let a = same_rank-true x e both in let b = same_rank-true x y with in omega (arith, a, b, less))
              | inr only ↦
                  filter-kept p y (put_in_order e ys) with ∙ ap (λ l. y ∷ l) (filter-put x e ys ∙ filter-dropped p e ys only)
                  ∙ sym (filter-dropped p e (y ∷ ys) only ∙ filter-kept p y ys with)
            ]
          ]))
    ]

filter-in_order : (x : EhFrameHdrEntry) (es : List EhFrameHdrEntry) → filter (same_rank x) (in_order es) ≡ filter (same_rank x) es
unfolding in_order
filter-in_order x [] = refl
filter-in_order x (e ∷ es) = filter-put x e (in_order es) ∙ ap (λ l. cond (same_rank x e) (e ∷ l) l) (filter-in_order x es)

AreAtLeast-found : (n : ℕ) (x : EhFrameHdrEntry) (ys : List EhFrameHdrEntry) (w : EhFrameHdrEntry) (ws : List EhFrameHdrEntry) → AreAtLeast n ys → filter (same_rank x) ys ≡ w ∷ ws → n ≤ rank_of x
AreAtLeast-found n x [] w ws h e = cc
AreAtLeast-found n x (y ∷ ys) w ws h e =
    elim (cases_Bool (same_rank x y)) [
      | inl with ↦ (let a = h.0 in let b = same_rank-true x y with in omega (arith, a, b))
      | inr without ↦ AreAtLeast-found n x ys w ws h.1 (sym (filter-dropped (same_rank x) y ys without) ∙ e)
    ]

same_from_ranks : (ys zs : List EhFrameHdrEntry) → Rises ys → Rises zs → ((x : EhFrameHdrEntry) → filter (same_rank x) ys ≡ filter (same_rank x) zs) → ys ≡ zs
same_from_ranks [] [] left right same = refl
same_from_ranks [] (z ∷ zs) left right same = let clash = same z ∙ filter-kept (same_rank z) z zs (same_rank_from z z refl) in cc
same_from_ranks (y ∷ ys) [] left right same = let clash = sym (same y) ∙ filter-kept (same_rank y) y ys (same_rank_from y y refl) in cc
same_from_ranks (y ∷ ys) (z ∷ zs) left right same =
    let at_y = filter-kept (same_rank y) y ys (same_rank_from y y refl) in
    let at_z = filter-kept (same_rank z) z zs (same_rank_from z z refl) in
    let up : rank_of z ≤ rank_of y = AreAtLeast-found (rank_of z) y (z ∷ zs) y (filter (same_rank y) ys) (omega arith, right.0) (sym (same y) ∙ at_y) in
    let down : rank_of y ≤ rank_of z = AreAtLeast-found (rank_of y) z (y ∷ ys) z (filter (same_rank z) zs) (omega arith, left.0) (same z ∙ at_z) in
    let heads = sym at_y ∙ same y ∙ filter-kept (same_rank y) z zs (same_rank_from y z (omega (arith, up, down))) in
    let head : y ≡ z = cc in
    let tails : (x : EhFrameHdrEntry) → filter (same_rank x) ys ≡ filter (same_rank x) zs =
    λ x. elim (cases_Bool (same_rank x y)) [
      | inl with ↦ (let both = sym (filter-kept (same_rank x) y ys with) ∙ same x ∙ filter-kept (same_rank x) z zs (ap (same_rank x) (sym head) ∙ with) in cc)
      | inr without ↦ sym (filter-dropped (same_rank x) y ys without) ∙ same x ∙ filter-dropped (same_rank x) z zs (ap (same_rank x) (sym head) ∙ without)
    ] in
    ap (λ w. w ∷ ys) head ∙ ap (λ l. z ∷ l) (same_from_ranks ys zs left.1 right.1 tails)

-- a stable sort by code gives the entries in order
pub sorted_is_in_order : (xs ys : List EhFrameHdrEntry) → IsNonDecreasingBy rank_of ys → IsStableByKey rank_of nat_cmp xs ys → ys ≡ in_order xs
sorted_is_in_order xs ys sorted stable = same_from_ranks ys (in_order xs) (Rises-from_sort ys sorted) (Rises-in_order xs) (λ x. stable x ∙ sym (filter-in_order x xs))

-- the table that is written from the entries in order
pub table_written : (header eh_frame : ℕ) (fdes : List Fde) (front out : List ℕ) (es : List EhFrameHdrEntry) → out ≡ front ++ flat_map entry_bytes (in_order es) → front ≡ hdr_bytes (header_of header eh_frame (length fdes))
    → es ≡ map (entry_of header) fdes → out ≡ table_of header eh_frame fdes
unfolding table_of
table_written header eh_frame fdes front out es o f e =
    o ∙ ap (λ xs. xs ++ flat_map entry_bytes (in_order es)) f
    ∙ ap (λ (xs : List EhFrameHdrEntry). hdr_bytes (header_of header eh_frame (length fdes)) ++ flat_map entry_bytes (in_order xs)) e

-- it is a table in order
pub is_table : (header eh_frame : ℕ) (fdes : List Fde) (out : List ℕ) (es : List EhFrameHdrEntry) → out ≡ table_of header eh_frame fdes → es ≡ map (entry_of header) fdes → IsPermutation es (in_order es) → IsNonDecreasingBy rank_of (in_order es)
    → IsTable header eh_frame fdes out
unfolding table_of
is_table header eh_frame fdes out es o e p n = record {
  entries = in_order (map (entry_of header) fdes);
  all = subst (λ (xs : List EhFrameHdrEntry). IsPermutation xs (in_order xs)) e p;
  sorted = subst (λ (xs : List EhFrameHdrEntry). IsNonDecreasingBy rank_of (in_order xs)) e n;
  is = o;
}
