-- Laws of pairs that are added to the one before.
use Rattle.wild_image.proofs.Common.{◌≡◌, ℕ, zero, suc, ◌+◌, ◌-◌, ◌^◌, ◌<◌, ◌==◌, ◌&&◌, Bool, true, false, if◌then◌else◌, List, [], ◌∷◌, ◌++◌, length, take, set, get_or, refl, sym, ap, ◌∙◌, arith, subst, All, Option, Some, None, slice_get, nat_lt, flat_map, and_parts, eqb-true, append-nil, append_assoc, All-head, All-tail, slice_get_within, flat_map-more, with_pairs}
use Rattle.std.proofs.lemmas.List.Elements.{All-push, All-set}
use Rattle.wild_crew.specs.Sums.{n_if, counted}
use Rattle.wild_image.specs.RelocationCounts.{with_more, put_pair, with_pair}

-- ---- the last pair

-- the pair has a number, which is of that section
record HasMore (k n sum : ℕ) (o : Option (ℕ × ℕ)) : Type 0 where
  pair : ℕ × ℕ
  there : o ≡ Some pair
  section : pair.0 ≡ k
  sum_is : sum ≡ pair.1 + n

has_more : (join : Bool) (k n sum : ℕ) (o : Option (ℕ × ℕ)) → with_more join k n o ≡ Some sum → HasMore k n sum o
has_more join k n sum None e = cc
has_more join k n sum (Some p) e =
    let told = by (join && ((p.0 == k) && nat_lt (p.1 + n) (2 ^ 64))) (p.1 + n) sum e in
    let same = (and_parts join ((p.0 == k) && nat_lt (p.1 + n) (2 ^ 64)) told.0).1 in
    record { pair = p; there = refl; section = eqb-true p.0 k (and_parts (p.0 == k) (nat_lt (p.1 + n) (2 ^ 64)) same).0; sum_is = told.1 }
  where
    by : (b : Bool) (m sum : ℕ) → (if b then Some m else None) ≡ Some sum → (b ≡ true) × (sum ≡ m)
    by true m sum e = (refl, cc)
    by false m sum e = cc

-- where there is such a pair, there is a last one
pub last_there : (join : Bool) (k n sum : ℕ) (ps : List (ℕ × ℕ)) → with_more join k n (slice_get ps (length ps - 1)) ≡ Some sum → length ps - 1 < length ps
last_there join k n sum ps e =
    let h = has_more join k n sum (slice_get ps (length ps - 1)) e in
    slice_get_within ps (length ps - 1) h.pair h.there

-- ---- what is counted

pub counted-append : (k : ℕ) (xs ys : List (ℕ × ℕ)) → counted k (xs ++ ys) ≡ counted k xs + counted k ys
counted-append k [] ys = omega arith
counted-append k (x ∷ xs) ys = let e = counted-append k xs ys in omega (arith, e)

counted-set : (j : ℕ) (ps : List (ℕ × ℕ)) (i k n : ℕ) (p : ℕ × ℕ) → slice_get ps i ≡ Some p → p.0 ≡ k → counted j (set ps i (k, p.1 + n)) ≡ counted j ps + n_if (k == j) n
counted-set j [] zero k n p at is = cc
counted-set j [] (suc i) k n p at is = cc
counted-set j (q ∷ ps) zero k n p at is =
    let same : q ≡ p = cc in
    let old : n_if (q.0 == j) q.1 ≡ n_if (k == j) p.1 = ap (λ (x : ℕ × ℕ). n_if (x.0 == j) x.1) same ∙ ap (λ (m : ℕ). n_if (m == j) p.1) is in
    let both = more (k == j) p.1 n in
    omega (arith, old, both)
  where
    more : (b : Bool) (m n : ℕ) → n_if b (m + n) ≡ n_if b m + n_if b n
    more true m n = refl
    more false m n = refl
counted-set j (q ∷ ps) (suc i) k n p at is = let e = counted-set j ps i k n p at is in omega (arith, e)

pair_counted : (j : ℕ) (join : Bool) (ps : List (ℕ × ℕ)) (x : ℕ × ℕ) → counted j (with_pair join ps x) ≡ counted j ps + n_if (x.0 == j) x.1
unfolding with_pair
pair_counted j join ps x = by (with_more join x.0 x.1 (slice_get ps (length ps - 1))) refl
  where
    by : (o : Option ℕ) → with_more join x.0 x.1 (slice_get ps (length ps - 1)) ≡ o → counted j (put_pair ps x o) ≡ counted j ps + n_if (x.0 == j) x.1
    by None e = let a = counted-append j ps (x ∷ []) in omega (arith, a)
    by (Some sum) e =
        let h = has_more join x.0 x.1 sum (slice_get ps (length ps - 1)) e in
        ap (λ (m : ℕ). counted j (set ps (length ps - 1) (x.0, m))) h.sum_is ∙ counted-set j ps (length ps - 1) x.0 x.1 h.pair h.there h.section

-- as much as of the pairs one by one
pub pairs_counted : (j : ℕ) (join : Bool) (ps xs : List (ℕ × ℕ)) → counted j (with_pairs join ps xs) ≡ counted j ps + counted j xs
pairs_counted j join ps [] = omega arith
pairs_counted j join ps (x ∷ xs) =
    let one = pair_counted j join ps x in
    let rest = pairs_counted j join (with_pair join ps x) xs in
    omega (arith, one, rest)

-- ---- their sections

abbrev pub IsBelow : ℕ → ℕ × ℕ → Type 0
IsBelow n p = p.0 < n

pair_below : (n : ℕ) (join : Bool) (ps : List (ℕ × ℕ)) (x : ℕ × ℕ) → All (IsBelow n) ps → x.0 < n → All (IsBelow n) (with_pair join ps x)
unfolding with_pair
pair_below n join ps x all low = by (with_more join x.0 x.1 (slice_get ps (length ps - 1)))
  where
    by : (o : Option ℕ) → All (IsBelow n) (put_pair ps x o)
    by None = All-push (IsBelow n) ps x all low
    by (Some sum) = All-set (IsBelow n) ps (length ps - 1) (x.0, sum) low all

pub pairs_below_of : (n : ℕ) (join : Bool) (ps xs : List (ℕ × ℕ)) → All (IsBelow n) ps → All (IsBelow n) xs → All (IsBelow n) (with_pairs join ps xs)
pairs_below_of n join ps [] all more = all
pairs_below_of n join ps (x ∷ xs) all more = pairs_below_of n join (with_pair join ps x) xs (pair_below n join ps x all (All-head (IsBelow n) x xs more)) (All-tail (IsBelow n) x xs more)

-- ---- loops

with_pairs-append : (join : Bool) (ps xs ys : List (ℕ × ℕ)) → with_pairs join ps (xs ++ ys) ≡ with_pairs join (with_pairs join ps xs) ys
with_pairs-append join ps [] ys = refl
with_pairs-append join ps (x ∷ xs) ys = with_pairs-append join (with_pair join ps x) xs ys

-- one more item's pairs
pub pairs_on : {X : Type 0} (f : X → List (ℕ × ℕ)) (join : Bool) (items xs : List X) (i : ℕ) (x : X) (first now next : List (ℕ × ℕ)) → items ≡ xs → i < length items → x ≡ get_or items i x → now ≡ with_pairs join first (flat_map f (take i xs)) → next ≡ with_pairs join now (f x) → next ≡ with_pairs join first (flat_map f (take (i + 1) xs))
pairs_on {X} f join items xs i x first now next same low read before step =
    let P : X → Type 0 = λ y. next ≡ with_pairs join now (f y) in
    let there : x ≡ get_or xs i x = read ∙ ap (λ (ys : List X). get_or ys i x) same in
    let long = ap length same in
    subst P there step ∙ ap (λ (ps : List (ℕ × ℕ)). with_pairs join ps (f (get_or xs i x))) before
    ∙ sym (with_pairs-append join first (flat_map f (take i xs)) (f (get_or xs i x)))
    ∙ ap (with_pairs join first) (sym (flat_map-more f xs i x (omega (arith, long, low))))

-- where none is added to another, they stand behind
none_more : (k n : ℕ) (o : Option (ℕ × ℕ)) → with_more false k n o ≡ None
none_more k n None = refl
none_more k n (Some p) = refl

pub pairs_behind : (ps xs : List (ℕ × ℕ)) → with_pairs false ps xs ≡ ps ++ xs
unfolding with_pair
pairs_behind ps [] = sym (append-nil ps)
pairs_behind ps (x ∷ xs) =
    ap (λ (o : Option ℕ). with_pairs false (put_pair ps x o) xs) (none_more x.0 x.1 (slice_get ps (length ps - 1)))
    ∙ pairs_behind (ps ++ x ∷ []) xs
    ∙ append_assoc ps (x ∷ []) xs
