-- Laws of what the groups count, gathered.
use Rattle.wild_image.proofs.Common.{◌≡◌, ℕ, suc, ◌+◌, ◌^◌, ◌<◌, ◌==◌, not, ◌&&◌, Bool, true, false, if◌then◌else◌, List, [], ◌∷◌, length, get_or, refl, sym, ◌∙◌, arith, All, Option, Some, None, slice_get, flat_map, All-nil, fill_by_all, holds_at, Part, InputSection, Group, Layout, is_partial_link, total, is_omitted, section_of, section_of_part, relocation_count, IsLaidOut, section_pairs, file_pairs, group_pairs, AreBatches, pairs_at, Batch}
use Rattle.wild_words.proofs.ListLemmas.{All-flat_map, All-optional}
use Rattle.wild_types.specs.Lookups.{is_counted}
use Rattle.wild_layout.specs.Image.{counted, count_of, counts}
use Rattle.wild_crew.specs.Sums.{between, n_if, counted as counted_in}
use Rattle.wild_crew.specs.FinalCore.{sum_of, AreTotals}
use Rattle.wild_image.specs.Steps.{group_relocations, file_counted, group_counted}
use Rattle.wild_image.specs.Batches.{batch_pairs, pairs_of}
use Rattle.wild_image.proofs.BatchLemmas.{cut_of, total_joined}
use Rattle.wild_image.proofs.CountLemmas.{group_counted-le, total_le}
use Rattle.wild_image.proofs.PairLemmas.{IsBelow, counted-append, pairs_counted, pairs_below_of}

-- ---- the sections of the pairs

pub section_below : (l : Layout) → IsLaidOut l → (part : ℕ) → section_of l part < length l.sections
section_below l h part = by l h (slice_get l.parts part) part refl
  where
    by : (l : Layout) → IsLaidOut l → (o : Option Part) (part : ℕ) → slice_get l.parts part ≡ o → section_of_part o < length l.sections
    by l h None part e = let s = h.some_section in omega arith
    by l h (Some p) part e = holds_at (λ (q : Part). q.section < length l.sections) l.parts part p e h.named

-- the relocations of a section are counted
abbrev adds_to_counts : Layout → InputSection → Bool
adds_to_counts l s = is_counted s && not (is_omitted l s)

files_below : (l : Layout) → IsLaidOut l → (g : Group) → All (IsBelow (length l.sections)) (flat_map (file_pairs l) g.files)
files_below l h g =
    All-flat_map (IsBelow (length l.sections)) (file_pairs l) g.files (λ i d m.
    All-flat_map (IsBelow (length l.sections)) (section_pairs l) (get_or g.files i d).sections (λ j e n.
    All-optional (IsBelow (length l.sections)) (adds_to_counts l (get_or (get_or g.files i d).sections j e)) (section_of l (get_or (get_or g.files i d).sections j e).part, length (get_or (get_or g.files i d).sections j e).relocations) (λ r.
    section_below l h (get_or (get_or g.files i d).sections j e).part)))

group_below : (l : Layout) → IsLaidOut l → (g : Group) → All (IsBelow (length l.sections)) (group_pairs l g)
group_below l h g = by (is_partial_link l.kind)
  where
    by : (b : Bool) → All (IsBelow (length l.sections)) (if b then [] else flat_map (file_pairs l) g.files)
    by true = All-nil (IsBelow (length l.sections))
    by false = files_below l h g

pub pairs_below : (l : Layout) → IsLaidOut l → (bs : List Batch) (i : ℕ) → All (λ p. p.0 < length l.sections) (pairs_at l bs i)
unfolding pairs_at
pairs_below l h bs i = by l h (slice_get bs i)
  where
    by : (l : Layout) → IsLaidOut l → (o : Option Batch) → All (IsBelow (length l.sections)) (pairs_of l o)
    by l h None = All-nil (IsBelow (length l.sections))
    by l h (Some b) =
        pairs_below_of (length l.sections) true [] (flat_map (group_pairs l) b.groups.now) (All-nil (IsBelow (length l.sections)))
        (All-flat_map (IsBelow (length l.sections)) (group_pairs l) b.groups.now (λ j d m. group_below l h (get_or b.groups.now j d)))

-- ---- their sums

counted-flat_map : {X : Type 0} (k : ℕ) (f : X → List (ℕ × ℕ)) (t : X → ℕ) → ((x : X) → counted_in k (f x) ≡ t x) → (xs : List X) → counted_in k (flat_map f xs) ≡ total t xs
counted-flat_map k f t h [] = refl
counted-flat_map k f t h (x ∷ xs) =
    let a = counted-append k (f x) (flat_map f xs) in
    let b = h x in
    let c = counted-flat_map k f t h xs in
    omega (arith, a, b, c)

pair_counted : (read same : Bool) (n : ℕ) → (if read then n_if same n + 0 else 0) ≡ (if read && same then n else 0)
pair_counted true true n = omega arith
pair_counted true false n = refl
pair_counted false same n = refl

section_counted : (l : Layout) (k : ℕ) (s : InputSection) → counted_in k (section_pairs l s) ≡ counted l k s
section_counted l k s = by (adds_to_counts l s) k (section_of l s.part) (length s.relocations) ∙ pair_counted (adds_to_counts l s) (section_of l s.part == k) (length s.relocations)
  where
    by : (read : Bool) (k at n : ℕ) → counted_in k (if read then (at, n) ∷ [] else []) ≡ (if read then n_if (at == k) n + 0 else 0)
    by true k at n = refl
    by false k at n = refl

group_sum : (l : Layout) (k : ℕ) (g : Group) → counted_in k (group_pairs l g) ≡ group_counted l k g
group_sum l k g = by (is_partial_link l.kind)
  where
    by : (b : Bool) → counted_in k (if b then [] else flat_map (file_pairs l) g.files) ≡ (if b then 0 else total (file_counted l k) g.files)
    by true = refl
    by false = counted-flat_map k (file_pairs l) (file_counted l k) (λ f. counted-flat_map k (section_pairs l) (counted l k) (section_counted l k) f.sections) g.files

total-zeros : {X : Type 0} (xs : List X) → total (λ (x : X). 0) xs ≡ 0
total-zeros [] = refl
total-zeros (x ∷ xs) = let e = total-zeros xs in omega (arith, e)

-- of all groups, as they are counted
groups_sum : (l : Layout) (k : ℕ) (gs : List Group) → total (group_counted l k) gs ≡ (if is_partial_link l.kind then 0 else total (λ (g : Group). total (file_counted l k) g.files) gs)
groups_sum l k gs = by (is_partial_link l.kind)
  where
    by : (b : Bool) → total (λ (g : Group). if b then 0 else total (file_counted l k) g.files) gs ≡ (if b then 0 else total (λ (g : Group). total (file_counted l k) g.files) gs)
    by true = total-zeros gs
    by false = refl

between_is : {X : Type 0} (t : X → ℕ) (h : ℕ → ℕ) (xs : List X) (a : ℕ) → ((j n : ℕ) (x : X) → n ≡ a + j → slice_get xs j ≡ Some x → h n ≡ t x) → between h a (length xs) ≡ total t xs
between_is t h [] a e = refl
between_is t h (x ∷ xs) a e =
    let here = e 0 a x (omega arith) refl in
    let rest = between_is t h xs (suc a) (λ j n y m at. e (suc j) n y (omega arith) at) in
    omega (arith, here, rest)

-- what a batch counts of section k
abbrev batch_counted : Layout → ℕ → Batch → ℕ
batch_counted l k b = total (group_counted l k) b.groups.now

batch_sum : (l : Layout) (k : ℕ) (b : Batch) → counted_in k (batch_pairs l b) ≡ batch_counted l k b
batch_sum l k b =
    let joined = pairs_counted k true [] (flat_map (group_pairs l) b.groups.now) in
    let each = counted-flat_map k (group_pairs l) (group_counted l k) (group_sum l k) b.groups.now in
    omega (arith, joined, each)

sum_is : (l : Layout) (bs : List Batch) (k : ℕ) → AreBatches l.groups bs → sum_of (pairs_at l bs) (length bs) k ≡ count_of l k
unfolding pairs_at
sum_is l bs k h =
    between_is (batch_counted l k) (λ i. counted_in k (pairs_at l bs i)) bs 0 (λ j n b m at. found l bs k j n b m at)
    ∙ sym (total_joined (group_counted l k) 0 l.groups bs (cut_of l.groups bs h))
    ∙ groups_sum l k l.groups
  where
    found : (l : Layout) (bs : List Batch) (k j n : ℕ) (b : Batch) → n ≡ 0 + j → slice_get bs j ≡ Some b → counted_in k (pairs_of l (slice_get bs n)) ≡ batch_counted l k b
    found l bs k j n b m at = let e : n ≡ j = omega arith in rw (e, at) (batch_sum l k b)

pub sums_fit : (l : Layout) (bs : List Batch) → AreBatches l.groups bs → relocation_count l < 2 ^ 64 → (k : ℕ) → sum_of (pairs_at l bs) (length bs) k < 2 ^ 64
sums_fit l bs h few k = let e = sum_is l bs k h in let n = groups_sum l k l.groups in let m = total_le (group_counted l k) group_relocations (group_counted-le l k) l.groups in omega (arith, e, m, n, few)

-- the totals are the counts
pub totals_are : (l : Layout) (bs : List Batch) (totals : List ℕ) → AreBatches l.groups bs → AreTotals (pairs_at l bs) (length bs) (length l.sections) totals → totals ≡ counts l
unfolding counts
totals_are l bs totals are h = fill_by_all (count_of l) totals (length l.sections) 0 h.0 (λ k low. h.1 k low ∙ sum_is l bs k are)
