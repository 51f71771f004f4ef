use Rattle.wild_geometry.proofs.Common.{◌≡◌, ℕ, suc, ◌+◌, ◌-◌, ◌<◌, ◌≤◌, ◌⊎◌, inl, inr, List, [], ◌∷◌, ◌++◌, length, get_or, take, flat_map, sym, ap, ◌∙◌, arith, subst, slice_index, length-append, AreDisjoint, Group, Layout, total, image_size, content, IsLaidOut, pieces}
use Rattle.std.proofs.lemmas.Bool.{cases_lt}
use Rattle.wild_words.specs.Words.{HasBytesAt}
use Rattle.wild_words.proofs.OverlayLemmas.{HasBytesAt-overlay, length-overlay}
use Rattle.wild_words.proofs.RecordLemmas.{HasBytesAt-left, HasBytesAt-right}
use Rattle.wild_layout.specs.Image.{bytes, padding}
use Rattle.wild_layout.proofs.LayoutLemmas.{length-padding}
use Rattle.wild_geometry.proofs.tables_are_placed.Goals as goal

-- ---- bytes one behind the other

HasBytesAt-nothing : (whole : List ℕ) (at : ℕ) → at ≤ length whole → HasBytesAt whole at []
HasBytesAt-nothing whole at h = record { fits = omega arith; same = λ k l. absurd (omega arith) }

HasBytesAt-append : (whole : List ℕ) (at : ℕ) (xs ys : List ℕ) → HasBytesAt whole at xs → HasBytesAt whole (at + length xs) ys → HasBytesAt whole at (xs ++ ys)
HasBytesAt-append whole at xs ys x y =
    let long = length-append xs ys in
    let end = y.fits in
    record { fits = omega arith; same = λ k l. by k l (cases_lt k (length xs)) }
  where
    by : (k : ℕ) → k < length (xs ++ ys) → (k < length xs) ⊎ (length xs ≤ k) → slice_index whole (at + k) ≡ slice_index (xs ++ ys) k
    by k l (inl low) =
        let zero_on : 0 + k ≡ k = omega arith in
        x.same k low ∙ sym (subst (λ (j : ℕ). slice_index (xs ++ ys) j ≡ slice_index xs k) zero_on ((HasBytesAt-left xs ys).same k low))
    by k l (inr high) =
        let long = length-append xs ys in
        let m = k - length xs in
        let own : HasBytesAt ys 0 ys = record { fits = omega arith; same = λ j n. ap (λ (i : ℕ). slice_index ys i) (omega arith) } in
        let here = y.same m (omega arith) in
        let there = (HasBytesAt-right xs ys ys 0 own).same m (omega arith) in
        let left : at + length xs + m ≡ at + k = omega arith in
        let right : length xs + 0 + m ≡ k = omega arith in
        let P : ℕ → ℕ → Type 0 = λ i j. slice_index whole i ≡ slice_index (xs ++ ys) j in
        subst (λ i. P i k) left (subst (P (at + length xs + m)) right (here ∙ sym there))

-- so do lists, where each that has bytes stands behind those before it
joined : (whole : List ℕ) (f : Group → List ℕ) (gs : List Group) (at : ℕ) → at + length (flat_map f gs) ≤ length whole
    → ((j : ℕ) (g : Group) → j < length gs → 1 ≤ length (f (get_or gs j g)) → HasBytesAt whole (at + total (λ (x : Group). length (f x)) (take j gs)) (f (get_or gs j g))) → HasBytesAt whole at (flat_map f gs)
joined whole f [] at low h = HasBytesAt-nothing whole at (omega arith)
joined whole f (g ∷ gs) at low h =
    let long = length-append (f g) (flat_map f gs) in
    let P : ℕ → List ℕ → Type 0 = λ n bs. HasBytesAt whole n bs in
    let here : HasBytesAt whole at (f g) = first (cases_lt 0 (length (f g))) in
    let rest = joined whole f gs (at + length (f g)) (omega arith) (λ j d l some.
    let place : at + total (λ (x : Group). length (f x)) (take (suc j) (g ∷ gs)) ≡ at + length (f g) + total (λ (x : Group). length (f x)) (take j gs) = omega arith in
    subst (λ (n : ℕ). P n (f (get_or gs j d))) place (h (suc j) d (omega arith) some)) in
    HasBytesAt-append whole at (f g) (flat_map f gs) here rest
  where
    first : (0 < length (f g)) ⊎ (length (f g) ≤ 0) → HasBytesAt whole at (f g)
    first (inl some) =
        let place : at + total (λ (x : Group). length (f x)) (take 0 (g ∷ gs)) ≡ at = omega arith in
        subst (λ (n : ℕ). HasBytesAt whole n (f g)) place (h 0 g (omega arith) (omega arith))
    first (inr none) = let long = length-append (f g) (flat_map f gs) in record { fits = omega arith; same = λ k l. absurd (omega arith) }

-- ---- the image

apart_in : (l : Layout) → IsLaidOut l → AreDisjoint (length (padding l)) (pieces l)
apart_in l laid = subst (λ (n : ℕ). AreDisjoint n (pieces l)) (sym (length-padding l)) laid.owners

length-bytes : (l : Layout) → IsLaidOut l → length (bytes l) ≡ image_size l
unfolding bytes
length-bytes l laid = length-overlay (pieces l) (padding l) (apart_in l laid) ∙ length-padding l

pub returns : goal.returns
unfolding bytes
returns c = λ l laid r some p found written size.
    let t = (laid.roles r some).there p found in
    let long = length-bytes l laid in
    let same = t.size in
    let ends = t.ends written size in
    joined (bytes l) (content l r) l.groups p.offset (omega arith) (λ j g low more.
    HasBytesAt-overlay (record { at = p.offset + total (λ (x : Group). length (content l r x)) (take j l.groups); bytes = content l r (get_or l.groups j g) }) (pieces l) (padding l) (apart_in l laid) (t.pieces written j g low more))
