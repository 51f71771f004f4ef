-- What relocations write, apart from each other, and how wide their fields are.
use Rattle.wild_references.proofs.Common.{◌≡◌, ℕ, ◌+◌, ◌<◌, ◌≤◌, inl, inr, List, [], ◌∷◌, length, take, get_or, refl, ap, ◌∙◌, arith, subst, range_with_len, cases_lt, slice_get_within, Piece, Disjoint, InputRelocation, Item, Layout, Decision, site_for, IsDecided, HasDecision}
use Rattle.std.specs.List.{flat_map}
use Rattle.std.proofs.lemmas.List.{take-take, get_or-take, length-take-le}
use Rattle.std.proofs.lemmas.List.Concat.{get_or-flat_map}
use Rattle.std.proofs.lemmas.List.Folds.{length-flat_map-take}
use Rattle.std.proofs.lemmas.List.FromFn.{get_or-range_with_len, length-range_with_len}
use Rattle.wild_words.proofs.OrderLemmas.{Disjoint-flip}
use Rattle.wild_layout.specs.Sites.{site, sites}

-- ---- the site of a decision

pub site_is : (l : Layout) (s : Item) (i : ℕ) (r : InputRelocation) (d : Decision) → HasDecision l s i r d → site l s i ≡ site_for s r d
unfolding site
site_is l s i r d h = rw (h.listed, h.decided) refl

-- ---- pieces of two relocations

-- the only piece of relocation i stands among all behind those of the relocations before it
piece_is : (l : Layout) (s : Item) (i : ℕ) (p : Piece) → i < length s.relocations → site l s i ≡ p ∷ [] → (d : Piece) → get_or (sites l s) (length (flat_map (site l s) (take i (range_with_len 0 (length s.relocations)))) + 0) d ≡ p
piece_is l s i p lt only d =
    let xs = range_with_len 0 (length s.relocations) in
    let long = length-range_with_len 0 (length s.relocations) in
    let n : get_or xs i 0 ≡ i = get_or-range_with_len 0 (length s.relocations) i 0 lt ∙ omega arith in
    let here : site l s (get_or xs i 0) ≡ p ∷ [] = ap (site l s) n ∙ only in
    let some : 0 < length (site l s (get_or xs i 0)) = rw here (omega arith) in
    get_or-flat_map (site l s) xs i 0 0 d (omega (arith, long, lt)) some ∙ ap (λ (ps : List Piece). get_or ps 0 d) here

-- behind those of the relocations before it
piece_ends : (l : Layout) (s : Item) (i : ℕ) (p : Piece) (ns : List ℕ) → i < length ns → get_or ns i 0 ≡ i → site l s i ≡ p ∷ [] → length (flat_map (site l s) (take i ns)) + 1 ≤ length (flat_map (site l s) ns)
piece_ends l s i p ns lt n only =
    let here : length (site l s (get_or ns i 0)) ≡ 1 = ap (λ (k : ℕ). length (site l s k)) n ∙ ap (λ (ps : List Piece). length ps) only in
    let e = length-flat_map-take (site l s) ns i 0 lt in
    omega (arith, here, e)

ordered : (l : Layout) (s : Item) → IsDecided l s → (i j : ℕ) (p q : Piece) → i < j → j < length s.relocations → site l s i ≡ p ∷ [] → site l s j ≡ q ∷ [] → Disjoint p q
ordered l s whole i j p q lt within first second =
    let xs = range_with_len 0 (length s.relocations) in
    let long = length-range_with_len 0 (length s.relocations) in
    let ni : get_or xs i 0 ≡ i = get_or-range_with_len 0 (length s.relocations) i 0 (omega arith) ∙ omega arith in
    let nj : get_or xs j 0 ≡ j = get_or-range_with_len 0 (length s.relocations) j 0 within ∙ omega arith in
    let short : length (take j xs) ≡ j = length-take-le j xs (omega (arith, long)) in
    let front : get_or (take j xs) i 0 ≡ i = get_or-take j xs i 0 lt ∙ ni in
    let a = length (flat_map (site l s) (take i xs)) in
    let b = length (flat_map (site l s) (take j xs)) in
    let inner = piece_ends l s i p (take j xs) (omega (arith, short)) front first in
    let same : length (flat_map (site l s) (take i (take j xs))) ≡ a = ap (λ (ns : List ℕ). length (flat_map (site l s) ns)) (take-take i j xs (omega arith)) in
    let outer = piece_ends l s j q xs (omega (arith, long)) nj second in
    let pair = whole.apart.apart (a + 0) (b + 0) p (omega (arith, inner, same)) (omega (arith, outer)) in
    let e = piece_is l s i p (omega arith) first p in
    let f = piece_is l s j q within second p in
    subst (λ (x : Piece). Disjoint p x) f (subst (λ (x : Piece). Disjoint x (get_or (sites l s) (b + 0) p)) e pair)

-- the sites of two relocations lie apart
pub sites_apart : (l : Layout) (s : Item) → IsDecided l s → (i j : ℕ) (r q : InputRelocation) (d e : Decision) (x y : Piece) → HasDecision l s i r d → HasDecision l s j q e → (i ≡ j → ⊥) → site_for s r d ≡ x ∷ [] → site_for s q e ≡ y ∷ [] → Disjoint x y
sites_apart l s whole i j r q d e x y hi hj other fi fj =
    elim (cases_lt i j) [
      | inl low ↦ ordered l s whole i j x y low (slice_get_within s.relocations j q hj.listed) (site_is l s i r d hi ∙ fi) (site_is l s j q e hj ∙ fj)
      | inr high ↦ Disjoint-flip y x (ordered l s whole j i y x (above high) (slice_get_within s.relocations i r hi.listed) (site_is l s j q e hj ∙ fj) (site_is l s i r d hi ∙ fi))
    ]
  where
    above : j ≤ i → j < i
    above le = elim (cases_lt j i) [ inl lt ↦ lt | inr ge ↦ absurd (other (omega (arith, le, ge))) ]
