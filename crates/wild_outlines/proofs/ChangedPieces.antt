-- Pieces over bytes, where some are replaced by pieces of the same places and lengths.
use Rattle.wild_outlines.proofs.Common.{◌≡◌, ℕ, zero, suc, ◌+◌, ◌-◌, ◌<◌, ◌≤◌, ◌⊎◌, inl, inr, List, [], ◌∷◌, ◌++◌, map, length, get_or, refl, sym, ap, subst, ◌∙◌, arith, Some, slice_get, Extent, with_item, flat_map_from, extent_of}
use Rattle.std.specs.List.Sorted.{IsPermutation}
use Rattle.std.proofs.lemmas.Bool.{cases_lt}
use Rattle.std.proofs.lemmas.List.{append_assoc, append-nil, ext_get_or}
use Rattle.std.proofs.lemmas.List.Kept.{AllPairs-cons}
use Rattle.std.proofs.lemmas.List.Elements.{All-cons}
use Rattle.std.proofs.lemmas.List.Sorted.{IsPermutation-append_right, IsPermutation-append_comm}
use Rattle.wild_words.specs.Overlay.{Piece, overlay, Disjoint, AreDisjoint}
use Rattle.wild_words.specs.Words.{place}
use Rattle.wild_words.proofs.ListLemmas.{AllPairs-head, AllPairs-tail, AllPairs-left, AllPairs-right, nil_parts, All-append-left, All-append-right}
use Rattle.wild_words.proofs.OverlayLemmas.{length-place, place-below, place-inside, place-above, AreDisjoint-rest, length-overlay, overlay_push}
use Rattle.wild_words.proofs.OrderLemmas.{apart_moved, overlay-moved}
use Rattle.wild_outlines.proofs.ListLemmas.{some_same}

-- ---- one piece over another

-- bytes put where as many were put before: the earlier ones leave no trace
place-again : (a : ℕ) (xs ys zs : List ℕ) → a + length ys ≤ length xs → length zs ≡ length ys → place a zs (place a ys xs) ≡ place a zs xs
place-again a xs ys zs fits n =
    let first = length-place a xs ys fits in
    let over : a + length zs ≤ length (place a ys xs) = omega (arith, fits, n, first) in
    let alone : a + length zs ≤ length xs = omega (arith, fits, n) in
    let long = length-place a (place a ys xs) zs over in
    let short = length-place a xs zs alone in
    ext_get_or 0 (place a zs (place a ys xs)) (place a zs xs) (omega (arith, long, short, first)) (λ k l. byte k over alone (cases_lt k a) (cases_lt k (a + length zs)))
  where
    byte : (k : ℕ) → a + length zs ≤ length (place a ys xs) → a + length zs ≤ length xs → (k < a) ⊎ (a ≤ k) → (k < a + length zs) ⊎ (a + length zs ≤ k) → get_or (place a zs (place a ys xs)) k 0 ≡ get_or (place a zs xs) k 0
    byte k over alone (inl before) high = place-below a k (place a ys xs) zs over before ∙ (place-below a k xs ys fits before ∙ sym (place-below a k xs zs alone before))
    byte k over alone (inr from) (inl to) =
        let e : a + (k - a) ≡ k = omega (arith, from) in
        let inside : k - a < length zs = omega (arith, from, to) in
        subst (λ (j : ℕ). get_or (place a zs (place a ys xs)) j 0 ≡ get_or (place a zs xs) j 0) e (place-inside a (k - a) (place a ys xs) zs over inside ∙ sym (place-inside a (k - a) xs zs alone inside))
    byte k over alone low (inr behind) =
        let after : a + length ys ≤ k = omega (arith, behind, n) in
        place-above a k (place a ys xs) zs over behind ∙ (place-above a k xs ys fits after ∙ sym (place-above a k xs zs alone behind))

-- ---- pieces over pieces of the same places and lengths

record SamePlace (p q : Piece) : Type 0 where
  pub at : q.at ≡ p.at
  pub long : length q.bytes ≡ length p.bytes

SamePlace-from_extent : (p q : Piece) → extent_of q ≡ extent_of p → SamePlace p q
SamePlace-from_extent p q h =
    let start : q.at ≡ p.at = ap (λ (e : Extent). e.start) h in
    let end : q.at + length q.bytes ≡ p.at + length p.bytes = ap (λ (e : Extent). e.end) h in
    record { at = start; long = omega (arith, start, end) }

same_disjoint : (p q r : Piece) → SamePlace p q → Disjoint p r → Disjoint q r
same_disjoint p q r e (inl h) = inl (let a = e.at in let n = e.long in omega (arith, a, n, h))
same_disjoint p q r e (inr h) = inr (let a = e.at in omega (arith, a, h))

-- a piece may stand for another of the same place and length
disjoint_exchanged : (n : ℕ) (p q : Piece) (ps : List Piece) → SamePlace p q → AreDisjoint n (p ∷ ps) → AreDisjoint n (q ∷ ps)
disjoint_exchanged n p q ps e h = record {
  within =
      All-cons (λ (r : Piece). r.at + length r.bytes ≤ n) q ps (let w : p.at + length p.bytes ≤ n = h.within 0 p (omega arith) in let a = e.at in let m = e.long in omega (arith, w, a, m))
      (AreDisjoint-rest n p ps h).within;
  apart = AllPairs-cons Disjoint q ps (λ k d l. same_disjoint p q (get_or ps k d) e (AllPairs-head Disjoint p ps h.apart k d l)) (AllPairs-tail Disjoint p ps h.apart);
}

overlay-append : (ps qs : List Piece) (xs : List ℕ) → overlay (ps ++ qs) xs ≡ overlay qs (overlay ps xs)
overlay-append [] qs xs = refl
overlay-append (p ∷ ps) qs xs = overlay-append ps qs (place p.at p.bytes xs)

-- a piece put last is as well put first
last_first : (q : Piece) (ps : List Piece) (xs : List ℕ) → AreDisjoint (length xs) (q ∷ ps) → place q.at q.bytes (overlay ps xs) ≡ overlay ps (place q.at q.bytes xs)
last_first q ps xs h = sym (overlay_push ps q xs) ∙ sym (overlay-moved (q ∷ ps) (ps ++ q ∷ []) xs h (IsPermutation-append_comm (q ∷ []) ps))

heads : (p q : Piece) (ps qs : List Piece) → map extent_of (q ∷ qs) ≡ map extent_of (p ∷ ps) → (extent_of q ≡ extent_of p) × (map extent_of qs ≡ map extent_of ps)
heads p q ps qs h = (cc, cc)

-- pieces that were put below others of the same places and lengths leave no trace
pub overlay-again : (ps qs : List Piece) (xs : List ℕ) → map extent_of qs ≡ map extent_of ps → AreDisjoint (length xs) ps → overlay qs (overlay ps xs) ≡ overlay qs xs
overlay-again [] [] xs e h = refl
overlay-again [] (q ∷ qs) xs e h = cc
overlay-again (p ∷ ps) [] xs e h = cc
overlay-again (p ∷ ps) (q ∷ qs) xs e h =
    let z = heads p q ps qs e in
    let same = SamePlace-from_extent p q z.0 in
    let fits : p.at + length p.bytes ≤ length xs = h.within 0 p (omega arith) in
    let below = place p.at p.bytes xs in
    let n = length-place p.at xs p.bytes fits in
    let here : AreDisjoint (length (place p.at p.bytes xs)) (q ∷ ps) = rw n (disjoint_exchanged (length xs) p q ps same h) in
    let first = last_first q ps (place p.at p.bytes xs) here in
    let alone : place q.at q.bytes (place p.at p.bytes xs) ≡ place q.at q.bytes xs = subst (λ (a : ℕ). place a q.bytes (place p.at p.bytes xs) ≡ place a q.bytes xs) (sym same.at) (place-again p.at xs p.bytes q.bytes fits same.long) in
    let over : q.at + length q.bytes ≤ length xs = let a = same.at in let m = same.long in omega (arith, fits, a, m) in
    let rest : AreDisjoint (length (place q.at q.bytes xs)) ps = rw (length-place q.at xs q.bytes over) (AreDisjoint-rest (length xs) p ps h) in
    ap (overlay qs) (first ∙ ap (overlay ps) alone) ∙ overlay-again ps qs (place q.at q.bytes xs) z.1 rest

-- ---- pieces in the middle replaced

middle_last : {X : Type 0} (ps qs rs : List X) → IsPermutation (ps ++ (qs ++ rs)) ((ps ++ rs) ++ qs)
middle_last ps qs rs = subst (IsPermutation (ps ++ (qs ++ rs))) (sym (append_assoc ps rs qs)) (IsPermutation-append_right ps (qs ++ rs) (rs ++ qs) (IsPermutation-append_comm qs rs))

-- the others, and the middle ones over them
middle_over : (ps qs rs : List Piece) (xs : List ℕ) → AreDisjoint (length xs) (ps ++ (qs ++ rs)) → overlay (ps ++ (qs ++ rs)) xs ≡ overlay qs (overlay (ps ++ rs) xs)
middle_over ps qs rs xs h = overlay-moved (ps ++ (qs ++ rs)) ((ps ++ rs) ++ qs) xs h (middle_last ps qs rs) ∙ overlay-append (ps ++ rs) qs xs

-- bytes with some of their pieces replaced are the bytes before with the new pieces over them
pub overlay-replaced : (ps old new rs : List Piece) (xs : List ℕ) → map extent_of new ≡ map extent_of old → AreDisjoint (length xs) (ps ++ (old ++ rs)) → AreDisjoint (length xs) (ps ++ (new ++ rs))
    → overlay (ps ++ (new ++ rs)) xs ≡ overlay new (overlay (ps ++ (old ++ rs)) xs)
overlay-replaced ps old new rs xs e h g =
    let moved = apart_moved (length xs) (ps ++ (old ++ rs)) ((ps ++ rs) ++ old) h (middle_last ps old rs) in
    let others : AreDisjoint (length xs) (ps ++ rs) = record { within = All-append-left (λ (p : Piece). p.at + length p.bytes ≤ length xs) (ps ++ rs) old moved.within; apart = AllPairs-left Disjoint (ps ++ rs) old moved.apart } in
    let below = length-overlay (ps ++ rs) xs others in
    let inner : AreDisjoint (length xs) old = record { within = All-append-right (λ (p : Piece). p.at + length p.bytes ≤ length xs) (ps ++ rs) old moved.within; apart = AllPairs-right Disjoint (ps ++ rs) old moved.apart } in
    let own : AreDisjoint (length (overlay (ps ++ rs) xs)) old = rw below inner in
    middle_over ps new rs xs g ∙ (sym (overlay-again old new (overlay (ps ++ rs) xs) e own) ∙ ap (overlay new) (sym (middle_over ps old rs xs h)))

-- ---- one item of a list replaced

-- what a list of items gives, with the part of one item taken out
pub record Middle {X : Type 0} (old new : List X) (whole changed : List X) : Type 0 where
  pub front : List X
  pub behind : List X
  pub before : whole ≡ front ++ (old ++ behind)
  pub after : changed ≡ front ++ (new ++ behind)

pub flat_map_from-same : {X Y : Type 0} (f g : ℕ → X → List Y) → ((j : ℕ) (x : X) → g j x ≡ f j x) → (j : ℕ) (xs : List X) → flat_map_from g j xs ≡ flat_map_from f j xs
flat_map_from-same f g h j [] = refl
flat_map_from-same f g h j (x ∷ xs) = rw (h j x, flat_map_from-same f g h (j + 1) xs) refl

pub Middle-from_item : {X Y : Type 0} (f g : ℕ → X → List Y) (v : X → X) → ((j : ℕ) (x : X) → g j x ≡ f j x) → (k : ℕ) (xs : List X) (x : X) → slice_get xs k ≡ Some x → (j i : ℕ) → i ≡ j + k
    → Middle (f i x) (g i (v x)) (flat_map_from f j xs) (flat_map_from g j (with_item v k xs))
Middle-from_item f g v h k [] x at j i is = cc
Middle-from_item f g v h zero (y ∷ ys) x at j i is =
    let y_is : y ≡ x = some_same at in
    let j_is : j ≡ i = omega (arith, is) in
    record {
      front = [];
      behind = flat_map_from f (j + 1) ys;
      before = ap (λ zs. zs ++ flat_map_from f (j + 1) ys) (ap (f j) y_is ∙ ap (λ n. f n x) j_is);
      after = ap (λ zs. zs ++ flat_map_from g (j + 1) ys) (ap (λ z. g j (v z)) y_is ∙ ap (λ n. g n (v x)) j_is) ∙ ap (λ zs. g i (v x) ++ zs) (flat_map_from-same f g h (j + 1) ys);
    }
Middle-from_item f g v h (suc k) (y ∷ ys) x at j i is =
    let m = Middle-from_item f g v h k ys x at (j + 1) i (omega (arith, is)) in
    record {
      front = f j y ++ m.front;
      behind = m.behind;
      before = ap (λ zs. f j y ++ zs) m.before ∙ sym (append_assoc (f j y) m.front (f i x ++ m.behind));
      after = ap (λ zs. zs ++ flat_map_from g (j + 1) (with_item v k ys)) (h j y) ∙ (ap (λ zs. f j y ++ zs) m.after ∙ sym (append_assoc (f j y) m.front (g i (v x) ++ m.behind)));
    }

-- where there is nothing, one item that is replaced gives all
pub middle_alone : {X : Type 0} {old new whole changed : List X} → Middle old new whole changed → whole ≡ [] → (old ≡ []) × (changed ≡ new)
middle_alone {old = old} {new = new} m none =
    let front = nil_parts m.front (old ++ m.behind) (sym m.before ∙ none) in
    let behind = nil_parts old m.behind front.1 in
    (behind.0, m.after ∙ (ap (λ zs. zs ++ (new ++ m.behind)) front.0 ∙ (ap (λ zs. new ++ zs) behind.1 ∙ append-nil new)))

-- nor does any item give something
pub none_from : {X Y : Type 0} (f : ℕ → X → List Y) (j : ℕ) (xs : List X) → flat_map_from f j xs ≡ [] → (i k : ℕ) (x : X) → i ≡ j + k → slice_get xs k ≡ Some x → f i x ≡ []
none_from f j [] none i k x is at = cc
none_from f j (y ∷ ys) none i zero x is at =
    let n : j ≡ i = omega (arith, is) in
    ap (λ (m : ℕ). f m x) (sym n) ∙ (ap (f j) (sym (some_same at)) ∙ (nil_parts (f j y) (flat_map_from f (j + 1) ys) none).0)
none_from f j (y ∷ ys) none i (suc k) x is at = none_from f (j + 1) ys (nil_parts (f j y) (flat_map_from f (j + 1) ys) none).1 i k x (omega (arith, is)) at

-- functions that agree on each item
pub flat_map_from-at : {X Y : Type 0} (f h : ℕ → X → List Y) (j : ℕ) (xs : List X) → ((i k : ℕ) (x : X) → i ≡ j + k → slice_get xs k ≡ Some x → f i x ≡ h i x) → flat_map_from f j xs ≡ flat_map_from h j xs
flat_map_from-at f h j [] each = refl
flat_map_from-at f h j (x ∷ xs) each = rw (each j 0 x (omega arith) refl) (ap (λ zs. h j x ++ zs) (flat_map_from-at f h (j + 1) xs (λ i k y is at. each i (suc k) y (omega (arith, is)) at)))
