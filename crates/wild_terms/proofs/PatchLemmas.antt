-- The change that covers an address.
use Rattle.std.proofs.Common.{◌≡◌, ℕ, zero, suc, ◌+◌, ◌-◌, ◌<◌, ◌≤◌, inl, inr, ◌⊎◌, Bool, true, false, List, [], ◌∷◌, ◌++◌, length, get_or, map, refl, sym, ◌∙◌, arith, subst, nat_le, nat_lt}
use Rattle.std.specs.Prelude.{Some, None, All, AllPairs, Contains, if◌then◌else◌, ◌&&◌}
use Rattle.std.specs.List.Sorted.{IsNonDecreasingBy, IsPermutation, IsPartitionPoint}
use Rattle.std.proofs.lemmas.Bool.{cases_Bool, false≢true, leb-true, le-leb, ltb-true, lt-ltb}
use Rattle.std.proofs.lemmas.Bool.Decides.{leb_tells}
use Rattle.std.proofs.lemmas.List.{get_or-map, length-map}
use Rattle.std.proofs.lemmas.List.Elements.{All-cons, All-nil, All-from_get_or}
use Rattle.std.proofs.lemmas.List.Sorted.{IsPermutation-map}
use Rattle.wild_words.specs.declared.extents.Extent.{Extent}
use Rattle.wild_words.specs.Extents.{least_extent, SharesNothing}
use Rattle.wild_words.proofs.ExtentLemmas.{all-apart, none-shared, apart-beside, order-free}
use Rattle.wild_words.proofs.ListLemmas.{AllPairs-right, AllPairs-tail, Contains-here, Contains-there}
use Rattle.wild_terms.specs.declared.outline.TermChange.{TermChange}
use Rattle.wild_terms.specs.declared.outline.TermChange.TheVariants as changes
use Rattle.wild_terms.specs.declared.load.TermPatch.{TermPatch}
use Rattle.wild_terms.specs.Terms.{number_term}
use Rattle.wild_terms.specs.Symbolic.{width_of, extent_of, Ascend, AreApart, covers, patch_covering}

-- ---- one change

pub no_patch : TermPatch
no_patch = record { place = 0; change = changes.Word (number_term 0) }

pub some_width : (c : TermChange) → 0 < width_of c
some_width (changes.Word t) = omega arith
some_width (changes.Half t) = omega arith
some_width (changes.Descriptor t) = omega arith

both : (a b : Bool) → (a && b) ≡ true → (a ≡ true) × (b ≡ true)
both true b h = (refl, h)
both false b h = cc

-- a change that covers an address
pub covered : (p : TermPatch) (a : ℕ) → covers p a ≡ true → (p.place ≤ a) × (a < p.place + width_of p.change)
covered p a h =
    let b = both (nat_le p.place a) (nat_lt a (p.place + width_of p.change)) h in
    (leb-true p.place a b.0, ltb-true a (p.place + width_of p.change) b.1)

pub covering : (p : TermPatch) (a : ℕ) → p.place ≤ a → a < p.place + width_of p.change → covers p a ≡ true
covering p a l h =
    let e = le-leb p.place a l in
    let f = lt-ltb a (p.place + width_of p.change) h in
    rw (e, f) refl

-- one that does not
pub outside : (p : TermPatch) (a : ℕ) → covers p a ≡ false → (a < p.place) ⊎ (p.place + width_of p.change ≤ a)
outside p a h = elim (leb_tells p.place a) [
  | inl l ↦ elim (leb_tells (p.place + width_of p.change) a) [
    | inl m ↦ inr m.1
    | inr m ↦ absurd (false≢true (sym h ∙ covering p a l.1 m.1))
  ]
  | inr l ↦ inl l.1
]

pub not_covering : (p : TermPatch) (a : ℕ) → (a < p.place) ⊎ (p.place + width_of p.change ≤ a) → covers p a ≡ false
not_covering p a h = elim (cases_Bool (covers p a)) [
  | inl t ↦ (let b = covered p a t in let l = b.0 in let u = b.1 in elim h [ inl x ↦ absurd (omega (arith, l, x)) | inr y ↦ absurd (omega (arith, u, y)) ])
  | inr f ↦ f
]

-- ---- lists

pub covering_at : (ps : List TermPatch) (k a : ℕ) (d : TermPatch) → Ascend ps → k < length ps → covers (get_or ps k d) a ≡ true → patch_covering ps a ≡ Some (get_or ps k d)
covering_at [] k a d up l h = absurd (omega (arith, l))
covering_at (p ∷ ps) zero a d up l h = rw h refl
covering_at (p ∷ ps) (suc k) a d up l h =
    let end = up.each 0 (suc k) d (omega arith) l in
    let at = (covered (get_or ps k d) a h).0 in
    let f = not_covering p a (inr (omega (arith, end, at))) in
    rw f (covering_at ps k a d (record { each = AllPairs-tail (λ (p q : TermPatch). p.place + width_of p.change ≤ q.place) p ps up.each }) (omega (arith, l)) h)

pub covering_none : (ps : List TermPatch) (a : ℕ) → All (λ p. covers p a ≡ false) ps → patch_covering ps a ≡ None
covering_none [] a h = refl
covering_none (p ∷ ps) a h =
    let f : covers p a ≡ false = h 0 p (omega arith) in
    rw f (covering_none ps a (λ k d l. h (suc k) d (omega (arith, l))))

-- places rise
pub rising : (ps : List TermPatch) → Ascend ps → IsNonDecreasingBy (λ (p : TermPatch). p.place) ps
rising ps up i j d l m = elim (leb_tells (suc i) j) [
  | inl t ↦ (let s = t.1 in let u = up.each i j d (omega (arith, s)) m in omega (arith, u))
  | inr t ↦ (let s = t.1 in let e : i ≡ j = omega (arith, l, s) in rw e (omega arith))
]

abbrev pub Splits : List TermPatch → ℕ → ℕ → Type 0
Splits ps a k = IsPartitionPoint (λ (p : TermPatch). nat_le p.place a ≡ true) (λ (p : TermPatch). nat_le p.place a ≡ false) ps k

above : (n a : ℕ) → nat_le n a ≡ false → a < n
above n a h = elim (leb_tells n a) [
  | inl t ↦ absurd (false≢true (sym h ∙ le-leb n a t.1))
  | inr t ↦ t.1
]

-- where the last change at or below an address does not cover it, none does
pub covering_no : (ps : List TermPatch) (a k : ℕ) (d : TermPatch) → Ascend ps → k ≤ length ps → Splits ps a k → (0 < k → covers (get_or ps (k - 1) d) a ≡ false) → patch_covering ps a ≡ None
covering_no ps a k d up few parted last = covering_none ps a (All-from_get_or (λ p. covers p a ≡ false) ps d (λ i l. elim (leb_tells k i) [
  | inl t ↦ not_covering (get_or ps i d) a (inl (above (get_or ps i d).place a (parted.1 i d t.1 l)))
  | inr t ↦ elim (leb_tells k (i + 1)) [
    | inl u ↦ (let s = t.1 in let v = u.1 in let e : k - 1 ≡ i = omega (arith, s, v) in let f = last (omega (arith, s)) in rw e at f)
    | inr u ↦ (
        let s = u.1 in
        let n : k - 1 < length ps = omega (arith, s, few) in
        let end = up.each i (k - 1) d (omega (arith, s)) n in
        let at = leb-true (get_or ps (k - 1) d).place a (parted.0 (k - 1) d (omega arith) (omega (arith, s))) in
        not_covering (get_or ps i d) a (inr (omega (arith, end, at))))
  ]
]))

-- the change that is found covers the address and is one of the list
pub covering_in : (ps : List TermPatch) (a : ℕ) (q : TermPatch) → patch_covering ps a ≡ Some q → Contains ps q × (covers q a ≡ true)
covering_in [] a q h = cc
covering_in (p ∷ ps) a q h = by_test (covering_in ps a q) (covers p a) refl h
  where
    by_test : (patch_covering ps a ≡ Some q → Contains ps q × (covers q a ≡ true)) → (b : Bool) → covers p a ≡ b → (if b then Some p else patch_covering ps a) ≡ Some q → Contains (p ∷ ps) q × (covers q a ≡ true)
    by_test rest true e h = let same : p ≡ q = cc in let P : TermPatch → Type 0 = λ x. Contains (p ∷ ps) x × (covers x a ≡ true) in subst P same (Contains-here p ps, e)
    by_test rest false e h = let more = rest h in (Contains-there q p ps more.0, more.1)

-- where none is found, none covers the address
pub none_covering : (ps : List TermPatch) (a : ℕ) → patch_covering ps a ≡ None → All (λ p. covers p a ≡ false) ps
none_covering [] a h = All-nil (λ p. covers p a ≡ false)
none_covering (p ∷ ps) a h = by_test (none_covering ps a) (covers p a) refl h
  where
    by_test : (patch_covering ps a ≡ None → All (λ p. covers p a ≡ false) ps) → (b : Bool) → covers p a ≡ b → (if b then Some p else patch_covering ps a) ≡ None → All (λ p. covers p a ≡ false) (p ∷ ps)
    by_test rest true e h = cc
    by_test rest false e h = All-cons (λ p. covers p a ≡ false) p ps e (rest h)

-- ---- changes that are apart

pub last_apart : (es : List Extent) (ps : List TermPatch) → least_extent (es ++ map extent_of ps) ≡ None → AreApart ps
last_apart es ps h = none-shared (map extent_of ps) (AllPairs-right SharesNothing es (map extent_of ps) (all-apart (es ++ map extent_of ps) h))

-- two changes that share no byte, one before the other in a list
pub pairs_apart : (ps : List TermPatch) → AreApart ps → AllPairs (λ (p q : TermPatch). (p.place + width_of p.change ≤ q.place) ⊎ (q.place + width_of q.change ≤ p.place)) ps
pairs_apart ps h i j d l m =
    let pairs = all-apart (map extent_of ps) h in
    let n = length-map ps extent_of in
    let a = get_or-map extent_of ps i d (extent_of d) (omega (arith, l, m)) in
    let b = get_or-map extent_of ps j d (extent_of d) m in
    let one = pairs i j (extent_of d) l (omega (arith, n, m)) in
    let P : Extent → Type 0 = λ e. SharesNothing e (get_or (map extent_of ps) j (extent_of d)) in
    let Q : Extent → Type 0 = λ e. SharesNothing (extent_of (get_or ps i d)) e in
    let two = subst Q b (subst P a one) in
    let s = some_width (get_or ps i d).change in
    let t = some_width (get_or ps j d).change in
    apart-beside (extent_of (get_or ps i d)) (extent_of (get_or ps j d)) two (omega (arith, s)) (omega (arith, t))

-- sorted by place, they ascend
pub ascending : (ps qs : List TermPatch) → AreApart ps → IsPermutation ps qs → IsNonDecreasingBy (λ (p : TermPatch). p.place) qs → Ascend qs
ascending ps qs h moved up = record {
  each = λ i j d l m.
      let e = order-free (map extent_of ps) (map extent_of qs) (IsPermutation-map extent_of ps qs moved) in
      let pair = pairs_apart qs (e ∙ h) i j d l m in
      let s = some_width (get_or qs j d).change in
      let u = up i j d (omega (arith, l)) m in
      elim pair [ inl x ↦ x | inr y ↦ absurd (omega (arith, y, s, u)) ];
}
