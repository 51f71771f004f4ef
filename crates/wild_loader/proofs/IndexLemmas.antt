-- The run of an address is found in an index of runs that share no address.
use Rattle.std.proofs.Common.{◌≡◌, ℕ, zero, suc, ◌+◌, ◌-◌, ◌<◌, ◌≤◌, inl, inr, true, false, List, [], ◌∷◌, ◌++◌, length, get_or, set, drop, refl, sym, ap, ◌∙◌, arith, subst, map}
use Rattle.std.specs.Prelude.{All, AllPairs, Contains, Option, Some, None, option_map, nat_lt, nat_le}
use Rattle.std.specs.List.Sorted.{IsPermutation, IsNonDecreasingBy}
use Rattle.std.proofs.lemmas.Bool.{cases_Bool, cases_lt, and_parts, leb-true, ltb-true, le-leb, lt-ltb, le-ltb}
use Rattle.std.proofs.lemmas.List.{length-map, get_or-map, get_or_default, append_assoc, length-append, get_or-append_right, length-set, drop_more}
use Rattle.std.proofs.lemmas.List.Elements.{All-nil, All-cons, Contains-append_right}
use Rattle.std.proofs.lemmas.List.Sorted.{All-permutation, Contains-permutation}
use Rattle.wild_words.specs.declared.extents.Extent.{Extent}
use Rattle.wild_words.specs.Extents.{SharesNothing, least_extent}
use Rattle.wild_words.proofs.ExtentLemmas.{all-apart, apart-beside, Within}
use Rattle.wild_loader.specs.declared.memory.Run.{Run}
use Rattle.wild_loader.specs.Memory.{byte_of}
use Rattle.wild_loader.specs.Runs.{extent_of, has_address, with_byte, put_byte}
use Rattle.wild_loader.specs.Index.{place_of, starts_and_indices, SplitsAt, IsIndexOf}

-- ---- the place of an address

place-only : (rs : List Run) (p a : ℕ) (d : Run) → p < length rs → has_address (get_or rs p d) a ≡ true → ((i : ℕ) → i < length rs → has_address (get_or rs i d) a ≡ true → p ≡ i) → place_of rs a ≡ Some p
place-only [] p a d l here only = absurd (omega arith)
place-only (r ∷ rs) zero a d l here only = rw here refl
place-only (r ∷ rs) (suc p) a d l here only =
    elim (cases_Bool (has_address r a)) [
      | inl t ↦ absurd (let e = only 0 (omega arith) t in omega (arith, e))
      | inr f ↦ (let rest = place-only rs p a d (omega arith) here (λ i m h. let e = only (suc i) (omega arith) h in omega (arith, e)) in rw (f, rest) refl)
    ]

place-none : (rs : List Run) (a : ℕ) (d : Run) → ((i : ℕ) → i < length rs → has_address (get_or rs i d) a ≡ true → ⊥) → place_of rs a ≡ None
place-none [] a d none = refl
place-none (r ∷ rs) a d none =
    elim (cases_Bool (has_address r a)) [
      | inl t ↦ absurd (none 0 (omega arith) t)
      | inr f ↦ (let rest = place-none rs a d (λ i m h. none (suc i) (omega arith) h) in rw (f, rest) refl)
    ]

-- what the place of an address is good for
pub record AtPlace (rs : List Run) (a p : ℕ) (d : Run) : Type 0 where
  pub within : p < length rs
  pub low : (get_or rs p d).start ≤ a
  pub high : a - (get_or rs p d).start < length (get_or rs p d).bytes
  pub byte : byte_of rs a ≡ Some (get_or (get_or rs p d).bytes (a - (get_or rs p d).start) 0)
  pub put : (b : ℕ) → put_byte a b rs ≡ set rs p (with_byte a b (get_or rs p d))

pub at-place : (rs : List Run) (a p : ℕ) (d : Run) → place_of rs a ≡ Some p → AtPlace rs a p d
unfolding put_byte
at-place [] a p d h = absurd cc
at-place (r ∷ rs) a p d h =
    elim (cases_Bool (has_address r a)) [
      | inl t ↦ here r rs a p d t (rw t at h)
      | inr f ↦ behind r rs a p d f (λ q e. at-place rs a q d e) (place_of rs a) refl (rw f at h)
    ]
  where
    here : (r : Run) (rs : List Run) (a p : ℕ) (d : Run) → has_address r a ≡ true → Some 0 ≡ Some p → AtPlace (r ∷ rs) a p d
    here r rs a (suc p) d t h = absurd (let z : 0 ≡ suc p = cc in omega (arith, z))
    here r rs a zero d t h =
        let parts = and_parts (nat_le r.start a) (nat_lt (a - r.start) (length r.bytes)) t in
        record { within = omega arith; low = leb-true _ _ parts.0; high = ltb-true _ _ parts.1; byte = rw t refl; put = λ b. rw t refl }

    behind : (r : Run) (rs : List Run) (a p : ℕ) (d : Run) → has_address r a ≡ false → ((q : ℕ) → place_of rs a ≡ Some q → AtPlace rs a q d) → (o : Option ℕ) → place_of rs a ≡ o → option_map (λ n. suc n) o ≡ Some p → AtPlace (r ∷ rs) a p d
    behind r rs a p d f again None e h = absurd cc
    behind r rs a zero d f again (Some q) e h = absurd (let z : suc q ≡ 0 = cc in omega (arith, z))
    behind r rs a (suc p) d f again (Some q) e h =
        let next : suc q ≡ suc p = cc in
        let same : q ≡ p = omega (arith, next) in
        let rest = again p (e ∙ ap Some same) in
        let within = rest.within in
        record { within = omega arith; low = rest.low; high = rest.high; byte = rw f rest.byte; put = λ b. rw (f, rest.put b) refl }

pub record Nowhere (rs : List Run) (a : ℕ) : Type 0 where
  pub byte : byte_of rs a ≡ None
  pub put : (b : ℕ) → put_byte a b rs ≡ rs

pub nowhere : (rs : List Run) (a : ℕ) → place_of rs a ≡ None → Nowhere rs a
unfolding put_byte
nowhere [] a h = record { byte = refl; put = λ b. refl }
nowhere (r ∷ rs) a h =
    elim (cases_Bool (has_address r a)) [
      | inl t ↦ absurd (let e = rw t at h in cc)
      | inr f ↦ behind r rs a f (λ e. nowhere rs a e) (place_of rs a) refl (rw f at h)
    ]
  where
    behind : (r : Run) (rs : List Run) (a : ℕ) → has_address r a ≡ false → (place_of rs a ≡ None → Nowhere rs a) → (o : Option ℕ) → place_of rs a ≡ o → option_map (λ n. suc n) o ≡ None → Nowhere (r ∷ rs) a
    behind r rs a f again (Some q) e h = absurd cc
    behind r rs a f again None e h = let rest = again e in record { byte = rw f rest.byte; put = λ b. rw (f, rest.put b) refl }

-- a byte put changes no address
pub extents-put : (a b : ℕ) (rs : List Run) → map extent_of (put_byte a b rs) ≡ map extent_of rs
unfolding put_byte
extents-put a b [] = refl
extents-put a b (r ∷ rs) =
    elim (cases_Bool (has_address r a)) [
      | inl t ↦ (let n = length-set r.bytes (a - r.start) b in rw (t, n) refl)
      | inr f ↦ rw (f, extents-put a b rs) refl
    ]

-- ---- finding

has-it : (r : Run) (a : ℕ) → has_address r a ≡ true → Within (extent_of r) a
has-it r a t =
    let parts = and_parts (nat_le r.start a) (nat_lt (a - r.start) (length r.bytes)) t in
    let low = leb-true _ _ parts.0 in
    let high = ltb-true _ _ parts.1 in
    record { low = low; high = omega (arith, low, high) }

found-by : (index : List (ℕ × ℕ)) (rs : List Run) (a k i : ℕ) (s : ℕ × ℕ) (d : Run) → IsIndexOf index (map extent_of rs) → k ≤ length index → SplitsAt index a k → i < length rs → has_address (get_or rs i d) a ≡ true → (0 < k) × ((get_or index (k - 1) s).1 ≡ i)
found-by index rs a k i s d is few parted l t =
    let n = length-map rs extent_of in
    let e = get_or-map extent_of rs i d (extent_of d) l in
    let has = has-it (get_or rs i d) a t in
    let P : Extent → Type 0 = λ x. Within x a in
    let there : Within (get_or (map extent_of rs) i (extent_of d)) a = subst P (sym e) has in
    is.last k i a s (extent_of d) few parted (omega (arith, n, l)) there.low there.high

pub found-none : (index : List (ℕ × ℕ)) (rs : List Run) (a k : ℕ) (d : Run) → IsIndexOf index (map extent_of rs) → k ≤ length index → SplitsAt index a k → k ≡ 0 → place_of rs a ≡ None
found-none index rs a k d is few parted z = place-none rs a d (λ i l t. let h = found-by index rs a k i (0, 0) d is few parted l t in let some = h.0 in omega (arith, some, z))

pub found-at : (index : List (ℕ × ℕ)) (rs : List Run) (a k p : ℕ) (s : ℕ × ℕ) (d : Run) → IsIndexOf index (map extent_of rs) → k ≤ length index → SplitsAt index a k → (get_or index (k - 1) s).1 ≡ p → p < length rs → has_address (get_or rs p d) a ≡ true → place_of rs a ≡ Some p
found-at index rs a k p s d is few parted e l here = place-only rs p a d l here (λ i m t. let h = found-by index rs a k i s d is few parted m t in sym e ∙ h.1)

pub found-not : (index : List (ℕ × ℕ)) (rs : List Run) (a k p : ℕ) (s : ℕ × ℕ) (d : Run) → IsIndexOf index (map extent_of rs) → k ≤ length index → SplitsAt index a k → (get_or index (k - 1) s).1 ≡ p → has_address (get_or rs p d) a ≡ false → place_of rs a ≡ None
found-not index rs a k p s d is few parted e out = place-none rs a d (λ i l t.
    let h = found-by index rs a k i s d is few parted l t in
    let same : p ≡ i = sym e ∙ h.1 in
    let other = rw same at out in
    absurd (let both = sym t ∙ other in cc))

-- ---- making

-- an entry is the start of its extent, which is not empty
record IsEntry (es : List Extent) (s : ℕ × ℕ) : Type 0 where
  pub within : s.1 < length es
  pub start : (e : Extent) → (get_or es s.1 e).start ≡ s.0
  pub some : (e : Extent) → s.0 < (get_or es s.1 e).end

entries-sound : (front es : List Extent) (n : ℕ) → n ≡ length front → All (IsEntry (front ++ es)) (starts_and_indices n es)
unfolding starts_and_indices
entries-sound front [] n e = All-nil _
entries-sound front (x ∷ xs) n e =
    let P : List Extent → Type 0 = λ whole. All (IsEntry whole) (starts_and_indices (n + 1) xs) in
    let long = length-append front (x ∷ []) in
    let more : All (IsEntry (front ++ x ∷ xs)) (starts_and_indices (n + 1) xs) = subst P (append_assoc front (x ∷ []) xs) (entries-sound (front ++ x ∷ []) xs (n + 1) (omega (arith, long, e))) in
    elim (cases_Bool (nat_lt x.start x.end)) [
      | inl t ↦ rw t (All-cons (IsEntry (front ++ x ∷ xs)) (x.start, n) (starts_and_indices (n + 1) xs) (first front x xs n e (ltb-true _ _ t)) more)
      | inr f ↦ rw f more
    ]
  where
    first : (front : List Extent) (x : Extent) (xs : List Extent) (n : ℕ) → n ≡ length front → x.start < x.end → IsEntry (front ++ x ∷ xs) (x.start, n)
    first front x xs n e some =
        let long = length-append front (x ∷ xs) in
        let at : (d : Extent) → get_or (front ++ x ∷ xs) n d ≡ x = λ d. get_or-append_right front (x ∷ xs) n n d (sym e) (omega arith) ∙ (let z : n - n ≡ 0 = omega arith in rw z refl) in
        record { within = omega (arith, long, e); start = λ d. ap (λ (y : Extent). y.start) (at d); some = λ d. rw (at d) some }

entries-there : (es : List Extent) (n i : ℕ) (e : Extent) → i < length es → (get_or es i e).start < (get_or es i e).end → Contains (starts_and_indices n es) ((get_or es i e).start, n + i)
unfolding starts_and_indices
entries-there [] n i e l some = absurd (omega arith)
entries-there (x ∷ xs) n zero e l some =
    let z : n + 0 ≡ n = omega arith in
    rw (lt-ltb _ _ some, z) (0, omega arith, refl)
entries-there (x ∷ xs) n (suc i) e l some =
    let rest = entries-there xs (n + 1) i e (omega arith) some in
    let z : n + suc i ≡ n + 1 + i = omega arith in
    elim (cases_Bool (nat_lt x.start x.end)) [
      | inl t ↦ rw (t, z) (Contains-append_right ((x.start, n) ∷ []) (starts_and_indices (n + 1) xs) ((get_or xs i e).start, n + 1 + i) rest)
      | inr f ↦ rw (f, z) rest
    ]

-- extents that both have a number, of which no two share one, are the same
one-extent : (es : List Extent) (i p a : ℕ) (e : Extent) → AllPairs SharesNothing es → i < length es → p < length es → Within (get_or es i e) a → Within (get_or es p e) a → p ≡ i
one-extent es i p a e apart l m one two =
    elim (cases_lt i p) [
      | inl lower ↦ absurd (both (get_or es i e) (get_or es p e) a (apart i p e lower m) one two)
      | inr from ↦ elim (cases_lt p i) [
        | inl lower ↦ absurd (both (get_or es p e) (get_or es i e) a (apart p i e lower l) two one)
        | inr to ↦ omega arith
      ]
    ]
  where
    both : (x y : Extent) (a : ℕ) → SharesNothing x y → Within x a → Within y a → ⊥
    both x y a apart one two =
        let a1 = one.low in
        let a2 = one.high in
        let b1 = two.low in
        let b2 = two.high in
        elim (apart-beside x y apart (omega (arith, a1, a2)) (omega (arith, b1, b2))) [
          | inl h ↦ omega (arith, h, a1, a2, b1, b2)
          | inr h ↦ omega (arith, h, a1, a2, b1, b2)
        ]

pub index-made : (rs : List Run) (index : List (ℕ × ℕ)) → least_extent (map extent_of rs) ≡ None → IsPermutation (starts_and_indices 0 (map extent_of rs)) index → IsNonDecreasingBy (λ (s : ℕ × ℕ). s.0) index → IsIndexOf index (map extent_of rs)
index-made rs index none moved sorted = record {
  sorted = sorted;
  sound = λ k s l. let at = entry k s l in at.within;
  last = λ k i a s e few parted l low high.
      let it : Within (get_or es i e) a = record { low = low; high = high } in
      let c = Contains-permutation (starts_and_indices 0 es) index ((get_or es i e).start, 0 + i) moved (entries-there es 0 i e l (omega (arith, low, high))) in
      last-one k i a s e few parted l it c.0 c.1 c.2;
}
  where
    es : List Extent
    es = map extent_of rs

    entry : (k : ℕ) (s : ℕ × ℕ) → k < length index → IsEntry es (get_or index k s)
    entry k s l = All-permutation (IsEntry es) (starts_and_indices 0 es) index moved (entries-sound [] es 0 refl) k s l

    -- the entry j of extent i begins at a or below, so the last such entry, k - 1, begins in extent i
    last-one : (k i a : ℕ) (s : ℕ × ℕ) (e : Extent) → k ≤ length index → SplitsAt index a k → i < length es → Within (get_or es i e) a → (j : ℕ) → j < length index → get_or index j ((get_or es i e).start, 0 + i) ≡ ((get_or es i e).start, 0 + i) → (0 < k) × ((get_or index (k - 1) s).1 ≡ i)
    last-one k i a s e few parted l it j m is =
        let low = it.low in
        let high = it.high in
        let first : (get_or index j s).0 ≡ (get_or es i e).start = ap (λ (y : ℕ × ℕ). y.0) (get_or_default index j s ((get_or es i e).start, 0 + i) m ∙ is) in
        let before : j < k = elim (cases_lt j k) [
          | inl h ↦ h
          | inr h ↦ absurd (let f = parted.1 j s h m in let t = le-leb (get_or index j s).0 a (omega (arith, first, low)) in let both = sym t ∙ f in cc)
        ] in
        let within : k - 1 < length index = omega (arith, before, few) in
        let at = entry (k - 1) s within in
        let rises = sorted j (k - 1) s (omega (arith, before)) within in
        let below = leb-true _ _ (parted.0 (k - 1) s (omega arith) (omega (arith, before))) in
        let start = at.start e in
        let some = at.some e in
        let one : Within (get_or es i e) (get_or index (k - 1) s).0 = record { low = omega (arith, first, rises); high = omega (arith, below, high) } in
        let two : Within (get_or es (get_or index (k - 1) s).1 e) (get_or index (k - 1) s).0 = record { low = omega (arith, start); high = some } in
        (omega (arith, before), one-extent es i (get_or index (k - 1) s).1 (get_or index (k - 1) s).0 e (all-apart es none) l at.within one two)

-- ---- the loop

at-extent : (rs : List Run) (i : ℕ) (r : Run) → i < length rs → r ≡ get_or rs i r → drop i (map extent_of rs) ≡ extent_of r ∷ drop (i + 1) (map extent_of rs)
at-extent rs i r l is =
    let n = length-map rs extent_of in
    let e : get_or (map extent_of rs) i (extent_of r) ≡ extent_of r = get_or-map extent_of rs i r (extent_of r) l ∙ ap extent_of (sym is) in
    drop_more (map extent_of rs) i (extent_of r) (omega (arith, n, l)) ∙ ap (λ (x : Extent). x ∷ drop (i + 1) (map extent_of rs)) e

pub starts_and_indices-more : (rs : List Run) (i : ℕ) (r : Run) (front pushed whole : List (ℕ × ℕ)) → i < length rs → r ≡ get_or rs i r → 0 < length r.bytes → pushed ≡ front ++ (r.start, i) ∷ [] → front ++ starts_and_indices i (drop i (map extent_of rs)) ≡ whole → pushed ++ starts_and_indices (i + 1) (drop (i + 1) (map extent_of rs)) ≡ whole
unfolding starts_and_indices
starts_and_indices-more rs i r front pushed whole l is some push inv =
    let t : nat_lt r.start (r.start + length r.bytes) ≡ true = lt-ltb _ _ (omega (arith, some)) in
    let step = rw (at-extent rs i r l is, t) at inv in
    rw (push, append_assoc front ((r.start, i) ∷ []) (starts_and_indices (i + 1) (drop (i + 1) (map extent_of rs)))) step

pub starts_and_indices-skip : (rs : List Run) (i : ℕ) (r : Run) (front whole : List (ℕ × ℕ)) → i < length rs → r ≡ get_or rs i r → length r.bytes ≤ 0 → front ++ starts_and_indices i (drop i (map extent_of rs)) ≡ whole → front ++ starts_and_indices (i + 1) (drop (i + 1) (map extent_of rs)) ≡ whole
unfolding starts_and_indices
starts_and_indices-skip rs i r front whole l is none inv =
    let f : nat_lt r.start (r.start + length r.bytes) ≡ false = le-ltb _ _ (omega (arith, none)) in
    rw (at-extent rs i r l is, f) at inv
