-- Two lists whose items belong together, one by one; and records that stand one behind the other.
use Rattle.wild_names.proofs.Common.{◌≡◌, ℕ, zero, suc, ◌+◌, ◌*◌, List, [], ◌∷◌, ◌++◌, length, Some, slice_get, flat_map, refl, ap, arith, subst, same_Some, HasBytesAt}
use Rattle.wild_words.proofs.RecordLemmas.{HasBytesAt-left, HasBytesAt-right}

-- ---- two lists

-- what holds of the first items, and of all others
pub record FirstAndRest (A B : Type 0) : Type 0 where
  pub first : A
  pub rest : B

-- each x belongs to the y at its place, and there are as many
abbrev pub Belong : {X Y : Type 0} → (X → Y → Type 0) → List X → List Y → Type 0
Belong R [] [] = Unit {0}
Belong R [] (y ∷ ys) = ⊥
Belong R (x ∷ xs) [] = ⊥
Belong R (x ∷ xs) (y ∷ ys) = FirstAndRest (R x y) (Belong R xs ys)

-- as many of the one as of the other
pub belong-length : {X Y : Type 0} (R : X → Y → Type 0) (xs : List X) (ys : List Y) → Belong R xs ys → length xs ≡ length ys
belong-length R [] [] h = refl
belong-length R [] (y ∷ ys) h = absurd h
belong-length R (x ∷ xs) [] h = absurd h
belong-length R (x ∷ xs) (y ∷ ys) h = ap suc (belong-length R xs ys h.rest)

pub belong-append : {X Y : Type 0} (R : X → Y → Type 0) (xs us : List X) (ys vs : List Y) → Belong R xs ys → Belong R us vs → Belong R (xs ++ us) (ys ++ vs)
belong-append R [] us [] vs h k = k
belong-append R [] us (y ∷ ys) vs h k = absurd h
belong-append R (x ∷ xs) us [] vs h k = absurd h
belong-append R (x ∷ xs) us (y ∷ ys) vs h k = record { first = h.first; rest = belong-append R xs us ys vs h.rest k }

-- item k of the first list belongs to y
pub record HasBeside {X Y : Type 0} (R : X → Y → Type 0) (xs : List X) (k : ℕ) (y : Y) : Type 0 where
  pub item : X
  pub is : slice_get xs k ≡ Some item
  pub belongs : R item y

pub belongs_at : {X Y : Type 0} (R : X → Y → Type 0) (xs : List X) (ys : List Y) (k : ℕ) (y : Y) → Belong R xs ys → slice_get ys k ≡ Some y → HasBeside R xs k y
belongs_at R xs [] k y h e = cc
belongs_at R [] (z ∷ zs) k y h e = absurd h
belongs_at R (x ∷ xs) (z ∷ zs) zero y h e = record { item = x; is = refl; belongs = subst (R x) (same_Some z y e) h.first }
belongs_at R (x ∷ xs) (z ∷ zs) (suc k) y h e =
    let later = belongs_at R xs zs k y h.rest e in
    record { item = later.item; is = later.is; belongs = later.belongs }

-- ---- bytes one behind the other

-- record k of records of n bytes
pub HasBytesAt-record : {E : Type 0} (spelled : E → List ℕ) (n : ℕ) → ((e : E) → length (spelled e) ≡ n) → (es : List E) (k : ℕ) (e : E) → slice_get es k ≡ Some e → HasBytesAt (flat_map spelled es) (n * k) (spelled e)
HasBytesAt-record spelled n long [] k e h = cc
HasBytesAt-record spelled n long (x ∷ es) zero e h =
    let z : 0 ≡ n * 0 = omega arith in
    let same = same_Some x e h in
    subst (λ y. HasBytesAt (spelled x ++ flat_map spelled es) (n * 0) (spelled y)) same (subst (λ (m : ℕ). HasBytesAt (spelled x ++ flat_map spelled es) m (spelled x)) z (HasBytesAt-left (spelled x) (flat_map spelled es)))
HasBytesAt-record spelled n long (x ∷ es) (suc k) e h =
    let w = long x in
    let z : length (spelled x) + n * k ≡ n * suc k = nat_next w in
    subst (λ (m : ℕ). HasBytesAt (spelled x ++ flat_map spelled es) m (spelled e)) z (HasBytesAt-right (spelled x) (flat_map spelled es) (spelled e) (n * k) (HasBytesAt-record spelled n long es k e h))
  where
    nat_next : length (spelled x) ≡ n → length (spelled x) + n * k ≡ n * suc k
    nat_next w = rw w (omega arith)
