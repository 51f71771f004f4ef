-- Thunks that ascend by their symbols are found by halves.
use Rattle.std.proofs.Common.{◌≡◌, ℕ, ◌+◌, ◌<◌, ◌≤◌, true, ◌==◌, nat_le, List, [], ◌∷◌, ◌++◌, length, take, drop, inl, inr, refl, sym, ◌/◌, subst, arith}
use Rattle.std.specs.Prelude.{None, slice_index_or}
use Rattle.std.proofs.lemmas.List.{take-append-drop}
use Rattle.std.proofs.lemmas.Bool.{cases_Bool, and_parts, leb-true, le-leb, ne_eqb}
use Rattle.wild_types.specs.declared.layout.Thunk.{Thunk}
use Rattle.wild_plan_rules.specs.Thunks.{ascends_from, ascends}
use Rattle.wild_layout.specs.Thunks.{thunk_of}

-- what the first of them says of the others
head_ascends : (low : ℕ) (t : Thunk) (ts : List Thunk) → ascends_from low (t ∷ ts) ≡ true → (low ≤ t.symbol) × (ascends_from (t.symbol + 1) ts ≡ true)
head_ascends low t ts h = let p = and_parts _ _ h in (leb-true low t.symbol p.0, p.1)

behind_low : (low : ℕ) (xs : List Thunk) (y : Thunk) (ys : List Thunk) → ascends_from low (xs ++ y ∷ ys) ≡ true → (low ≤ y.symbol) × (ascends_from (y.symbol + 1) ys ≡ true)
behind_low low [] y ys h = head_ascends low y ys h
behind_low low (x ∷ xs) y ys h =
    let p = head_ascends low x (xs ++ y ∷ ys) h in
    let q = behind_low (x.symbol + 1) xs y ys p.1 in
    let a = p.0 in
    let b = q.0 in
    (omega (arith, a, b), q.1)

ascends_front : (low : ℕ) (xs ys : List Thunk) → ascends_from low (xs ++ ys) ≡ true → ascends_from low xs ≡ true
ascends_front low [] ys h = refl
ascends_front low (x ∷ xs) ys h = let p = and_parts (nat_le low x.symbol) (ascends_from (x.symbol + 1) (xs ++ ys)) h in rw (p.0, ascends_front (x.symbol + 1) xs ys p.1) refl

none_below : (low c : ℕ) (ts : List Thunk) → ascends_from low ts ≡ true → c < low → thunk_of c ts ≡ None
none_below low c [] h l = refl
none_below low c (t ∷ ts) h l =
    let p = head_ascends low t ts h in
    let a = p.0 in
    rw (ne_eqb t.symbol c (λ e. omega (arith, a, l, e))) (none_below (t.symbol + 1) c ts p.1 (omega (arith, a, l)))

-- in the back half, or in the front one
found_behind : (low c : ℕ) (xs : List Thunk) (y : Thunk) (ys : List Thunk) → ascends_from low (xs ++ y ∷ ys) ≡ true → y.symbol ≤ c → thunk_of c (y ∷ ys) ≡ thunk_of c (xs ++ y ∷ ys)
found_behind low c [] y ys h l = refl
found_behind low c (x ∷ xs) y ys h l =
    let p = head_ascends low x (xs ++ y ∷ ys) h in
    let q = behind_low (x.symbol + 1) xs y ys p.1 in
    let a = q.0 in
    rw (ne_eqb x.symbol c (λ e. omega (arith, a, l, e))) (found_behind (x.symbol + 1) c xs y ys p.1 l)

found_ahead : (low c : ℕ) (xs : List Thunk) (y : Thunk) (ys : List Thunk) → ascends_from low (xs ++ y ∷ ys) ≡ true → c < y.symbol → thunk_of c xs ≡ thunk_of c (xs ++ y ∷ ys)
found_ahead low c [] y ys h l =
    let p = head_ascends low y ys h in
    rw (ne_eqb y.symbol c (λ e. omega (arith, l, e)), none_below (y.symbol + 1) c ys p.1 (omega (arith, l))) refl
found_ahead low c (x ∷ xs) y ys h l =
    let p = head_ascends low x (xs ++ y ∷ ys) h in
    elim (cases_Bool (x.symbol == c)) [
      | inl e ↦ rw e refl
      | inr f ↦ rw f (found_ahead (x.symbol + 1) c xs y ys p.1 l)
    ]

ascends_behind : (low : ℕ) (xs : List Thunk) (y : Thunk) (ys : List Thunk) → ascends_from low (xs ++ y ∷ ys) ≡ true → ascends (y ∷ ys) ≡ true
ascends_behind low xs y ys h = let q = behind_low low xs y ys h in rw (le-leb 0 y.symbol (omega arith), q.1) refl

-- the half to go on with: that behind the middle, where the symbol is not ahead of it
pub record HasHalves (c : ℕ) (ts front back : List Thunk) (m : Thunk) : Type 0 where
  pub front_ascends : ascends front ≡ true
  pub back_ascends : ascends back ≡ true
  pub behind : m.symbol ≤ c → thunk_of c back ≡ thunk_of c ts
  pub ahead : c < m.symbol → thunk_of c front ≡ thunk_of c ts

HasHalves-from_cut : (c : ℕ) (front back ts : List Thunk) (m : Thunk) → front ++ back ≡ ts → ascends ts ≡ true → 1 ≤ length back → m ≡ slice_index_or back 0 m → HasHalves c ts front back m
HasHalves-from_cut c front [] ts m cut h some is = absurd (omega (arith, some))
HasHalves-from_cut c front (y ∷ ys) ts m cut h some is =
    subst (λ (us : List Thunk). HasHalves c us front (y ∷ ys) m) cut (subst (HasHalves c (front ++ y ∷ ys) front (y ∷ ys)) (sym is) (of_head (subst (λ (us : List Thunk). ascends us ≡ true) (sym cut) h)))
  where
    of_head : ascends (front ++ y ∷ ys) ≡ true → HasHalves c (front ++ y ∷ ys) front (y ∷ ys) y
    of_head o = record {
      front_ascends = ascends_front 0 front (y ∷ ys) o;
      back_ascends = ascends_behind 0 front y ys o;
      behind = λ l. found_behind 0 c front y ys o l;
      ahead = λ l. found_ahead 0 c front y ys o l;
    }

pub HasHalves-from_split : (c : ℕ) (ts front back : List Thunk) (m : Thunk) → 2 ≤ length ts → front ≡ take (length ts / 2) ts → back ≡ drop (length ts / 2) ts → length back + length ts / 2 ≡ length ts → ascends ts ≡ true → m ≡ slice_index_or back 0 m → HasHalves c ts front back m
HasHalves-from_split c ts front back m some f b size h is = HasHalves-from_cut c front back ts m (rw (f, b) (take-append-drop (length ts / 2) ts)) h (omega (arith, some, size)) is
