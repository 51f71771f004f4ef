-- Walks with a state: what holds of each item and of the items before it.
use Rattle.wild_slots.proofs.Common.{◌≡◌, ℕ, zero, suc, ◌<◌, List, [], ◌∷◌, ◌++◌, length, get_or, Contains, Ok, Err, refl, sym, ap, ◌∙◌, subst, arith, Result, flat_map, append-nil, append_assoc}
use Rattle.wild_plan_rules.specs.SlotPlaces.{and_then, walk}

-- each item stands in that relation to the items before it, and those of front
abbrev pub AllAfter : {Y : Type 0} → (List Y → Y → Type 0) → List Y → List Y → Type 0
AllAfter R front [] = Unit {0}
AllAfter R front (y ∷ ys) = R front y × AllAfter R (front ++ y ∷ []) ys

next_front : {Y : Type 0} (front ys : List Y) (y : Y) → (front ++ y ∷ []) ++ ys ≡ front ++ y ∷ ys
next_front front ys y = append_assoc front (y ∷ []) ys

pub AllAfter-append : {Y : Type 0} (R : List Y → Y → Type 0) (front xs ys : List Y) → AllAfter R front xs → AllAfter R (front ++ xs) ys → AllAfter R front (xs ++ ys)
AllAfter-append R front [] ys a b =
    let P : List _ → Type 0 = λ zs. AllAfter R zs ys in
    subst P (append-nil front) b
AllAfter-append R front (x ∷ xs) ys a b =
    let P : List _ → Type 0 = λ zs. AllAfter R zs ys in
    (a.0, AllAfter-append R (front ++ x ∷ []) xs ys a.1 (subst P (sym (next_front front xs x)) b))

pub AllAfter-right : {Y : Type 0} (R : List Y → Y → Type 0) (front xs ys : List Y) → AllAfter R front (xs ++ ys) → AllAfter R (front ++ xs) ys
AllAfter-right R front [] ys a =
    let P : List _ → Type 0 = λ zs. AllAfter R zs ys in
    subst P (sym (append-nil front)) a
AllAfter-right R front (x ∷ xs) ys a =
    let P : List _ → Type 0 = λ zs. AllAfter R zs ys in
    subst P (next_front front xs x) (AllAfter-right R (front ++ x ∷ []) xs ys a.1)

pub AllAfter-left : {Y : Type 0} (R : List Y → Y → Type 0) (front xs ys : List Y) → AllAfter R front (xs ++ ys) → AllAfter R front xs
AllAfter-left R front [] ys a = tt
AllAfter-left R front (x ∷ xs) ys a = (a.0, AllAfter-left R (front ++ x ∷ []) xs ys a.1)

-- ---- an item, and those before it

pub record Cut {Y : Type 0} (R : List Y → Y → Type 0) (front ys : List Y) (y : Y) : Type 0 where
  pub before : List Y
  pub after : List Y
  pub is : ys ≡ before ++ y ∷ after
  pub here : R (front ++ before) y

cut_at : {Y : Type 0} (R : List Y → Y → Type 0) (front ys : List Y) (y : Y) (k : ℕ) → k < length ys → get_or ys k y ≡ y → AllAfter R front ys → Cut R front ys y
cut_at R front [] y k l e a = absurd (omega arith)
cut_at R front (x ∷ ys) y zero l e a =
    let P : List _ → Type 0 = λ zs. R zs y in
    record { before = []; after = ys; is = ap (λ z. z ∷ ys) e; here = subst P (sym (append-nil front)) (subst (R front) e a.0) }
cut_at R front (x ∷ ys) y (suc k) l e a =
    let c = cut_at R (front ++ x ∷ []) ys y k (omega arith) e a.1 in
    let P : List _ → Type 0 = λ zs. R zs y in
    record { before = x ∷ c.before; after = c.after; is = ap (λ zs. x ∷ zs) c.is; here = subst P (next_front front c.before x) c.here }

pub Cut-from_contains : {Y : Type 0} (R : List Y → Y → Type 0) (front ys : List Y) (y : Y) → Contains ys y → AllAfter R front ys → Cut R front ys y
Cut-from_contains R front ys y c a = cut_at R front ys y c.0 c.1 c.2 a

-- the items of one of several lists, between those of the lists before it and behind it
pub record Piece {Y : Type 0} (R : List Y → Y → Type 0) (whole ys : List Y) : Type 0 where
  pub before : List Y
  pub after : List Y
  pub is : whole ≡ before ++ (ys ++ after)
  pub each : AllAfter R before ys

piece_at : {X Y : Type 0} (R : List Y → Y → Type 0) (f : X → List Y) (front : List Y) (xs : List X) (x : X) (k : ℕ) → k < length xs → get_or xs k x ≡ x → AllAfter R front (flat_map f xs) → Piece R (front ++ flat_map f xs) (f x)
piece_at R f front [] x k l e a = absurd (omega arith)
piece_at R f front (z ∷ xs) x zero l e a =
    let P : _ → Type 0 = λ w. AllAfter R front (f w) in
    let here = AllAfter-left R front (f z) (flat_map f xs) a in
    record { before = front; after = flat_map f xs; is = ap (λ w. front ++ (f w ++ flat_map f xs)) e; each = subst P e here }
piece_at R f front (z ∷ xs) x (suc k) l e a =
    let rest = piece_at R f (front ++ f z) xs x k (omega arith) e (AllAfter-right R front (f z) (flat_map f xs) a) in
    record { before = rest.before; after = rest.after; is = sym (append_assoc front (f z) (flat_map f xs)) ∙ rest.is; each = rest.each }

pub Piece-from_contains : {X Y : Type 0} (R : List Y → Y → Type 0) (f : X → List Y) (xs : List X) (x : X) → Contains xs x → AllAfter R [] (flat_map f xs) → Piece R (flat_map f xs) (f x)
Piece-from_contains R f xs x c a = piece_at R f [] xs x c.0 c.1 c.2 a

-- ---- walks

-- a walk over an item: its pieces are as they should be, and the state behind them keeps what it has to
pub record Walked {S Y : Type 0} (R : List Y → Y → Type 0) (K : List Y → S → Type 0) (front ys : List Y) (state : S) : Type 0 where
  pub each : AllAfter R front ys
  pub kept : K (front ++ ys) state

pub Walked-none : {S Y : Type 0} (R : List Y → Y → Type 0) (K : List Y → S → Type 0) (front : List Y) (state : S) → K front state → Walked R K front [] state
Walked-none R K front state k =
    let P : List _ → Type 0 = λ zs. K zs state in
    record { each = tt; kept = subst P (sym (append-nil front)) k }

pub Walked-more : {S Y : Type 0} (R : List Y → Y → Type 0) (K : List Y → S → Type 0) (front xs ys : List Y) (s t : S) → Walked R K front xs s → Walked R K (front ++ xs) ys t → Walked R K front (xs ++ ys) t
Walked-more R K front xs ys s t a b =
    let P : List _ → Type 0 = λ zs. K zs t in
    record { each = AllAfter-append R front xs ys a.each b.each; kept = subst P (append_assoc front xs ys) b.kept }

-- the state between two steps
pub record Through {S : Type 0} (r : Result S ℕ) (next : S → Result S ℕ) (end : S) : Type 0 where
  pub state : S
  pub first : r ≡ Ok state
  pub rest : next state ≡ Ok end

pub through_both : {S : Type 0} (r : Result S ℕ) (next : S → Result S ℕ) (end : S) → and_then r next ≡ Ok end → Through r next end
through_both (Err e) next end h = cc
through_both (Ok s) next end h = record { state = s; first = refl; rest = h }

pub same_Ok : {S : Type 0} (s t : S) → ◌≡◌ {A = Result S ℕ} (Ok s) (Ok t) → s ≡ t
same_Ok s t h = cc

-- where each step keeps it, the walk does
pub walk_through : {S X Y : Type 0} (R : List Y → Y → Type 0) (K : List Y → S → Type 0) (f : X → List Y) (step : S → X → Result S ℕ)
    → ((front : List Y) (s t : S) (x : X) → K front s → step s x ≡ Ok t → Walked R K front (f x) t)
    → (xs : List X) (front : List Y) (s t : S) → K front s → walk step s xs ≡ Ok t → Walked R K front (flat_map f xs) t
unfolding walk
walk_through R K f step each [] front s t k h = Walked-none R K front t (subst (K front) (same_Ok s t h) k)
walk_through R K f step each (x ∷ xs) front s t k h =
    let two = through_both (step s x) (λ u. walk step u xs) t h in
    let one = each front s two.state x k two.first in
    let rest = walk_through R K f step each xs (front ++ f x) two.state t one.kept two.rest in
    Walked-more R K front (f x) (flat_map f xs) two.state t one rest
