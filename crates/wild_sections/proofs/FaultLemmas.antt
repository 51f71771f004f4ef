-- The first fault of lists that are joined.
use Rattle.std.proofs.Common.{◌≡◌, ℕ, zero, suc, ◌+◌, ◌<◌, List, [], ◌∷◌, ◌++◌, length, take, get_or, refl, sym, ap, ◌∙◌, arith, subst}
use Rattle.std.specs.Prelude.{Result}
use Rattle.std.specs.List.{flat_map, range_with_len}
use Rattle.std.proofs.lemmas.List.{append_assoc, append-nil, take_more, length-take-le}
use Rattle.std.proofs.lemmas.List.Concat.{flat_map-append}
use Rattle.wild_words.proofs.ListLemmas.{flat_map-more, flat_map-flat_map, nil_parts}
use Rattle.wild_types.specs.declared.fault.Fault.{Fault}
use Rattle.wild_types.specs.declared.fault.Fault.TheVariants as faults
use Rattle.wild_types.specs.declared.fault.Error.{Error}
use Rattle.wild_types.specs.Faults.{Refuses, RefusesWith, IsFirst, Answers}
use Rattle.wild_layout.specs.Faults.{flat_map_from}

IsFirst-front : (e : Error) (es fs : List Error) → IsFirst e es → IsFirst e (es ++ fs)
IsFirst-front e [] fs h = absurd h
IsFirst-front e (f ∷ es) fs h = h

with-front : (f : Fault) (e : Error) (es fs : List Error) → RefusesWith f e es → RefusesWith f e (es ++ fs)
with-front faults.OutOfMemory e es fs h = tt
with-front (faults.MalformedLayout c i) e es fs h = IsFirst-front e es fs h
with-front (faults.InsufficientAllocation p g a n) e es fs h = IsFirst-front e es fs h
with-front (faults.ExcessiveAllocation p g a n) e es fs h = IsFirst-front e es fs h
with-front (faults.UnsupportedRelocation n) e es fs h = IsFirst-front e es fs h
with-front (faults.MissingResolution w s) e es fs h = IsFirst-front e es fs h
with-front (faults.RecompileWithPic n) e es fs h = IsFirst-front e es fs h
with-front (faults.UnknownSequence n) e es fs h = IsFirst-front e es fs h
with-front (faults.IfuncAddend a) e es fs h = IsFirst-front e es fs h
with-front (faults.NoThunk d) e es fs h = IsFirst-front e es fs h
with-front (faults.ThunkOutOfRange d) e es fs h = IsFirst-front e es fs h
with-front (faults.ThunkAddend a) e es fs h = IsFirst-front e es fs h
with-front (faults.PltTooFar d) e es fs h = IsFirst-front e es fs h
with-front (faults.TlsOutOfSegment v) e es fs h = IsFirst-front e es fs h
with-front (faults.StaticTlsDesc s) e es fs h = IsFirst-front e es fs h
with-front (faults.OutOfRange v) e es fs h = IsFirst-front e es fs h
with-front (faults.BadFrameData w) e es fs h = IsFirst-front e es fs h
with-front (faults.FrameOffsetOverflow v) e es fs h = IsFirst-front e es fs h
with-front (faults.OverlappingSites b) e es fs h = IsFirst-front e es fs h

-- the first of some errors is the first of those and others behind them
pub Refuses-front : (e : Error) (es fs : List Error) → Refuses e es → Refuses e (es ++ fs)
Refuses-front e es fs h = with-front e.fault e es fs h

with-head : (f : Fault) (e : Error) (es : List Error) → RefusesWith f e (e ∷ es)
with-head faults.OutOfMemory e es = tt
with-head (faults.MalformedLayout c i) e es = refl
with-head (faults.InsufficientAllocation p g a n) e es = refl
with-head (faults.ExcessiveAllocation p g a n) e es = refl
with-head (faults.UnsupportedRelocation n) e es = refl
with-head (faults.MissingResolution w s) e es = refl
with-head (faults.RecompileWithPic n) e es = refl
with-head (faults.UnknownSequence n) e es = refl
with-head (faults.IfuncAddend a) e es = refl
with-head (faults.NoThunk d) e es = refl
with-head (faults.ThunkOutOfRange d) e es = refl
with-head (faults.ThunkAddend a) e es = refl
with-head (faults.PltTooFar d) e es = refl
with-head (faults.TlsOutOfSegment v) e es = refl
with-head (faults.StaticTlsDesc s) e es = refl
with-head (faults.OutOfRange v) e es = refl
with-head (faults.BadFrameData w) e es = refl
with-head (faults.FrameOffsetOverflow v) e es = refl
with-head (faults.OverlappingSites b) e es = refl

-- an error is the first of those that begin with it
pub Refuses-head : (e : Error) (es : List Error) → Refuses e (e ∷ es)
Refuses-head e es = with-head e.fault e es

-- both parts of nothing are nothing

-- the first error of an item, where those before it have none
pub refuses_at : {X : Type 0} (f : X → List Error) (xs : List X) (i : ℕ) (d : X) (e : Error) → i < length xs → flat_map f (take i xs) ≡ [] → Refuses e (f (get_or xs i d)) → Refuses e (flat_map f xs)
refuses_at f [] i d e l none h = absurd (omega arith)
refuses_at f (x ∷ xs) zero d e l none h = Refuses-front e (f x) (flat_map f xs) h
refuses_at {X} f (x ∷ xs) (suc i) d e l none h =
    let parts = nil_parts (f x) (flat_map f (take i xs)) none in
    let rest = refuses_at f xs i d e (omega arith) parts.1 h in
    rw parts.0 rest

-- the same, for an item that a loop read
pub refuses_read : {X : Type 0} (f : X → List Error) (xs : List X) (i : ℕ) (x : X) (e : Error) → i < length xs → x ≡ get_or xs i x → flat_map f (take i xs) ≡ [] → Refuses e (f x) → Refuses e (flat_map f xs)
refuses_read {X} f xs i x e l read none h = let P : X → Type 0 = λ y. Refuses e (f y) in refuses_at f xs i x e l none (subst P read h)

-- the errors behind some that are not there
pub Refuses-after : (e : Error) (es fs : List Error) → es ≡ [] → Refuses e fs → Refuses e (es ++ fs)
Refuses-after e es fs none h = rw none h

-- what answers the first of some errors, behind others that are not there
pub answers_behind : {A : Type 0} (r : Result A Error) (es fs : List Error) → es ≡ [] → Answers r fs → Answers r (es ++ fs)
answers_behind r es fs none h = rw none h

pub ruleset first_of_both = (Refuses-front, answers_behind)

pub ruleset first_faults = (refuses_at, refuses_read)

-- the same of what joined lists give
pub refuses_joined : {X : Type 0} (f : X → List Error) (e : Error) (xs ys : List X) → Refuses e (flat_map f xs) → Refuses e (flat_map f (xs ++ ys))
refuses_joined f e xs ys h = subst (λ (es : List Error). Refuses e es) (sym (flat_map-append f xs ys)) (Refuses-front e (flat_map f xs) (flat_map f ys) h)

pub answers_joined : {X A : Type 0} (f : X → List Error) (r : Result A Error) (xs ys : List X) → flat_map f xs ≡ [] → Answers r (flat_map f ys) → Answers r (flat_map f (xs ++ ys))
answers_joined f r xs ys none h = subst (λ (es : List Error). Answers r es) (sym (flat_map-append f xs ys)) (answers_behind r (flat_map f xs) (flat_map f ys) none h)

-- the first error of what an item makes, where those before it have none
pub refuses_made : {X Y : Type 0} (f : Y → List Error) (g : X → List Y) (xs ys : List X) (i : ℕ) (d : X) (e : Error) → xs ≡ ys → i < length xs → flat_map (λ x. flat_map f (g x)) (take i xs) ≡ [] → Refuses e (flat_map f (g (get_or xs i d))) → Refuses e (flat_map f (flat_map g ys))
refuses_made {X} f g xs ys i d e same low none h =
    let P : List X → Type 0 = λ zs. Refuses e (flat_map f (flat_map g zs)) in
    subst P same (subst (λ (es : List Error). Refuses e es) (sym (flat_map-flat_map f g xs)) (refuses_at (λ x. flat_map f (g x)) xs i d e low none h))

pub ruleset first_of_joined = (refuses_joined, answers_joined)

-- the first error of a number that a loop has come to, where those before it have none
pub refuses_number : (f : ℕ → List Error) (a n i j : ℕ) (e : Error) → i < n → j ≡ a + i → flat_map f (range_with_len a i) ≡ [] → Refuses e (f j) → Refuses e (flat_map f (range_with_len a n))
refuses_number f a zero i j e l is none h = absurd (omega arith)
refuses_number f a (suc n) zero j e l is none h = let z : j ≡ a = omega arith in Refuses-front e (f a) (flat_map f (range_with_len (a + 1) n)) (rw z at h)
refuses_number f a (suc n) (suc i) j e l is none h =
    let parts = nil_parts (f a) (flat_map f (range_with_len (a + 1) i)) none in
    let rest = refuses_number f (a + 1) n i j e (omega arith) (omega arith) parts.1 h in
    rw parts.0 rest

-- one more item without errors
pub none_more : {X : Type 0} (f : X → List Error) (xs : List X) (i : ℕ) (d : X) → i < length xs → flat_map f (take i xs) ≡ [] → f (get_or xs i d) ≡ [] → flat_map f (take (i + 1) xs) ≡ []
none_more f xs i d h before here = flat_map-more f xs i d h ∙ ap (λ r. r ++ f (get_or xs i d)) before ∙ here

pub refuses_from_at : {X : Type 0} (f : ℕ → X → List Error) (n m : ℕ) (xs : List X) (i : ℕ) (d : X) (e : Error) → n + i ≡ m → i < length xs → flat_map_from f n (take i xs) ≡ [] → Refuses e (f m (get_or xs i d)) → Refuses e (flat_map_from f n xs)
refuses_from_at f n m [] i d e z l none h = absurd (omega arith)
refuses_from_at f n m (x ∷ xs) zero d e z l none h = let y : m ≡ n = omega arith in Refuses-front e (f n x) (flat_map_from f (n + 1) xs) (rw y at h)
refuses_from_at f n m (x ∷ xs) (suc i) d e z l none h =
    let parts = nil_parts (f n x) (flat_map_from f (n + 1) (take i xs)) none in
    let rest = refuses_from_at f (n + 1) m xs i d e (omega arith) (omega arith) parts.1 h in
    rw parts.0 rest

-- the first error of an item that a loop read with its place, where those before it have none
pub refuses_from : {X : Type 0} (f : ℕ → X → List Error) (xs : List X) (i : ℕ) (x : X) (e : Error) → i < length xs → x ≡ get_or xs i x → flat_map_from f 0 (take i xs) ≡ [] → Refuses e (f i x) → Refuses e (flat_map_from f 0 xs)
refuses_from {X} f xs i x e l read none h = let P : X → Type 0 = λ y. Refuses e (f i y) in refuses_from_at f 0 i xs i x e (omega arith) l none (subst P read h)

pub none_from_at : {X : Type 0} (f : ℕ → X → List Error) (n m : ℕ) (xs : List X) (x : X) → n + length xs ≡ m → flat_map_from f n xs ≡ [] → f m x ≡ [] → flat_map_from f n (xs ++ x ∷ []) ≡ []
none_from_at f n m [] x z before here = let y : m ≡ n = omega arith in append-nil (f n x) ∙ (rw y at here)
none_from_at f n m (y ∷ xs) x z before here =
    let parts = nil_parts (f n y) (flat_map_from f (n + 1) xs) before in
    let rest = none_from_at f (n + 1) m xs x (omega arith) parts.1 here in
    rw (parts.0, rest) refl

-- one more item without errors
pub none_from : {X : Type 0} (f : ℕ → X → List Error) (xs : List X) (i : ℕ) (x : X) → i < length xs → x ≡ get_or xs i x → flat_map_from f 0 (take i xs) ≡ [] → f i x ≡ [] → flat_map_from f 0 (take (i + 1) xs) ≡ []
none_from {X} f xs i x h read before here =
    let P : X → Type 0 = λ y. f i y ≡ [] in
    let n : 0 + length (take i xs) ≡ i = let e = length-take-le i xs (omega arith) in omega (arith, e) in
    ap (flat_map_from f 0) (take_more xs i x h) ∙ none_from_at f 0 i (take i xs) (get_or xs i x) n before (subst P read here)

pub ruleset first_from = (refuses_from, none_from)

-- the same by the place alone
pub none_from_index : {X : Type 0} (f : ℕ → X → List Error) (xs : List X) (i : ℕ) (d : X) → i < length xs → flat_map_from f 0 (take i xs) ≡ [] → f i (get_or xs i d) ≡ [] → flat_map_from f 0 (take (i + 1) xs) ≡ []
none_from_index f xs i d h before here =
    let n : 0 + length (take i xs) ≡ i = let e = length-take-le i xs (omega arith) in omega (arith, e) in
    ap (flat_map_from f 0) (take_more xs i d h) ∙ none_from_at f 0 i (take i xs) (get_or xs i d) n before here

pub refuses_from_index : {X : Type 0} (f : ℕ → X → List Error) (xs : List X) (i : ℕ) (d : X) (e : Error) → i < length xs → flat_map_from f 0 (take i xs) ≡ [] → Refuses e (f i (get_or xs i d)) → Refuses e (flat_map_from f 0 xs)
refuses_from_index f xs i d e h none here = refuses_from_at f 0 i xs i d e (omega arith) h none here

-- ---- what is given for each item with its place, counted from n on

pub flat_map_from-append : {X Y : Type 0} (f : ℕ → X → List Y) (n : ℕ) (xs ys : List X) → flat_map_from f n (xs ++ ys) ≡ flat_map_from f n xs ++ flat_map_from f (n + length xs) ys
flat_map_from-append f n [] ys = let z : n + 0 ≡ n = omega arith in rw z refl
flat_map_from-append {X} {Y} f n (x ∷ xs) ys =
    let z : n + 1 + length xs ≡ n + suc (length xs) = omega arith in
    ap (λ (r : List Y). f n x ++ r) (flat_map_from-append f (n + 1) xs ys)
    ∙ sym (append_assoc (f n x) (flat_map_from f (n + 1) xs) (flat_map_from f (n + 1 + length xs) ys))
    ∙ ap (λ (k : ℕ). (f n x ++ flat_map_from f (n + 1) xs) ++ flat_map_from f k ys) z

pub one_from : {X Y : Type 0} (f : ℕ → X → List Y) (n i : ℕ) (xs : List X) (x : X) → i < length xs → x ≡ get_or xs i x → flat_map_from f n (take (i + 1) xs) ≡ flat_map_from f n (take i xs) ++ f (n + i) x
one_from {X} {Y} f n i xs x h read =
    let long = length-take-le i xs (omega arith) in
    ap (flat_map_from f n) (take_more xs i x h)
    ∙ flat_map_from-append f n (take i xs) (get_or xs i x ∷ [])
    ∙ ap (λ (k : ℕ). flat_map_from f n (take i xs) ++ flat_map_from f k (get_or xs i x ∷ [])) (ap (λ (k : ℕ). n + k) long)
    ∙ ap (λ (r : List Y). flat_map_from f n (take i xs) ++ r) (append-nil (f (n + i) (get_or xs i x)))
    ∙ ap (λ (y : X). flat_map_from f n (take i xs) ++ f (n + i) y) (sym read)

-- one more item without errors
pub none_behind : {X : Type 0} (f : ℕ → X → List Error) (n i : ℕ) (xs : List X) (x : X) → i < length xs → x ≡ get_or xs i x → flat_map_from f n (take i xs) ≡ [] → f (n + i) x ≡ [] → flat_map_from f n (take (i + 1) xs) ≡ []
none_behind f n i xs x h read before here = one_from f n i xs x h read ∙ rw (before, here) refl

-- the first error of an item, where those before it have none
pub refuses_behind : {X : Type 0} (f : ℕ → X → List Error) (n i : ℕ) (xs : List X) (x : X) (e : Error) → i < length xs → x ≡ get_or xs i x → flat_map_from f n (take i xs) ≡ [] → Refuses e (f (n + i) x) → Refuses e (flat_map_from f n xs)
refuses_behind {X} f n i xs x e h read none here = let P : X → Type 0 = λ y. Refuses e (f (n + i) y) in refuses_from_at f n (n + i) xs i x e refl h none (subst P read here)

pub ruleset first_behind = (refuses_behind, none_behind)
