-- A pass over the relocations has a fault exactly where the list of faults has one.
use Rattle.std.proofs.Common.{◌≡◌, ℕ, zero, suc, ◌+◌, ◌-◌, ◌<◌, List, [], ◌∷◌, ◌++◌, length, get_or, refl, ap, ◌∙◌, arith, subst}
use Rattle.std.specs.Prelude.{Option, Some, None, Result, Ok, Err, OnOk, slice_get}
use Rattle.std.specs.List.{flat_map, range_with_len}
use Rattle.std.proofs.lemmas.Option.{slice_get_read, slice_get_within}
use Rattle.wild_words.proofs.Basics.{flat_map-none, slice_get_inside}
use Rattle.wild_words.proofs.ListLemmas.{flat_map-numbers, nil_parts}
use Rattle.wild_words.specs.Words.{place}
use Rattle.wild_types.specs.declared.fault.At.{At}
use Rattle.wild_types.specs.declared.fault.Error.{Error}
use Rattle.wild_types.specs.declared.fault.Fault.{Fault}
use Rattle.wild_types.specs.declared.input.InputRelocation.{InputRelocation}
use Rattle.wild_types.specs.declared.input.InputSection.{InputSection}
use Rattle.wild_types.specs.declared.layout.Layout.{Layout}
use Rattle.wild_types.specs.Faults.{Refuses, Answers}
use Rattle.wild_sections.proofs.FaultLemmas.{Refuses-head, refuses_number}
use Rattle.wild_shards.specs.InOrder.{in_order, apply_step, then_apply}
use Rattle.wild_layout.specs.declared.decision.Decision.{Decision}
use Rattle.wild_layout.specs.declared.decision.Decision.TheVariants.{Nothing}
use Rattle.wild_layout.specs.Debug.{debug_decided, debug_rule, debug_written, debug_bytes, at_offset_only}
use Rattle.wild_layout.specs.Faults.{at_offset, refusal_of, refusal_at, debug_error, debug_errors}

-- something is decided
abbrev IsDecided : Layout → InputSection → InputRelocation → Type 0
IsDecided l s r = (d : Decision) × (debug_decided l s r ≡ Ok d)

-- ---- one relocation

-- of one that is decided there is no fault
ok_none : (g f k : ℕ) (d : Decision) (o : Option InputRelocation) → refusal_at g f k (Ok d) o ≡ []
ok_none g f k d None = refl
ok_none g f k d (Some r) = refl

pub decided_none : (l : Layout) (g f k : ℕ) (s : InputSection) (os : List InputRelocation) (i : ℕ) (r : InputRelocation) (d : Decision) → slice_get s.relocations i ≡ Some r → debug_decided l s r ≡ Ok d → debug_error l g f k s os i ≡ []
decided_none l g f k s os i r d listed is = rw (listed, is) (ok_none g f k d (slice_get os i))

-- of one that is refused it is the first
pub refused_first : (l : Layout) (g f k : ℕ) (s : InputSection) (os : List InputRelocation) (i : ℕ) (r o : InputRelocation) (fault : Fault) → slice_get s.relocations i ≡ Some r → slice_get os i ≡ Some o → debug_decided l s r ≡ Err fault
    → Refuses (record { fault = fault; at = at_offset g f k o.offset }) (debug_error l g f k s os i)
refused_first l g f k s os i r o fault listed there is = rw (listed, there, is) (Refuses-head (record { fault = fault; at = at_offset g f k o.offset }) [])

pub listed_at : (xs : List InputRelocation) (i : ℕ) (x : InputRelocation) → i < length xs → x ≡ get_or xs i x → slice_get xs i ≡ Some x
listed_at xs i x h read = slice_get_read xs (length xs) i x refl h read

-- ---- a loop

pub first_here : (l : Layout) (g f k : ℕ) (s : InputSection) (os : List InputRelocation) (i : ℕ) (e : Error) → i < length s.relocations → flat_map (debug_error l g f k s os) (range_with_len 0 i) ≡ []
    → Refuses e (debug_error l g f k s os i) → Refuses e (debug_errors l g f k s os)
unfolding debug_errors
first_here l g f k s os i e h none here = refuses_number (debug_error l g f k s os) 0 (length s.relocations) i i e h (omega arith) none here

pub none_here : (l : Layout) (g f k : ℕ) (s : InputSection) (os : List InputRelocation) (i : ℕ) → flat_map (debug_error l g f k s os) (range_with_len 0 i) ≡ [] → debug_error l g f k s os i ≡ [] → flat_map (debug_error l g f k s os) (range_with_len 0 (i + 1)) ≡ []
none_here l g f k s os i none here = flat_map-numbers (debug_error l g f k s os) i ∙ (ap (λ (es : List Error). es ++ debug_error l g f k s os i) none ∙ here)

pub none_at_all : (l : Layout) (g f k : ℕ) (s : InputSection) (os : List InputRelocation) → flat_map (debug_error l g f k s os) (range_with_len 0 (length s.relocations)) ≡ [] → debug_errors l g f k s os ≡ []
unfolding debug_errors
none_at_all l g f k s os h = h

-- ---- the pass

-- the bytes of a pass without faults
written_decided : (to : ℕ → At) (r : InputRelocation) (a : ℕ) (old xs ys : List ℕ) (d : Result Decision Fault) → then_apply (debug_written to r d old) (λ zs. Ok (place a zs xs)) ≡ Ok ys → (e : Decision) × (d ≡ Ok e)
written_decided to r a old xs ys (Ok e) h = (e, refl)
written_decided to r a old xs ys (Err f) h = cc

on_ok : {X Y : Type 0} (o : Result X Error) (f : X → Result Y Error) (y : Y) → then_apply o f ≡ Ok y → (x : X) × (o ≡ Ok x) × (f x ≡ Ok y)
on_ok (Ok x) f y h = (x, refl, h)
on_ok (Err e) f y h = cc

passed_each : (l : Layout) (s : InputSection) (rs : List InputRelocation) (xs ys : List ℕ) → in_order (debug_rule l at_offset_only s) 0 rs xs ≡ Ok ys → (i : ℕ) (r : InputRelocation) → slice_get rs i ≡ Some r → IsDecided l s r
passed_each l s [] xs ys h i r listed = cc
passed_each l s (q ∷ rs) xs ys h zero r listed =
    let first = on_ok (apply_step (debug_rule l at_offset_only s) 0 q xs) (in_order (debug_rule l at_offset_only s) 0 rs) ys h in
    let is : q ≡ r = cc in
    subst (λ (x : InputRelocation). IsDecided l s x) is (written_decided at_offset_only q (q.offset - 0) _ xs first.0 (debug_decided l s q) first.1)
passed_each l s (q ∷ rs) xs ys h (suc i) r listed =
    let first = on_ok (apply_step (debug_rule l at_offset_only s) 0 q xs) (in_order (debug_rule l at_offset_only s) 0 rs) ys h in
    passed_each l s rs first.0 ys first.2 i r listed

-- where all was decided there is no fault
none_at : (l : Layout) (g f k : ℕ) (s : InputSection) (os : List InputRelocation) (i : ℕ) (r : Option InputRelocation) → slice_get s.relocations i ≡ r → ((q : InputRelocation) → slice_get s.relocations i ≡ Some q → IsDecided l s q) → debug_error l g f k s os i ≡ []
none_at l g f k s os i None is each = rw is (ok_none g f k Nothing (slice_get os i))
none_at l g f k s os i (Some r) is each = let d = each r is in decided_none l g f k s os i r d.0 is d.1

pub passed_none : (l : Layout) (g f k : ℕ) (s : InputSection) (os : List InputRelocation) (xs ys : List ℕ) → in_order (debug_rule l at_offset_only s) 0 s.relocations xs ≡ Ok ys → debug_errors l g f k s os ≡ []
unfolding debug_errors
passed_none l g f k s os xs ys h =
    flat_map-none (debug_error l g f k s os) (range_with_len 0 (length s.relocations))
    (λ i. none_at l g f k s os i (slice_get s.relocations i) refl (λ q listed. passed_each l s s.relocations xs ys h i q listed))

-- ---- where there is no fault, the pass has none

number_none : {X : Type 0} (f : ℕ → List X) (a n i j : ℕ) → i < n → j ≡ a + i → flat_map f (range_with_len a n) ≡ [] → f j ≡ []
number_none f a zero i j l is h = absurd (omega (arith, l))
number_none f a (suc n) zero j l is h = let z : j ≡ a = omega (arith, is) in rw z ((nil_parts (f a) (flat_map f (range_with_len (a + 1) n)) h).0)
number_none f a (suc n) (suc i) j l is h = number_none f (a + 1) n i j (omega (arith, l)) (omega (arith, is)) ((nil_parts (f a) (flat_map f (range_with_len (a + 1) n)) h).1)

accepted : (at : At) (d : Result Decision Fault) → refusal_of at d ≡ [] → (e : Decision) × (d ≡ Ok e)
accepted at (Ok e) h = (e, refl)
accepted at (Err f) h = cc

each_decided : (l : Layout) (g f k : ℕ) (s : InputSection) (os : List InputRelocation) → length os ≡ length s.relocations → debug_errors l g f k s os ≡ [] → (i : ℕ) (r : InputRelocation) → slice_get s.relocations i ≡ Some r → IsDecided l s r
unfolding debug_errors
each_decided l g f k s os count h i r listed =
    let below = slice_get_within s.relocations i r listed in
    let o = slice_get_inside os i (omega (arith, below, count)) in
    let none : debug_error l g f k s os i ≡ [] = number_none (debug_error l g f k s os) 0 (length s.relocations) i i below (omega arith) h in
    accepted (at_offset g f k o.0.offset) (debug_decided l s r) (rw (listed, o.1) at none)

step_given : (to : ℕ → At) (r : InputRelocation) (a : ℕ) (old xs : List ℕ) (d : Result Decision Fault) (e : Decision) → d ≡ Ok e → (zs : List ℕ) × (then_apply (debug_written to r d old) (λ ys. Ok (place a ys xs)) ≡ Ok zs)
step_given to r a old xs (Ok d) e is = (_, refl)
step_given to r a old xs (Err f) e is = cc

on_given : (o : Result (List ℕ) Error) (xs : List ℕ) (f : List ℕ → Result (List ℕ) Error) (e : Error) → o ≡ Ok xs → then_apply o f ≡ Err e → f xs ≡ Err e
on_given (Ok ys) xs f e is h = let s : ys ≡ xs = cc in subst (λ (zs : List ℕ). f zs ≡ Err e) s h
on_given (Err g) xs f e is h = cc

never_fails : (l : Layout) (s : InputSection) (rs : List InputRelocation) (xs : List ℕ) (e : Error) → ((i : ℕ) (r : InputRelocation) → slice_get rs i ≡ Some r → IsDecided l s r) → in_order (debug_rule l at_offset_only s) 0 rs xs ≡ Err e → ⊥
never_fails l s [] xs e each h = cc
never_fails l s (r ∷ rs) xs e each h =
    let d = each 0 r refl in
    let one = step_given at_offset_only r (r.offset - 0) _ xs (debug_decided l s r) d.0 d.1 in
    never_fails l s rs one.0 e (λ i q listed. each (suc i) q listed) (on_given (apply_step (debug_rule l at_offset_only s) 0 r xs) one.0 (in_order (debug_rule l at_offset_only s) 0 rs) e one.1 h)

pub failed_some : (l : Layout) (g f k : ℕ) (s : InputSection) (os : List InputRelocation) (xs : List ℕ) (e : Error) → length os ≡ length s.relocations → in_order (debug_rule l at_offset_only s) 0 s.relocations xs ≡ Err e → debug_errors l g f k s os ≡ [] → ⊥
failed_some l g f k s os xs e count h none = never_fails l s s.relocations xs e (each_decided l g f k s os count none) h

-- the bytes of the section are those of the pass
pub passed_bytes : (l : Layout) (s : InputSection) (ys : List ℕ) → in_order (debug_rule l at_offset_only s) 0 s.relocations s.bytes ≡ Ok ys → ys ≡ debug_bytes l s
unfolding debug_bytes
passed_bytes l s ys h = rw h refl

-- after a pass that had a fault, no value is answered
pub failed_bytes : (l : Layout) (g f k : ℕ) (s : InputSection) (os : List InputRelocation) (xs : List ℕ) (e : Error) (result : Result (Unit {0}) Error) (P : Type 0)
    → length os ≡ length s.relocations → in_order (debug_rule l at_offset_only s) 0 s.relocations xs ≡ Err e → Answers result (debug_errors l g f k s os) → OnOk result P
failed_bytes l g f k s os xs e (Ok u) P count h none = absurd (failed_some l g f k s os xs e count h none)
failed_bytes l g f k s os xs e (Err q) P count h none = tt
