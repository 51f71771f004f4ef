-- Runs found by address.
use Rattle.wild_placer.proofs.Common.{◌≡◌, ℕ, ◌<◌, ◌≤◌, Bool, true, false, List, [], ◌∷◌, ◌++◌, ◌∙◌, sym, ap, subst, refl, arith, inl, inr, ◌⊎◌, ◌==◌, Option, Some, None, IsSome, cond, nat_lt, nat_cmp, get, cases_Bool, eqb-true, eq-eqb, le-ltb, ltb-true, ltb-false, none-some, same_Some, LoadedRun, Runs, IsRunAt, IsTaken}
use Rattle.std.specs.declared.cmp.Ordering.TheVariants.{Less, Equal, Greater}
use Rattle.std.specs.declared.ops.Bound.TheVariants.{Included, Unbounded}
use Rattle.std.specs.Ordering.{is_gt, is_lt}
use Rattle.std.specs.BTreeMap.{BTreeMap}
use Rattle.std.specs.BTreeMap.Range.{IsRangeOf}
use Rattle.wild_placer.specs.Index.{NoneIsTaken, IsFirstTaken, AreSeparate, IsLastStart, IsFirstStart}

-- a test does not both hold and fail
pub clash : (b : Bool) → b ≡ true → b ≡ false → ⊥
clash true h k = cc
clash false h k = cc

pub is_some_of : {X : Type 0} (o : Option X) (x : X) → o ≡ Some x → IsSome o
is_some_of {X} o x h = let P : Option X → Type 0 = λ y. IsSome y in subst P (sym h) refl

pub not_some : {X : Type 0} (o : Option X) → IsSome o → o ≡ None → ⊥
not_some None h e = cc
not_some (Some x) h e = none-some x (sym e)

-- no run begins up to the address
pub none_begins : (runs : Runs) (a : ℕ) → ((q : ℕ) → q ≤ a → runs q ≡ None) → IsTaken runs a → ⊥
none_begins runs a none t = none-some t.run (sym (none t.start t.is.low) ∙ t.is.listed)

-- the last run that begins up to the address ends there at the latest
pub last_ends : (runs : Runs) (a start : ℕ) (r : LoadedRun) → AreSeparate runs → IsLastStart runs a start r → r.end ≤ a → IsTaken runs a → ⊥
last_ends runs a start r separate last past t =
    let high = t.is.high in
    let low = last.low in
    let up = last.last t.start t.is.low (is_some_of (runs t.start) t.run t.is.listed) in
    elim (cases_Bool (nat_lt t.start start)) [
      | inl h ↦ (
          let before = ltb-true _ _ h in
          let ends = separate.apart t.start start t.run r t.is.listed last.listed before in
          omega (arith, high, ends, low)
          )
      | inr h ↦ (
          let after = ltb-false _ _ h in
          let same : t.start ≡ start = omega (arith, after, up) in
          let run : t.run ≡ r = same_Some t.run r (sym (subst (λ (s : ℕ). runs s ≡ Some t.run) same t.is.listed) ∙ last.listed) in
          let end : t.run.end ≡ r.end = ap (λ (x : LoadedRun). x.end) run in
          omega (arith, high, end, past)
          )
    ]

-- a run that contains a later address, and begins up to an earlier one, contains that one too
taken_before : (runs : Runs) (a b : ℕ) (t : IsTaken runs b) → a ≤ b → t.start ≤ a → IsTaken runs a
taken_before runs a b t le low = let high = t.is.high in record { start = t.start; run = t.run; is = record { listed = t.is.listed; low = low; high = omega (arith, high, le) } }

-- if no run contains the first address, none contains one before the next start
pub none_before_next : (runs : Runs) (start next end : ℕ) → (IsTaken runs start → ⊥) → IsFirstStart runs start next → end ≤ next → NoneIsTaken runs start end
none_before_next runs start next end free first ends b low high t =
    elim (cases_Bool (nat_lt start t.start)) [
      | inl h ↦ (
          let after = ltb-true _ _ h in
          let up = first.first t.start (omega (arith, after)) (is_some_of (runs t.start) t.run t.is.listed) in
          let begin = t.is.low in
          omega (arith, up, begin, high, ends)
          )
      | inr h ↦ free (taken_before runs start b t low (ltb-false _ _ h))
    ]

pub none_after : (runs : Runs) (start end : ℕ) → (IsTaken runs start → ⊥) → ((q : ℕ) → start ≤ q → runs q ≡ None) → NoneIsTaken runs start end
none_after runs start end free none b low high t =
    elim (cases_Bool (nat_lt start t.start)) [
      | inl h ↦ (let after = ltb-true _ _ h in none-some t.run (sym (none t.start (omega (arith, after))) ∙ t.is.listed))
      | inr h ↦ free (taken_before runs start b t low (ltb-false _ _ h))
    ]

-- the first address itself is the least
pub first_at_once : (runs : Runs) (start end a : ℕ) (r : LoadedRun) → start < end → IsRunAt runs start a r → IsFirstTaken runs start end start
first_at_once runs start end a r some t = record { low = omega arith; high = some; taken = record { start = a; run = r; is = t }; first = λ b low high u. omega (arith, low, high) }

-- a start contains its own address
pub start_is_taken : (runs : Runs) (a : ℕ) (r : LoadedRun) → AreSeparate runs → runs a ≡ Some r → IsTaken runs a
start_is_taken runs a r separate h = record { start = a; run = r; is = record { listed = h; low = omega arith; high = separate.filled a r h } }

pub next_is_first : (runs : Runs) (start next end : ℕ) → AreSeparate runs → (IsTaken runs start → ⊥) → IsFirstStart runs start next → next < end → IsFirstTaken runs start end next
next_is_first runs start next end separate free first before = record {
  low = first.low;
  high = before;
  taken = found (runs next) refl first.listed;
  first = none_before_next runs start next next free first (omega arith);
}
  where
    found : (o : Option LoadedRun) → runs next ≡ o → IsSome o → IsTaken runs next
    found None e s = absurd (not_some {X = LoadedRun} None s refl)
    found (Some r) e s = start_is_taken runs next r separate e

-- ---- keys of a map in order

pub greater : (n k : ℕ) → k < n → nat_cmp n k ≡ Greater
greater n k l =
    ap (λ (b : Bool). cond b Less (cond (n == k) Equal Greater)) (le-ltb n k (omega (arith, l))) ∙ ap (λ (b : Bool). cond b Equal Greater) (other (cases_Bool (n == k)))
  where
    other : (n == k ≡ true) ⊎ (n == k ≡ false) → (n == k) ≡ false
    other (inl t) = let e = eqb-true n k t in absurd (omega (arith, e, l))
    other (inr f) = f

at_most : (n k : ℕ) → is_gt (nat_cmp n k) ≡ false → n ≤ k
at_most n k h =
    elim (cases_Bool (nat_lt k n)) [
      | inl t ↦ absurd (clash (is_gt (nat_cmp n k)) (ap is_gt (greater n k (ltb-true _ _ t))) h)
      | inr f ↦ ltb-false _ _ f
    ]

not_greater : (n k : ℕ) → n ≤ k → is_gt (nat_cmp n k) ≡ false
not_greater n k le =
    elim (cases_Bool (nat_lt n k)) [
      | inl t ↦ ap (λ (b : Bool). is_gt (cond b Less (cond (n == k) Equal Greater))) t
      | inr f ↦ (
          let down = ltb-false _ _ f in
          ap (λ (b : Bool). is_gt (cond b Less (cond (n == k) Equal Greater))) f ∙ ap (λ (b : Bool). is_gt (cond b Equal Greater)) (eq-eqb n k (omega (arith, le, down)))
          )
    ]

not_less : (n k : ℕ) → is_lt (nat_cmp n k) ≡ false → k ≤ n
not_less n k h =
    elim (cases_Bool (nat_lt n k)) [
      | inl t ↦ absurd (clash (is_lt (nat_cmp n k)) (ap (λ (b : Bool). is_lt (cond b Less (cond (n == k) Equal Greater))) t) h)
      | inr f ↦ ltb-false _ _ f
    ]

-- the last entry of a map up to an address
pub last_in_range : (m : BTreeMap ℕ LoadedRun) (a s : ℕ) (x : LoadedRun) (r t : List (ℕ × LoadedRun)) → IsRangeOf nat_cmp Unbounded (Included a) m r → r ≡ t ++ (s, x) ∷ [] → IsLastStart (get nat_cmp m) a s x
last_in_range m a s x r t range is =
    let entry = range.3 (s, x) t is in
    record {
      listed = entry.1;
      low = at_most s a entry.0.1;
      last = λ q up some. not_less s q (range.4 (s, x) t is q (tt, not_greater q a up) some);
    }
