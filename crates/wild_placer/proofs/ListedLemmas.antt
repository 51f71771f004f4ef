-- The runs of a memory under their starts, run by run.
use Rattle.wild_placer.proofs.Common.{◌≡◌, ℕ, zero, suc, ◌+◌, ◌<◌, ◌≤◌, Bool, true, false, List, [], ◌∷◌, ◌++◌, length, take, get_or, ◌∙◌, sym, ap, refl, arith, inl, inr, ◌&&◌, ◌||◌, ◌==◌, not, if◌then◌else◌, Option, Some, None, cond, nat_lt, nat_cmp, is_eq, cases_Bool, eqb-true, le-ltb, Run, LoadedRun, Runs, any_begins, listed_run, with_runs, without_runs}
use Rattle.std.specs.declared.cmp.Ordering.TheVariants.{Less, Equal, Greater}
use Rattle.std.proofs.lemmas.List.{take_more, length-take-le}
use Rattle.wild_words.proofs.Basics.{or_by}
use Rattle.wild_placer.specs.Listed.{begins_at, entry_of, own_entry, or_else}

-- a key test of a map is equality of the keys
pub is_key : (k q : ℕ) → is_eq (nat_cmp k q) ≡ (k == q)
is_key k q =
    elim (cases_Bool (k == q)) [
      | inl t ↦ (
          let same = eqb-true k q t in
          let order : nat_lt k q ≡ false = le-ltb k q (omega (arith, same)) in
          ap (λ (b : Bool). is_eq (cond b Less (cond (k == q) Equal Greater))) order ∙ ap (λ (b : Bool). is_eq (cond b Equal Greater)) t ∙ sym t
          )
      | inr f ↦ ap (λ (b : Bool). is_eq (cond (nat_lt k q) Less (cond b Equal Greater))) f ∙ either (nat_lt k q) ∙ sym f
    ]
  where
    either : (b : Bool) → is_eq (cond b Less Greater) ≡ false
    either true = refl
    either false = refl

-- ---- one run

-- an empty run begins nowhere
empty-begins : (r : Run) (q : ℕ) → length r.bytes ≡ 0 → begins_at r q ≡ false
empty-begins r q e = ap (λ (n : ℕ). not (n == 0) && r.start == q) e

full-begins : (r : Run) (q : ℕ) → (length r.bytes == 0) ≡ false → begins_at r q ≡ (r.start == q)
full-begins r q e = ap (λ (b : Bool). not b && r.start == q) e

-- nothing is listed for an empty run
pub no_entry : (n i : ℕ) (r : Run) (runs : Runs) (q : ℕ) → length r.bytes ≡ 0 → runs q ≡ or_else (own_entry n i r q) (runs q)
no_entry n i r runs q empty = sym (ap (λ (b : Bool). or_else (if b then Some (entry_of n i r) else None) (runs q)) (empty-begins r q empty))

-- one with bytes is listed under its start
pub one_entry : (n i : ℕ) (r : Run) (x : LoadedRun) (before after : Runs) (q : ℕ) → (length r.bytes == 0) ≡ false → x ≡ entry_of n i r → after q ≡ cond (is_eq (nat_cmp r.start q)) (Some x) (before q) → after q ≡ or_else (own_entry n i r q) (before q)
one_entry n i r x before after q full same step =
    step
    ∙ ap (λ (b : Bool). cond b (Some x) (before q)) (is_key r.start q)
    ∙ ap (λ (y : LoadedRun). cond (r.start == q) (Some y) (before q)) same
    ∙ choose (r.start == q) (entry_of n i r) (before q)
    ∙ sym (ap (λ (b : Bool). or_else (if b then Some (entry_of n i r) else None) (before q)) (full-begins r q full))
  where
    choose : (b : Bool) (x : LoadedRun) (o : Option LoadedRun) → cond b (Some x) o ≡ or_else (if b then Some x else None) o
    choose true x o = refl
    choose false x o = refl

-- ---- one more run is listed

or-or : (x y z : Option LoadedRun) → or_else (or_else x y) z ≡ or_else x (or_else y z)
or-or None y z = refl
or-or (Some a) y z = refl

or-none : (x : Option LoadedRun) → or_else x None ≡ x
or-none None = refl
or-none (Some a) = refl

listed-more : (n i : ℕ) (rs : List Run) (r : Run) (q : ℕ) → listed_run n i (rs ++ r ∷ []) q ≡ or_else (own_entry n (i + length rs) r q) (listed_run n i rs q)
unfolding listed_run
listed-more n i [] r q =
    let here : i ≡ i + 0 = omega arith in
    ap (λ (k : ℕ). own_entry n k r q) here ∙ sym (or-none (own_entry n (i + 0) r q))
listed-more n i (x ∷ rs) r q =
    let next : i + 1 + length rs ≡ i + suc (length rs) = omega arith in
    ap (λ (o : Option LoadedRun). or_else o (own_entry n i x q)) (listed-more n (i + 1) rs r q ∙ ap (λ (k : ℕ). or_else (own_entry n k r q) (listed_run n (i + 1) rs q)) next)
    ∙ or-or (own_entry n (i + suc (length rs)) r q) (listed_run n (i + 1) rs q) (own_entry n i x q)

listed-next : (n : ℕ) (rs : List Run) (i : ℕ) (r : Run) (q : ℕ) → i < length rs → r ≡ get_or rs i r → listed_run n 0 (take (i + 1) rs) q ≡ or_else (own_entry n i r q) (listed_run n 0 (take i rs) q)
listed-next n rs i r q l is =
    let short : i ≤ length rs = omega (arith, l) in
    let long = length-take-le i rs short in
    let place : 0 + length (take i rs) ≡ i = omega (arith, long) in
    ap (λ (xs : List Run). listed_run n 0 xs q) (take_more rs i r l ∙ ap (λ (x : Run). take i rs ++ x ∷ []) (sym is))
    ∙ listed-more n 0 (take i rs) r q
    ∙ ap (λ (k : ℕ). or_else (own_entry n k r q) (listed_run n 0 (take i rs) q)) place

pub one_more_run : (n : ℕ) (rs : List Run) (i : ℕ) (r : Run) (runs before after : Runs) → i < length rs → r ≡ get_or rs i r → ((q : ℕ) → before q ≡ with_runs n (take i rs) runs q) → ((q : ℕ) → after q ≡ or_else (own_entry n i r q) (before q)) → (q : ℕ) → after q ≡ with_runs n (take (i + 1) rs) runs q
one_more_run n rs i r runs before after l is h step q =
    step q
    ∙ ap (or_else (own_entry n i r q)) (h q)
    ∙ sym (or-or (own_entry n i r q) (listed_run n 0 (take i rs) q) (runs q))
    ∙ sym (ap (λ (o : Option LoadedRun). or_else o (runs q)) (listed-next n rs i r q l is))

-- ---- runs that were listed are removed

neither_first : (a b : Bool) → (a || b) ≡ false → a ≡ false
neither_first true b h = h
neither_first false b h = refl

neither_second : (a b : Bool) → (a || b) ≡ false → b ≡ false
neither_second true b h = cc
neither_second false b h = h

-- nothing is listed where no run begins
pub listed-none : (n i : ℕ) (rs : List Run) (q : ℕ) → any_begins rs q ≡ false → listed_run n i rs q ≡ None
unfolding listed_run
listed-none n i [] q h = refl
listed-none n i (r ∷ rs) q h =
    ap (λ (o : Option LoadedRun). or_else o (own_entry n i r q)) (listed-none n (i + 1) rs q (neither_second (begins_at r q) (any_begins rs q) h))
    ∙ ap (λ (b : Bool). if b then Some (entry_of n i r) else None) (neither_first (begins_at r q) (any_begins rs q) h)

-- a run that begins among the first ones begins among all
pub begins-whole : (rs : List Run) (i q : ℕ) → any_begins (take i rs) q ≡ true → any_begins rs q ≡ true
begins-whole [] zero q h = h
begins-whole [] (suc i) q h = h
begins-whole (r ∷ rs) zero q h = cc
begins-whole (r ∷ rs) (suc i) q h = or_by (begins_at r q) (any_begins (take i rs) q) (any_begins rs q) h (begins-whole rs i q)

pub runs_as_before : (n : ℕ) (rs : List Run) (runs before after : Runs) → ((q : ℕ) → any_begins rs q ≡ true → runs q ≡ None) → ((q : ℕ) → before q ≡ with_runs n rs runs q) → ((q : ℕ) → after q ≡ without_runs rs before q) → (q : ℕ) → after q ≡ runs q
runs_as_before n rs runs before after free h gone q =
    elim (cases_Bool (any_begins rs q)) [
      | inl t ↦ gone q ∙ ap (λ (b : Bool). if b then None else before q) t ∙ sym (free q t)
      | inr f ↦ gone q ∙ ap (λ (b : Bool). if b then None else before q) f ∙ h q ∙ ap (λ (o : Option LoadedRun). or_else o (runs q)) (listed-none n 0 rs q f)
    ]
