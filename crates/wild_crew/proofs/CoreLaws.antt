-- Each run of the core keeps its law.
use Rattle.std.proofs.Common.{◌≡◌, ℕ, zero, suc, ◌+◌, ◌<◌, ◌≤◌, ◌^◌, true, List, [], ◌∷◌, ◌++◌, length, set, refl, sym, ap, ◌∙◌, arith, Some}
use Rattle.std.specs.Prelude.{All, slice_get, replicate, ◌==◌}
use Rattle.std.proofs.lemmas.List.Elements.{All-head, All-tail, All-nil, All-cons, All-weaker, All-replicate}
use Rattle.std.proofs.lemmas.Bool.Decides.{nat_tests}
use Rattle.wild_crew.specs.declared.steps.Core.{Core}
use Rattle.wild_crew.specs.declared.steps.Step.{Step}
use Rattle.wild_crew.specs.declared.steps.Step.TheVariants.{Claim, Count}
use Rattle.wild_crew.specs.Sums.{total, counted, between, one_if, n_if, rises_from, number_after_last, EachOnce}
use Rattle.wild_crew.specs.Runs.{add_at, empty_core, after, run, are_permitted, count_in_steps}
use Rattle.wild_crew.specs.TableCore.{InRange}
use Rattle.wild_crew.proofs.Totals.{total-append, between_next, between_len, rises-push, number_after_last-push, once_below}

module _ {A : Type 0} where
  pub set_added : (ls : List (List A)) (i : ℕ) (l : List A) (a : A) → slice_get ls i ≡ Some l → set ls i (l ++ a ∷ []) ≡ add_at i a ls
  set_added [] i l a at = refl
  set_added (x ∷ xs) zero l a at = let here : x ≡ l = cc in ap (λ y. (y ++ a ∷ []) ∷ xs) (sym here)
  set_added (x ∷ xs) (suc i) l a at = ap (λ ys. x ∷ ys) (set_added xs i l a at)

  pub length-added : (w : ℕ) (a : A) (ls : List (List A)) → length (add_at w a ls) ≡ length ls
  length-added w a [] = refl
  length-added zero a (l ∷ ls) = refl
  length-added (suc w) a (l ∷ ls) = ap suc (length-added w a ls)

  pub total_added : (f : A → ℕ) (w : ℕ) (x : A) (ls : List (List A)) → w < length ls → total (total f) (add_at w x ls) ≡ total (total f) ls + f x
  total_added f w x [] lt = absurd (omega arith)
  total_added f zero x (l ∷ ls) lt = let t = total-append f l (x ∷ []) in omega arith
  total_added f (suc w) x (l ∷ ls) lt = let t = total_added f w x ls (omega arith) in omega arith

  empty_total : (f : A → ℕ) (n : ℕ) → total (total f) (replicate n []) ≡ 0
  empty_total f zero = refl
  empty_total f (suc n) = let t = empty_total f n in omega arith

abbrev Rising : ℕ → List ℕ → Type 0
Rising n c = (rises_from 0 c ≡ true) × (number_after_last 0 c ≤ n)

rising_added : (n w : ℕ) (ls : List (List ℕ)) → All (Rising n) ls → All (Rising (n + 1)) (add_at w n ls)
rising_added n w [] all = All-nil (Rising (n + 1))
rising_added n zero (l ∷ ls) all =
    let here = All-head (Rising n) l ls all in
    let b = number_after_last-push 0 n l in
    All-cons (Rising (n + 1)) _ ls (rises-push 0 n l here.0 here.1, omega arith) (All-weaker (Rising n) (Rising (n + 1)) (λ c r. (r.0, (let le = r.1 in omega arith))) ls (All-tail (Rising n) l ls all))
rising_added n (suc w) (l ∷ ls) all =
    let here = All-head (Rising n) l ls all in
    All-cons (Rising (n + 1)) l _ (here.0, (let le = here.1 in omega arith)) (rising_added n w ls (All-tail (Rising n) l ls all))

-- so many workers and sections
abbrev pub Sized : ℕ → ℕ → Core → Type 0
Sized workers sections s = (length s.claims ≡ workers) × (length s.counts ≡ workers) × (s.sections ≡ sections)

pub sized_after : (workers sections : ℕ) (s : Core) (x : Step) → Sized workers sections s → Sized workers sections (after s x)
sized_after workers sections s (Claim w) is = (length-added w s.next s.claims ∙ is.0, is.1, is.2)
sized_after workers sections s (Count w k n) is = (is.0, length-added w (k, n) s.counts ∙ is.1, is.2)

pub sized_first : (workers sections : ℕ) → Sized workers sections (empty_core workers sections)
sized_first workers sections = (Rattle.std.proofs.lemmas.List.length-replicate workers [], Rattle.std.proofs.lemmas.List.length-replicate workers [], refl)

record Kept (s : Core) : Type 0 where
  claims : (f : ℕ → ℕ) → total (total f) s.claims ≡ between f 0 s.next
  rising : All (Rising s.next) s.claims

step_kept : (workers sections : ℕ) (s : Core) (x : Step) → Sized workers sections s → InRange workers sections x → Kept s → Kept (after s x)
step_kept workers sections s (Claim w) size ok kept = record {
  claims = λ f. let many = size.0 in let t = total_added f w s.next s.claims (omega arith) in let k = kept.claims f in let n = between_next f s.next in let l = between_len f 0 (s.next + 1) (suc s.next) (omega arith) in omega arith;
  rising = rising_added s.next w s.claims kept.rising;
}
step_kept workers sections s (Count w k n) size ok kept = record { claims = kept.claims; rising = kept.rising }

run_kept : (workers sections : ℕ) (s : Core) (xs : List Step) → Sized workers sections s → All (InRange workers sections) xs → Kept s → Kept (run s xs)
run_kept workers sections s [] size ok kept = kept
run_kept workers sections s (x ∷ xs) size ok kept =
    run_kept workers sections (after s x) xs (sized_after workers sections s x size) (All-tail (InRange workers sections) x xs ok) (step_kept workers sections s x size (All-head (InRange workers sections) x xs ok) kept)

run_counts : (workers sections k : ℕ) (s : Core) (xs : List Step) → Sized workers sections s → All (InRange workers sections) xs → total (counted k) (run s xs).counts ≡ total (counted k) s.counts + count_in_steps k xs
run_counts workers sections k s [] size ok = omega arith
run_counts workers sections k s (Claim w ∷ xs) size ok = let t = run_counts workers sections k (after s (Claim w)) xs (sized_after workers sections s (Claim w) size) (All-tail (InRange workers sections) (Claim w) xs ok) in omega arith
run_counts workers sections k s (Count w j n ∷ xs) size ok =
    let t = run_counts workers sections k (after s (Count w j n)) xs (sized_after workers sections s (Count w j n) size) (All-tail (InRange workers sections) (Count w j n) xs ok) in
    let lt = (All-head (InRange workers sections) (Count w j n) xs ok).0 in
    let many = size.1 in
    let a = total_added (λ (p : ℕ × ℕ). n_if (p.0 == k) p.1) w (j, n) s.counts (omega arith) in
    omega arith

next_grows : (s : Core) (xs : List Step) → s.next ≤ (run s xs).next
next_grows s [] = omega arith
next_grows s (Claim w ∷ xs) = let t = next_grows (after s (Claim w)) xs in omega arith
next_grows s (Count w k n ∷ xs) = next_grows (after s (Count w k n)) xs

-- steps within their conditions name workers and sections that are there
may_in_range : (workers sections : ℕ) (s : Core) (xs : List Step) → Sized workers sections s → are_permitted s xs → All (InRange workers sections) xs
may_in_range workers sections s [] size ok = All-nil (InRange workers sections)
may_in_range workers sections s (Claim w ∷ xs) size ok =
    let lt = ok.0.0 in
    let many = size.0 in
    All-cons (InRange workers sections) (Claim w) xs (omega arith) (may_in_range workers sections (after s (Claim w)) xs (sized_after workers sections s (Claim w) size) ok.1)
may_in_range workers sections s (Count w k n ∷ xs) size ok =
    let lt = ok.0.0 in
    let lt' = ok.0.1 in
    let many = size.1 in
    let cut = size.2 in
    All-cons (InRange workers sections) (Count w k n) xs (omega arith, omega arith) (may_in_range workers sections (after s (Count w k n)) xs (sized_after workers sections s (Count w k n) size) ok.1)

-- where next and the sums fit in the end, they fit at each step
pub fits_all : (workers sections : ℕ) (s : Core) (xs : List Step) → Sized workers sections s → All (InRange workers sections) xs → (run s xs).next < 2 ^ 64 → ((k : ℕ) → k < sections → total (counted k) (run s xs).counts < 2 ^ 64) → are_permitted s xs
fits_all workers sections s [] size ok small fit = tt
fits_all workers sections s (Claim w ∷ xs) size ok small fit =
    let lt = All-head (InRange workers sections) (Claim w) xs ok in
    let many = size.0 in
    let grows = next_grows (after s (Claim w)) xs in (
      (omega arith, omega arith),
      fits_all workers sections (after s (Claim w)) xs (sized_after workers sections s (Claim w) size) (All-tail (InRange workers sections) (Claim w) xs ok) small fit,
    )
fits_all workers sections s (Count w k n ∷ xs) size ok small fit =
    let here = All-head (InRange workers sections) (Count w k n) xs ok in
    let lt = here.0 in
    let lt' = here.1 in
    let many = size.1 in
    let cut = size.2 in
    let sized = sized_after workers sections s (Count w k n) size in
    let rest = All-tail (InRange workers sections) (Count w k n) xs ok in
    let more = run_counts workers sections k (after s (Count w k n)) xs sized rest in
    let a = total_added (λ (p : ℕ × ℕ). n_if (p.0 == k) p.1) w (k, n) s.counts (omega arith) in
    let same : (k == k) ≡ true = grind (arith, nat_tests) in
    let hit : n_if (k == k) n ≡ n = ap (λ b. n_if b n) same in
    let end = fit k lt' in (
      (omega arith, omega arith, omega arith),
      fits_all workers sections (after s (Count w k n)) xs sized rest small fit,
    )

pub run-push : (s : Core) (xs : List Step) (x : Step) → run s (xs ++ x ∷ []) ≡ after (run s xs) x
run-push s [] x = refl
run-push s (y ∷ ys) x = run-push (after s y) ys x

begins : (workers sections : ℕ) → Kept (empty_core workers sections)
begins workers sections = record { claims = λ f. empty_total f workers; rising = All-replicate (Rising 0) workers [] (refl, omega arith) }

kept_of : (workers sections : ℕ) (steps : List Step) → are_permitted (empty_core workers sections) steps → Kept (run (empty_core workers sections) steps)
kept_of workers sections steps ok = run_kept workers sections (empty_core workers sections) steps (sized_first workers sections) (may_in_range workers sections (empty_core workers sections) steps (sized_first workers sections) ok) (begins workers sections)

pub all_claims : (workers sections : ℕ) (steps : List Step) → are_permitted (empty_core workers sections) steps → EachOnce (run (empty_core workers sections) steps).next (run (empty_core workers sections) steps).claims
all_claims workers sections steps ok n = (kept_of workers sections steps ok).claims (λ c. one_if (c == n)) ∙ once_below n (run (empty_core workers sections) steps).next

pub all_rise : (workers sections : ℕ) (steps : List Step) → are_permitted (empty_core workers sections) steps → All (λ c. rises_from 0 c ≡ true) (run (empty_core workers sections) steps).claims
all_rise workers sections steps ok =
    let kept = kept_of workers sections steps ok in
    All-weaker (Rising (run (empty_core workers sections) steps).next) (λ c. rises_from 0 c ≡ true) (λ c r. r.0) (run (empty_core workers sections) steps).claims kept.rising

pub all_counts : (workers sections : ℕ) (steps : List Step) → are_permitted (empty_core workers sections) steps → (k : ℕ) → total (counted k) (run (empty_core workers sections) steps).counts ≡ count_in_steps k steps
all_counts workers sections steps ok k =
    let a = run_counts workers sections k (empty_core workers sections) steps (sized_first workers sections) (may_in_range workers sections (empty_core workers sections) steps (sized_first workers sections) ok) in
    let b = empty_total (λ (p : ℕ × ℕ). n_if (p.0 == k) p.1) workers in
    omega arith
