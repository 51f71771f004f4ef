-- What the logs of all workers show, once they are whole.
use Rattle.std.proofs.Common.{◌≡◌, ◌≢◌, ℕ, zero, suc, ◌+◌, ◌%◌, ◌^◌, ◌<◌, ◌≤◌, Bool, true, false, nat_le, nat_lt, List, [], ◌∷◌, length, refl, sym, ap, ◌∙◌, subst, arith}
use mathlib.Core.Option.{some}
use lib.ListN.{get_elem?}
use Rattle.atomic_table.specs.Table.{Final, Seen}
use Rattle.wild_crew.specs.declared.hand.Shape.{Shape}
use Rattle.wild_crew.proofs.Words.{index_at}
use Rattle.std.specs.Prelude.{All, map, ◌==◌, slice_index}
use Rattle.std.proofs.lemmas.Bool.Decides.{nat_tests}
use Rattle.std.proofs.lemmas.List.Elements.{All-head, All-tail, All-nil, All-cons}
use Rattle.wild_crew.specs.declared.hand.Hand.{Hand}
use Rattle.wild_crew.specs.declared.log.Log.{Log}
use Rattle.wild_crew.specs.Sums.{total, between, one_if, n_if, late_claims, counted, occurrences}
use Rattle.wild_crew.specs.Crew.{numbers_of, claims_of, counts_in, Keeps}
use Rattle.wild_crew.specs.Logs.{count_of_group}
use Rattle.wild_crew.specs.Logs.{hands_of, IsWhole}
use Rattle.wild_crew.specs.FinalCore.{EndsPast}
use Rattle.wild_crew.proofs.Totals.{total-append, between_cut, between_len}
use Rattle.wild_crew.proofs.Closing.{next_is, closes}
use Rattle.wild_crew.proofs.Moves.{Rule}

pub between_same : (f h : ℕ → ℕ) (from n : ℕ) → ((g : ℕ) → from ≤ g → g < from + n → f g ≡ h g) → between f from n ≡ between h from n
between_same f h from zero same = refl
between_same f h from (suc n) same =
    let here = same from (omega arith) (omega arith) in
    let rest = between_same f h (suc from) n (λ g a b. same g (omega arith) (omega arith)) in
    omega arith

nothing : (from n : ℕ) → between (λ _. 0) from n ≡ 0
nothing from zero = refl
nothing from (suc n) = let t = nothing (suc from) n in omega arith

-- a number that is met counts
met : (g from n : ℕ) → from ≤ g → g < from + n → 0 < between (λ c. one_if (c == g)) from n
met g from zero a b = absurd (omega arith)
met g from (suc n) a b = met_from (from == g) refl (λ apart. met g (suc from) n (omega arith) (omega arith))
  where
    met_from : (x : Bool) → (from == g) ≡ x → (from ≢ g → 0 < between (λ c. one_if (c == g)) (suc from) n) → 0 < between (λ c. one_if (c == g)) from (suc n)
    met_from true e later = let one = ap one_if e in omega arith
    met_from false e later = let l = later (λ same. absurd (grind (arith, nat_tests))) in omega arith

module _ {P : Type 0} (gives : ℕ → P → Type 0) (counts_of : ℕ → List (ℕ × ℕ)) (n : ℕ) where
  abbrev pub ran : Log P → List ℕ
  ran l = map (λ p. p.0) l.pieces.items

  one_late : (l : Log P) → IsWhole gives counts_of n l → late_claims n l.claims.items ≡ 1
  one_late l whole =
      let end = whole.0 in
      let last : ℕ = end.0 in
      let more = total-append (λ c. one_if (nat_le n c)) (ran l) (last ∷ []) in
      let all = ap (late_claims n) end.1 in
      let early = end.3 in
      let past = end.2 in
      let yes : nat_le n last ≡ true = grind (arith, nat_tests) in
      let one : one_if (nat_le n last) ≡ 1 = ap one_if yes in
      omega arith

  all_late : (logs : List (Log P)) → All (IsWhole gives counts_of n) logs → claims_of (λ c. one_if (nat_le n c)) (hands_of logs) ≡ length logs
  all_late [] whole = refl
  all_late (l ∷ ls) whole = let a = one_late l (All-head (IsWhole gives counts_of n) l ls whole) in let b = all_late ls (All-tail (IsWhole gives counts_of n) l ls whole) in omega arith

  -- next is the groups and the workers
  pub next_of : (logs : List (Log P)) (next : ℕ) → All (IsWhole gives counts_of n) logs → 0 < length logs → ((f : ℕ → ℕ) → claims_of f (hands_of logs) ≡ between f 0 next) → next ≡ n + length logs
  next_of logs next whole any claims = next_is n next (length logs) any (sym (claims (λ c. one_if (nat_le n c))) ∙ all_late logs whole)

  one_ran : (l : Log P) (g : ℕ) → g < n → IsWhole gives counts_of n l → occurrences g l.claims.items ≡ occurrences g (ran l)
  one_ran l g lt whole =
      let end = whole.0 in
      let last : ℕ = end.0 in
      let more = total-append (λ c. one_if (c == g)) (ran l) (last ∷ []) in
      let all = ap (occurrences g) end.1 in
      let past = end.2 in
      let no : (last == g) ≡ false = grind (arith, nat_tests) in
      let miss : one_if (last == g) ≡ 0 = ap one_if no in
      omega arith

  all_ran : (logs : List (Log P)) (g : ℕ) → g < n → All (IsWhole gives counts_of n) logs → claims_of (λ c. one_if (c == g)) (hands_of logs) ≡ total (λ l. occurrences g (ran l)) logs
  all_ran [] g lt whole = refl
  all_ran (l ∷ ls) g lt whole = let a = one_ran l g lt (All-head (IsWhole gives counts_of n) l ls whole) in let b = all_ran ls g lt (All-tail (IsWhole gives counts_of n) l ls whole) in omega arith

  -- each group was run
  pub each_ran : (logs : List (Log P)) (next g : ℕ) → All (IsWhole gives counts_of n) logs → 0 < length logs → ((f : ℕ → ℕ) → claims_of f (hands_of logs) ≡ between f 0 next) → g < n → 0 < total (λ l. occurrences g (ran l)) logs
  each_ran logs next g whole any claims lt =
      let is = next_of logs next whole any claims in
      let here = met g 0 next (omega arith) (omega arith) in
      let a = claims (λ c. one_if (c == g)) in
      let b = all_ran logs g lt whole in
      omega arith

  all_due : (logs : List (Log P)) (k : ℕ) → All (IsWhole gives counts_of n) logs → counts_in k (hands_of logs) ≡ claims_of (count_of_group counts_of n k) (hands_of logs)
  all_due [] k whole = refl
  all_due (l ∷ ls) k whole = let a = (All-head (IsWhole gives counts_of n) l ls whole).2 k in let b = all_due ls k (All-tail (IsWhole gives counts_of n) l ls whole) in omega arith

  -- what was counted is what the groups count
  pub exact : (logs : List (Log P)) (next k : ℕ) → All (IsWhole gives counts_of n) logs → 0 < length logs → ((f : ℕ → ℕ) → claims_of f (hands_of logs) ≡ between f 0 next) → counts_in k (hands_of logs) ≡ between (λ g. counted k (counts_of g)) 0 n
  exact logs next k whole any claims =
      let m : ℕ = length logs in
      let is = next_of logs next whole any claims in
      let all = all_due logs k whole in
      let sum = claims (count_of_group counts_of n k) in
      let len = between_len (count_of_group counts_of n k) 0 next (n + m) (omega arith) in
      let cut = between_cut (count_of_group counts_of n k) 0 n m in
      let front = between_same (count_of_group counts_of n k) (λ g. counted k (counts_of g)) 0 n (λ g a b. due_in g (omega arith)) in
      let back = between_same (count_of_group counts_of n k) (λ _. 0) (0 + n) m (λ g a b. due_out g (omega arith)) in
      let zero_back = nothing (0 + n) m in
      omega arith
    where
      due_in : (g : ℕ) → g < n → count_of_group counts_of n k g ≡ counted k (counts_of g)
      due_in g lt = let yes : nat_lt g n ≡ true = grind (arith, nat_tests) in ap (λ b. n_if b (counted k (counts_of g))) yes

      due_out : (g : ℕ) → n ≤ g → count_of_group counts_of n k g ≡ 0
      due_out g le = let no : nat_lt g n ≡ false = grind (arith, nat_tests) in ap (λ b. n_if b (counted k (counts_of g))) no

module _ {P : Type 0} where
  pub ones_of : (logs : List (Log P)) → numbers_of (λ _. 1) (hands_of logs) ≡ length logs
  ones_of [] = refl
  ones_of (l ∷ ls) = let t = ones_of ls in omega arith

  claims_map : (f : ℕ → ℕ) (logs : List (Log P)) → total (total f) (map (λ l. l.claims.items) logs) ≡ claims_of f (hands_of logs)
  claims_map f [] = refl
  claims_map f (l ∷ ls) = let t = claims_map f ls in omega arith

  pub counts_map : (k : ℕ) (logs : List (Log P)) → total (counted k) (map (λ l. l.counts.items) logs) ≡ counts_in k (hands_of logs)
  counts_map k [] = refl
  counts_map k (l ∷ ls) = let t = counts_map k ls in omega arith

  -- what the table shows at the close
  abbrev pub Shown : List (Log P) → ℕ → ℕ → List ℕ → Type 0
  Shown logs sections next words = ((f : ℕ → ℕ) → claims_of f (hands_of logs) ≡ between f 0 next) × ((k : ℕ) → k < sections → slice_index words (suc k) ≡ counts_in k (hands_of logs) % 2 ^ 64)

  pub closing : (shape : Shape) (logs : List (Log P)) (me : List Hand) (id : ℕ) (words xs : List ℕ) (next : ℕ) → me ≡ hands_of logs → length logs ≡ shape.workers
      → Final {S = ℕ} {V = List Hand} (Seen {S = ℕ} {V = List Hand} (Rule shape) id me) words xs → get_elem? words 0 ≡ some next → Shown logs shape.sections next words
  closing shape logs me id words xs next mine many final first =
      let s = final.0 in
      let held = final.1 in
      let kept : Keeps shape words s.views = subst (λ ws. Keeps shape ws s.views) final.2 held.0.0 in
      let at : get_elem? s.views id ≡ some (hands_of logs) = held.1 ∙ ap some mine in
      let all = closes shape words s.views id (hands_of logs) kept at (ones_of logs ∙ many) in
      let is : slice_index words 0 ≡ next = index_at words 0 next first in
      ((λ f. all.0 f ∙ ap (λ (n : ℕ). between f 0 n) is), all.1)

  pub ends_of : (gives : ℕ → P → Type 0) (counts_of : ℕ → List (ℕ × ℕ)) (n : ℕ) (logs : List (Log P)) → All (IsWhole gives counts_of n) logs → All (EndsPast n) (map (λ l. l.claims.items) logs)
  ends_of gives counts_of n [] whole = All-nil (EndsPast n)
  ends_of gives counts_of n (l ∷ ls) whole =
      let end = (All-head (IsWhole gives counts_of n) l ls whole).0 in
      All-cons (EndsPast n) l.claims.items _ (map (λ p. p.0) l.pieces.items, end.0, end.1, end.2, end.3) (ends_of gives counts_of n ls (All-tail (IsWhole gives counts_of n) l ls whole))
