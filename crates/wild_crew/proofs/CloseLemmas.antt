-- What the table shows at the close is the core of the workers' logs.
use Rattle.std.proofs.Common.{◌≡◌, ℕ, zero, suc, ◌+◌, ◌%◌, ◌^◌, ◌<◌, true, List, [], ◌∷◌, length, refl, sym, ap, ◌∙◌, subst, arith, Some}
use Rattle.std.specs.Prelude.{All, map, slice_index, slice_get, replicate}
use Rattle.std.proofs.lemmas.List.{length-map, length-replicate}
use Rattle.std.proofs.lemmas.List.Elements.{All-head, All-tail, All-nil, All-cons}
use Rattle.std.proofs.Math.Nat.{mod-eq_of_lt}
use mathlib.Core.Option.{some, some-injective}
use lib.ListN.{get_elem?}
use Rattle.atomic_table.specs.Table.{Final, Seen}
use Rattle.wild_crew.specs.declared.hand.Hand.{Hand}
use Rattle.wild_crew.specs.declared.hand.Shape.{Shape}
use Rattle.wild_crew.specs.declared.log.Log.{Log}
use Rattle.wild_crew.specs.declared.steps.Core.{Core}
use Rattle.wild_crew.specs.Sums.{total, counted, rises_from, EachOnce}
use Rattle.wild_crew.specs.Crew.{hand, counts_in}
use Rattle.wild_crew.specs.Runs.{empty_core, run, are_permitted}
use Rattle.wild_crew.specs.TableCore.{IsShown, Shows, Holds, CoreIsReachable}
use Rattle.wild_crew.specs.Logs.{hands_of, core_of, IsNumbered, IsWhole}
use Rattle.wild_crew.specs.FinalCore.{AtEnd, AreTotals, shape_of, sum_of}
use Rattle.wild_crew.proofs.Totals.{All-get}
use Rattle.wild_crew.proofs.CoreLaws.{all_claims, all_rise, fits_all, sized_first}
use Rattle.wild_crew.proofs.Closing.{begins}
use Rattle.wild_crew.proofs.Moves.{Rule}
use Rattle.wild_crew.proofs.Words.{Copied, index_at}
use Rattle.wild_crew.proofs.AllLogs.{Shown, closing, next_of, exact, ends_of, counts_map}

index_ext : (xs ys : List ℕ) → length xs ≡ length ys → ((j : ℕ) → j < length xs → slice_index xs j ≡ slice_index ys j) → xs ≡ ys
index_ext [] [] len same = refl
index_ext [] (y ∷ ys) len same = absurd (omega arith)
index_ext (x ∷ xs) [] len same = absurd (omega arith)
index_ext (x ∷ xs) (y ∷ ys) len same =
    let here : x ≡ y = same 0 (omega arith) in
    let rest : xs ≡ ys = index_ext xs ys (omega arith) (λ j lt. same (suc j) (omega arith)) in
    λ i. here i ∷ rest i

-- the words are next and the totals
words_are : (words : List ℕ) (next k : ℕ) (totals : List ℕ) → length words ≡ suc k → get_elem? words 0 ≡ some next → Copied words totals k → words ≡ next ∷ totals
words_are [] next k totals len first copied = absurd (omega arith)
words_are (w ∷ ws) next k totals len first copied =
    let here : w ≡ next = some-injective w next first in
    let many = copied.0 in
    let rest : ws ≡ totals = index_ext ws totals (omega arith) (λ j lt. sym (copied.1 j (omega arith))) in
    λ i. here i ∷ rest i

module _ {P : Type 0} where
  -- the lists of a core that shows the logs are the lists of the logs
  lists_are : {A : Type 0} (field : Log P → List A) (full cs : List (List A)) (from : ℕ) (logs : List (Log P)) → ((j : ℕ) → slice_get cs j ≡ slice_get full (from + j)) → length cs ≡ length logs → IsNumbered from logs
      → All (λ l. slice_get full l.worker ≡ Some (field l)) logs → cs ≡ map field logs
  lists_are field full [] from [] part len named shown = refl
  lists_are field full [] from (l ∷ ls) part len named shown = absurd (omega arith)
  lists_are field full (c ∷ cs) from [] part len named shown = absurd (omega arith)
  lists_are {A} field full (c ∷ cs) from (l ∷ ls) part len named shown =
      let first : Some c ≡ slice_get full (from + 0) = part 0 in
      let place : from + 0 ≡ l.worker = (let e = named.0 in omega arith) in
      let mine : slice_get full l.worker ≡ Some (field l) = All-head (λ x. slice_get full x.worker ≡ Some (field x)) l ls shown in
      let both : Some c ≡ Some (field l) = first ∙ ap (λ (n : ℕ). slice_get full n) place ∙ mine in
      let here : c ≡ field l = cc in
      let rest : cs ≡ map field ls = lists_are field full cs (suc from) ls
      (λ j. part (suc j) ∙ ap (λ (n : ℕ). slice_get full n) (omega arith)) (omega arith) named.1
      (All-tail (λ x. slice_get full x.worker ≡ Some (field x)) l ls shown) in
      λ i. here i ∷ rest i

  each_claims : (core : Core) (logs : List (Log P)) → All (IsShown core) (hands_of logs) → All (λ l. slice_get core.claims l.worker ≡ Some l.claims.items) logs
  each_claims core [] shown = All-nil (λ (l : Log P). slice_get core.claims l.worker ≡ Some l.claims.items)
  each_claims core (l ∷ ls) shown = All-cons (λ (x : Log P). slice_get core.claims x.worker ≡ Some x.claims.items) l ls (All-head (IsShown core) _ _ shown).claims (each_claims core ls (All-tail (IsShown core) _ _ shown))

  each_counts : (core : Core) (logs : List (Log P)) → All (IsShown core) (hands_of logs) → All (λ l. slice_get core.counts l.worker ≡ Some l.counts.items) logs
  each_counts core [] shown = All-nil (λ (l : Log P). slice_get core.counts l.worker ≡ Some l.counts.items)
  each_counts core (l ∷ ls) shown = All-cons (λ (x : Log P). slice_get core.counts x.worker ≡ Some x.counts.items) l ls (All-head (IsShown core) _ _ shown).counts (each_counts core ls (All-tail (IsShown core) _ _ shown))

  -- the core that is shown is that of the logs
  core_is : (shape : Shape) (words : List ℕ) (views : List (List Hand)) (core : Core) (id next : ℕ) (logs : List (Log P)) → Shows shape words views core → get_elem? views id ≡ some (hands_of logs) → length logs ≡ shape.workers → IsNumbered 0 logs → slice_index words 0 ≡ next
      → core ≡ core_of next shape.sections logs
  core_is shape words views core id next logs shows at many named first =
      let mine : All (IsShown core) (hands_of logs) = All-get (All (IsShown core)) views id (hands_of logs) at shows.lists in
      let a : core.next ≡ next = sym shows.next ∙ first in
      let b : core.claims ≡ map (λ l. l.claims.items) logs = lists_are (λ l. l.claims.items) core.claims core.claims 0 logs (λ j. ap (λ (n : ℕ). slice_get core.claims n) (omega arith)) (shows.workers.0 ∙ sym many) named (each_claims core logs mine) in
      let d : core.counts ≡ map (λ l. l.counts.items) logs = lists_are (λ l. l.counts.items) core.counts core.counts 0 logs (λ j. ap (λ (n : ℕ). slice_get core.counts n) (omega arith)) (shows.workers.1 ∙ sym many) named (each_counts core logs mine) in
      let e = shows.sections in
      λ i. record { next = a i; claims = b i; counts = d i; sections = e i }

module _ {P : Type 0} (gives : ℕ → P → Type 0) (counts_of : ℕ → List (ℕ × ℕ)) (workers groups sections : ℕ) (logs : List (Log P)) (me : List Hand) (id : ℕ) (words xs : List ℕ) (next : ℕ) (mine : me ≡ hands_of logs) (many : length logs ≡ workers) (any : 0 < length logs)
    (whole : All (IsWhole gives counts_of groups) logs) (final : Final {S = ℕ} {V = List Hand} (Seen {S = ℕ} {V = List Hand} (Rule (shape_of workers groups sections)) id me) words xs) (first : get_elem? words 0 ≡ some next) where
  pub shown : Shown logs sections next words
  shown = closing (shape_of workers groups sections) logs me id words xs next mine many final first

  -- the words behind the first are exact
  exact_word : (k : ℕ) → k < sections → sum_of counts_of groups k < 2 ^ 64 → slice_index words (suc k) ≡ sum_of counts_of groups k
  exact_word k lt fit =
      let e = exact gives counts_of groups logs next k whole any shown.0 in
      let w = shown.1 k lt in
      let m : counts_in k (hands_of logs) % 2 ^ 64 ≡ sum_of counts_of groups k = ap (λ (c : ℕ). c % 2 ^ 64) e ∙ mod-eq_of_lt fit in
      w ∙ m

  module _ (totals : List ℕ) (copied : Copied words totals sections) (fit : (k : ℕ) → k < sections → sum_of counts_of groups k < 2 ^ 64) where
    pub totals_exact : AreTotals counts_of groups sections totals
    totals_exact = (copied.0, (λ k lt. copied.1 k lt ∙ exact_word k lt (fit k lt)))

    pub at_end : IsNumbered 0 logs → AtEnd (shape_of workers groups sections) totals (core_of next sections logs)
    at_end named =
        let shape : Shape = shape_of workers groups sections in
        let core : Core = core_of next sections logs in
        let s = final.0 in
        let held = final.1 in
        let now : words ≡ next ∷ totals = words_are words next sections totals (sym (ap length final.2) ∙ held.0.0.size) first copied in
        let rule : Holds shape words s.views = subst (λ ws. Holds shape ws s.views) final.2 held.0 in
        let at : get_elem? s.views id ≡ some (hands_of logs) = held.1 ∙ ap some mine in
        let trace : CoreIsReachable shape words s.views = rule.1 in
        let left : Core = run (empty_core workers sections) trace.steps in
        let is : left ≡ core = core_is shape words s.views left id next logs trace.shows at many named (index_at words 0 next first) in
        let end : next ≡ groups + workers = next_of gives counts_of groups logs next whole any shown.0 ∙ ap (λ (n : ℕ). groups + n) many in
        let small = rule.0.small in
        let sums : (k : ℕ) → total (counted k) core.counts ≡ sum_of counts_of groups k = λ k. counts_map k logs ∙ exact gives counts_of groups logs next k whole any shown.0 in
        let ok : are_permitted (empty_core workers sections) trace.steps = fits_all workers sections (empty_core workers sections) trace.steps (sized_first workers sections) trace.ranged
        (subst (λ (c : Core). c.next < 2 ^ 64) (sym is) (omega arith))
        (subst (λ (c : Core). (k : ℕ) → k < sections → total (counted k) c.counts < 2 ^ 64) (sym is) (λ k lt. subst (λ (n : ℕ). n < 2 ^ 64) (sym (sums k)) (fit k lt))) in
        record {
          next = end;
          once = subst (λ (c : Core). EachOnce c.next c.claims) is (all_claims workers sections trace.steps ok);
          rising = subst (λ (c : Core). All (λ x. rises_from 0 x ≡ true) c.claims) is (all_rise workers sections trace.steps ok);
          ends = (length-map logs (λ l. l.claims.items) ∙ many, ends_of gives counts_of groups logs whole);
          sums = (length-map logs (λ l. l.counts.items) ∙ many, (λ k lt. sums k ∙ sym (totals_exact.1 k lt)));
          sections = refl;
          steps = (trace.steps, ok, sym is);
          shown = (
            s.views,
            subst (λ ws. Holds shape ws s.views) now rule,
            subst (λ (c : Core). Shows shape (next ∷ totals) s.views c) is (subst (λ ws. Shows shape ws s.views left) now trace.shows),
          );
        }

-- the table at the start
pub opens : (workers groups sections : ℕ) → workers + groups < 2 ^ 63 → 0 < workers → Holds (shape_of workers groups sections) (replicate (suc sections) 0) ((hand 0 workers [] [] ∷ []) ∷ [])
opens workers groups sections small any = (
  begins (shape_of workers groups sections) small any,
  record {
    steps = [];
    ranged = All-nil (Rattle.wild_crew.specs.TableCore.InRange workers sections);
    shows = record {
      next = refl;
      lists = All-cons (All (IsShown (empty_core workers sections))) _ [] (All-cons (IsShown (empty_core workers sections)) _ [] (record {
        claims = empty workers 0 any;
        counts = empty workers 0 any;
        others = λ w a b. (empty workers w (omega arith), empty workers w (omega arith));
      }) (All-nil (IsShown (empty_core workers sections)))) (All-nil (All (IsShown (empty_core workers sections))));
      sums = λ k lt. (let z = zeros sections k in let n = none k workers in omega arith);
      workers = (length-replicate workers [], length-replicate workers []);
      sections = refl;
    };
  },
)
  where
    empty : {A : Type 0} (n j : ℕ) → j < n → slice_get (replicate {A = List A} n []) j ≡ Some []
    empty zero j lt = absurd (omega arith)
    empty (suc n) zero lt = refl
    empty (suc n) (suc j) lt = empty n j (omega arith)

    zeros : (n j : ℕ) → slice_index (replicate n 0) j ≡ 0
    zeros zero j = refl
    zeros (suc n) zero = refl
    zeros (suc n) (suc j) = zeros n j

    none : (k n : ℕ) → total (counted k) (replicate n []) ≡ 0
    none k zero = refl
    none k (suc n) = let t = none k n in omega arith
