-- No template that stands in the bytes at an address is longer than the code that is known there.
use Rattle.std.proofs.Common.{◌≡◌, ℕ, zero, suc, ◌+◌, ◌<◌, ◌≤◌, inl, inr, Bool, true, false, List, [], ◌∷◌, ◌++◌, length, take, get_or, refl, sym, ap, ◌∙◌, arith, subst}
use Rattle.std.specs.Prelude.{◌&&◌, nat_le, Option, Some, None, option_and_then}
use Rattle.std.specs.List.{list_all}
use Rattle.std.proofs.lemmas.Bool.{cases_Bool, leb-true, and_parts, and_from}
use Rattle.wild_loader.specs.declared.memory.Memory.{Memory}
use Rattle.wild_loader.specs.declared.effect.Effect as running
use Rattle.wild_loader.specs.declared.instruction.Cell.{Cell}
use Rattle.wild_loader.specs.Memory.{Holds}
use Rattle.wild_loader.specs.Instruction.{Template, fits, matches_cells}
use Rattle.wild_loader.specs.InstructionX86_64.{templates_x86_64}
use Rattle.wild_loader.specs.Effect.{window, first_match, operand_value, effect_of, step_x86_64}
use Rattle.wild_loader.specs.StepLawsX86_64.{StepsAreLongest}
use Rattle.wild_loader.proofs.Windows.{window-held}
use Rattle.wild_loader.proofs.MeantLemmas.{matches_cells-take, stands_long, take_long, held_front, sized}

-- ---- the table

abbrev is_within : ℕ → Template → Bool
is_within n t = nat_le (length t.cells) n

-- none is longer than one before it
abbrev descends : List Template → Bool
descends [] = true
descends (t ∷ ts) = list_all (is_within (length t.cells)) ts && descends ts

table_descends : descends templates_x86_64 ≡ true
table_descends = refl

table_fits : list_all (is_within 22) templates_x86_64 ≡ true
table_fits = refl

-- a test that all pass, a listed one passes
listed_passes : (test : Template → Bool) (ts : List Template) (t : Template) (k : ℕ) → list_all test ts ≡ true → k < length ts → get_or ts k t ≡ t → test t ≡ true
listed_passes test [] t k all lt e = absurd (omega (arith, lt))
listed_passes test (x ∷ xs) t zero all lt e = subst (λ (y : Template). test y ≡ true) e (and_parts (test x) (list_all test xs) all).0
listed_passes test (x ∷ xs) t (suc k) all lt e = listed_passes test xs t k (and_parts (test x) (list_all test xs) all).1 (omega (arith, lt)) e

same_length : (x y : Template) → x ≡ y → length x.cells ≡ length y.cells
same_length x y e = ap (λ (t : Template). length t.cells) e

taken : (x u : Template) (xs : List Template) (bs : List ℕ) → matches_cells x.cells bs ≡ true → first_match (x ∷ xs) bs ≡ Some u → x ≡ u
unfolding first_match
taken x u xs bs s h = (let e : Some x ≡ Some u = rw s at h in cc)

passed : (x u : Template) (xs : List Template) (bs : List ℕ) → matches_cells x.cells bs ≡ false → first_match (x ∷ xs) bs ≡ Some u → first_match xs bs ≡ Some u
unfolding first_match
passed x u xs bs s h = rw s at h

none_stands : (bs : List ℕ) (u : Template) → first_match [] bs ≡ Some u → ⊥
unfolding first_match
none_stands bs u h = cc

-- of those that stand the first is the longest
longest : (ts : List Template) (bs : List ℕ) (t u : Template) (k : ℕ) → descends ts ≡ true → k < length ts → get_or ts k t ≡ t → matches_cells t.cells bs ≡ true → first_match ts bs ≡ Some u → length t.cells ≤ length u.cells
longest [] bs t u k d lt e s h = absurd (none_stands bs u h)
longest (x ∷ xs) bs t u zero d lt e s h =
    let here : matches_cells x.cells bs ≡ true = subst (λ (y : Template). matches_cells y.cells bs ≡ true) (sym e) s in
    let p = same_length x t e in
    let q = same_length x u (taken x u xs bs here h) in
    omega (arith, p, q)
longest (x ∷ xs) bs t u (suc k) d lt e s h =
    let two = and_parts (list_all (is_within (length x.cells)) xs) (descends xs) d in
    elim (cases_Bool (matches_cells x.cells bs)) [
      | inl y ↦
          (let p = leb-true (length t.cells) (length x.cells) (listed_passes (is_within (length x.cells)) xs t k two.0 (omega (arith, lt)) e) in
          let q = same_length x u (taken x u xs bs y h) in
          omega (arith, p, q))
      | inr n ↦ longest xs bs t u k two.1 (omega (arith, lt)) e s (passed x u xs bs n h)
    ]

-- ---- in memory

stands_more : (cs : List Cell) (bs more : List ℕ) → matches_cells cs bs ≡ true → matches_cells cs (bs ++ more) ≡ true
stands_more [] bs more s = refl
stands_more (c ∷ cs) [] more s = cc
stands_more (c ∷ cs) (b ∷ bs) more s =
    let two = and_parts (fits c b) (matches_cells cs bs) s in
    and_from (fits c b) (matches_cells cs (bs ++ more)) two.0 (stands_more cs bs more two.1)

-- a template of at most 22 bytes that stands in bytes at an address stands in those that are loaded there
stands_loaded : (m : Memory) (a : ℕ) (t : Template) (bs : List ℕ) → length t.cells ≤ 22 → Holds m a bs → matches_cells t.cells bs ≡ true → matches_cells t.cells (window m a 22) ≡ true
stands_loaded m a t bs short held s =
    let own = take (length t.cells) bs in
    let long : length own ≡ length t.cells = take_long bs (length t.cells) (stands_long t.cells bs s) in
    let stood : matches_cells t.cells own ≡ true = matches_cells-take t.cells bs (length t.cells) (omega arith) ∙ s in
    let loaded = window-held m a own 22 (omega (arith, long, short)) (held_front m a bs (length t.cells) held) in
    subst (λ (xs : List ℕ). matches_cells t.cells xs ≡ true) (sym loaded.1) (stands_more t.cells own loaded.0 stood)

by_found : (m : Memory) (a : ℕ) (e : running.Effect) (t : Template) (bs : List ℕ) (k : ℕ) (found : Option Template) → first_match templates_x86_64 bs ≡ found → option_and_then (effect_of m a bs) found ≡ Some e → k < length templates_x86_64 → get_or templates_x86_64 k t ≡ t → matches_cells t.cells bs ≡ true → length t.cells ≤ e.length
by_found m a e t bs k None f h lt listed s = cc
by_found m a e t bs k (Some u) f h lt listed s =
    let own = take (length u.cells) bs in
    let p = longest templates_x86_64 bs t u k table_descends lt listed s f in
    let q = sized m (length u.cells) (u.action a own) (operand_value m (u.action a own).operand) e h in
    omega (arith, p, q)

pub steps-longest : StepsAreLongest
unfolding step_x86_64
steps-longest = λ m a e t bs h listed held s.
    let short = leb-true (length t.cells) 22 (listed_passes (is_within 22) templates_x86_64 t listed.0 table_fits listed.1 listed.2) in
    by_found m a e t (window m a 22) listed.0 (first_match templates_x86_64 (window m a 22)) refl h listed.1 listed.2 (stands_loaded m a t bs short held s)
