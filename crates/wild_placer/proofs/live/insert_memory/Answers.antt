use Rattle.wild_placer.proofs.Common.{◌≡◌, ℕ, List, true, ◌∙◌, ap, subst, refl, nat_cmp, lookup, get, is_at, Memory, Run, any_begins, with_runs, without_runs}
use Rattle.wild_placer.proofs.ListedLemmas.{runs_as_before}
use Rattle.wild_placer.proofs.LiveLemmas.{free_start, placed_again, placed_after_addition}
use Rattle.wild_placer.proofs.PlacedLemmas.{insertion_is_last, numbers_below}
use Rattle.wild_placer.proofs.live.insert_memory.Goals as goal

pub add_runs-requires : goal.add_runs-requires
add_runs-requires c = λ q t. free_start (get nat_cmp c.args.starts.now) c.args.memory.runs q c.requires.placed.separate c.requires.free (subst (λ (rs : List Run). any_begins rs q ≡ true) c.as_slice.ensures t)

pub returns-then-not-add_runs-clause-kept_placed : goal.returns-then-not-add_runs-clause-kept_placed
returns-then-not-add_runs-clause-kept_placed c = λ e.
    placed_again c.args.number (get nat_cmp c.args.live.now) (get nat_cmp c.args.live.now) (get nat_cmp c.args.starts.now) (get nat_cmp c.add_runs.new.starts) c.requires.placed (λ q. refl) (c.add_runs.ensures.kept c.if-not-add_runs.true)

pub returns-in-Ok-clause-placed : goal.returns-in-Ok-clause-placed
returns-in-Ok-clause-placed c = λ e.
    placed_after_addition c.args.number (get nat_cmp c.args.live.now) (get nat_cmp c.insert.new.self) c.args.memory (get nat_cmp c.args.starts.now) (get nat_cmp c.add_runs.new.starts) c.requires.placed c.requires.separate c.requires.free (λ q. c.in-Ok.ensures.updates.0 q)
    (λ q. c.add_runs.ensures.added c.if-not-add_runs.false q ∙ ap (λ (rs : List Run). with_runs c.args.number rs (get nat_cmp c.args.starts.now) q) c.as_slice.ensures)

pub returns-in-Ok-clause-live : goal.returns-in-Ok-clause-live
returns-in-Ok-clause-live c = λ e. c.in-Ok.ensures.entries ∙ insertion_is_last c.args.live.now.entries c.args.number c.args.memory (numbers_below c.args.number c.args.live.now (get nat_cmp c.args.starts.now) c.requires.placed)

pub returns-clause-kept_placed : goal.returns-clause-kept_placed
returns-clause-kept_placed c = λ e.
    placed_again c.args.number (get nat_cmp c.args.live.now) (get nat_cmp c.insert.new.self) (get nat_cmp c.args.starts.now) (get nat_cmp c.remove_runs.new.starts) c.requires.placed
    (λ q. ap (λ (es : List (ℕ × Memory)). lookup (is_at (nat_cmp q)) es) c.in-Err.ensures.err)
    (runs_as_before c.args.number c.args.memory.runs (get nat_cmp c.args.starts.now) (get nat_cmp c.add_runs.new.starts) (get nat_cmp c.remove_runs.new.starts)
    (λ q t. free_start (get nat_cmp c.args.starts.now) c.args.memory.runs q c.requires.placed.separate c.requires.free t)
    (λ q. c.add_runs.ensures.added c.if-not-add_runs.false q ∙ ap (λ (rs : List Run). with_runs c.args.number rs (get nat_cmp c.args.starts.now) q) c.as_slice.ensures)
    (λ q. c.remove_runs.ensures q ∙ ap (λ (rs : List Run). without_runs rs (get nat_cmp c.add_runs.new.starts) q) (c.as_slice-in-Err.ensures ∙ ap (λ (p : ℕ × Memory). p.1.runs) c.in-Err.ensures.value_returned)))
