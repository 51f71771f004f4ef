use Rattle.wild_placer.proofs.Common.{ℕ, List, ◌∙◌, sym, ap, refl, Option, is_some, nat_cmp, lookup, get, is_at, Memory, Run, without_runs}
use Rattle.wild_placer.proofs.LiveLemmas.{placed_again, placed_after_removal}
use Rattle.wild_placer.proofs.PlacedLemmas.{get_first, removal_is_without}
use Rattle.wild_placer.proofs.live.remove_memory.Goals as goal

pub returns-in-Some-clause-placed : goal.returns-in-Some-clause-placed
returns-in-Some-clause-placed c = λ next placed.
    placed_after_removal next c.args.number (get nat_cmp c.args.live.now) (get nat_cmp c.remove.new.self) c.in-Some.memory (get nat_cmp c.args.starts.now) (get nat_cmp c.remove_runs.new.starts) placed (sym c.remove.ensures.value ∙ c.in-Some.is) (λ q. c.remove.ensures.updates.0 q)
    (λ q. c.remove_runs.ensures q ∙ ap (λ (rs : List Run). without_runs rs (get nat_cmp c.args.starts.now) q) c.as_slice.ensures)

pub returns-in-Some-clause-live : goal.returns-in-Some-clause-live
returns-in-Some-clause-live c = c.remove.ensures.entries ∙ removal_is_without c.args.number c.args.live.now.entries

pub returns-in-Some-clause-found : goal.returns-in-Some-clause-found
returns-in-Some-clause-found c = sym (ap (λ (o : Option Memory). is_some o) (sym (get_first c.args.live.now c.args.number) ∙ (sym c.remove.ensures.value ∙ c.in-Some.is)))

pub returns-in-None-clause-placed : goal.returns-in-None-clause-placed
returns-in-None-clause-placed c = λ next placed.
    placed_again next (get nat_cmp c.args.live.now) (get nat_cmp c.remove.new.self) (get nat_cmp c.args.starts.now) (get nat_cmp c.args.starts.now) placed (λ q. ap (λ (es : List (ℕ × Memory)). lookup (is_at (nat_cmp q)) es) c.in-None.ensures.unchanged) (λ q. refl)

pub returns-in-None-clause-live : goal.returns-in-None-clause-live
returns-in-None-clause-live c = c.remove.ensures.entries ∙ removal_is_without c.args.number c.args.live.now.entries

pub returns-in-None-clause-found : goal.returns-in-None-clause-found
returns-in-None-clause-found c = sym (ap (λ (o : Option Memory). is_some o) (sym (get_first c.args.live.now c.args.number) ∙ (sym c.remove.ensures.value ∙ c.in-None.is)))
