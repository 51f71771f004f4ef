use Rattle.wild_placer.proofs.Common.{ℕ, ◌+◌, ap, nat_cmp, get}
use Rattle.wild_placer.proofs.SharedLemmas.{in_run}
use Rattle.wild_placer.proofs.shared.shared_with_run.Goals as goal

pub returns : goal.returns
returns c = in_run (get nat_cmp c.args.starts.now) c.args.run.now (c.args.run.now.start + c.len-size.result) c.first_taken.result (ap (λ (n : ℕ). c.args.run.now.start + n) c.len-size.ensures) c.first_taken.ensures.some c.first_taken.ensures.none
