use Rattle.std.proofs.Common.{◌≡◌}
use Rattle.std.specs.Prelude.{None}
use Rattle.wild_terms.specs.Symbolic.{shared_byte}
use Rattle.wild_terms.proofs.PatchLemmas.{last_apart}
use Rattle.wild_terms.proofs.load.check_apart.Goals as goal

pub returns-in-None-clause-apart : goal.returns-in-None-clause-apart
returns-in-None-clause-apart c =
    let none : shared_byte c.args.tails.now c.args.patches.now ≡ None = cc (c.in_ok-found.ensures, c.in-None.is) in
    last_apart c.args.tails.now c.args.patches.now none
