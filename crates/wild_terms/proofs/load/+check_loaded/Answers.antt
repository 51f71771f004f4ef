use Rattle.std.proofs.Common.{arith}
use Rattle.wild_terms.proofs.ReadLemmas.{are_missing}
use Rattle.wild_terms.proofs.load.+check_loaded.Goals as goal

pub returns-then-is_none : goal.returns-then-is_none
returns-then-is_none t c =
    let some = c.if-count-eq0.false in
    are_missing c.args.memory.now c.args.address c.args.count (omega (arith, some)) (grind arith)
