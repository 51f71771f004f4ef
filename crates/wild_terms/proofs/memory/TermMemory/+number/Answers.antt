use Rattle.std.proofs.Common.{arith, rules}
use Rattle.wild_loader.proofs.Numbers.{number_bound, fits_eight}
use Rattle.wild_terms.proofs.memory.TermMemory.+number.Goals as goal

pub returns-clause-bound : goal.returns-clause-bound
returns-clause-bound t c = number_bound _ _ _ (search rules) (omega arith) c.in_ok-rest.ensures.bound

pub overflow_mul-result : goal.overflow_mul-result
overflow_mul-result t c =
    let b = number_bound c.in_ok-low.low c.in_ok-rest.rest c.args.count (search rules) (omega arith) c.in_ok-rest.ensures.bound in
    let f = fits_eight _ _ c.requires.count b in omega (arith, f)

pub overflow_add-result : goal.overflow_add-result
overflow_add-result t c =
    let b = number_bound c.in_ok-low.low c.in_ok-rest.rest c.args.count (search rules) (omega arith) c.in_ok-rest.ensures.bound in
    let f = fits_eight _ _ c.requires.count b in omega (arith, f)
