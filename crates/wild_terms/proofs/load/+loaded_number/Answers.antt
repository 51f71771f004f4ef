use Rattle.std.proofs.Common.{arith, rules}
use Rattle.wild_loader.proofs.Numbers.{number_bound, fits_eight}
use Rattle.wild_terms.proofs.ReadLemmas.{number_none, number_missing, number_more}
use Rattle.wild_terms.proofs.load.+loaded_number.Goals as goal

pub returns-then-count-eq0-clause-number : goal.returns-then-count-eq0-clause-number
returns-then-count-eq0-clause-number t c = number_none c.args.memory.now c.args.address c.args.count c.if-count-eq0.true

pub returns-in_default-clause-number : goal.returns-in_default-clause-number
returns-in_default-clause-number t c =
    let some = c.if-count-eq0.false in
    number_missing c.args.memory.now c.args.address c.args.count (omega (arith, some)) (grind arith)

pub returns-clause-number : goal.returns-clause-number
returns-clause-number t c =
    let some = c.if-count-eq0.false in
    number_more c.args.memory.now c.args.address c.args.count c.in-Some.low c.in_ok-rest.rest (omega (arith, some)) (grind arith) c.in_ok-rest.ensures.number

pub returns-clause-bound : goal.returns-clause-bound
returns-clause-bound t c = number_bound _ _ _ (search rules) (omega arith) c.in_ok-rest.ensures.bound

pub overflow_mul-result : goal.overflow_mul-result
overflow_mul-result t c =
    let b = number_bound c.in-Some.low c.in_ok-rest.rest c.args.count (search rules) (omega arith) c.in_ok-rest.ensures.bound in
    let f = fits_eight _ _ c.requires.count b in omega (arith, f)

pub overflow_add-result : goal.overflow_add-result
overflow_add-result t c =
    let b = number_bound c.in-Some.low c.in_ok-rest.rest c.args.count (search rules) (omega arith) c.in_ok-rest.ensures.bound in
    let f = fits_eight _ _ c.requires.count b in omega (arith, f)
