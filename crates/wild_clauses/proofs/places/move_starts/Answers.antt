use Rattle.std.proofs.Common.{arith}
use Rattle.std.proofs.lemmas.List.{ext_get_or}
use Rattle.wild_plan_rules.proofs.BlockLemmas.{is_ends_of}
use Rattle.wild_clauses.proofs.places.move_starts.Goals as goal

pub returns-clause-ends : goal.returns-clause-ends
returns-clause-ends c = is_ends_of c.args.group.now c.args.part c.args.starts.now c.loop-k.starts (omega arith) (λ j lt. c.loop-k.invariant.moved j (omega arith))

pub returns-clause-begins : goal.returns-clause-begins
returns-clause-begins c = ext_get_or 0 c.loop-k.cursors c.args.starts.now c.loop-k.invariant.same (λ j lt. c.loop-k.invariant.begins j (omega arith))
