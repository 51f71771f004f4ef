use Rattle.std.proofs.Common.{arith}
use Rattle.std.proofs.lemmas.Grind.{common_steps}
use Rattle.std.proofs.lemmas.List.Folds.{list_any-append}
use Rattle.wild_space.proofs.symbols.copy_set.Goals as goal

pub loop-index-preserved : goal.loop-index-preserved
loop-index-preserved c = λ q. grind (arith, common_steps, list_any-append, c.loop-index.invariant q)
