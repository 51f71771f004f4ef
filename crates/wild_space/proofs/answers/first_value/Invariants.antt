use Rattle.std.proofs.Common.{◌≡◌, drop}
use Rattle.wild_loader.specs.Changes.{first_value}
use Rattle.wild_space.proofs.answers.first_value.Given as goal

abbrev pub invariant-loop-pair : goal.invariant-loop-pair
invariant-loop-pair l = first_value (drop l.pair-index l.pairs) l.key ≡ first_value l.pairs l.key
