use Rattle.std.proofs.Common.{◌≡◌, drop}
use Rattle.wild_shards.specs.InOrder.{in_order}
use Rattle.wild_shards.proofs.in_order.apply_in_order.Given as goal

abbrev pub invariant-loop-relocation : goal.invariant-loop-relocation
invariant-loop-relocation g l = in_order (g.S.Step.rule l.step) l.base (drop l.relocation-index l.relocations) l.out ≡ in_order (g.S.Step.rule l.step) l.base l.relocations l.initial.out
