use Rattle.std.proofs.Common.{take}
use Rattle.std.specs.Prelude.{All}
use Rattle.wild_shards.specs.InOrder.{FieldWithin}
use Rattle.wild_shards.proofs.in_order.fields_lie.Given as goal

abbrev pub invariant-loop-relocation : goal.invariant-loop-relocation
invariant-loop-relocation g l = All (FieldWithin (g.S.Step.rule l.step) 0 l.output) (take l.relocation-index l.relocations)
