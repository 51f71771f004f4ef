use Rattle.std.proofs.Common.{◌≡◌, drop, length}
use Rattle.wild_shards.specs.InOrder.{in_order}
use Rattle.wild_layout.specs.Debug.{debug_rule, at_offset_only}
use Rattle.wild_debug.proofs.pass.apply_in_order.Given as goal

abbrev pub invariant-loop-relocation : goal.invariant-loop-relocation
invariant-loop-relocation g l = record {
  long : length l.out ≡ length l.initial.out;
  rest : in_order (debug_rule l.step.resolved.now.layout.now at_offset_only l.step.section.now) l.base (drop l.relocation-index l.relocations) l.out ≡ in_order (debug_rule l.step.resolved.now.layout.now at_offset_only l.step.section.now) l.base l.relocations l.initial.out;
}
