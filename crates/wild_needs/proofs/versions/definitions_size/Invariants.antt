use Rattle.std.proofs.Common.{◌≡◌, ◌+◌, ◌*◌, ◌-◌, ◌^◌, ◌<◌, ◌≤◌, drop, min}
use Rattle.wild_needs.specs.Versions.{definitions_size}
use Rattle.wild_needs.proofs.versions.definitions_size.Given as goal

abbrev pub invariant-loop-definition : goal.invariant-loop-definition
invariant-loop-definition l = record {
  rest : min (2 ^ 64 - 1) (l.size + definitions_size (drop l.definition-index l.definitions)) ≡ min (2 ^ 64 - 1) (definitions_size l.definitions);
  small : l.size < 2 ^ 64;
  few : l.size ≤ 36 * l.definition-index;
}
