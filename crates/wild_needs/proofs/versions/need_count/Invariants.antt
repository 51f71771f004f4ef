use Rattle.std.proofs.Common.{◌≡◌, ◌+◌, ◌-◌, ◌^◌, ◌<◌, drop, length, min}
use Rattle.std.specs.List.{filter}
use Rattle.wild_types.specs.Lookups.{files_of}
use Rattle.wild_needs.specs.Versions.{has_needs}
use Rattle.wild_needs.proofs.versions.need_count.Given as goal

abbrev pub invariant-loop-group : goal.invariant-loop-group
invariant-loop-group l = record {
  rest : min (2 ^ 64 - 1) (l.count + length (filter has_needs (files_of (drop l.group-index l.group-items)))) ≡ min (2 ^ 64 - 1) (length (filter has_needs (files_of l.group-items)));
  small : l.count < 2 ^ 64;
}
