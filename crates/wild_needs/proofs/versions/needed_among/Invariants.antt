use Rattle.std.proofs.Common.{◌≡◌, ◌+◌, ◌-◌, ◌^◌, ◌<◌, drop, length, min}
use Rattle.std.specs.List.{filter}
use Rattle.wild_needs.specs.Versions.{has_needs}
use Rattle.wild_needs.proofs.versions.needed_among.Given as goal

abbrev pub invariant-loop-file : goal.invariant-loop-file
invariant-loop-file l = record {
  rest : min (2 ^ 64 - 1) (l.count + length (filter has_needs (drop l.file-index l.files))) ≡ min (2 ^ 64 - 1) (length (filter has_needs l.files));
  small : l.count < 2 ^ 64;
}
