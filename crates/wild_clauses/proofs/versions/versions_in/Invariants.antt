use Rattle.std.proofs.Common.{◌≡◌, ◌+◌, ◌-◌, ◌^◌, ◌<◌, drop, min}
use Rattle.wild_types.specs.Lists.{total}
use Rattle.wild_needs.specs.Versions.{file_versions}
use Rattle.wild_clauses.proofs.versions.versions_in.Given as goal

abbrev pub invariant-loop-file : goal.invariant-loop-file
invariant-loop-file l = record {
  rest : min (2 ^ 64 - 1) (l.count + total file_versions (drop l.file-index l.files)) ≡ min (2 ^ 64 - 1) (total file_versions l.files);
  small : l.count < 2 ^ 64;
}
