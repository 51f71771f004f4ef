use Rattle.std.proofs.Common.{◌≡◌, ◌+◌, ◌-◌, ◌^◌, ◌<◌, drop}
use Rattle.std.specs.Prelude.{min}
use Rattle.wild_types.specs.Lists.{total}
use Rattle.wild_contents.specs.Hashes.{file_undefined}
use Rattle.wild_contents.proofs.hashes.count_in_files.Given as goal

abbrev pub invariant-loop-file : goal.invariant-loop-file
invariant-loop-file l = record {
  rest : min (2 ^ 64 - 1) (l.count + total (file_undefined l.layout) (drop l.file-index l.files)) ≡ min (2 ^ 64 - 1) (total (file_undefined l.layout) l.files);
  small : l.count < 2 ^ 64;
}
