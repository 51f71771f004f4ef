use Rattle.std.proofs.Common.{◌≡◌, ◌+◌, ◌≤◌, drop}
use Rattle.wild_needs.specs.DynamicStrings.{needed_count}
use Rattle.wild_types.specs.Lists.{total}
use Rattle.wild_contents.proofs.dynamic.needed_of_files.Given as goal

abbrev pub invariant-loop-file : goal.invariant-loop-file
invariant-loop-file l = record {
  rest : l.count + total (needed_count l.layout) (drop l.file-index l.files) ≡ total (needed_count l.layout) l.files;
  few : l.count ≤ l.file-index;
}
