use Rattle.std.proofs.Common.{◌≡◌, ◌+◌, ◌%◌, ◌^◌, length, drop}
use Rattle.std.specs.List.{filter}
use Rattle.wild_types.specs.Lookups.{files_of}
use Rattle.wild_needs.specs.Versions.{has_needs}
use Rattle.wild_headers.proofs.numbers.need_count.Given as goal

abbrev pub invariant-loop-group : goal.invariant-loop-group
invariant-loop-group l =
    (l.count + length (filter has_needs (files_of (drop l.group-index l.group-items)))) % 2 ^ 32 ≡ length (filter has_needs (files_of l.group-items)) % 2 ^ 32

abbrev pub invariant-loop-file : goal.invariant-loop-file
invariant-loop-file l =
    (l.count + length (filter has_needs (drop l.file-index l.file-items)) + length (filter has_needs (files_of (drop (l.group-index + 1) l.group-items)))) % 2 ^ 32
    ≡ length (filter has_needs (files_of l.group-items)) % 2 ^ 32
