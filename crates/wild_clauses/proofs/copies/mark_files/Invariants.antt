use Rattle.std.proofs.Common.{◌≡◌, drop}
use Rattle.std.specs.List.{flat_map}
use Rattle.wild_types.specs.Lists.{through}
use Rattle.wild_clauses.specs.Copies.{copied_of, with_mark}
use Rattle.wild_clauses.proofs.copies.mark_files.Given as goal

abbrev pub invariant-loop-file : goal.invariant-loop-file
invariant-loop-file l = through (with_mark l.start) l.marks (flat_map (copied_of l.layout) (drop l.file-index l.files)) ≡ through (with_mark l.start) l.initial.marks (flat_map (copied_of l.layout) l.files)
