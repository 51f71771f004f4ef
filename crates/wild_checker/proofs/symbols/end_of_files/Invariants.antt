use Rattle.wild_checker.proofs.Common.{◌≡◌, drop}
use Rattle.wild_checker.specs.Symbols.{end_of_files}
use Rattle.wild_checker.proofs.symbols.end_of_files.Given as goal

abbrev pub invariant-loop-file : goal.invariant-loop-file
invariant-loop-file l = end_of_files l.end (drop l.file-index l.files) ≡ end_of_files l.start l.files
