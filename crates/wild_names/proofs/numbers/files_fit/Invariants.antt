use Rattle.wild_names.proofs.Common.{take, All, IndexesFit}
use Rattle.wild_names.proofs.numbers.files_fit.Given as goal

abbrev pub invariant-loop-file : goal.invariant-loop-file
invariant-loop-file l = All IndexesFit (take l.file-index l.files)
