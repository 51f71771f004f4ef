use Rattle.std.proofs.Common.{◌≡◌, drop}
use Rattle.wild_needs.specs.DynamicStrings.{start_among}
use Rattle.wild_needs.proofs.strings.start_among.Given as goal

abbrev pub invariant-loop-file : goal.invariant-loop-file
invariant-loop-file l = start_among l.layout l.start (drop l.file-index l.files) ≡ start_among l.layout l.initial.start l.files
