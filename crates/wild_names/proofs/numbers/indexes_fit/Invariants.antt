use Rattle.wild_names.proofs.Common.{◌<◌, ◌^◌, take, All, NeededVersion}
use Rattle.wild_names.proofs.numbers.indexes_fit.Given as goal

abbrev pub invariant-loop-version : goal.invariant-loop-version
invariant-loop-version l = All (λ (x : NeededVersion). x.index < 2 ^ 16) (take l.version-index l.versions)
