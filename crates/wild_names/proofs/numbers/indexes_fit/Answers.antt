use Rattle.wild_names.proofs.Common.{◌≡◌, ◌<◌, ◌^◌, take, arith, subst, List, All, take_all, All-more, NeededVersion}
use Rattle.wild_names.proofs.numbers.indexes_fit.Goals as goal

-- one of them fits
abbrev Fits : NeededVersion → Type 0
Fits x = x.index < 2 ^ 16

pub loop-version-preserved : goal.loop-version-preserved
loop-version-preserved c = All-more Fits _ _ c.version-item.result c.loop-version-test.true c.loop-version.invariant (subst Fits c.version-item.is c.index_fits.ensures)

pub returns : goal.returns
returns c =
    let e : take c.loop-version.version-index c.args.versions.now ≡ c.args.versions.now = take_all _ _ (omega arith) in
    let P : List NeededVersion → Type 0 = λ xs. All Fits xs in
    subst P e c.loop-version.invariant
