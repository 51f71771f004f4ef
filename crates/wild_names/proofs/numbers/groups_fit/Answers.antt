use Rattle.wild_names.proofs.Common.{◌≡◌, take, arith, subst, List, All, take_all, All-more, Group, IndexesFit}
use Rattle.wild_names.proofs.numbers.groups_fit.Goals as goal

-- one of them fits
abbrev Fits : Group → Type 0
Fits x = All IndexesFit x.files

pub loop-group-preserved : goal.loop-group-preserved
loop-group-preserved c = All-more Fits _ _ c.group-item.result c.loop-group-test.true c.loop-group.invariant (subst Fits c.group-item.is c.group_fits.ensures)

pub returns : goal.returns
returns c =
    let e : take c.loop-group.group-index c.args.groups.now ≡ c.args.groups.now = take_all _ _ (omega arith) in
    let P : List Group → Type 0 = λ xs. All Fits xs in
    subst P e c.loop-group.invariant
