use Rattle.wild_names.proofs.Common.{◌≡◌, take, arith, subst, List, All, take_all, All-more, File, IndexesFit}
use Rattle.wild_names.proofs.numbers.files_fit.Goals as goal

-- one of them fits
abbrev Fits : File → Type 0
Fits x = IndexesFit x

pub loop-file-preserved : goal.loop-file-preserved
loop-file-preserved c = All-more Fits _ _ c.file-item.result c.loop-file-test.true c.loop-file.invariant (subst Fits c.file-item.is c.file_fits.ensures)

pub returns : goal.returns
returns c =
    let e : take c.loop-file.file-index c.args.files.now ≡ c.args.files.now = take_all _ _ (omega arith) in
    let P : List File → Type 0 = λ xs. All Fits xs in
    subst P e c.loop-file.invariant
