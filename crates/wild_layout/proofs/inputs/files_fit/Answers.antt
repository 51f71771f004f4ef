use Rattle.std.proofs.Common.{◌≡◌, take, arith, subst, List}
use Rattle.std.specs.Prelude.{All}
use Rattle.std.proofs.lemmas.List.{take_all}
use Rattle.std.proofs.lemmas.List.Elements.{All-more}
use Rattle.wild_types.specs.declared.file.File.{File}
use Rattle.wild_layout.specs.Numbers.{InputNumbers}
use Rattle.wild_layout.proofs.inputs.files_fit.Goals as goal

abbrev Fits : File → Type 0
Fits x = (λ (f : File). All InputNumbers f.sections) x

pub loop-file-preserved : goal.loop-file-preserved
loop-file-preserved c = All-more Fits _ _ c.file-item.result c.loop-file-test.true c.loop-file.invariant (subst Fits c.file-item.is c.file_fits.ensures)

pub returns : goal.returns
returns c =
    let e : take c.loop-file.file-index c.args.files.now ≡ c.args.files.now = take_all _ _ (omega arith) in
    let P : List File → Type 0 = λ xs. All Fits xs in
    subst P e c.loop-file.invariant
