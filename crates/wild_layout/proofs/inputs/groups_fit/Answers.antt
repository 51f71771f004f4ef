use Rattle.std.proofs.Common.{◌≡◌, take, arith, subst, List}
use Rattle.std.specs.Prelude.{All}
use Rattle.std.proofs.lemmas.List.{take_all}
use Rattle.std.proofs.lemmas.List.Elements.{All-more}
use Rattle.wild_types.specs.declared.file.Group.{Group}
use Rattle.wild_types.specs.declared.file.File.{File}
use Rattle.wild_layout.specs.Numbers.{InputNumbers}
use Rattle.wild_layout.proofs.inputs.groups_fit.Goals as goal

abbrev Fits : Group → Type 0
Fits x = (λ (g : Group). All (λ (f : File). All InputNumbers f.sections) g.files) x

pub loop-group-preserved : goal.loop-group-preserved
loop-group-preserved c = All-more Fits _ _ c.group-item.result c.loop-group-test.true c.loop-group.invariant (subst Fits c.group-item.is c.group_fits.ensures)

pub returns : goal.returns
returns c =
    let e : take c.loop-group.group-index c.args.groups.now ≡ c.args.groups.now = take_all _ _ (omega arith) in
    let P : List Group → Type 0 = λ xs. All Fits xs in
    subst P e c.loop-group.invariant
