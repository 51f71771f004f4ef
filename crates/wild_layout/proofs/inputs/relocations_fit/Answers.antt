use Rattle.std.proofs.Common.{◌≡◌, take, arith, subst, List}
use Rattle.std.specs.Prelude.{All}
use Rattle.std.proofs.lemmas.List.{take_all}
use Rattle.std.proofs.lemmas.List.Elements.{All-more}
use Rattle.wild_types.specs.declared.input.InputRelocation.{InputRelocation}
use Rattle.wild_layout.specs.Numbers.{AddendFits}
use Rattle.wild_layout.proofs.inputs.relocations_fit.Goals as goal

abbrev Fits : InputRelocation → Type 0
Fits x = AddendFits x

pub loop-relocation-preserved : goal.loop-relocation-preserved
loop-relocation-preserved c = All-more Fits _ _ c.relocation-item.result c.loop-relocation-test.true c.loop-relocation.invariant (subst Fits c.relocation-item.is c.addend_fits.ensures)

pub returns : goal.returns
returns c =
    let e : take c.loop-relocation.relocation-index c.args.relocations.now ≡ c.args.relocations.now = take_all _ _ (omega arith) in
    let P : List InputRelocation → Type 0 = λ xs. All Fits xs in
    subst P e c.loop-relocation.invariant
