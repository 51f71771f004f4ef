use Rattle.std.proofs.Common.{◌≡◌, take, arith, subst, List}
use Rattle.std.specs.Prelude.{All}
use Rattle.std.proofs.lemmas.List.{take_all}
use Rattle.std.proofs.lemmas.List.Elements.{All-more}
use Rattle.wild_types.specs.declared.input.InputSection.{InputSection}
use Rattle.wild_layout.specs.Numbers.{InputNumbers}
use Rattle.wild_layout.proofs.inputs.sections_fit.Goals as goal

abbrev Fits : InputSection → Type 0
Fits x = InputNumbers x

pub loop-section-preserved : goal.loop-section-preserved
loop-section-preserved c = All-more Fits _ _ c.section-item.result c.loop-section-test.true c.loop-section.invariant (subst Fits c.section-item.is c.section_fits.ensures)

pub returns : goal.returns
returns c =
    let e : take c.loop-section.section-index c.args.sections.now ≡ c.args.sections.now = take_all _ _ (omega arith) in
    let P : List InputSection → Type 0 = λ xs. All Fits xs in
    subst P e c.loop-section.invariant
