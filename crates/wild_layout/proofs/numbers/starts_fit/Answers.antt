use Rattle.std.proofs.Common.{◌≡◌, ◌<◌, ◌^◌, take, arith, subst, List}
use Rattle.std.specs.Prelude.{All}
use Rattle.std.proofs.lemmas.List.{take_all}
use Rattle.std.proofs.lemmas.List.Elements.{All-more}
use Rattle.wild_types.specs.declared.file.Group.{Group}
use Rattle.wild_layout.proofs.numbers.starts_fit.Goals as goal

abbrev IsLow : Group → Type 0
IsLow g = g.dynstr_start < 2 ^ 64

pub loop-group-preserved : goal.loop-group-preserved
loop-group-preserved c = All-more IsLow _ _ c.group-item.result c.loop-group-test.true c.loop-group.invariant (rw (← c.group-item.is) c.start_fits.ensures)

pub returns : goal.returns
returns c =
    let e : take c.loop-group.group-index c.args.groups.now ≡ c.args.groups.now = take_all _ _ (omega arith) in
    let P : List Group → Type 0 = λ xs. All IsLow xs in
    subst P e c.loop-group.invariant
