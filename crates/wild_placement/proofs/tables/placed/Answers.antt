use Rattle.std.proofs.Common.{◌<◌, length, ap, ◌∙◌, arith}
use Rattle.std.specs.Prelude.{slice_set}
use Rattle.std.proofs.lemmas.List.Edits.{map_over_more}
use Rattle.wild_placement.specs.PlacedInputs.{placed_at}
use Rattle.wild_placement.proofs.tables.placed.Goals as goal

pub loop-i-preserved : goal.loop-i-preserved
loop-i-preserved c =
    let t = c.loop-i-test.true in
    let n = c.len-i-end.ensures in
    let m = c.in_ok-placed.ensures.len in
    let a = ap length c.as_slice.ensures in
    let low : c.loop-i.i < length c.args.target.now.relocations = omega (arith, t, n, m, a) in
    ap (λ r. slice_set c.loop-i.placed.items c.loop-i.i r) c.placed_at.ensures
    ∙ map_over_more (placed_at c.args.target.now) c.args.target.now.relocations c.loop-i.placed.items c.loop-i.i c.index.result.now low c.loop-i.invariant c.index.ensures
