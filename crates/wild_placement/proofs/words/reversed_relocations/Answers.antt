use Rattle.std.proofs.Common.{◌<◌, length, ap, ◌∙◌, arith}
use Rattle.std.specs.Prelude.{slice_set}
use Rattle.std.proofs.lemmas.List.Edits.{map_over_more}
use Rattle.wild_placement.specs.ReversedWords.{reversed_offset}
use Rattle.wild_placement.proofs.words.reversed_relocations.Goals as goal

pub loop-i-preserved : goal.loop-i-preserved
loop-i-preserved c =
    let t = c.loop-i-test.true in
    let n = c.len-i-end.ensures in
    let m = c.in_ok-reversed_section.ensures.len in
    let low : c.loop-i.i < length c.args.relocations.now = omega (arith, t, n, m) in
    ap (λ r. slice_set c.loop-i.reversed_section.items c.loop-i.i r) c.reversed_offset.ensures
    ∙ map_over_more (reversed_offset c.args.size) c.args.relocations.now c.loop-i.reversed_section.items c.loop-i.i c.index.result.now low c.loop-i.invariant c.index.ensures
