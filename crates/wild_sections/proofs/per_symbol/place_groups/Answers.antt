use Rattle.std.proofs.Common.{arith, take}
use Rattle.wild_types.specs.Lookups.{files_of}
use Rattle.wild_symbols.proofs.NoteLemmas.{found_more, one_group_more}
use Rattle.wild_sections.proofs.per_symbol.place_groups.Goals as goal

pub loop-group-preserved : goal.loop-group-preserved
loop-group-preserved g c = λ k h.
    found_more (g.T.PerSymbol.recorded c.args.layout.now) (files_of (take c.loop-group.group-index c.as_slice-group-items.result.now)) c.as_slice.result.now _ k _ _ _
    (one_group_more c.as_slice-group-items.result.now c.loop-group.group-index c.group-item.result c.as_slice.result.now c.loop-group-test.true c.group-item.is c.as_slice.ensures)
    (c.loop-group.invariant k (omega (arith, c.place_files.auto.placed)))
    (c.place_files.ensures k (omega (arith, c.place_files.auto.placed)))
