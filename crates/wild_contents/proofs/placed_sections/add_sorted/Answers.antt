use Rattle.std.proofs.Common.{ap, length, arith}
use Rattle.wild_contents.specs.PlacedSections.{sorted_given}
use Rattle.wild_contents.proofs.FileTableLemmas.{all_joined}
use Rattle.wild_contents.proofs.PlacedLemmas.{sorted_joined}
use Rattle.wild_contents.proofs.placed_sections.add_sorted.Goals as goal

pub returns : goal.returns
returns g c =
    let same = ap length c.as_slice-entry-items.ensures in
    let end = c.loop-entry.auto.entry-index-end in
    let out = c.loop-entry-test.false in
    all_joined (sorted_given c.args.role c.args.resolved.now.layout.now) c.args.resolved.now.layout.now.sorted c.loop-entry.entry-index c.args.bytes.now c.loop-entry.bytes _ (omega (arith, same, end, out)) c.loop-entry.invariant (sorted_joined c.args.role c.args.resolved.now.layout.now)
