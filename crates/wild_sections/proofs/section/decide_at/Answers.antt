use Rattle.std.proofs.Common.{sym, arith}
use Rattle.wild_types.specs.Item.{item_now}
use Rattle.wild_sections.proofs.DecisionLemmas.{read_at, ok_has_none, err_is_first}
use Rattle.wild_sections.proofs.section.decide_at.Goals as goal

pub returns-in-Ok-clause-faults : goal.returns-in-Ok-clause-faults
returns-in-Ok-clause-faults g c = ok_has_none c.args.resolved.now.layout.now c.args.origin.now.place.group c.args.origin.now.place.file c.args.origin.now.place.section (item_now c.args.item.now) c.args.origin.now.relocations.now c.args.index _ (sym c.in-Ok.ensures)

pub returns-in-Err-clause-faults : goal.returns-in-Err-clause-faults
returns-in-Err-clause-faults g c =
    let s = item_now c.args.item.now in
    let low = c.requires.index in
    let count = c.requires.origins in
    let listed = read_at c.args.origin.now.relocations.now c.args.index _ (omega (arith, low, count)) c.index-relocations-index.is in
    rw c.offset.ensures (err_is_first c.args.resolved.now.layout.now c.args.origin.now.place.group c.args.origin.now.place.file c.args.origin.now.place.section s c.args.origin.now.relocations.now c.args.index _ c.in-Err.fault listed (sym c.in-Err.ensures))
