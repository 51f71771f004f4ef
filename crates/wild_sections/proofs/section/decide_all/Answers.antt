use Rattle.std.proofs.Common.{◌<◌, length, refl, arith}
use Rattle.std.proofs.lemmas.Result.{err_from_is_err_and}
use Rattle.wild_types.specs.Item.{item_now}
use Rattle.wild_sections.proofs.DecidedLemmas.{refuses_decision, none_refused, none_decided, decided_more}
use Rattle.wild_sections.proofs.section.decide_all.Goals as goal

pub loop-index-init : goal.loop-index-init
loop-index-init g c = record { none = refl; made = none_decided c.args.resolved.now.layout.now (item_now c.args.item.now) c.in_ok-decisions.decisions.items c.in_ok-decisions.ensures.items }

pub returns-in_err-decide_at-clause-faults : goal.returns-in_err-decide_at-clause-faults
returns-in_err-decide_at-clause-faults g c =
    let r = c.from_residual-in_err-decide_at in
    let p = err_from_is_err_and r.result r.ensures.1 in
    let test = c.loop-index-test.true in
    let below : c.loop-index.index < length c.args.item.now.relocations.now = omega (arith, test) in
    rw (p.1, p.2) (refuses_decision c.args.resolved.now.layout.now c.args.origin.now.place.group c.args.origin.now.place.file c.args.origin.now.place.section (item_now c.args.item.now) c.args.origin.now.relocations.now c.loop-index.index _ below c.loop-index.invariant.none c.in_err-decide_at.ensures.faults)

pub loop-index-preserved : goal.loop-index-preserved
loop-index-preserved g c =
    let test = c.loop-index-test.true in
    let below : c.loop-index.index < length c.args.item.now.relocations.now = omega (arith, test) in
    record {
      none = none_refused c.args.resolved.now.layout.now c.args.origin.now.place.group c.args.origin.now.place.file c.args.origin.now.place.section (item_now c.args.item.now) c.args.origin.now.relocations.now c.loop-index.index c.loop-index.invariant.none c.in_ok-decide_at.ensures.faults;
      made = decided_more c.args.resolved.now.layout.now (item_now c.args.item.now) c.loop-index.decisions.items c.push.new.self.items c.loop-index.index _ below c.loop-index.invariant.made c.in_ok-push.ensures.items c.in_ok-decide_at.ensures.decision;
    }
