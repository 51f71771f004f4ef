use Rattle.std.proofs.Common.{sym, ◌∙◌, arith}
use Rattle.wild_plan_rules.proofs.CoverLemmas.{asked_step, unasked_step}
use Rattle.wild_clauses.proofs.loaded_bytes.not_loaded.Goals.{then-must_be_loaded+else-not-covers, else-must_be_loaded}
use Rattle.wild_clauses.proofs.loaded_bytes.not_loaded.Goals as goal

pub returns-then-not-covers : goal.returns-then-not-covers
returns-then-not-covers c =
    let step = asked_step c.args.page c.args.side c.args.layout.now c.args.segments.now c.go_on-next.result c.args.later.now c.loop-i.i c.index-later-i.result c.covers.result c.requires c.go_on-next.ensures.there c.go_on-next.ensures.passed (omega arith) c.index-later-i.is (sym c.must_be_loaded.ensures ∙ c.if-must_be_loaded.true) c.covers.ensures in
    sym (rw c.if-not-covers.true at step) ∙ c.loop-i.invariant.rest

pub loop-i-preserved : goal.loop-i-preserved
loop-i-preserved c =
    elim c.if-must_be_loaded.branch [
      | then-must_be_loaded+else-not-covers w ↦
          (let step = asked_step c.args.page c.args.side c.args.layout.now c.args.segments.now w.go_on-next.result c.args.later.now c.loop-i.i c.index-later-i.result w.covers.result c.requires w.go_on-next.ensures.there w.go_on-next.ensures.passed (omega arith) c.index-later-i.is (sym c.must_be_loaded.ensures ∙ w.if-must_be_loaded.true) w.covers.ensures in
          rw (w.next-is, w.low-is) (record {
            there = w.go_on-next.ensures.there;
            passed = w.go_on-next.ensures.passed;
            rest = sym (rw w.if-not-covers.false at step) ∙ c.loop-i.invariant.rest;
          }))
      | else-must_be_loaded w ↦
          (let step = unasked_step c.args.side c.args.layout.now c.args.segments.now c.args.later.now c.loop-i.i c.index-later-i.result (omega arith) c.index-later-i.is (sym c.must_be_loaded.ensures ∙ w.if-must_be_loaded.false) in
          rw (w.next-is, w.low-is) (record { there = c.loop-i.invariant.there; passed = c.loop-i.invariant.passed; rest = sym step ∙ c.loop-i.invariant.rest }))
    ]
