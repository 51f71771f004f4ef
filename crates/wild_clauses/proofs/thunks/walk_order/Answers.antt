use Rattle.std.proofs.Common.{rules, sym, ◌∙◌}
use Rattle.wild_plan_rules.specs.Thunks.{section_step}
use Rattle.wild_clauses.proofs.OrderedLemmas.{walk_next, walk_out}
use Rattle.wild_clauses.proofs.thunks.walk_order.Goals as goal

pub returns-in_err-at-clause-is : goal.returns-in_err-at-clause-is
returns-in_err-at-clause-is c =
    let said = sym c.step_entry.ensures.is ∙ (c.in_err-at.was) in
    let out = walk_out (section_step c.args.layout.now c.args.group) c.loop-entry.at c.in_err-at.field-0.0 c.args.layout.now c.loop-entry.entry-index c.args.order.now _ c.loop-entry-test.true said in
    let whole = sym c.loop-entry.invariant.rest ∙ out in
    rw whole (search rules)

pub loop-entry-preserved : goal.loop-entry-preserved
loop-entry-preserved c =
    let said = sym c.step_entry.ensures.is ∙ (c.in_ok-at.was) in
    let next = walk_next (section_step c.args.layout.now c.args.group) c.loop-entry.at c.in_ok-at.at c.args.layout.now c.loop-entry.entry-index c.args.order.now _ c.loop-entry-test.true said in
    record { rest = sym next ∙ c.loop-entry.invariant.rest; small = c.in_ok-at.ensures.small }
