use Rattle.std.proofs.Common.{sym, ◌∙◌}
use Rattle.wild_clauses.proofs.OrderedLemmas.{entry_out, entry_next}
use Rattle.wild_clauses.proofs.places.entry_group.Goals as goal

pub returns-then-not-pass_entry : goal.returns-then-not-pass_entry
returns-then-not-pass_entry c =
    let said = rw c.if-not-pass_entry.true at c.pass_entry.ensures in
    let out = entry_out c.args.layout.now c.args.part c.args.ends.now c.loop-entry.cursors c.loop-entry.entry-index c.args.order.now _ c.loop-entry-test.true said in
    sym out ∙ c.loop-entry.invariant.rest

pub loop-entry-preserved : goal.loop-entry-preserved
loop-entry-preserved c =
    let said = rw c.if-not-pass_entry.false at c.pass_entry.ensures in
    let next = entry_next c.args.layout.now c.args.part c.args.ends.now c.loop-entry.cursors c.pass_entry.new.cursors c.loop-entry.entry-index c.args.order.now _ c.loop-entry-test.true said in
    record { rest = sym next ∙ c.loop-entry.invariant.rest; same = c.loop-entry.invariant.same ∙ sym c.pass_entry.auto.cursors }
