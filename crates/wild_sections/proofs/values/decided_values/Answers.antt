use Rattle.std.proofs.Common.{sym, ◌∙◌}
use Rattle.wild_sections.proofs.ValueLemmas.{decided_more}
use Rattle.wild_sections.proofs.values.decided_values.Goals as goal

pub loop-i-preserved : goal.loop-i-preserved
loop-i-preserved c = decided_more c.args.layout.now c.loop-i.i c.loop-i.values.items c.push.new.self.items c.in-Some.value c.loop-i.invariant c.in_ok-push.ensures.items (sym c.decided.ensures ∙ c.in-Some.is)
