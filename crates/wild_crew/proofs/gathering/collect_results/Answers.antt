use Rattle.std.proofs.Common.{rules, ◌≡◌, ◌<◌, subst, length, arith}
use Rattle.std.specs.Prelude.{All}
use Rattle.std.specs.Mem.Slots.{slots_items}
use Rattle.atomic_table.specs.Table.{Final, Seen}
use Rattle.wild_crew.specs.FinalCore.{shape_of}
use Rattle.wild_crew.specs.Logs.{hands_of, core_of, IsNumbered, IsWhole}
use Rattle.wild_crew.proofs.Moves.{Rule}
use Rattle.wild_crew.proofs.CloseLemmas.{shown, totals_exact, at_end}
use Rattle.wild_crew.proofs.gathering.collect_results.Goals as goal

pub by_group_and_worker-requires-clause-claims : goal.by_group_and_worker-requires-clause-claims
by_group_and_worker-requires-clause-claims g c =
    let logs = c.in_ok-logs.field-0.items in
    let words = slots_items c.close_with-closed.result.words in
    let counts_of = g.J.Job.counts_of c.args.job.now in
    let n = g.J.Job.number c.args.job.now in
    let mine : c.args.token.me.0 ≡ hands_of logs = search rules in
    let many : length logs ≡ c.args.workers = search rules in
    let whole : All (IsWhole (g.J.Job.gives c.args.job.now) counts_of n) logs = search rules in
    let any : 0 < length logs = (let w = c.requires.workers in omega arith) in
    let key : c.args.table.shared.key ≡ shape_of c.args.workers n c.args.sections = search rules in
    let final = subst (λ s. Final (Seen (Rule s) c.args.token.id c.args.token.me.0) words (slots_items c.close_with-closed.result.slots)) key c.close_with-closed.ensures.values.2 in
    (shown (g.J.Job.gives c.args.job.now) counts_of c.args.workers n c.args.sections logs c.args.token.me.0 c.args.token.id words (slots_items c.close_with-closed.result.slots) c.word-next.result mine many any whole final c.word-next.ensures).0

pub returns-clause-totals : goal.returns-clause-totals
returns-clause-totals g c =
    let logs = c.in_ok-logs.field-0.items in
    let words = slots_items c.close_with-closed.result.words in
    let counts_of = g.J.Job.counts_of c.args.job.now in
    let n = g.J.Job.number c.args.job.now in
    let mine : c.args.token.me.0 ≡ hands_of logs = search rules in
    let many : length logs ≡ c.args.workers = search rules in
    let whole : All (IsWhole (g.J.Job.gives c.args.job.now) counts_of n) logs = search rules in
    let any : 0 < length logs = (let w = c.requires.workers in omega arith) in
    let key : c.args.table.shared.key ≡ shape_of c.args.workers n c.args.sections = search rules in
    let final = subst (λ s. Final (Seen (Rule s) c.args.token.id c.args.token.me.0) words (slots_items c.close_with-closed.result.slots)) key c.close_with-closed.ensures.values.2 in
    totals_exact (g.J.Job.gives c.args.job.now) counts_of c.args.workers n c.args.sections logs c.args.token.me.0 c.args.token.id words (slots_items c.close_with-closed.result.slots) c.word-next.result mine many any whole final c.word-next.ensures c.in_ok-totals.field-0 (search rules) c.requires.fit

pub returns-clause-core : goal.returns-clause-core
returns-clause-core g c =
    let logs = c.in_ok-logs.field-0.items in
    let words = slots_items c.close_with-closed.result.words in
    let counts_of = g.J.Job.counts_of c.args.job.now in
    let n = g.J.Job.number c.args.job.now in
    let mine : c.args.token.me.0 ≡ hands_of logs = search rules in
    let many : length logs ≡ c.args.workers = search rules in
    let whole : All (IsWhole (g.J.Job.gives c.args.job.now) counts_of n) logs = search rules in
    let any : 0 < length logs = (let w = c.requires.workers in omega arith) in
    let key : c.args.table.shared.key ≡ shape_of c.args.workers n c.args.sections = search rules in
    let final = subst (λ s. Final (Seen (Rule s) c.args.token.id c.args.token.me.0) words (slots_items c.close_with-closed.result.slots)) key c.close_with-closed.ensures.values.2 in
    let named : IsNumbered 0 logs = search rules in
    let is : c.in_ok-pieces.core ≡ core_of c.word-next.result c.args.sections logs = search rules in
    rw is (at_end (g.J.Job.gives c.args.job.now) counts_of c.args.workers n c.args.sections logs c.args.token.me.0 c.args.token.id words (slots_items c.close_with-closed.result.slots) c.word-next.result mine many any whole final c.word-next.ensures c.in_ok-totals.field-0 (search rules) c.requires.fit named)
