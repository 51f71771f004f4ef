use Rattle.std.proofs.Common.{rules, ◌≡◌, ◌+◌, ◌<◌, ◌++◌, [], ◌∷◌, ◌∙◌, subst, map, length, arith, Some, None}
use Rattle.std.specs.Prelude.{All}
use Rattle.std.proofs.lemmas.List.{nil_from_length}
use Rattle.std.proofs.lemmas.List.Elements.{All-head, All-tail}
use Rattle.wild_crew.specs.Logs.{IsWhole, there}
use Rattle.wild_crew.proofs.Sorting.{empty_given, early_room, still_to_come, moved, pieces_given, to_come}
use Rattle.wild_crew.proofs.Placing.{in_the_end}
use Rattle.wild_crew.proofs.AllLogs.{each_ran}
use Rattle.wild_crew.proofs.gathering.by_group_and_worker.Goals as goal

pub loop-log-init : goal.loop-log-init
loop-log-init g c =
    let rest : c.into_iter-log-iterator.result.rest.items ≡ c.args.logs.items = search rules in
    let all : All (λ x. x ≡ None) c.in_ok-slots.slots.items = search rules in
    (search rules, empty_given (g.J.Job.gives c.args.job.now) c.in_ok-slots.slots.items all, rw rest c.requires.whole, rw rest (λ n some. (omega arith)), rw rest (search rules), rw rest (search rules))

pub place-requires-clause-room : goal.place-requires-clause-room
place-requires-clause-room g c =
    let step : c.loop-log.log-iterator.rest.items ≡ c.in-Some.log ∷ c.next.new.self.rest.items = search rules in
    let whole : All (IsWhole (g.J.Job.gives c.args.job.now) (g.J.Job.counts_of c.args.job.now) (g.J.Job.number c.args.job.now)) (c.in-Some.log ∷ c.next.new.self.rest.items) = subst (All (IsWhole (g.J.Job.gives c.args.job.now) (g.J.Job.counts_of c.args.job.now) (g.J.Job.number c.args.job.now))) step c.loop-log.invariant.2 in
    let one = All-head (IsWhole (g.J.Job.gives c.args.job.now) (g.J.Job.counts_of c.args.job.now) (g.J.Job.number c.args.job.now)) c.in-Some.log c.next.new.self.rest.items whole in
    let room : length c.loop-log.slots.items ≡ g.J.Job.number c.args.job.now = search rules in
    rw room (early_room (g.J.Job.number c.args.job.now) c.in-Some.log.pieces.items one.0.3)

pub place-requires-clause-given : goal.place-requires-clause-given
place-requires-clause-given g c =
    let step : c.loop-log.log-iterator.rest.items ≡ c.in-Some.log ∷ c.next.new.self.rest.items = search rules in
    let whole : All (IsWhole (g.J.Job.gives c.args.job.now) (g.J.Job.counts_of c.args.job.now) (g.J.Job.number c.args.job.now)) (c.in-Some.log ∷ c.next.new.self.rest.items) = subst (All (IsWhole (g.J.Job.gives c.args.job.now) (g.J.Job.counts_of c.args.job.now) (g.J.Job.number c.args.job.now))) step c.loop-log.invariant.2 in
    (All-head (IsWhole (g.J.Job.gives c.args.job.now) (g.J.Job.counts_of c.args.job.now) (g.J.Job.number c.args.job.now)) c.in-Some.log c.next.new.self.rest.items whole).1

pub loop-log-preserved : goal.loop-log-preserved
loop-log-preserved g c =
    let step : c.loop-log.log-iterator.rest.items ≡ c.in-Some.log ∷ c.next.new.self.rest.items = search rules in
    let whole : All (IsWhole (g.J.Job.gives c.args.job.now) (g.J.Job.counts_of c.args.job.now) (g.J.Job.number c.args.job.now)) (c.in-Some.log ∷ c.next.new.self.rest.items) = subst (All (IsWhole (g.J.Job.gives c.args.job.now) (g.J.Job.counts_of c.args.job.now) (g.J.Job.number c.args.job.now))) step c.loop-log.invariant.2 in
    let claims : c.push.new.self.items ≡ c.loop-log.claims.items ++ c.in-Some.log.claims.items ∷ [] = search rules in
    let counts : c.push-in-loop-log.new.self.items ≡ c.loop-log.counts.items ++ c.in-Some.log.counts.items ∷ [] = search rules in (
      search rules,
      c.place.ensures.given,
      All-tail (IsWhole (g.J.Job.gives c.args.job.now) (g.J.Job.counts_of c.args.job.now) (g.J.Job.number c.args.job.now)) c.in-Some.log c.next.new.self.rest.items whole,
      (λ n some. still_to_come c.loop-log.slots.items c.place.new.slots.items c.in-Some.log c.loop-log.log-iterator.rest.items c.next.new.self.rest.items step c.place.ensures.there n (c.loop-log.invariant.3 n some)),
      rw claims (moved (λ l. l.claims.items) (map (λ x. x.claims.items) c.args.logs.items) c.loop-log.claims.items c.in-Some.log c.loop-log.log-iterator.rest.items c.next.new.self.rest.items step c.loop-log.invariant.4),
      rw counts (moved (λ l. l.counts.items) (map (λ x. x.counts.items) c.args.logs.items) c.loop-log.counts.items c.in-Some.log c.loop-log.log-iterator.rest.items c.next.new.self.rest.items step c.loop-log.invariant.5),
    )

pub all_of-requires : goal.all_of-requires
all_of-requires g c n lt =
    let len : length c.loop-log.log-iterator.rest.items ≡ 0 = search rules in
    let done = nil_from_length c.loop-log.log-iterator.rest.items len in
    let under : n < g.J.Job.number c.args.job.now = (let l = c.loop-log.invariant.0 in omega arith) in
    let was = each_ran (g.J.Job.gives c.args.job.now) (g.J.Job.counts_of c.args.job.now) (g.J.Job.number c.args.job.now) c.args.logs.items c.args.next n c.requires.whole c.requires.some c.requires.claims under in
    in_the_end c.loop-log.slots.items n (subst (λ rest. 0 < there c.loop-log.slots.items n + to_come n rest) done (c.loop-log.invariant.3 n was))

pub returns-clause-pieces : goal.returns-clause-pieces
returns-clause-pieces g c =
    let is : map (λ q. Some q) c.in_ok-all_of.field-0.items ≡ c.loop-log.slots.items = search rules in
    let both = pieces_given (g.J.Job.gives c.args.job.now) c.loop-log.slots.items c.in_ok-all_of.field-0.items is c.loop-log.invariant.1 in
    let out : c.from_vec-pieces.result ≡ c.in_ok-all_of.field-0.items = search rules in
    rw out (both.0 ∙ c.loop-log.invariant.0, both.1)
