use Rattle.std.proofs.Common.{rules, ◌≡◌, ◌+◌, ◌-◌, ◌/◌, arith, ℕ, subst, ◌++◌}
use Rattle.wild_crew.specs.Logs.{IsWhole}
use Rattle.wild_crew.proofs.LogLemmas.{Answers, grow, one}
use Rattle.wild_crew.proofs.crew.+crew_alone.Goals as goal

pub returns-then-count-eq1-clause-ok : goal.returns-then-count-eq1-clause-ok
returns-then-count-eq1-clause-ok g t c =
    let n : c.args.count ≡ 1 = search rules in
    rw n (one (λ v. v.items) (IsWhole (g.J.Job.gives c.args.job.now) (g.J.Job.counts_of c.args.job.now) (g.J.Job.number c.args.job.now)) c.work-token.result.0.me.0 c.args.from c.work-token.result.1 c.alone.result c.alone.ensures c.work-token.ensures.ok)

pub returns-clause-ok : goal.returns-clause-ok
returns-clause-ok g t c =
    let half : ℕ = c.args.count / 2 in
    let all : half + (c.args.count - half) ≡ c.args.count = omega arith in
    let me : c.join_in.new.token.me.0 ≡ c.crew_alone-token.result.0.me.0 ++ c.crew_alone-other.result.0.me.0 = search rules in
    rw me (subst (λ n. Answers (λ v. v.items) (IsWhole (g.J.Job.gives c.args.job.now) (g.J.Job.counts_of c.args.job.now) (g.J.Job.number c.args.job.now)) (c.crew_alone-token.result.0.me.0 ++ c.crew_alone-other.result.0.me.0) c.args.from n c.append_logs.result) all
    (grow (λ v. v.items) (IsWhole (g.J.Job.gives c.args.job.now) (g.J.Job.counts_of c.args.job.now) (g.J.Job.number c.args.job.now)) c.crew_alone-token.result.0.me.0 c.crew_alone-other.result.0.me.0 c.args.from half (c.args.count - half) c.crew_alone-token.result.1 c.crew_alone-other.result.1 c.append_logs.result c.append_logs.ensures c.crew_alone-token.ensures.ok c.crew_alone-other.ensures.ok))
