use Rattle.std.proofs.Common.{◌≡◌, ◌++◌, ◌<◌, ◌+◌, ℕ, All, map, length}
use Rattle.wild_crew.specs.Sums.{total, occurrences}
use Rattle.wild_crew.specs.Logs.{there, EachPieceIsOfItsGroup, IsWhole}
use Rattle.wild_crew.proofs.gathering.by_group_and_worker.Given as goal

abbrev pub invariant-loop-log : goal.invariant-loop-log
invariant-loop-log g l =
    (length l.slots.items ≡ g.J.Job.number l.fn.job)
    × EachPieceIsOfItsGroup (g.J.Job.gives l.fn.job) l.slots.items
    × All (IsWhole (g.J.Job.gives l.fn.job) (g.J.Job.counts_of l.fn.job) (g.J.Job.number l.fn.job)) l.log-iterator.rest.items
    × ((n : ℕ) → 0 < total (λ x. occurrences n (map (λ p. p.0) x.pieces.items)) l.fn.logs.items → 0 < there l.slots.items n + total (λ x. occurrences n (map (λ p. p.0) x.pieces.items)) l.log-iterator.rest.items)
    × (l.claims.items ++ map (λ x. x.claims.items) l.log-iterator.rest.items ≡ map (λ x. x.claims.items) l.fn.logs.items)
    × (l.counts.items ++ map (λ x. x.counts.items) l.log-iterator.rest.items ≡ map (λ x. x.counts.items) l.fn.logs.items)
