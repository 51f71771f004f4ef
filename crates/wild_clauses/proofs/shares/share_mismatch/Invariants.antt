use Rattle.std.proofs.Common.{◌≡◌, drop}
use Rattle.wild_plan_rules.specs.Contents.{share_mismatch}
use Rattle.wild_clauses.proofs.shares.share_mismatch.Given as goal

abbrev pub invariant-loop-i : goal.invariant-loop-i
invariant-loop-i l = share_mismatch l.groups l.i (drop l.i l.parts) ≡ share_mismatch l.groups 0 l.parts
