use Rattle.std.proofs.Common.{◌≡◌, drop}
use Rattle.wild_needs.specs.HashShapes.{bucket_below}
use Rattle.wild_clauses.proofs.hashes.bucket_below.Given as goal

abbrev pub invariant-loop-i : goal.invariant-loop-i
invariant-loop-i l = bucket_below l.buckets l.least l.i (drop l.i l.listed) ≡ bucket_below l.buckets 0 0 l.listed
