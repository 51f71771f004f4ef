use Rattle.std.proofs.Common.{◌≡◌, ◌+◌, ◌*◌, ◌≤◌, length, drop, map}
use Rattle.wild_hashes.specs.Tables.{gnu_hash_of, words, buckets}
use Rattle.wild_hashes.proofs.writers.write_gnu_buckets.Given as goal

abbrev pub invariant-loop-i : goal.invariant-loop-i
invariant-loop-i l = record {
  within : l.i ≤ length l.definitions;
  long : length l.out ≡ 4 * l.count;
  behind : l.out ≡ words 4 (buckets l.count (l.base + l.i) (map gnu_hash_of (drop l.i l.definitions)));
}

abbrev pub decreases-loop-i : goal.decreases-loop-i
decreases-loop-i l = l.i
