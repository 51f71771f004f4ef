use Rattle.std.proofs.Common.{◌≡◌, ◌+◌, ◌*◌, ◌≤◌, length, drop, map}
use Rattle.wild_hashes.specs.Tables.{sysv_hash_of, words, buckets, sysv_chains}
use Rattle.wild_hashes.proofs.writers.write_sysv_parts.Given as goal

abbrev pub invariant-loop-i : goal.invariant-loop-i
invariant-loop-i l = record {
  within : l.i ≤ length l.definitions;
  firsts_long : length l.firsts ≡ 4 * l.count;
  chains_long : length l.chains ≡ 4 * length l.definitions;
  firsts_behind : l.firsts ≡ words 4 (buckets l.count (l.base + l.i) (map sysv_hash_of (drop l.i l.definitions)));
  chains_behind : drop (4 * l.i) l.chains ≡ words 4 (sysv_chains l.count (l.base + l.i) (map sysv_hash_of (drop l.i l.definitions)));
}

abbrev pub decreases-loop-i : goal.decreases-loop-i
decreases-loop-i l = l.i
