use Rattle.std.proofs.Common.{◌≡◌, ◌*◌, ◌≤◌, length, drop, map}
use Rattle.wild_hashes.specs.Tables.{gnu_hash_of, words, gnu_chains}
use Rattle.wild_hashes.proofs.writers.write_gnu_chains.Given as goal

abbrev pub invariant-loop-i : goal.invariant-loop-i
invariant-loop-i l = record {
  within : l.i ≤ length l.definitions;
  long : length l.out ≡ 4 * length l.definitions;
  behind : drop (4 * l.i) l.out ≡ words 4 (gnu_chains l.count (map gnu_hash_of (drop l.i l.definitions)));
}

abbrev pub decreases-loop-i : goal.decreases-loop-i
decreases-loop-i l = l.i
