use Rattle.std.proofs.Common.{length}
use Rattle.wild_aarch64.proofs.template.+begins_with.Given as goal

abbrev pub decreases-begins_with : goal.decreases-begins_with
decreases-begins_with l = length l.wanted.now
