use Rattle.std.proofs.Common.{length}
use Rattle.wild_loader.proofs.template.+is_match.Given as goal

abbrev pub decreases-is_match : goal.decreases-is_match
decreases-is_match l = length l.cells.now
