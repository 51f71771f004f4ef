use Rattle.std.proofs.Common.{◌≡◌, ◌-◌, drop, length}
use Rattle.wild_plan_rules.specs.Contents.{addresses}
use Rattle.wild_plan_rules.specs.MisplacedSections.{earlier, misplaced}
use Rattle.wild_clauses.proofs.places.section_misplaced.Given as goal

abbrev pub invariant-loop-part : goal.invariant-loop-part
invariant-loop-part l = earlier l.first (misplaced l.layout l.part (addresses (drop l.part l.parts)) 0 l.layout.groups) ≡ misplaced l.layout 0 (addresses l.parts) 0 l.layout.groups

abbrev pub decreases-loop-part : goal.decreases-loop-part
decreases-loop-part l = length l.parts - l.part
