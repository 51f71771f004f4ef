use Rattle.std.proofs.Common.{length}
use Rattle.wild_text.proofs.PlanMemberLemmas.{RestOfMembers}
use Rattle.wild_text.proofs.plan_members.read_object.Given as goal

abbrev pub invariant-object : goal.invariant-object
invariant-object l = RestOfMembers l.depth l.initial.reader l.reader l.members

abbrev pub decreases-object : goal.decreases-object
decreases-object l = length l.reader
