use Rattle.std.proofs.Common.{◌≡◌, ◌+◌, drop}
use Rattle.wild_types.specs.Lists.{first_failing}
use Rattle.wild_plan_rules.specs.Places.{section_fits}
use Rattle.wild_clauses.proofs.sizes.later_section_misfit.Given as goal

abbrev pub invariant-loop-i : goal.invariant-loop-i
invariant-loop-i l = first_failing section_fits (l.i + 1) (drop l.i l.later) ≡ first_failing section_fits 1 l.later
