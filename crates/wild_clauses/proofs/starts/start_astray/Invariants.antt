use Rattle.std.proofs.Common.{◌≡◌, ◌*◌, ◌^◌, drop}
use Rattle.wild_plan_rules.specs.GroupStarts.{AreBelow, no_starts, start_astray}
use Rattle.wild_clauses.proofs.starts.start_astray.Given as goal

abbrev pub invariant-loop-i : goal.invariant-loop-i
invariant-loop-i l = record {
  rest : start_astray l.places l.from l.i (drop l.i l.groups) ≡ start_astray l.places no_starts 0 l.groups;
  small : AreBelow (l.i * 2 ^ 64) l.from;
}
