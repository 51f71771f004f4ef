use Rattle.std.proofs.Common.{◌≡◌, drop}
use Rattle.wild_plan_rules.specs.SlotFlags.{first_tested_failing}
use Rattle.wild_clauses.proofs.slot_flags.first_tested_failing.Given as goal

abbrev pub invariant-loop-i : goal.invariant-loop-i
invariant-loop-i g l = first_tested_failing l.layout (g.C.Test.test l.test) l.i (drop l.i l.layout.symbols) ≡ first_tested_failing l.layout (g.C.Test.test l.test) 0 l.layout.symbols
