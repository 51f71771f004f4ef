use Rattle.std.proofs.Common.{◌≡◌, drop}
use Rattle.std.specs.List.{list_all}
use Rattle.wild_types.proofs.search.all_pass.Given as goal

abbrev pub invariant-loop-item : goal.invariant-loop-item
invariant-loop-item g l = list_all (g.C.Test.test l.test) (drop l.item-index l.items) ≡ list_all (g.C.Test.test l.test) l.items
