use Rattle.std.proofs.Common.{◌≡◌, ◌+◌, ◌*◌, ◌^◌, ◌≤◌, drop}
use Rattle.wild_types.specs.FilePlaces.{given}
use Rattle.wild_types.specs.Lists.{total}
use Rattle.wild_clauses.proofs.shares.total_given.Given as goal

abbrev pub invariant-loop-group : goal.invariant-loop-group
invariant-loop-group l = record {
  rest : l.sum + total (given l.part) (drop l.group-index l.groups) ≡ total (given l.part) l.groups;
  small : l.sum ≤ l.group-index * 2 ^ 64;
}
