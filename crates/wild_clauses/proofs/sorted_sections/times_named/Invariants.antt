use Rattle.std.proofs.Common.{◌≡◌, ◌+◌, ◌≤◌, drop}
use Rattle.wild_plan_rules.specs.Contents.{times_named}
use Rattle.wild_clauses.proofs.sorted_sections.times_named.Given as goal

abbrev pub invariant-loop-entry : goal.invariant-loop-entry
invariant-loop-entry l = record {
  rest : l.times + times_named (drop l.entry-index l.order) l.named.group l.named.file l.named.section ≡ times_named l.order l.named.group l.named.file l.named.section;
  small : l.times ≤ l.entry-index;
}
