use Rattle.std.proofs.Common.{◌≡◌, drop, length}
use Rattle.wild_types.specs.Lists.{through}
use Rattle.wild_plan_rules.specs.MisplacedSections.{own_all_placed}
use Rattle.wild_clauses.proofs.places.pass_own.Given as goal

abbrev pub invariant-loop-file : goal.invariant-loop-file
invariant-loop-file l = record {
  rest : through (own_all_placed l.layout l.part l.ends) l.cursors (drop l.file-index l.files) ≡ through (own_all_placed l.layout l.part l.ends) l.initial.cursors l.files;
  same : length l.ends ≡ length l.cursors;
}
