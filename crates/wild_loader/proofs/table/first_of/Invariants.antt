use Rattle.std.proofs.Common.{◌≡◌, drop, map}
use Rattle.wild_loader.specs.Effect.{first_match}
use Rattle.wild_loader.specs.Rows.{template_of}
use Rattle.wild_loader.proofs.table.first_of.Given as goal

abbrev pub invariant-loop-template : goal.invariant-loop-template
invariant-loop-template l = first_match (map template_of (drop l.template-index l.templates)) l.bytes ≡ first_match (map template_of l.templates) l.bytes
