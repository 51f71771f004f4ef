use Rattle.std.proofs.Common.{sym, ◌∙◌, arith}
use Rattle.std.proofs.lemmas.List.{at_drop_all}
use Rattle.wild_types.specs.Lists.{through}
use Rattle.wild_plan_rules.specs.VersionTables.{mark_step}
use Rattle.wild_clauses.proofs.VersionLemmas.{left_behind}
use Rattle.wild_clauses.proofs.versions.marks_left.Goals as goal

pub returns-clause-fewer : goal.returns-clause-fewer
returns-clause-fewer c =
    let end = at_drop_all (through mark_step c.loop-file.left) c.args.files.now c.loop-file.file-index (omega arith) in
    left_behind c.args.left c.loop-file.left c.args.files.now (sym c.loop-file.invariant ∙ end)
