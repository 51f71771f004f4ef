use Rattle.std.proofs.Common.{◌∙◌}
use Rattle.wild_clauses.proofs.CopyLemmas.{window_again}
use Rattle.wild_clauses.proofs.copies.repeated_copy_in_window.Goals as goal

pub returns : goal.returns
returns c = c.first_marked.ensures ∙ window_again c.args.layout.now c.args.start 65536 c.args.groups.now
