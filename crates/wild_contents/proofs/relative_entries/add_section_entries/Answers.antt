use Rattle.std.proofs.Common.{◌∙◌, sym}
use Rattle.wild_contents.proofs.FileTableLemmas.{no_entries, none_added}
use Rattle.wild_contents.proofs.relative_entries.add_section_entries.Goals as goal

pub returns-else-may_have_relative : goal.returns-else-may_have_relative
returns-else-may_have_relative g c = none_added c.args.bytes.now _ (no_entries c.args.resolved.now.layout.now c.args.section.now (sym c.may_have_relative.ensures ∙ c.if-may_have_relative.false))
