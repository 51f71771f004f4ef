use Rattle.std.proofs.Common.{◌∙◌, sym}
use Rattle.wild_contents.proofs.FileTableLemmas.{no_words, none_added}
use Rattle.wild_contents.proofs.relr_words.add_section_words.Goals as goal

pub returns-else-may_have_relative : goal.returns-else-may_have_relative
returns-else-may_have_relative c = none_added c.args.bytes.now _ (no_words c.args.layout.now c.args.section.now (sym c.may_have_relative.ensures ∙ c.if-may_have_relative.false))
