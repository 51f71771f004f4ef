use Rattle.std.proofs.Common.{◌∙◌, sym}
use Rattle.wild_contents.proofs.FileTableLemmas.{none_added}
use Rattle.wild_contents.proofs.StringLemmas.{no_strings, strings_added}
use Rattle.wild_contents.proofs.strings.add_dynamic_strings.Goals as goal

pub returns-in_ok-add_strings : goal.returns-in_ok-add_strings
returns-in_ok-add_strings c =
    strings_added c.args.layout.now c.args.bytes.now c.add_option.new.bytes c.add_option-then-needs_dynamic.new.bytes c.add_strings.new.bytes c.as_slice.result.now
    (sym c.needs_dynamic.ensures ∙ c.if-needs_dynamic.true) c.in_ok-add_option.ensures c.in_ok-add_option-2.ensures c.in_ok-add_strings.ensures c.as_slice.ensures

pub returns-else-needs_dynamic : goal.returns-else-needs_dynamic
returns-else-needs_dynamic c = none_added c.args.bytes.now _ (no_strings c.args.layout.now (sym c.needs_dynamic.ensures ∙ c.if-needs_dynamic.false))
