use Rattle.wild_image.proofs.Common.{◌≡◌, ◌++◌, ◌∙◌, group_tables}
use Rattle.wild_contents.proofs.FileTableLemmas.{none_added}
use Rattle.wild_image.proofs.TableLemmas.{on_ok_any}
use Rattle.wild_image.proofs.buffer.add_batch_group.Goals as goal

pub returns-clause-tables : goal.returns-clause-tables
returns-clause-tables g c =
    let all = group_tables c.args.resolved.now.layout.now c.args.group.now in
    let same : c.add_group_files.new.bytes.tables ≡ c.args.bytes.now.tables ++ all = c.add_group_files.ensures.tables ∙ none_added c.args.bytes.now.tables all (c.requires.none c.if-has_tables.false) in
    on_ok_any (c.add_group_files.new.bytes.tables ≡ c.args.bytes.now.tables ++ all) c.add_group_files.result same
