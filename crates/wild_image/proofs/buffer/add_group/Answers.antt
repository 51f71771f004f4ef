use Rattle.wild_image.proofs.Common.{List, ℕ, sym, subst}
use Rattle.wild_contents.specs.PlacedSections.{HaveSearchTable}
use Rattle.wild_image.proofs.PlacedLemmas.{table_of_group}
use Rattle.wild_image.proofs.buffer.add_group.Goals as goal

pub add_group_tables-requires-clause-table : goal.add_group_tables-requires-clause-table
add_group_tables-requires-clause-table g c = λ written.
    subst (λ (bs : List ℕ). HaveSearchTable c.args.resolved.now.layout.now bs c.args.group.now.files) (sym c.as_slice-2.ensures)
    (table_of_group c.args.resolved.now.layout.now c.args.table.now c.args.index c.args.group.now written c.requires.table c.in_ok-add_group_files.ensures.faults)
