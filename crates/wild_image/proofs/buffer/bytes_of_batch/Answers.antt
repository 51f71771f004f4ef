use Rattle.wild_image.proofs.Common.{[], sym, ap, ◌∙◌, take_all, err_from_is_err_and, flat_map, flat_map_from, group_errors, group_tables, group_files, GivesItsShares}
use Rattle.wild_sections.proofs.FaultLemmas.{none_behind, refuses_behind}
use Rattle.wild_image.proofs.OwnedLemmas.{bytes_read}
use Rattle.wild_image.proofs.AppendLemmas.{lies_read}
use Rattle.wild_image.proofs.TableLemmas.{none_told, gives_nothing}
use Rattle.wild_image.proofs.PlacedLemmas.{table_of_all}
use Rattle.wild_image.proofs.buffer.bytes_of_batch.Goals as goal

pub add_batch_group-requires-clause-table : goal.add_batch_group-requires-clause-table
add_batch_group-requires-clause-table g c = table_of_all c.args.resolved.now.layout.now c.args.table.now c.group-item.result.files c.requires.table

pub add_batch_group-requires-clause-none : goal.add_batch_group-requires-clause-none
add_batch_group-requires-clause-none g c = λ none.
    let l = c.args.resolved.now.layout.now in
    let gs = c.args.batch.now.groups.now in
    let nothing = c.room_of_tables-tables.ensures (none_told c.room_of_tables-tables.result none) in
    gives_nothing l gs c.loop-i.i c.group-item.result c.loop-i-test.true c.group-item.is nothing
    (lies_read (GivesItsShares l) gs c.loop-i.i c.group-item.result c.loop-i-test.true c.group-item.is c.requires.gives)

pub loop-i-preserved : goal.loop-i-preserved
loop-i-preserved g c = record {
  faults = none_behind (group_errors c.args.resolved.now.layout.now) c.args.batch.now.first c.loop-i.i c.args.batch.now.groups.now c.group-item.result c.loop-i-test.true c.group-item.is c.loop-i.invariant.faults c.in_ok-add_batch_group.ensures.faults;
  tables = bytes_read (group_tables c.args.resolved.now.layout.now) c.args.batch.now.groups.now c.loop-i.i c.group-item.result [] c.loop-i.bytes.tables c.add_batch_group.new.bytes.tables c.loop-i-test.true c.group-item.is c.loop-i.invariant.tables c.in_ok-add_batch_group.ensures.tables;
  files = bytes_read (group_files c.args.resolved.now.layout.now) c.args.batch.now.groups.now c.loop-i.i c.group-item.result [] c.loop-i.bytes.files c.add_batch_group.new.bytes.files c.loop-i-test.true c.group-item.is c.loop-i.invariant.files c.in_ok-add_batch_group.ensures.files;
}

pub returns-in_err-add_batch_group-clause-faults : goal.returns-in_err-add_batch_group-clause-faults
returns-in_err-add_batch_group-clause-faults g c =
    let r = c.from_residual-in_err-add_batch_group in
    let p = err_from_is_err_and r.result r.ensures.1 in
    rw (p.1, p.2) (refuses_behind (group_errors c.args.resolved.now.layout.now) c.args.batch.now.first c.loop-i.i c.args.batch.now.groups.now c.group-item.result _ c.loop-i-test.true c.group-item.is c.loop-i.invariant.faults c.in_err-add_batch_group.ensures.faults)

pub returns-clause-faults : goal.returns-clause-faults
returns-clause-faults g c = sym (ap (flat_map_from (group_errors c.args.resolved.now.layout.now) c.args.batch.now.first) (take_all c.loop-i.i c.args.batch.now.groups.now c.loop-i-test.false)) ∙ c.loop-i.invariant.faults

pub returns-clause-bytes : goal.returns-clause-bytes
returns-clause-bytes g c = record {
  tables = c.loop-i.invariant.tables ∙ ap (flat_map (group_tables c.args.resolved.now.layout.now)) (take_all c.loop-i.i c.args.batch.now.groups.now c.loop-i-test.false);
  files = c.loop-i.invariant.files ∙ ap (flat_map (group_files c.args.resolved.now.layout.now)) (take_all c.loop-i.i c.args.batch.now.groups.now c.loop-i-test.false);
}
