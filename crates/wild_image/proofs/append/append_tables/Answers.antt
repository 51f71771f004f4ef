use Rattle.wild_image.proofs.Common.{◌∙◌, ap, sym, length, arith, eqb-true, table_given, group_tables, table_piece}
use Rattle.wild_image.proofs.AppendLemmas.{next_begins_at, stands_more_at, read_at}
use Rattle.wild_image.proofs.TableLemmas.{overlay_prefix_from, none_left, tables_stay, stays_behind, starts_stay, start_fits, start_more, start_read, starts_more, starts_moved}
use Rattle.wild_image.proofs.append.append_tables.Goals as goal

-- ---- where nothing is left

pub returns-then-is_empty-clause-image : goal.returns-then-is_empty-clause-image
returns-then-is_empty-clause-image c =
    let none = none_left (group_tables c.args.layout.now c.args.group.now) c.args.bytes.now (eqb-true _ _ (sym c.is_empty.ensures ∙ c.if-is_empty.true)) c.requires.own in
    tables_stay c.args.layout.now c.args.index c.args.group.now c.args.out.now none

pub returns-then-is_empty-clause-rest : goal.returns-then-is_empty-clause-rest
returns-then-is_empty-clause-rest c =
    let none = none_left (group_tables c.args.layout.now c.args.group.now) c.args.bytes.now (eqb-true _ _ (sym c.is_empty.ensures ∙ c.if-is_empty.true)) c.requires.own in
    stays_behind (group_tables c.args.layout.now c.args.group.now) c.args.bytes.now none

pub returns-then-is_empty-clause-starts : goal.returns-then-is_empty-clause-starts
returns-then-is_empty-clause-starts c =
    let none = none_left (group_tables c.args.layout.now c.args.group.now) c.args.bytes.now (eqb-true _ _ (sym c.is_empty.ensures ∙ c.if-is_empty.true)) c.requires.own in
    starts_stay c.args.layout.now c.args.index c.args.group.now c.args.starts.now c.requires.lies c.requires.group none c.requires.starts

-- ---- part by part

pub append_table-rest-requires-clause-part : goal.append_table-rest-requires-clause-part
append_table-rest-requires-clause-part c =
    let l = c.args.layout.now in
    let items = c.as_slice-part-items.result.now in
    read_at l.parts items c.loop-i.i _ c.as_slice-part-items.ensures c.loop-i-test.true c.part-item.is

pub append_table-rest-requires-clause-start : goal.append_table-rest-requires-clause-start
append_table-rest-requires-clause-start c =
    let l = c.args.layout.now in
    let items = c.as_slice-part-items.result.now in
    let at = read_at l.parts items c.loop-i.i _ c.as_slice-part-items.ensures c.loop-i-test.true c.part-item.is in
    start_read l c.args.index c.loop-i.i _ c.args.starts.now c.loop-i.starts at c.requires.starts (c.loop-i.invariant.starts.rest c.loop-i.i (omega arith))

pub append_table-rest-requires-clause-own : goal.append_table-rest-requires-clause-own
append_table-rest-requires-clause-own c =
    let l = c.args.layout.now in
    let items = c.as_slice-part-items.result.now in
    next_begins_at (table_given l c.args.group.now) l.parts items c.loop-i.i _ c.args.bytes.now c.loop-i.rest.now c.as_slice-part-items.ensures c.loop-i-test.true c.part-item.is c.requires.own c.loop-i.invariant.rest

pub overflow_add-starts : goal.overflow_add-starts
overflow_add-starts c =
    let l = c.args.layout.now in
    let items = c.as_slice-part-items.result.now in
    let at = read_at l.parts items c.loop-i.i _ c.as_slice-part-items.ensures c.loop-i-test.true c.part-item.is in
    let start = start_read l c.args.index c.loop-i.i _ c.args.starts.now c.loop-i.starts at c.requires.starts (c.loop-i.invariant.starts.rest c.loop-i.i (omega arith)) in
    let size = c.written_size-size.ensures in
    let fits = start_fits l c.loop-i.i c.args.index _ c.args.group.now c.requires.lies at c.requires.group in
    omega (arith, start, size, fits)

pub loop-i-preserved : goal.loop-i-preserved
loop-i-preserved c =
    let l = c.args.layout.now in
    let items = c.as_slice-part-items.result.now in
    let same = c.as_slice-part-items.ensures in
    let h = c.loop-i-test.true in
    let at = read_at l.parts items c.loop-i.i _ same h c.part-item.is in
    let start = start_read l c.args.index c.loop-i.i _ c.args.starts.now c.loop-i.starts at c.requires.starts (c.loop-i.invariant.starts.rest c.loop-i.i (omega arith)) in
    let size = c.written_size-size.ensures in
    let more = start_more l c.loop-i.i c.args.index _ c.args.group.now at c.requires.group in
    record {
      image = overlay_prefix_from (table_piece l c.args.index c.args.group.now) l.parts c.loop-i.i _ c.args.out.now c.loop-i.out c.append_table-rest.new.out at c.loop-i.invariant.image c.append_table-rest.ensures.image;
      rest = stands_more_at (table_given l c.args.group.now) l.parts items c.loop-i.i _ c.args.bytes.now c.loop-i.rest.now c.append_table-rest.result.now same h c.part-item.is c.loop-i.invariant.rest c.append_table-rest.ensures.rest;
      starts = starts_more l c.args.index c.loop-i.i _ c.args.starts.now c.loop-i.starts _ at c.requires.starts c.loop-i.invariant.starts (omega (arith, start, size, more));
    }

pub returns-clause-starts : goal.returns-clause-starts
returns-clause-starts c =
    let l = c.args.layout.now in
    let same = ap length c.as_slice-part-items.ensures in
    starts_moved l c.args.index c.loop-i.i c.args.starts.now c.loop-i.starts (omega (arith, same, c.loop-i-test.false)) c.requires.starts c.loop-i.invariant.starts
