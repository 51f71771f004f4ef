use Rattle.std.proofs.Common.{◌≡◌, ◌∙◌, take, length}
use Rattle.wild_frames.specs.Table.{header_of, hdr_bytes}
use Rattle.wild_frames.proofs.OrderLemmas.{table_written, is_table}
use Rattle.wild_frames.proofs.table.write_search_table.Goals as goal

pub returns-clause-table : goal.returns-clause-table
returns-clause-table g c =
    let front = take 12 c.write_eh_frame_hdr.new.out in
    let is : front ≡ hdr_bytes (header_of c.args.header c.args.eh_frame (length c.args.fdes.now)) = c.in_ok-write_eh_frame_hdr.ensures.front in
    table_written c.args.header c.args.eh_frame c.args.fdes.now front c.put_sorted.new.out c.deref_mut.result.now c.in_ok-put_sorted.ensures.bytes is (c.deref_mut.ensures.value ∙ c.in_ok-entries.ensures.value)

pub returns-clause-sorted : goal.returns-clause-sorted
returns-clause-sorted g c =
    let front = take 12 c.write_eh_frame_hdr.new.out in
    let is : front ≡ hdr_bytes (header_of c.args.header c.args.eh_frame (length c.args.fdes.now)) = c.in_ok-write_eh_frame_hdr.ensures.front in
    let e = c.deref_mut.ensures.value ∙ c.in_ok-entries.ensures.value in
    is_table c.args.header c.args.eh_frame c.args.fdes.now c.put_sorted.new.out c.deref_mut.result.now
    (table_written c.args.header c.args.eh_frame c.args.fdes.now front c.put_sorted.new.out c.deref_mut.result.now c.in_ok-put_sorted.ensures.bytes is e) e c.in_ok-put_sorted.ensures.all c.in_ok-put_sorted.ensures.sorted
