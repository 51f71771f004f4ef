use Rattle.std.proofs.Common.{rules, refl, ◌∙◌}
use Rattle.wild_contents.proofs.SearchTableLemmas.{table_made, table_far, all_written}
use Rattle.wild_contents.proofs.search_table.table_of.Goals as goal

pub returns-in-Ok : goal.returns-in-Ok
returns-in-Ok g c = table_made c.args.resolved.now.layout.now _ c.args.fdes.now c.address_of-header.result c.address_of-eh_frame.result c.requires.asked c.requires.fdes (search rules) (search rules) c.in-Ok.ensures.faults refl (c.from_vec.ensures ∙ (all_written c.in_ok-room.room.len c.write_search_table.new.out _ (search rules) ∙ c.in-Ok.ensures.table))

pub returns-in-Err-FrameOffsetOverflow : goal.returns-in-Err-FrameOffsetOverflow
returns-in-Err-FrameOffsetOverflow g c = table_far c.args.resolved.now.layout.now _ c.args.fdes.now c.address_of-header.result c.address_of-eh_frame.result c.in-Err-FrameOffsetOverflow.value c.requires.asked c.requires.fdes (search rules) (search rules) (rw c.in-Err-FrameOffsetOverflow.field-0-is at c.in-Err-FrameOffsetOverflow.ensures.faults) refl
