use Rattle.std.proofs.Common.{drop}
use Rattle.wild_frames.proofs.TableLemmas.{put_hdr}
use Rattle.wild_frames.proofs.table.write_eh_frame_hdr.Goals as goal

pub returns-clause-front : goal.returns-clause-front
returns-clause-front c = put_hdr c.args.header c.args.eh_frame c.args.count c.in_ok-frame_pointer.frame_pointer c.put.new.out (drop 12 c.args.out.now) c.put.ensures c.in_ok-frame_pointer.ensures.faults c.in_ok-frame_pointer.ensures.value
