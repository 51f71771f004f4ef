use Rattle.wild_frames.specs.Table.{entry_bytes}
use Rattle.wild_frames.proofs.TableLemmas.{put_front, length-entry}
use Rattle.wild_frames.proofs.table.put_entry.Goals as goal

pub returns : goal.returns
returns c = put_front c.args.at 8 c.args.out.now c.put.new.out (entry_bytes c.args.entry.now) c.put.ensures (length-entry c.args.entry.now) c.requires
