use Rattle.std.proofs.Common.{arith}
use Rattle.wild_contents.proofs.NoteLemmas.{front_put}
use Rattle.wild_contents.proofs.notes.put_front.Goals as goal

pub returns : goal.returns
returns c = front_put c.args.kind c.args.size _ c.args.out.now c.put_u32.new.out c.put_u32-2.new.out c.put_u32-3.new.out c.put_u32-4.new.out (omega arith) c.put_u32.ensures.front c.put_u32-2.ensures.front c.put_u32-3.ensures.front c.put_u32-4.ensures.front
