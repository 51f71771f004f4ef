use Rattle.std.proofs.Common.{arith}
use Rattle.wild_io.proofs.KnownBytes.{copied}
use Rattle.wild_io.proofs.memory.MemSourceSource.read.Goals as goal

pub returns-clause-bytes : goal.returns-clause-bytes
returns-clause-bytes c =
    let n = rw c.deref-2.ensures.value at c.copy_prefix-count.ensures.count in
    let b = rw c.deref-2.ensures.value at c.copy_prefix-count.ensures.copied in
    copied c.args.self.now.bytes.items c.args.buf.now c.copy_prefix-count.new.buf c.args.self.now.at c.copy_prefix-count.result c.args.self.now.most (omega arith) (omega arith) c.copy_prefix-count.auto.buf n b
