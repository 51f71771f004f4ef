use Rattle.std.proofs.Common.{◌≡◌, arith, length}
use Rattle.wild_hashes.proofs.WriterLemmas.{two_counts}
use Rattle.wild_hashes.proofs.writers.write_counts.Goals as goal

pub returns : goal.returns
returns c =
    let one = c.put_u32.auto.out in
    let two = c.put_u32-2.auto.out in
    let l : length c.put_u32-2.new.out ≡ 8 = omega (arith, one, two) in
    two_counts c.args.buckets c.args.symbols c.put_u32.new.out c.put_u32-2.new.out l c.put_u32.ensures.front c.put_u32-2.ensures.front
