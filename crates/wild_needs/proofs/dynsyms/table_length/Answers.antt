use Rattle.std.proofs.Common.{arith}
use Rattle.wild_needs.proofs.UndefinedLemmas.{table_length}
use Rattle.wild_needs.proofs.dynsyms.table_length.Goals as goal

pub returns : goal.returns
returns c =
    let e = table_length c.args.layout.now c.undefined_count.result c.undefined_count.ensures in
    grind (arith, e)
