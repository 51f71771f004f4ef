use Rattle.wild_checker.proofs.Common.{arith}
use Rattle.wild_checker.proofs.WrittenLemmas.{number_written}
use Rattle.wild_checker.proofs.rewritten.bytes_of.Goals as goal

pub returns : goal.returns
returns c = number_written c.args.number _ (omega arith) c.to_le_bytes.ensures
