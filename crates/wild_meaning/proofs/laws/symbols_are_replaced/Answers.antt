use Rattle.wild_meaning.proofs.ReplacedLemmas.{dynamic_replaceable, exported_replaceable, answers_taken}
use Rattle.wild_meaning.proofs.laws.symbols_are_replaced.Goals as goal

pub returns : goal.returns
returns c = record { dynamic = dynamic_replaceable; exported = exported_replaceable; taken = answers_taken }
