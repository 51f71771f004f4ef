use Rattle.wild_outlines.proofs.ClausesLemmas.{clauses_hold}
use Rattle.wild_outlines.proofs.clauses_by_outline.Goals as goal

pub returns : goal.returns
returns c = λ l c s h m. clauses_hold l c s m h
