use Rattle.wild_terms.proofs.ValueLemmas.{sums_are, differences_are, same_terms}
use Rattle.wild_terms.proofs.laws.terms_have_values.Goals as goal

pub returns-clause-sums : goal.returns-clause-sums
returns-clause-sums c = sums_are

pub returns-clause-differences : goal.returns-clause-differences
returns-clause-differences c = differences_are

pub returns-clause-same : goal.returns-clause-same
returns-clause-same c = same_terms
