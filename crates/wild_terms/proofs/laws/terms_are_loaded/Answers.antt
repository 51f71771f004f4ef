use Rattle.wild_terms.proofs.LoadLemmas.{loaded_terms}
use Rattle.wild_terms.proofs.laws.terms_are_loaded.Goals as goal

pub returns : goal.returns
returns c = loaded_terms
