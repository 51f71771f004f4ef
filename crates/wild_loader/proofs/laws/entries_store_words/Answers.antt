use Rattle.wild_loader.proofs.FilledLemmas.{relative-stored, resolved-stored}
use Rattle.wild_loader.proofs.laws.entries_store_words.Goals as goal

pub returns-clause-relative : goal.returns-clause-relative
returns-clause-relative c = relative-stored

pub returns-clause-resolved : goal.returns-clause-resolved
returns-clause-resolved c = resolved-stored
