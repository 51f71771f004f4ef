use Rattle.wild_meaning.proofs.TermsRefused.{wrong_terms, wrong_pages, cut_numbers, other_bits}
use Rattle.wild_meaning.proofs.laws.wrong_numbers_are_refused.Goals as goal

pub returns : goal.returns
returns c = record { terms = wrong_terms; pages = wrong_pages; cut = cut_numbers; others = other_bits }
