use Rattle.wild_slots.proofs.StubLemmas.{stub_there}
use Rattle.wild_slots.proofs.stubs_are_there.Goals as goal

pub returns : goal.returns
returns c = λ l h i at p s e g q n. stub_there l h i at p s e g q n
