use Rattle.std.proofs.Common.{[]}
use Rattle.wild_relr.proofs.PackedLemmas.{after_pieces-words}
use Rattle.wild_relr.proofs.laws.pieces_are_packed.Goals as goal

pub returns : goal.returns
returns c = λ xs. after_pieces-words xs []
