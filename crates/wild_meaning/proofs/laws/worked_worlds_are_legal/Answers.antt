use Rattle.wild_meaning.proofs.SharedLegal.{shared_legal}
use Rattle.wild_meaning.proofs.CopyLegal.{copying_legal, roomless_legal}
use Rattle.wild_meaning.proofs.StaticLegal.{static_legal}
use Rattle.wild_meaning.proofs.laws.worked_worlds_are_legal.Goals as goal

pub returns : goal.returns
returns c = record { shared = shared_legal; copying = copying_legal; roomless = roomless_legal; static_pie = static_legal }
