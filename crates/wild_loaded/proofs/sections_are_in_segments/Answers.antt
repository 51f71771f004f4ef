use Rattle.wild_loaded.proofs.SectionBytesInMemory.{stored_kept}
use Rattle.wild_loaded.proofs.sections_are_in_segments.Goals as goal

pub returns : goal.returns
returns c = λ l s kind laid kept some. stored_kept l s kind laid kept some
